use Rattle.std.proofs.Common.{◌≡◌, length, ◌∙◌, arith, sym, length-take-le}
use Rattle.std.proofs.lemmas.List.{get_or_append_left}
use Rattle.running.specs.Prepared.{machine_of}
use Rattle.running.specs.Theorems.{ready_most, ready_width}
use Rattle.report.proofs.Laws.{answered, answers_more}
use Rattle.report.proofs.firsts.first_bits.Goals as goal

pub overflow_add-n : goal.overflow_add-n
overflow_add-n c = omega (arith, c.size-n.ensures, ready_most c.args.p)

pub slice_bounds-first-end : goal.slice_bounds-first-end
slice_bounds-first-end c = omega (arith, c.bits-bits.ensures, ready_width c.args.p)

pub slice_bounds-entry-items-end : goal.slice_bounds-entry-items-end
slice_bounds-entry-items-end c = sym (length-take-le _ _ (omega (arith, c.bits-bits.ensures, ready_width c.args.p)))

pub first_dependent-requires : goal.first_dependent-requires
first_dependent-requires c = omega (arith, c.loop-i.invariant.0, c.size-n.ensures, ready_most c.args.p, c.requires)

pub loop-i-preserved : goal.loop-i-preserved
loop-i-preserved c =
    let l = c.loop-i in
    let x = c.first_dependent.ensures in (
      x.long ∙ l.invariant.0,
      λ j h. x.behind j (omega (arith, c.size-n.ensures, ready_most c.args.p)) ∙ l.invariant.1 j h,
      answers_more c.args.p l.entry-items l.i _ (omega (arith, l.auto)) l.invariant.2
          (answered c.args.p _ _ _ _ _ (omega arith) (omega (arith, l.auto, c.bits-bits.ensures)) (omega (arith, c.size-n.ensures)) x),
    )

pub returns : goal.returns
returns c =
    let l = c.loop-i in
    let e : length l.entry-items ≡ (machine_of c.args.p).width = l.auto.entry-items ∙ length-take-le _ _ (omega (arith, c.bits-bits.ensures, ready_width c.args.p)) ∙ c.bits-bits.ensures in
    record {
      answers = λ i h. rw (get_or_append_left l.entry-items _ 0 i (omega (arith, e))) (l.invariant.2 i (omega (arith, e, c.loop-i-test.false)));
      long = l.invariant.0;
      rest = l.invariant.1;
    }
