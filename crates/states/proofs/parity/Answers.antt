use Rattle.document.specs.Limits.{row_words}
use Rattle.std.proofs.Common.{rules, ◌≡◌, ℕ, ◌+◌, length, ◌∷◌, [], ◌++◌, length-append, arith, w64, Fits, get_or}
use Rattle.std.proofs.lemmas.Slice.Zip.{zip_turn, zip_end}
use Rattle.states.proofs.StateLaws.{summing_start, summing_step, summing_end}
use Rattle.states.proofs.parity.Goals as goal

pub loop-x-init : goal.loop-x-init
loop-x-init c = summing_start _ _

pub loop-x-preserved : goal.loop-x-preserved
loop-x-preserved c =
    let n : ℕ = length c.loop-x.yielded in
    let (_, _, x, y) = zip_turn c.args.a c.args.b _ _ _ c.next.new.self _ (search rules) (search rules) c.loop-x.yielded_by _ c.in-Some.is c.next.ensures.steps in
    let f : Fits w64 (get_or c.args.b n 0) = search rules in
    let e : length (c.loop-x.yielded ++ ((c.in-Some.x, c.in-Some.y) ∷ [])) ≡ n + 1 = simp length-append (omega arith) in
    rw (e, x 0, y 0) (summing_step _ _ _ _ f.fits c.loop-x.invariant)

pub returns : goal.returns
returns c =
    let e : length c.loop-x.yielded ≡ row_words = omega (arith, zip_end c.args.a c.args.b _ _ _ c.next.new.self _ (search rules) (search rules) c.loop-x.yielded_by c.in-None.is c.next.ensures.steps) in
    summing_end row_words _ _ _ (rw e at c.loop-x.invariant)
