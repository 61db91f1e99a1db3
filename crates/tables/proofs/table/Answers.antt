use Rattle.std.proofs.Common.{sym, ◌∙◌, arith}
use Rattle.tables.proofs.Laws.{entries_none, entries_more, entries_zero, step, stop, none}
use Rattle.tables.proofs.table.Goals as goal
use Rattle.tables.proofs.table.Goals.{else-numbers-test, then-numbers-test+then-yes}

pub entries-init : goal.entries-init
entries-init g c = entries_none _ _

pub numbers-preserved : goal.numbers-preserved
numbers-preserved g c =
    record {
      left = c.numbers.invariant.left ∙ step _ c.numbers.m (omega arith) (sym c.yes.ensures ∙ c.if-yes.false);
      same = c.numbers.invariant.same;
    }

pub entries-preserved : goal.entries-preserved
entries-preserved g c =
    elim c.numbers-test.branch [
      | else-numbers-test w ↦
          rw (w.table-is, c.numbers.invariant.same)
          (entries_zero _ _ _ _ c.entries.invariant (c.numbers.invariant.left ∙ none _ c.numbers.m (omega arith)))
      | then-numbers-test+then-yes w ↦
          rw (w.table-is, c.numbers.invariant.same)
          (entries_more _ _ _ _ _ c.entries.invariant (omega arith)
          (sym (c.numbers.invariant.left ∙ stop _ c.numbers.m (omega arith) (cc))))
    ]
