-- `OutputBits::next_row` meets its contract: a row of output 0, or the row before it, got from its place and taken back by a move.
use Rattle.std.proofs.Common.{rules, arith}
use Rattle.rows.specs.Theorems.{row_first, row_next}
use Rattle.filling.proofs.Laws.{before_got}
use Rattle.filling.proofs.bits.OutputBits.next_row.Goals as goal

pub returns-then-i-self : goal.returns-then-i-self
returns-then-i-self c = row_first _ _ _ _ c.if-i-self.true c.first_row.ensures

pub backed-requires : goal.backed-requires
backed-requires c = (before_got c.args.self c.args.i _ _ _ c.if-i-self.false (search rules) c.get_row-before.ensures c.requires.standing).clear

pub returns : goal.returns
returns c =
    row_next _ _ _ _ _ (omega (arith, c.args.self.some)) c.if-i-self.false
    (before_got c.args.self c.args.i _ _ _ c.if-i-self.false (search rules) c.get_row-before.ensures c.requires.standing)
    c.backed.ensures
