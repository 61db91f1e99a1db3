use Rattle.running.proofs.KindOne.{stepped_one, stepped-zero}
use mathlib.Core.Path.{sym, ◌∙◌}
use Rattle.running.proofs.tausworthe.stepped.Goals as goal

pub returns-then-parity : goal.returns-then-parity
returns-then-parity c =
    stepped_one _ _ _ _ c.requires c.lowered-r.ensures _ (sym c.parity.ensures ∙ c.if-parity.true) c.flipped.ensures

pub returns-else-parity : goal.returns-else-parity
returns-else-parity c =
    stepped-zero _ _ _ _ c.requires c.lowered-r.ensures (sym c.parity.ensures ∙ c.if-parity.false)
