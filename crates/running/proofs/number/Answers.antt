use Rattle.std.proofs.Common.{refl}
use Rattle.running.proofs.Numbers.{mirrored_number}
use Rattle.running.proofs.number.Goals as goal

pub returns : goal.returns
returns c = mirrored_number _ _ _ _ c.mirrored.ensures (λ _ _. refl)
