-- The output bits that a generator's fields and a pair (t, l) ask for, where nothing refuses them.
use Rattle.std.specs.Prelude.{◌≡◌, ℕ}
use Rattle.document.specs.declared.Fields.{Fields}
use Rattle.arguments.specs.Passed.{AskedPassed}
use Rattle.running.specs.Prepared.{PreparedFor}
use Rattle.filling.specs.declared.bits.OutputBits.{OutputBits}

pub record AskedFor (g : Fields) (t l : ℕ) (o : OutputBits) : Type 0 where
  pub passed : AskedPassed g t l
  pub prepared : PreparedFor g o.generator
  pub same : o.l ≡ l
