-- `tables::yes` meets its contract.
use Rattle.tables.specs.Tables.{says}
use borrow.Author.Rules.{rules}
use Rattle.tables.proofs.yes.Goals as goal

pub returns : goal.returns
unfolding says
returns c = search rules
