-- `tables::resolutions` meets its contract.
use Rattle.tables.specs.Tables.{resolution_of}
use Rattle.tables.proofs.resolutions.Goals as goal

pub returns : goal.returns
unfolding resolution_of
returns c = c.table.ensures
