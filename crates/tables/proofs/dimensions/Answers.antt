-- `tables::dimensions` meets its contract.
use Rattle.tables.specs.Tables.{dimension_of}
use Rattle.tables.proofs.dimensions.Goals as goal

pub returns : goal.returns
unfolding dimension_of
returns c = c.table.ensures
