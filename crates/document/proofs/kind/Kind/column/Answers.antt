use Rattle.std.proofs.Common.{◌∙◌}
use Rattle.document.proofs.Columns.{column_of}
use Rattle.document.proofs.kind.Kind.column.Goals as goal

pub returns : goal.returns
returns c = c.unwrap_or.ensures ∙ column_of _ _ c.try_from.ensures
