use Rattle.std.proofs.Common.{sym}
use Rattle.description.proofs.Laws.{write_room}
use Rattle.description.proofs.writing.written.Goals as goal

pub put-requires : goal.put-requires
put-requires c = write_room _ _ (sym c.in_ok-write_refusal.ensures)
