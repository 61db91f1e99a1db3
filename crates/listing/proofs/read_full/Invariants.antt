-- No more bytes are read than there is room for.
use Rattle.std.proofs.Common.{◌≤◌, length}
use Rattle.listing.proofs.read_full.Given as goal

abbrev pub invariant-loop : goal.invariant-loop
invariant-loop g l = l.done ≤ length l.buf
