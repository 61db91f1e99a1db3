use Rattle.document.specs.Limits.{row_words}
use Rattle.states.proofs.StateLaws.{placed_one, placed_two}
use borrow.Author.Rules.{rules}
use Rattle.states.proofs.placed.Goals as goal

pub returns-then-o-n-le64 : goal.returns-then-o-n-le64
returns-then-o-n-le64 c = let q = c.requires in placed_one _ _ _ q.2 _ row_words q.0 q.1 (search rules) c.if-o-n-le64.true

pub returns : goal.returns
returns c = let q = c.requires in placed_two _ _ _ q.2 _ row_words q.0 q.1 (search rules) c.if-o-n-le64.false
