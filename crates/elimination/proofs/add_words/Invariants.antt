-- `elimination::add_words` meets its contract. The loop's invariant: the words below k are added, the others as they were.
use Rattle.elimination.specs.Words.{Added}
use Rattle.elimination.proofs.add_words.Given as goal

abbrev pub invariant-loop-k : goal.invariant-loop-k
invariant-loop-k l = Added l.initial.buf l.dst l.src l.k l.buf
