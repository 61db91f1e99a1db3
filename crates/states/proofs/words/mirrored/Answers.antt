use Rattle.states.proofs.WordLaws.{mirrored_is}
use Rattle.states.proofs.words.mirrored.Goals as goal

pub returns : goal.returns
returns c =
    mirrored_is _ _ _ _ _ _ _ c.requires.1 c.exchanged-a.ensures c.exchanged-b.ensures c.exchanged-c.ensures c.exchanged-d.ensures c.exchanged-e.ensures
