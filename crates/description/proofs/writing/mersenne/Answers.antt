use Rattle.std.specs.Prelude.{[], ◌∷◌, get_or}
use Rattle.std.proofs.Common.{sym, ap, ◌∙◌, rules}
use Rattle.document.proofs.Columns.{at_column}
use Rattle.document.specs.Description.{bytes, description}
use Rattle.description.proofs.Laws.{one_byte, two_bytes, four_bytes}
use Rattle.description.proofs.writing.mersenne.Goals as goal

pub returns : goal.returns
unfolding description bytes
returns c =
    (λ i.
    let r = (c.to_be_bytes.ensures ∙ two_bytes _) i in
    let m = (c.to_be_bytes-2.ensures ∙ two_bytes _) i in
    let x = (c.to_be_bytes-3.ensures ∙ four_bytes _) i in
    let y = (c.to_be_bytes-4.ensures ∙ four_bytes _) i in
    let z = (c.to_be_bytes-5.ensures ∙ four_bytes _) i in
    c.args.g.kind ∷ get_or r 0 0 ∷ get_or r 1 0 ∷ get_or m 0 0 ∷ get_or m 1 0 ∷ one_byte c.args.g.w (search rules) i ∷ one_byte c.args.g.p (search rules) i ∷ one_byte c.args.g.bits (search rules) i ∷ get_or x 0 0 ∷ get_or x 1 0 ∷ get_or x 2 0 ∷ get_or x 3 0 ∷ one_byte c.args.g.u (search rules) i ∷ one_byte c.args.g.s (search rules) i ∷ get_or y 0 0 ∷ get_or y 1 0 ∷ get_or y 2 0 ∷ get_or y 3 0 ∷ one_byte c.args.g.t (search rules) i ∷ get_or z 0 0 ∷ get_or z 1 0 ∷ get_or z 2 0 ∷ get_or z 3 0 ∷ one_byte c.args.g.v (search rules) i ∷ [])
    ∙ ap (λ l. c.args.g.kind ∷ l) (sym (at_column _ _ _ _ _ _ c.requires))
