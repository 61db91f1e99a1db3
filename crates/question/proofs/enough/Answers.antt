-- `question::enough` meets its contract: the type bounds k and l.
use Rattle.std.proofs.Common.{arith}
use Rattle.filling.specs.Theorems.{ready-size, ready_bits, product_small}
use Rattle.question.proofs.enough.Goals as goal

pub overflow_mul-t : goal.overflow_mul-t
overflow_mul-t c =
    let p = c.args.bits.generator in
    omega (arith, product_small _ c.args.t.0 c.args.bits.l (ready-size p) c.requires (omega (arith, c.args.bits.within, ready_bits p)))

pub overflow_add-size : goal.overflow_add-size
overflow_add-size c = omega (arith, c.size.ensures, ready-size c.args.bits.generator)
