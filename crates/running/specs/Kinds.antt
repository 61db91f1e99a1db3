-- Which of the machines a prepared generator is.
use Rattle.std.specs.Prelude.{◌≡◌, refl}
use Rattle.kinds.specs.Generator.{Machine}
use Rattle.running.specs.declared.ready.Tausworthe.{Tausworthe}
use Rattle.running.specs.declared.ready.Gfsr.{Gfsr}
use Rattle.running.specs.declared.ready.Twister.{Twister}
use Rattle.running.specs.declared.ready.Prepared.{Prepared}
use Rattle.running.specs.declared.ready.Prepared.TheVariants.{Tausworthe as OfTausworthe, Gfsr as OfGfsr, Twister as OfTwister}
use Rattle.running.specs.Prepared.{machine1, machine2, machine4, machine_of}

abbrev pub kind_of : Prepared → Machine
kind_of = machine_of

pub kind_one : (p : Tausworthe) → kind_of (OfTausworthe p) ≡ machine1 p
kind_one p = refl

pub kind_two : (p : Gfsr) → kind_of (OfGfsr p) ≡ machine2 p
kind_two p = refl

pub kind_other : (p : Twister) → kind_of (OfTwister p) ≡ machine4 p
kind_other p = refl
