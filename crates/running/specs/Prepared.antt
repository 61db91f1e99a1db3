-- A prepared generator: the machine that its numbers stand for, the ranges that they keep, and what `prepare` makes them of a description.
use Rattle.std.specs.Prelude.{◌≡◌, List, ℕ, suc, ◌-◌, ◌*◌, ◌<◌, ◌≤◌, ◌^◌, ◌⊎◌}
use Rattle.digits.specs.Def.{Word, Same, digit, bits_of, word_of}
use Rattle.kinds.specs.Generator.{Machine, stepped, times, tausworthe, gfsr, mersenne}
use Rattle.kinds.specs.Transpose.{taps}
use Rattle.document.specs.declared.Fields.{Fields}
use Rattle.document.specs.Limits.{most_output}
use Rattle.document.specs.Generator.{coefficient}
use Rattle.states.specs.Post.{Holds}
use Rattle.running.specs.Ranges.{Mask, Words}
use Rattle.running.specs.declared.ready.Tausworthe.{Tausworthe}
use Rattle.running.specs.declared.ready.Gfsr.{Gfsr}
use Rattle.running.specs.declared.ready.Twister.{Twister}
use Rattle.running.specs.declared.ready.TwisterNumbers.{TwisterNumbers}
use Rattle.running.specs.declared.ready.Prepared.{Prepared}
use Rattle.running.specs.declared.ready.Prepared.TheVariants.{Tausworthe as OfTausworthe, Gfsr as OfGfsr, Twister as OfTwister}

-- ---- the machine

-- kind 1: the coefficients of which the mask has the taps
unfoldable pub tapped : ℕ → Word → Word
tapped k mask i = mask (k - suc i)

abbrev pub machine1 : Tausworthe → Machine
machine1 p = tausworthe p.k p.bits p.nu (tapped p.k (bits_of p.mask))

abbrev pub machine2 : Gfsr → Machine
machine2 p = gfsr p.r p.w p.bits (bits_of p.mask)

-- kind 3 is prepared as kind 4
abbrev pub machine4 : Twister → Machine
machine4 p = mersenne p.r p.m p.w p.p p.bits (digit p.a) p.u p.s (digit p.b) p.t (digit p.c) p.v

abbrev pub machine_of : Prepared → Machine
machine_of (OfTausworthe p) = machine1 p
machine_of (OfGfsr p) = machine2 p
machine_of (OfTwister p) = machine4 p

-- ---- the ranges

pub record Ready1 (p : Tausworthe) : Type 0 where
  pub mask : Mask p.k p.mask
  pub bits : p.bits ≤ most_output

pub record Ready2 (p : Gfsr) : Type 0 where
  pub words : Words p.r p.w p.bits

pub record Ready4 (p : Twister) : Type 0 where
  pub words : Words p.r p.w p.bits
  pub back : 1 ≤ p.m
  pub few : p.m < p.r
  pub part : p.p < p.w
  pub a : p.a < 2 ^ p.w
  pub u : p.u ≤ p.w
  pub s : p.s ≤ p.w
  pub t : p.t ≤ p.w
  pub v : p.v ≤ p.w

abbrev pub Ready : Prepared → Type 0
Ready (OfTausworthe p) = Ready1 p
Ready (OfGfsr p) = Ready2 p
Ready (OfTwister p) = Ready4 p

-- ---- what is prepared of a description

pub record Prepared1 (g : Fields) (p : Tausworthe) : Type 0 where
  pub k : p.k ≡ g.k
  pub bits : p.bits ≡ g.bits
  pub nu : p.nu ≡ g.nu
  pub mask : (i : ℕ) → bits_of p.mask i ≡ taps g.k (coefficient g) i

pub record Prepared2 (g : Fields) (p : Gfsr) : Type 0 where
  pub bits : p.bits ≡ g.bits
  pub r : p.r ≡ g.r
  pub w : p.w ≡ g.w
  pub mask : (i : ℕ) → bits_of p.mask i ≡ coefficient g i

-- `dead` bits lack in the last word, and the right shifts are `first` and `last`
pub record Prepared4 (g : Fields) (x : Twister) (dead first last : ℕ) : Type 0 where
  pub bits : x.bits ≡ g.bits
  pub r : x.r ≡ g.r
  pub m : x.m ≡ g.m
  pub w : x.w ≡ g.w
  pub p : x.p ≡ dead
  pub a : Holds g.w (word_of g.w g.a) x.a
  pub u : x.u ≡ first
  pub s : x.s ≡ g.s
  pub b : Holds g.w (word_of g.w g.b) x.b
  pub t : x.t ≡ g.t
  pub c : Holds g.w (word_of g.w g.c) x.c
  pub v : x.v ≡ last

-- the same of the numbers alone, and the state bits
pub record Numbers4 (g : Fields) (x : TwisterNumbers) (dead first last : ℕ) : Type 0 where
  pub k : x.k ≡ g.r * g.w - dead
  pub bits : x.bits ≡ g.bits
  pub r : x.r ≡ g.r
  pub m : x.m ≡ g.m
  pub w : x.w ≡ g.w
  pub p : x.p ≡ dead
  pub a : Holds g.w (word_of g.w g.a) x.a
  pub u : x.u ≡ first
  pub s : x.s ≡ g.s
  pub b : Holds g.w (word_of g.w g.b) x.b
  pub t : x.t ≡ g.t
  pub c : Holds g.w (word_of g.w g.c) x.c
  pub v : x.v ≡ last

abbrev pub PreparedFor : Fields → Prepared → Type 0
PreparedFor g (OfTausworthe p) = (g.kind ≡ 1) × Prepared1 g p
PreparedFor g (OfGfsr p) = (g.kind ≡ 2) × Prepared2 g p
PreparedFor g (OfTwister p) = ((g.kind ≡ 3) × Prepared4 g p 0 g.w g.w) ⊎ ((g.kind ≡ 4) × Prepared4 g p g.p g.u g.v)

-- ---- results

-- r is s after n steps of kind 1
pub record Stepped (k : ℕ) (mask : List ℕ) (n : ℕ) (s r : List ℕ) : Type 0 where
  pub bits : Same k (bits_of r) (times n (stepped k (tapped k (bits_of mask))) (bits_of s))
