-- The turn of `move_rows`, and what `pack` leaves.
use mathlib.Core.Path.{◌≡◌, refl, ◌∙◌}
use mathlib.Core.List.{List}
use mathlib.Core.Logic.{by_cases}
use native.Mathlib.Decide.{dec_lt}
use native.Mathlib.Nat.{add-mul, mul-le-mul_left}
use Prim.Native.Nat.{ℕ, ◌+◌, ◌-◌, ◌*◌, ◌/◌, ◌<◌, ◌≤◌}
use native.Mathlib.Omega.{arith}
use Rattle.std.specs.List.{CopiedTo, SameBelow, SameFrom}
use Rattle.theory.specs.Def.{Reduced}
use Rattle.digits.specs.Def.{bits_from}
use lib.ListN.{length, get_or}
use Rattle.elimination.specs.Rows.{rows_of}
use Rattle.elimination.specs.Words.{Cleared, Written}
use Rattle.elimination.proofs.Words.{row_end}
use Rattle.reduction.specs.Packs.{Moved, Packed}

pub moved_none : (ws : List ℕ) (stride width : ℕ) → Moved ws 0 stride width ws
moved_none ws stride width = record { long = refl; words = λ p k h l. absurd (omega arith); behind = λ j h. refl }

pub moved_more : (ws : List ℕ) (p stride width : ℕ) (buf : List ℕ) → width ≤ stride → Moved ws p stride width buf → (out : List ℕ)
    → Written buf (p * width) width (λ k. get_or buf (p * stride + k) 0) out → Moved ws (p + 1) stride width out
moved_more ws p stride width buf w x out y =
    record {
      long = y.kept.long ∙ x.long;
      words = λ q k h l.
          by_cases (dec_lt q p)
          (λ g. y.kept.below _ (omega (arith, row_end q p width width g (omega arith))) ∙ x.words q k g l)
          (λ g. let e : q ≡ p = omega arith in rw e (y.here k l ∙ x.behind _ (omega (arith, mul-le-mul_left p w))));
      behind = λ j h.
          let e : (p + 1) * width ≡ p * width + width = omega (arith, add-mul p 1 width) in
          y.kept.above j (omega arith) ∙ x.behind j (omega arith);
    }

-- what `copy_within` of the n words at src ensures of the words
pub copied : {ws out : List ℕ} {dst : ℕ} (src n : ℕ) → length out ≡ length ws
    → CopiedTo ws out src dst (src + n - src) × SameBelow ws out dst × SameFrom ws out (dst + (src + n - src)) → Written ws dst n (λ k. get_or ws (src + k) 0) out
copied {dst = dst} src n l (here, below, above) =
    record {
      kept = record { long = l; below = λ j h. below j 0 h; above = λ j h. above j 0 (omega arith) };
      here = λ k h. let e : dst + k - dst ≡ k = omega arith in rw e at (here (dst + k) 0 (omega arith) (omega arith));
    }

pub packed : (ws : List ℕ) (n stride width total : ℕ) (mid out : List ℕ) → n * width ≤ total → Moved ws n stride width mid
    → Cleared mid (n * width) (total - n * width) out → Packed ws n stride width total out
packed ws n stride width total mid out h x y =
    record {
      long = y.kept.long ∙ x.long;
      words = λ p k l m. y.kept.below _ (omega (arith, row_end p n width width l (omega arith))) ∙ x.words p k l m;
      zeros = λ j l m.
          let e : j ≡ n * width + (j - n * width) = omega arith in rw e (y.here (j - n * width) (omega arith));
      behind = λ j l. y.kept.above j (omega arith) ∙ x.behind j (omega arith);
    }

-- the rows at the front have the bits that they had
pub packed_bit : {ws : List ℕ} {n stride width total : ℕ} {out : List ℕ} → Packed ws n stride width total out → (p : ℕ) → p < n → (i : ℕ) → i < 64 * width
    → rows_of out width p i ≡ rows_of ws stride p i
unfolding bits_from
packed_bit x p h i l = rw (x.words p (i / 64) h (omega arith))

pub packed_reduced : {ws : List ℕ} {n stride width total k : ℕ} {out : List ℕ} {lead : ℕ → ℕ} → k ≤ 64 * width → Packed ws n stride width total out
    → Reduced k n (rows_of ws stride) lead → Reduced k n (rows_of out width) lead
packed_reduced wk x r =
    record {
      inside = r.inside;
      set = λ p h. packed_bit x p h _ (omega (arith, r.inside p h)) ∙ r.set p h;
      lowest = λ p h b l. packed_bit x p h b (omega (arith, r.inside p h)) ∙ r.lowest p h b l;
      rising = r.rising;
      alone = λ p q h l d. packed_bit x q l _ (omega (arith, r.inside p h)) ∙ r.alone p q h l d;
    }
