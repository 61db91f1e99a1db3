-- A turn of `set_tags`.
use mathlib.Core.Path.{◌≡◌, refl, ap₂, ◌∙◌}
use mathlib.Core.Logic.{by_cases}
use mathlib.Core.List.{List}
use mathlib.Core.Bool.{false}
use Prim.Native.Nat.{ℕ, ◌+◌, ◌-◌, ◌*◌, ◌/◌, ◌≤◌, ◌<◌}
use native.Mathlib.Nat.{add-mul}
use native.Mathlib.Decide.{dec_lt}
use native.Mathlib.Omega.{arith}
use lib.ListN.{length, get_or}
use Rattle.theory.specs.Def.{◌⊕◌}
use Rattle.digits.specs.Def.{bits_from}
use Rattle.elimination.specs.Words.{Cleared, flipped}
use Rattle.elimination.specs.Rows.{Tagging}
use Rattle.elimination.proofs.Words.{row_end, flipped_long, flipped_word}
use Rattle.elimination.proofs.RowBits.{bits_same, bits_zero, flipped-bit, unit_shift}

pub tagging_none : (ws : List ℕ) (stride width lead : ℕ) → Tagging ws 0 stride width lead ws
tagging_none ws stride width lead =
    record {
      long = refl;
      tags = λ p q h l. absurd (omega arith);
      before = λ p k h l. refl;
      between = λ p k h l m. refl;
      behind = λ j h. refl;
    }

module _ (ws : List ℕ) (p rows stride width lead : ℕ) (cur : List ℕ) (x : Tagging ws p stride width lead cur) (lw : lead ≤ width) (wl : width ≤ stride)
    (few : 64 * lead + rows ≤ 64 * width) (h : p < rows) (long : rows * stride ≤ length ws) (mid : List ℕ)
    (y : Cleared cur (p * stride + lead) (width - lead) mid) where
  out : List ℕ
  out = flipped mid (p * stride) (64 * lead + p)

  inside : p * stride + width ≤ length mid
  inside = omega (arith, row_end p rows stride width h wl, y.kept.long, x.long)

  -- only the words from `lead` to `width` of row p change
  word : (j : ℕ) → ¬ ((p * stride + lead ≤ j) × (j < p * stride + width)) → get_or out j 0 ≡ get_or cur j 0
  unfolding out
  word j d =
      by_cases (dec_lt j (p * stride + lead))
      (λ l. flipped_word mid _ _ j (omega arith) ∙ y.kept.below j l)
      (λ g. by_cases (dec_lt j (p * stride + width))
      (λ l. absurd (d (omega arith, l)))
      (λ l. flipped_word mid _ _ j (omega arith) ∙ y.kept.above j (omega arith)))

  -- the row's tags are clear before the flip
  blank : (q : ℕ) → q < 64 * (width - lead) → bits_from mid (p * stride) (64 * lead + q) ≡ false
  blank q l =
      let e : p * stride + (64 * lead + q) / 64 ≡ (p * stride + lead) + q / 64 = omega arith in
      bits_zero mid (p * stride) (64 * lead + q) (rw e (y.here (q / 64) (omega arith)))

  earlier_word : (q k : ℕ) → q < p → k < stride → get_or out (q * stride + k) 0 ≡ get_or cur (q * stride + k) 0
  earlier_word q k l m = word (q * stride + k) (λ b. omega (arith, row_end q p stride stride l (omega arith), b.0))

  pub tagging_more : Tagging ws (p + 1) stride width lead (flipped mid (p * stride) (64 * lead + p))
  unfolding out
  tagging_more =
      record {
        long = flipped_long mid _ _ ∙ y.kept.long ∙ x.long;
        tags = λ q j l m.
            by_cases (dec_lt q p)
            (λ b. bits_same cur out (q * stride) (64 * lead + j) (earlier_word q _ b (omega arith)) ∙ x.tags q j b m)
            (λ b. let e : q ≡ p = omega arith in
            rw e (flipped-bit mid (p * stride) (64 * lead + p) (64 * lead + j) (omega (arith, inside)) ∙ ap₂ ◌⊕◌ (blank j m) (unit_shift (64 * lead) p j)));
        before = λ q k l m.
            by_cases (dec_lt q p)
            (λ b. earlier_word q k b (omega arith) ∙ x.before q k b m)
            (λ b. let e : q ≡ p = omega arith in
            rw e (word (p * stride + k) (λ b. omega (arith, b.0)) ∙ x.behind (p * stride + k) (omega arith)));
        between = λ q k l m n.
            by_cases (dec_lt q p)
            (λ b. earlier_word q k b (omega arith) ∙ x.between q k b m n)
            (λ b. let e : q ≡ p = omega arith in
            rw e (word (p * stride + k) (λ b. omega (arith, b.1)) ∙ x.behind (p * stride + k) (omega arith)));
        behind = λ j l.
            let e : (p + 1) * stride ≡ p * stride + stride = omega (arith, add-mul p 1 stride) in
            word j (λ b. omega (arith, b.1)) ∙ x.behind j (omega arith);
      }
