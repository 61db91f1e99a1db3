-- Kinds 3 and 4: the new word, and the tempering.
use mathlib.Core.Path.{◌≡◌, refl, ap, ap₂, ◌∙◌}
use mathlib.Core.List.{List}
use Prim.Native.Nat.{ℕ, ◌+◌, ◌-◌, ◌*◌, ◌≤◌}
use native.Mathlib.Omega.{arith}
use lib.Bits.{bit_xor, xor_lt}
use Rattle.theory.specs.Def.{◌⊕◌}
use Rattle.digits.specs.Def.{Same, digit, bits_of, number_of}
use Rattle.digits.specs.Laws.{digit-xor}
use Rattle.kinds.specs.Generator.{◌⊻◌, word, join, twist, add_left, add_right, next4, temper3, temper4, enter, mersenne}
use Rattle.kinds.specs.Reads.{same_twist, same_join, same_add_left, same_add_right}
use Rattle.states.specs.Post.{Holds, state_bits}
use Rattle.running.specs.declared.ready.Twister.{Twister}
use Rattle.running.specs.Prepared.{machine4}
use Rattle.running.specs.Ready.{same_bits}
use Rattle.running.proofs.KindTwo.{entered_is}

pub next4_is : (ws : List ℕ) (r m w p a x y u z v : ℕ) → 1 ≤ w
    → Holds w (λ j. bits_of ws ((r - 1) * w + j)) x → Holds w (λ j. bits_of ws ((r - 2) * w + j)) y → Holds w (λ j. bits_of ws ((r - m - 1) * w + j)) u
    → Holds w (join (w - p) (digit x) (digit y)) v → Holds w (twist w (digit a) (digit v)) z → Holds w (next4 r m w p (digit a) (bits_of ws)) (bit_xor u z)
unfolding next4 word ◌⊻◌
next4_is ws r m w p a x y u z v l hx hy hu hv hz = record {
  small = xor_lt w u z hu.small hz.small;
  bits = λ j k. digit-xor u z j ∙ ap₂ ◌⊕◌ (hu.bits j k)
      (hz.bits j k ∙ same_twist w _ _ (λ j k. hv.bits j k ∙ same_join w _ _ hx.bits (w - p) _ _ hy.bits j k) (digit a) (digit a) (λ _ _. refl) l j k);
}

pub tempered_is : (ws : List ℕ) (w U S b T c Z x x₁ y₁ y₂ z : ℕ) → Holds w (λ j. bits_of ws (0 + j)) x → Holds w (add_right U (digit x)) x₁
    → Holds w (add_left w S (digit b) (digit x₁)) y₁ → Holds w (add_left w T (digit c) (digit y₁)) y₂ → Holds w (add_right Z (digit y₂)) z
    → Holds w (temper4 w U S (digit b) T (digit c) Z (word w 0 (bits_of ws))) z
unfolding temper4 temper3 word
tempered_is ws w U S b T c Z x x₁ y₁ y₂ z hx h₁ h₂ h₃ hz = record { small = hz.small; bits = λ j h. hz.bits j h ∙ same_add_right w _ _ third Z j h }
  where
    first : Same w (digit x) (word w 0 (bits_of ws))
    first i k = let e : 0 + i ≡ 0 * w + i = omega arith in hx.bits i k ∙ ap (bits_of ws) e

    second : Same w (digit y₁) (add_left w S (digit b) (add_right U (word w 0 (bits_of ws))))
    second i k = h₂.bits i k ∙ same_add_left w (digit x₁) _ (λ i k. h₁.bits i k ∙ same_add_right w _ _ first U i k) S (digit b) (digit b) (λ _ _. refl) i k

    third : Same w (digit y₂) (add_left w T (digit c) (add_left w S (digit b) (add_right U (word w 0 (bits_of ws)))))
    third i k = h₃.bits i k ∙ same_add_left w (digit y₁) _ second T (digit c) (digit c) (λ _ _. refl) i k

module _ (p : Twister) (ws : List ℕ) where
  pub moved4_is : (out : List ℕ) (x : ℕ) → Holds p.w (next4 p.r p.m p.w p.p (digit p.a) (bits_of ws)) x → Same state_bits (bits_of out) (enter p.w (digit x) (bits_of ws))
      → Same (machine4 p).size (bits_of out) ((machine4 p).move (bits_of ws))
  unfolding mersenne
  moved4_is out x h e i l = entered_is state_bits ws out p.w x _ h e i (omega (arith, p.words.fit))

  pub output4_is : (x r : ℕ) → Holds p.w (temper4 p.w p.u p.s (digit p.b) p.t (digit p.c) p.v (word p.w 0 (bits_of ws))) x
      → r ≡ number_of p.bits (digit x) → r ≡ number_of (machine4 p).width ((machine4 p).out (bits_of ws))
  unfolding mersenne
  output4_is x r h e = e ∙ same_bits p.bits _ _ (λ j l. h.bits j (omega (arith, p.words.bits)))
