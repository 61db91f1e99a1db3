-- Kind 2: the sum of the chosen words.
use mathlib.Core.Path.{◌≡◌, refl, sym, ap, ap₂, ◌∙◌}
use mathlib.Core.Bool.{true, false, ◌&&◌}
use mathlib.Core.List.{List}
use Prim.Native.Nat.{ℕ, ◌+◌, ◌*◌}
use native.Mathlib.Numerals.{add-one}
use native.Mathlib.Omega.{arith}
use lib.Bits.{bit_xor, xor_lt}
use lib.Pow.{pow_pos}
use Rattle.theory.specs.Def.{◌⊕◌, xorsum}
use Rattle.theory.specs.Laws.{⊕_false}
use Rattle.digits.specs.Def.{Word, Same, digit, bits_of, number_of}
use Rattle.digits.specs.Laws.{digit-xor, digit-zero}
use Rattle.kinds.specs.Generator.{word, next2, enter, gfsr}
use Rattle.kinds.specs.Reads.{same_enter}
use Rattle.states.specs.Post.{Holds, state_bits}
use Rattle.running.specs.declared.ready.Gfsr.{Gfsr}
use Rattle.running.specs.Prepared.{machine2}
use Rattle.running.specs.Ready.{same_bits}

-- x is the sum of the first n words that are chosen
pub record Chosen (a ws : List ℕ) (w n x : ℕ) : Type 0 where
  pub holds : Holds w (λ j. xorsum n (λ i. bits_of a i && word w i (bits_of ws) j)) x

pub chosen_none : (a ws : List ℕ) (w : ℕ) → Chosen a ws w 0 0
unfolding xorsum
chosen_none a ws w = record { holds = record { small = pow_pos w; bits = λ j h. digit-zero j } }

module _ (a ws : List ℕ) (w n x : ℕ) (c : Chosen a ws w n x) where
  pub chosen_one : (y : ℕ) → bits_of a n ≡ true → Holds w (λ j. bits_of ws (n * w + j)) y → Chosen a ws w (n + 1) (bit_xor x y)
  unfolding xorsum word
  chosen_one y t h = rw add-one (record {
    holds = record {
      small = xor_lt w x y c.holds.small h.small;
      bits = λ j k. digit-xor x y j ∙ ap₂ ◌⊕◌ (c.holds.bits j k) (h.bits j k ∙ sym (ap (λ b. b && bits_of ws (n * w + j)) t));
    };
  })

  pub chosen_not : bits_of a n ≡ false → Chosen a ws w (n + 1) x
  unfolding xorsum
  chosen_not t = rw add-one (record {
    holds = record {
      small = c.holds.small;
      bits = λ j k. c.holds.bits j k ∙ sym (ap (λ b. xorsum n (λ i. bits_of a i && word w i (bits_of ws) j) ⊕ (b && word w n (bits_of ws) j)) t ∙ ⊕_false _);
    };
  })

pub chosen_all : (a ws : List ℕ) (r w x : ℕ) → Chosen a ws w r x → Holds w (next2 r w (bits_of a) (bits_of ws)) x
unfolding next2
chosen_all a ws r w x c = c.holds

-- a new word has entered: for kinds 2 and 4
pub entered_is : (n : ℕ) (ws out : List ℕ) (w x : ℕ) (new : Word) → Holds w new x → Same n (bits_of out) (enter w (digit x) (bits_of ws)) → Same n (bits_of out) (enter w new (bits_of ws))
entered_is n ws out w x new h e i l = e i l ∙ same_enter w _ _ h.bits n (bits_of ws) (bits_of ws) (λ _ _. refl) i (omega arith)

module _ (p : Gfsr) (ws : List ℕ) where
  pub moved2_is : (out : List ℕ) (x : ℕ) → Holds p.w (next2 p.r p.w (bits_of p.mask) (bits_of ws)) x → Same state_bits (bits_of out) (enter p.w (digit x) (bits_of ws))
      → Same (machine2 p).size (bits_of out) ((machine2 p).move (bits_of ws))
  unfolding gfsr
  moved2_is out x h e i l = entered_is state_bits ws out p.w x _ h e i (omega (arith, p.words.fit))

  pub output2_is : (x r : ℕ) → Holds p.bits (λ j. bits_of ws (0 + j)) x → r ≡ number_of p.bits (digit x) → r ≡ number_of (machine2 p).width ((machine2 p).out (bits_of ws))
  unfolding gfsr word
  output2_is x r h e = e ∙ same_bits p.bits _ _ (λ j l. let g : 0 + j ≡ 0 * p.w + j = omega arith in h.bits j l ∙ ap (bits_of ws) g)
