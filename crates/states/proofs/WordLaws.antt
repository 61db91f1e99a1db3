-- What the leaves on words do to digits.
use mathlib.Core.Path.{◌≡◌, refl, sym, ap, ap₂, ◌∙◌}
use mathlib.Core.Bool.{Bool, true, false, not, ◌&&◌, ◌||◌, cond, false≢true}
use mathlib.Core.Logic.{by_cases}
use native.Mathlib.Decide.{dec_lt, ℕ_discrete}
use Prim.Native.Nat.{ℕ, zero, suc, ◌+◌, ◌-◌, ◌*◌, ◌/◌, ◌%◌, ◌^◌, ◌≤◌, ◌<◌}
use native.Mathlib.Nat.{mod-lt, lt_of_le_of_lt, lt_of_lt_of_le, le_trans}
use native.Mathlib.Omega.{arith}
use lib.Bits.{bit_xor, bit_and, xor_lt, and_le_l, and_le_r}
use lib.Pow.{pow_pos, pow_mono, pow-lt, shr_le, shr_lt, shl_lt, shl_exact}
use lib.Dec.{ltb, eqb, lit<}
use lib.Count.{ones}
use borrow.Author.Tests.{lt-ltb, le-ltb, eq-eqb, ne_eqb, ltb-true, eqb-true, not-false}
use Rattle.theory.specs.Def.{◌⊕◌, xorsum}
use Rattle.theory.specs.Laws.{⊕_false, xor-ac, xorsum_cong, and_true_l, and_true_r}
use Rattle.digits.specs.Def.{digit, word_of}
use Rattle.digits.specs.Laws.{digit-xor, digit_and, digit-shr, digit-shl, digit-shl_below, digit-mod, digit-mod_past, digit_past}
use Rattle.digits.specs.Parity.{parity_test}
use Rattle.kinds.specs.Generator.{◌⊻◌, right, left, masked, join, twist, add_left, add_right}
use Rattle.kinds.specs.Reads.{same_right}
use Rattle.kinds.specs.Transpose.{untwist, un_left, un_right}
use Rattle.document.specs.Refusals.{any}
use Rattle.document.specs.Ranges.{any_none}
use Rattle.states.specs.Post.{Holds, Exchanged, exchanges, across}

-- ---- shifts of a word

-- the low w bits of x << u
pub right_is : (w u x j : ℕ) → w ≤ 64 → j < w → digit (x * 2 ^ u % 2 ^ 64 % 2 ^ w) j ≡ right u (digit x) j
unfolding right
right_is w u x j l h =
    digit-mod _ w j h ∙ digit-mod _ 64 j (omega arith)
    ∙ by_cases (dec_lt j u)
    (λ i. rw (lt-ltb j u i) (digit-shl_below x u j i))
    (λ i. let g : u ≤ j = omega arith in rw (le-ltb j u g) (digit-shl x u j g))

-- x >> u
pub left_is : (w u x j : ℕ) → x < 2 ^ w → digit (x / 2 ^ u) j ≡ left w u (digit x) j
unfolding left
left_is w u x j l =
    digit-shr x u j
    ∙ by_cases (dec_lt (j + u) w)
    (λ i. let e : u + j ≡ j + u = omega arith in rw (lt-ltb (j + u) w i, e))
    (λ i. let g : w ≤ j + u = omega arith in rw (le-ltb (j + u) w g) (digit_past x w (u + j) l (omega arith)))

pub add_left_is : (w u b x : ℕ) → x < 2 ^ w → Holds w (add_left w u (digit b) (digit x)) (bit_xor x (bit_and b (x / 2 ^ u)))
unfolding add_left ◌⊻◌ masked
add_left_is w u b x l = record {
  small = xor_lt w x _ l (lt_of_le_of_lt (le_trans (and_le_r b (x / 2 ^ u)) (shr_le x u)) l);
  bits = λ j h. digit-xor x _ j ∙ ap (λ y. digit x j ⊕ y) (digit_and b (x / 2 ^ u) j ∙ ap (λ y. digit b j && y) (left_is w u x j l));
}

pub add_right_is : (w u x y : ℕ) → w ≤ 64 → x < 2 ^ w → y ≡ x * 2 ^ u % 2 ^ 64 % 2 ^ w → Holds w (add_right u (digit x)) (bit_xor x y)
unfolding add_right ◌⊻◌
add_right_is w u x y f l e = record {
  small = xor_lt w x y l (rw e (mod-lt _ (pow_pos w)));
  bits = λ j h. digit-xor x y j ∙ ap (λ z. digit x j ⊕ z) (rw e (right_is w u x j f h));
}

-- ---- the twist

-- a top digit, tested
pub top_one : (x i : ℕ) → x / 2 ^ i ≡ 1 → digit x i ≡ true
unfolding digit
top_one x i e = rw e

pub top_none : (x i : ℕ) → x < 2 ^ (1 + i) → (x / 2 ^ i ≡ 1 → ⊥) → digit x i ≡ false
unfolding digit
top_none x i l t = let e : x / 2 ^ i ≡ 0 = omega (arith, shr_lt 1 i l) in rw e

times-bit : (a b : Bool) → (a && b) ≡ cond b a false
times-bit true true = refl
times-bit true false = refl
times-bit false true = refl
times-bit false false = refl

module _ (w a x y : ℕ) (l : w ≤ 64) (e : y ≡ x * 2 % 2 ^ 64 % 2 ^ w) where
  small_y : y < 2 ^ w
  small_y = rw e (mod-lt _ (pow_pos w))

  shifted : (j : ℕ) → j < w → digit y j ≡ right 1 (digit x) j
  shifted j h = rw e (right_is w 1 x j l h)

  pub twist_one : a < 2 ^ w → x / 2 ^ (w - 1) ≡ 1 → Holds w (twist w (digit a) (digit x)) (bit_xor y a)
  unfolding twist ◌⊻◌
  twist_one b t = record {
    small = xor_lt w y a small_y b;
    bits = λ j h. digit-xor y a j ∙ ap₂ ◌⊕◌ (shifted j h) (sym (times-bit (digit a j) (digit x (w - 1)) ∙ rw (top_one x (w - 1) t)));
  }

  pub twist-none : 1 ≤ w → x < 2 ^ w → (x / 2 ^ (w - 1) ≡ 1 → ⊥) → Holds w (twist w (digit a) (digit x)) y
  unfolding twist ◌⊻◌
  twist-none p b t =
      let f : 1 + (w - 1) ≡ w = omega arith in
      record {
        small = small_y;
        bits = λ j h. shifted j h ∙ sym (⊕_false _) ∙ ap (λ z. right 1 (digit x) j ⊕ z) (sym (times-bit (digit a j) (digit x (w - 1)) ∙ rw (top_none x (w - 1) (rw f b) t)));
      }

pub joined_is : (w n x y z : ℕ) → n ≤ w → x < 2 ^ w → y < 2 ^ w → z ≡ bit_xor x y % 2 ^ n → Holds w (join n (digit x) (digit y)) (bit_xor z y)
unfolding join
joined_is w n x y z l hx hy e = record {
  small = xor_lt w z y (lt_of_lt_of_le (rw e (mod-lt _ (pow_pos n))) (pow_mono l)) hy;
  bits = λ j h. digit-xor z y j ∙ rw e
      (by_cases (dec_lt j n)
      (λ i. rw (lt-ltb j n i) (ap (λ q. q ⊕ digit y j) (digit-mod _ n j i ∙ digit-xor x y j) ∙ simp xor-ac))
      (λ i. let g : n ≤ j = omega arith in rw (le-ltb j n g) (ap (λ q. q ⊕ digit y j) (digit-mod_past _ n j g))));
}

-- ---- untwisted

one_bit : digit 1 0 ≡ true
unfolding digit
one_bit = refl

module _ (w a y : ℕ) (pw : 1 ≤ w) (lw : w ≤ 32) (l : y < 2 ^ w) where
  parity_is : eqb (ones (bit_and a y) % 2) 1 ≡ xorsum w (λ i. digit a i && digit y i)
  parity_is =
      parity_test w (bit_and a y) (lt_of_le_of_lt (and_le_r a y) l)
      ∙ xorsum_cong w _ _ (λ i h. digit_and a y i)

  half : y / 2 ^ 1 < 2 ^ w
  half = lt_of_le_of_lt (shr_le y 1) l

  -- what an answer has to be, bit by bit
  untwist_is : (r : ℕ) → r < 2 ^ w → ((j : ℕ) → suc j < w → digit r j ≡ digit y (suc j)) → digit r (w - 1) ≡ xorsum w (λ i. digit a i && digit y i) → Holds w (untwist w (digit a) (digit y)) r
  unfolding untwist
  untwist_is r f below at = record {
    small = f;
    bits = λ j h. by_cases (dec_lt (suc j) w)
        (λ i. rw (lt-ltb (suc j) w i) (below j i))
        (λ i. let g : w ≤ suc j = omega arith in let e : j ≡ w - 1 = omega arith in rw (le-ltb (suc j) w g) (ap (digit r) e ∙ at));
  }

  halved : (j : ℕ) → digit (y / 2 ^ 1) j ≡ digit y (suc j)
  halved j = let e : 1 + j ≡ suc j = omega arith in digit-shr y 1 j ∙ ap (digit y) e

  pub untwist-none : (ones (bit_and a y) % 2 ≡ 1 → ⊥) → Holds w (untwist w (digit a) (digit y)) (y / 2 ^ 1)
  untwist-none t =
      untwist_is (y / 2 ^ 1) half (λ j _. halved j)
      (halved (w - 1) ∙ digit_past y w (suc (w - 1)) l (omega arith) ∙ sym (sym parity_is ∙ ne_eqb _ 1 t))

  pub untwist_one : ones (bit_and a y) % 2 ≡ 1 → Holds w (untwist w (digit a) (digit y)) (bit_xor (y / 2 ^ 1) (1 * 2 ^ (w - 1) % 2 ^ 64))
  untwist_one t =
      untwist_is _ (xor_lt w _ _ half (rw exact top_small))
      (λ j h. digit-xor _ _ j ∙ ap₂ ◌⊕◌ (halved j) (rw exact (digit-shl_below 1 (w - 1) j (omega arith))) ∙ ⊕_false _)
      (digit-xor _ _ (w - 1) ∙ ap₂ ◌⊕◌ (halved (w - 1) ∙ digit_past y w (suc (w - 1)) l (omega arith)) (rw exact (digit-shl 1 (w - 1) (w - 1) (omega arith) ∙ top)) ∙ sym (sym parity_is ∙ eq-eqb _ 1 t))
    where
      exact : 1 * 2 ^ (w - 1) % 2 ^ 64 ≡ 1 * 2 ^ (w - 1)
      exact = shl_exact {a = 1} 1 (w - 1) 64 (lit< tt) (omega arith)

      top_small : 1 * 2 ^ (w - 1) < 2 ^ w
      top_small = omega (arith, pow-lt {i = w - 1} {j = w} (omega arith))

      top : digit 1 (w - 1 - (w - 1)) ≡ true
      top = let e : w - 1 - (w - 1) ≡ 0 = omega arith in ap (digit 1) e ∙ one_bit

-- ---- tempering transposed

pub un_right_is : (w u y : ℕ) → y < 2 ^ w → Holds w (un_right w u (digit y)) (bit_xor y (y / 2 ^ u))
unfolding un_right ◌⊻◌
un_right_is w u y l = record {
  small = xor_lt w y _ l (lt_of_le_of_lt (shr_le y u) l);
  bits = λ j h. digit-xor y _ j ∙ ap (λ z. digit y j ⊕ z) (left_is w u y j l);
}

pub un_left_is : (w u b y z : ℕ) → w ≤ 64 → y < 2 ^ w → z ≡ bit_and b y * 2 ^ u % 2 ^ 64 % 2 ^ w → Holds w (un_left u (digit b) (digit y)) (bit_xor y z)
unfolding un_left ◌⊻◌ masked
un_left_is w u b y z f l e = record {
  small = xor_lt w y z l (rw e (mod-lt _ (pow_pos w)));
  bits = λ j h. digit-xor y z j ∙ ap (λ q. digit y j ⊕ q) (rw e (right_is w u (bit_and b y) j f h) ∙ same_right w _ _ (λ i _. digit_and b y i) u j h);
}

-- ---- fields exchanged

-- what the test of all places says of one
exchange_at : (m d n : ℕ) → exchanges m d n ≡ true → (i : ℕ) → i < n → exchanges m d (suc i) ≡ true
exchange_at m d zero e i h = absurd (omega arith)
exchange_at m d (suc n) e i h =
    by_cases (ℕ_discrete i n) (λ q. rw q e) (λ q. exchange_at m d n (and_true_l _ _ (and_true_l (exchanges m d n && ltb (across d n) 32) _ e)) i (omega arith))

-- where the mask chooses rightly, each bit comes from its place
chosen : (q M l N X Y : Bool) → cond q (M && (l || not N)) (not M && not l && N) ≡ true → (M && X) ⊕ cond l false (N && Y) ≡ cond q X Y
chosen true true true N X Y e = ⊕_false X
chosen true true false false X Y e = ⊕_false X
chosen true true false true X Y e = absurd (false≢true e)
chosen true false l N X Y e = absurd (false≢true e)
chosen false true l N X Y e = absurd (false≢true e)
chosen false false true N X Y e = absurd (false≢true e)
chosen false false false true X Y e = refl
chosen false false false false X Y e = absurd (false≢true e)

at_either : (q : Bool) (f : ℕ → Bool) (a b : ℕ) → cond q (f a) (f b) ≡ f (cond q a b)
at_either true f a b = refl
at_either false f a b = refl

-- x << d, exactly
moved_up : (x d i : ℕ) → i < 64 → digit (x * 2 ^ d % 2 ^ 64) i ≡ cond (ltb i d) false (digit x (i - d))
moved_up x d i h =
    digit-mod _ 64 i h
    ∙ by_cases (dec_lt i d) (λ l. rw (lt-ltb i d l) (digit-shl_below x d i l)) (λ l. let g : d ≤ i = omega arith in rw (le-ltb i d g) (digit-shl x d i g))

pub exchanged_is : (x m d : ℕ) → x < 2 ^ 32 → d ≤ 16 → m < 2 ^ (32 - d) → exchanges m d 32 ≡ true
    → Exchanged d x (bit_xor (bit_and m (x / 2 ^ d)) (bit_and m x * 2 ^ d % 2 ^ 64))
exchanged_is x m d l h f e = record {
  small = xor_lt 32 _ _ (lt_of_le_of_lt (le_trans (and_le_r m (x / 2 ^ d)) (shr_le x d)) l) (rw exact (let g : 32 - d + d ≡ 32 = omega arith in rw g at (shl_lt {a = bit_and m x} (32 - d) d low)));
  inside = λ i o. ltb-true _ 32 (and_true_r (exchanges m d i) _ (and_true_l (exchanges m d i && ltb (across d i) 32) _ (exchange_at m d 32 e i o)));
  bits = λ i o.
      digit-xor _ _ i
      ∙ ap₂ ◌⊕◌ (digit_and m (x / 2 ^ d) i ∙ ap (λ b. digit m i && b) (digit-shr x d i ∙ (let g : d + i ≡ i + d = omega arith in ap (digit x) g)))
      (moved_up (bit_and m x) d i (omega arith) ∙ ap (cond (ltb i d) false) (digit_and m x (i - d)))
      ∙ chosen (eqb (i / d % 2) 0) (digit m i) (ltb i d) (digit m (i - d)) (digit x (i + d)) (digit x (i - d)) (and_true_r (exchanges m d i && ltb (across d i) 32) _ (exchange_at m d 32 e i o))
      ∙ at_either (eqb (i / d % 2) 0) (digit x) (i + d) (i - d);
}
  where
    low : bit_and m x < 2 ^ (32 - d)
    low = lt_of_le_of_lt (and_le_l m x) f

    exact : bit_and m x * 2 ^ d % 2 ^ 64 ≡ bit_and m x * 2 ^ d
    exact = shl_exact {a = bit_and m x} (32 - d) d 64 low (omega arith)

-- ---- mirrored

abbrev pub turned : ℕ → ℕ
turned i = across 1 (across 2 (across 4 (across 8 (across 16 i))))

-- computed for each of the 32 bits
turned_is : (i : ℕ) → i < 32 → turned i ≡ 31 - i
unfolding any
turned_is i h = eqb-true (turned i) (31 - i) (not-false (eqb (turned i) (31 - i)) (any_none 32 (λ i. not (eqb (turned i) (31 - i))) all i h))
  where
    all : any 32 (λ i. not (eqb (turned i) (31 - i))) ≡ false
    all = refl

pub mirrored_is : (x a b c d e n : ℕ) → n ≤ 32 → Exchanged 1 x a → Exchanged 2 a b → Exchanged 4 b c → Exchanged 8 c d → Exchanged 16 d e → Holds n (word_of n x) (e / 2 ^ (32 - n))
unfolding word_of
mirrored_is x a b c d e n l ha hb hc hd he = record {
  small = let g : n + (32 - n) ≡ 32 = omega arith in shr_lt n (32 - n) (rw g he.small);
  bits = λ j h.
      let i : 32 - n + j < 32 = omega arith in
      let g : 31 - (32 - n + j) ≡ n - suc j = omega arith in
      digit-shr e (32 - n) j ∙ chain (32 - n + j) i ∙ ap (digit x) (turned_is (32 - n + j) i ∙ g);
}
  where
    chain : (i : ℕ) → i < 32 → digit e i ≡ digit x (turned i)
    chain i h =
        let h₁ = he.inside i h in
        let h₂ = hd.inside _ h₁ in
        let h₃ = hc.inside _ h₂ in
        let h₄ = hb.inside _ h₃ in
        he.bits i h ∙ hd.bits _ h₁ ∙ hc.bits _ h₂ ∙ hb.bits _ h₃ ∙ ha.bits _ h₄
