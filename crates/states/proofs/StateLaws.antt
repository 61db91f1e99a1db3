-- What the leaves on states do to bits.
use mathlib.Core.Path.{◌≡◌, refl, sym, ap, ap₂, ◌∙◌, fun_ext}
use mathlib.Core.Bool.{Bool, true, false, ◌&&◌, cond}
use mathlib.Core.List.{List}
use mathlib.Core.Logic.{by_cases, ◌⊎◌, inl, inr}
use native.Mathlib.Decide.{dec_lt, ℕ_discrete}
use Prim.Native.Nat.{ℕ, zero, suc, ◌+◌, ◌-◌, ◌*◌, ◌/◌, ◌%◌, ◌^◌, ◌≤◌, ◌<◌}
use native.Mathlib.Nat.{mod-lt, lt_of_le_of_lt}
use native.Mathlib.Omega.{arith}
use lib.Bits.{bit_xor, bit_and, xor_lt, and_le_r}
use lib.Pow.{pow_pos, shr_lt}
use lib.Dec.{ltb, eqb, lit<}
use lib.Count.{ones}
use lib.ListN.{get_or, length, set, length-set, get_or-eq_default}
use lib.Seq.{get_or-set_same, get_or-set_other}
use borrow.Author.Tests.{lt-ltb, le-ltb, ne_eqb}
use Rattle.theory.specs.Def.{◌⊕◌, xorsum}
use Rattle.theory.specs.Laws.{⊕_false, ⊕_comm, xorsum-⊕, xorsum_cong, xorsum-none}
use Rattle.theory.specs.Sums.{xorsum-append}
use Rattle.digits.specs.Def.{digit, bits_of}
use Rattle.digits.specs.Laws.{digit-xor, digit_and, digit-shr, digit-shl, digit-shl_below, digit-mod, digit_past, digit-zero}
use Rattle.digits.specs.Parity.{parity_test}
use Rattle.kinds.specs.Generator.{enter}
use Rattle.kinds.specs.Transpose.{down, place}
use Rattle.states.specs.Post.{Holds, Flipped}

-- ---- a digit of a word of the state is a bit of the state

pub at_word : (ws : List ℕ) (i b : ℕ) → b < 64 → digit (get_or ws i 0) b ≡ bits_of ws (64 * i + b)
unfolding bits_of
at_word ws i b h =
    let q : (64 * i + b) / 64 ≡ i = omega arith in
    let m : (64 * i + b) % 64 ≡ b = omega arith in
    rw (q, m)

-- the same, for a position that omega knows to be there
pub at_bit : (ws : List ℕ) (i b p : ℕ) → b < 64 → p ≡ 64 * i + b → digit (get_or ws i 0) b ≡ bits_of ws p
at_bit ws i b p h e = at_word ws i b h ∙ ap (bits_of ws) (sym e)

-- ---- word_at

module _ (ws : List ℕ) (pos w : ℕ) where
  pub in_one : pos % 64 + w ≤ 64 → Holds w (λ j. bits_of ws (pos + j)) (get_or ws (pos / 64) 0 / 2 ^ (pos % 64) % 2 ^ w)
  in_one f = record {
    small = mod-lt _ (pow_pos w);
    bits = λ j h. digit-mod _ w j h ∙ digit-shr _ (pos % 64) j ∙ at_bit ws (pos / 64) (pos % 64 + j) (pos + j) (omega arith) (omega arith);
  }

  pub in_two : get_or ws (pos / 64) 0 < 2 ^ 64 → 64 < pos % 64 + w → w ≤ 32 →
      Holds w (λ j. bits_of ws (pos + j)) (bit_xor (get_or ws (pos / 64) 0 / 2 ^ (pos % 64)) (get_or ws (pos / 64 + 1) 0 * 2 ^ (64 - pos % 64) % 2 ^ 64) % 2 ^ w)
  in_two b f l = record {
    small = mod-lt _ (pow_pos w);
    bits = λ j h.
        digit-mod _ w j h ∙ digit-xor _ _ j
        ∙ ap₂ ◌⊕◌ (digit-shr _ (pos % 64) j) (digit-mod _ 64 j (omega arith))
        ∙ by_cases (dec_lt (pos % 64 + j) 64)
        (λ i. ap₂ ◌⊕◌ (at_bit ws (pos / 64) (pos % 64 + j) (pos + j) i (omega arith)) (digit-shl_below _ (64 - pos % 64) j (omega arith)) ∙ ⊕_false _)
        (λ i. ap₂ ◌⊕◌ (digit_past _ 64 (pos % 64 + j) b (omega arith)) (digit-shl _ (64 - pos % 64) j (omega arith) ∙ at_bit ws (pos / 64 + 1) (j - (64 - pos % 64)) (pos + j) (omega arith) (omega arith)));
  }

-- ---- bits past the words

pub bits_past : (n : ℕ) (ws : List ℕ) (i : ℕ) → length ws ≡ n → 64 * n ≤ i → bits_of ws i ≡ false
unfolding bits_of
bits_past n ws i l h = ap (λ x. digit x (i % 64)) (get_or-eq_default ws 0 (omega arith)) ∙ digit-zero (i % 64)

-- a state whose words are known has the bits of these words
pub known_bits : (n : ℕ) (r : List ℕ) (h : ℕ → ℕ) (x : ℕ → Bool) → ((i : ℕ) → i < n → get_or r i 0 ≡ h i) → ((i b : ℕ) → i < n → b < 64 → digit (h i) b ≡ x (64 * i + b)) → (j : ℕ) → j < 64 * n → bits_of r j ≡ x j
unfolding bits_of
known_bits n r h x m d j l = let e : 64 * (j / 64) + j % 64 ≡ j = omega arith in ap (λ y. digit y (j % 64)) (m (j / 64) (omega arith)) ∙ d (j / 64) (j % 64) (omega arith) (omega arith) ∙ ap x e

-- ---- shifted_up

module _ (n : ℕ) (ws : List ℕ) (w new : ℕ) (p : 1 ≤ w) (l : w ≤ 32) (small : new < 2 ^ w) (f : (i : ℕ) → get_or ws i 0 < 2 ^ 64) where
  enter_below : (i : ℕ) → i < w → digit new i ≡ enter w (digit new) (bits_of ws) i
  unfolding enter
  enter_below i h = rw (lt-ltb i w h)

  enter_above : (q b i : ℕ) → b < 64 → w ≤ i → i - w ≡ 64 * q + b → digit (get_or ws q 0) b ≡ enter w (digit new) (bits_of ws) i
  unfolding enter
  enter_above q b i h l e = rw (le-ltb i w l) (at_bit ws q b (i - w) h e)

  -- what enters the word i from below
  abbrev pub entering : ℕ → ℕ
  entering i = cond (eqb i 0) new (get_or ws (i - 1) 0 / 2 ^ (64 - w))

  entering_next : (i : ℕ) → entering (suc i) ≡ get_or ws i 0 / 2 ^ (64 - w)
  entering_next i = let e : suc i - 1 ≡ i = omega arith in rw (ne_eqb (suc i) 0 (λ z. omega arith), e) refl

  entering_small : (i : ℕ) → entering i < 2 ^ w
  entering_small zero = small
  entering_small (suc i) = rw (entering_next i) (shr_lt w (64 - w) (let e : w + (64 - w) ≡ 64 = omega arith in rw e (f i)))

  entering_bits : (i b : ℕ) → b < w → digit (entering i) b ≡ enter w (digit new) (bits_of ws) (64 * i + b)
  entering_bits zero b h = let e : 64 * 0 + b ≡ b = omega arith in rw e (enter_below b h)
  entering_bits (suc i) b h = ap (λ x. digit x b) (entering_next i) ∙ digit-shr _ (64 - w) b ∙ enter_above i (64 - w + b) (64 * suc i + b) (omega arith) (omega arith) (omega arith)

  abbrev pub raised : ℕ → ℕ
  raised i = bit_xor (get_or ws i 0 * 2 ^ w % 2 ^ 64) (entering i)

  raised_bits : (i b : ℕ) → b < 64 → digit (raised i) b ≡ enter w (digit new) (bits_of ws) (64 * i + b)
  raised_bits i b h =
      digit-xor _ (entering i) b
      ∙ by_cases (dec_lt b w)
      (λ j. ap₂ ◌⊕◌ (digit-mod _ 64 b h ∙ digit-shl_below _ w b j) (entering_bits i b j))
      (λ j. ap₂ ◌⊕◌ (digit-mod _ 64 b h ∙ digit-shl _ w b (omega arith)) (digit_past (entering i) w b (entering_small i) (omega arith)) ∙ ⊕_false _
      ∙ enter_above i (b - w) (64 * i + b) (omega arith) (omega arith) (omega arith))

  pub shifted_is : (r : List ℕ) → ((i : ℕ) → i < n → get_or r i 0 ≡ raised i) → (b : ℕ) → b < 64 * n → bits_of r b ≡ enter w (digit new) (bits_of ws) b
  shifted_is r m = known_bits n r raised _ m (λ i b _. raised_bits i b)

-- ---- parity

pub record Summing (a b : List ℕ) (acc i : ℕ) : Type 0 where
  pub small : acc < 2 ^ 64
  pub sum : xorsum 64 (digit acc) ≡ xorsum (64 * i) (λ j. bits_of a j && bits_of b j)

pub summing_start : (a b : List ℕ) → Summing a b 0 0
unfolding xorsum
summing_start a b = record { small = lit< tt; sum = xorsum-none 64 (digit 0) (λ i _. digit-zero i) }

pub summing_step : (a b : List ℕ) (acc i : ℕ) → get_or b i 0 < 2 ^ 64 → Summing a b acc i → Summing a b (bit_xor acc (bit_and (get_or a i 0) (get_or b i 0))) (i + 1)
summing_step a b acc i f x = record {
  small = xor_lt 64 acc _ x.small (lt_of_le_of_lt (and_le_r (get_or a i 0) (get_or b i 0)) f);
  sum =
      let e : 64 * (i + 1) ≡ 64 * i + 64 = omega arith in
      ap (xorsum 64) (fun_ext (λ j. digit-xor acc _ j)) ∙ xorsum-⊕ 64 (digit acc) (digit (bit_and (get_or a i 0) (get_or b i 0)))
      ∙ ap₂ ◌⊕◌ x.sum (xorsum_cong 64 _ _ (λ j h. digit_and (get_or a i 0) (get_or b i 0) j ∙ ap₂ ◌&&◌ (at_word a i j h) (at_word b i j h)))
      ∙ sym (rw e (xorsum-append (64 * i) 64 (λ j. bits_of a j && bits_of b j)));
}

pub summing_end : (n : ℕ) (a b : List ℕ) (acc : ℕ) → Summing a b acc n → eqb (ones acc % 2) 1 ≡ xorsum (64 * n) (λ j. bits_of a j && bits_of b j)
summing_end n a b acc x = parity_test 64 acc x.small ∙ x.sum

-- ---- flipped

pub bit_here : (k : ℕ) → k < 64 → digit (1 * 2 ^ k % 2 ^ 64) k ≡ true
unfolding digit
bit_here k h = let e : k - k ≡ 0 = omega arith in digit-mod _ 64 k h ∙ digit-shl 1 k k (omega arith) ∙ ap (digit 1) e

pub bit_other : (k j : ℕ) → j < 64 → (j ≡ k → ⊥) → digit (1 * 2 ^ k % 2 ^ 64) j ≡ false
bit_other k j h n =
    digit-mod _ 64 j h
    ∙ by_cases (dec_lt j k) (λ l. digit-shl_below 1 k j l) (λ l. digit-shl 1 k j (omega arith) ∙ digit_past 1 1 (j - k) (lit< tt) (omega arith))

pub flipped_is : (ws : List ℕ) (i : ℕ) → i / 64 < length ws → Flipped ws i (set ws (i / 64) (bit_xor (get_or ws (i / 64) 0) (1 * 2 ^ (i % 64) % 2 ^ 64)))
unfolding bits_of
flipped_is ws i h = record {
  here = rw (get_or-set_same ws (i / 64) _ 0 h) (digit-xor _ _ _ ∙ ap (λ z. digit (get_or ws (i / 64) 0) (i % 64) ⊕ z) (bit_here (i % 64) (omega arith)) ∙ ⊕_comm (digit (get_or ws (i / 64) 0) (i % 64)) true);
  other = λ j n. by_cases (ℕ_discrete (j / 64) (i / 64))
      (λ e. rw (e, get_or-set_same ws (i / 64) _ 0 h) (digit-xor _ _ _ ∙ ap (λ z. digit (get_or ws (i / 64) 0) (j % 64) ⊕ z) (bit_other (i % 64) (j % 64) (omega arith) (omega arith)) ∙ ⊕_false _))
      (λ e. rw (get_or-set_other ws (i / 64) (j / 64) _ 0 e));
}

-- ---- placed

-- where the bits of a word go
pub spread : (pos n y i : ℕ) → y < 2 ^ n → place pos n (digit y) i ≡ cond (ltb i pos) false (digit y (i - pos))
unfolding place
spread pos n y i l =
    ap (cond (ltb i pos) false)
    (by_cases (dec_lt (i - pos) n) (λ h. rw (lt-ltb (i - pos) n h)) (λ h. let g : n ≤ i - pos = omega arith in rw (le-ltb (i - pos) n g) (sym (digit_past y n (i - pos) l g))))

module _ (pos n y : ℕ) (l : y < 2 ^ n) where
  spread_low : (i : ℕ) → i / 64 ≡ pos / 64 → digit (y * 2 ^ (pos % 64) % 2 ^ 64) (i % 64) ≡ place pos n (digit y) i
  spread_low i e =
      digit-mod _ 64 (i % 64) (omega arith)
      ∙ by_cases (dec_lt i pos)
      (λ h. digit-shl_below y (pos % 64) (i % 64) (omega arith) ∙ sym (spread pos n y i l ∙ rw (lt-ltb i pos h)))
      (λ h. let g : pos ≤ i = omega arith in let q : i % 64 - pos % 64 ≡ i - pos = omega arith in
      digit-shl y (pos % 64) (i % 64) (omega arith) ∙ ap (digit y) q ∙ sym (spread pos n y i l ∙ rw (le-ltb i pos g)))

  spread_high : (i : ℕ) → i / 64 ≡ pos / 64 + 1 → digit (y / 2 ^ (64 - pos % 64)) (i % 64) ≡ place pos n (digit y) i
  spread_high i e =
      let g : pos ≤ i = omega arith in let q : 64 - pos % 64 + i % 64 ≡ i - pos = omega arith in
      digit-shr y (64 - pos % 64) (i % 64) ∙ ap (digit y) q ∙ sym (spread pos n y i l ∙ rw (le-ltb i pos g))

  spread_none : (i : ℕ) → (i < pos) ⊎ (pos + n ≤ i) → place pos n (digit y) i ≡ false
  spread_none i (inl h) = spread pos n y i l ∙ rw (lt-ltb i pos h)
  spread_none i (inr h) = let g : pos ≤ i = omega arith in spread pos n y i l ∙ rw (le-ltb i pos g) (digit_past y n (i - pos) l (omega arith))

  module _ (ws : List ℕ) (c : ℕ) (f : pos + n < 64 * c) (m : n ≤ 32) (k : length ws ≡ c) where
    abbrev pub once : List ℕ
    once = set ws (pos / 64) (bit_xor (get_or ws (pos / 64) 0) (y * 2 ^ (pos % 64) % 2 ^ 64))

    here : (i : ℕ) → i / 64 ≡ pos / 64 → bits_of once i ≡ bits_of ws i ⊕ place pos n (digit y) i
    unfolding bits_of
    here i e = rw (e, get_or-set_same ws (pos / 64) _ 0 (omega arith)) (digit-xor _ _ _ ∙ ap (λ z. digit (get_or ws (pos / 64) 0) (i % 64) ⊕ z) (spread_low i e))

    elsewhere : (i : ℕ) → (i / 64 ≡ pos / 64 → ⊥) → bits_of once i ≡ bits_of ws i
    unfolding bits_of
    elsewhere i e = rw (get_or-set_other ws (pos / 64) (i / 64) _ 0 e)

    away : (i : ℕ) {b : Bool} → b ≡ bits_of ws i → (i < pos) ⊎ (pos + n ≤ i) → b ≡ bits_of ws i ⊕ place pos n (digit y) i
    away i e o = e ∙ sym (⊕_false (bits_of ws i)) ∙ ap (λ z. bits_of ws i ⊕ z) (sym (spread_none i o))

    pub placed_one : pos % 64 + n ≤ 64 → (i : ℕ) → bits_of once i ≡ bits_of ws i ⊕ place pos n (digit y) i
    placed_one g i =
        by_cases (ℕ_discrete (i / 64) (pos / 64)) (here i)
        (λ e. away i (elsewhere i e) (by_cases (dec_lt i pos) (λ h. inl h) (λ h. inr (omega arith))))

    pub placed_two : 64 < pos % 64 + n → (i : ℕ) → bits_of (set once (pos / 64 + 1) (bit_xor (get_or once (pos / 64 + 1) 0) (y / 2 ^ (64 - pos % 64)))) i ≡ bits_of ws i ⊕ place pos n (digit y) i
    unfolding bits_of
    placed_two g i = by_cases (ℕ_discrete (i / 64) (pos / 64 + 1))
        (λ e. rw (e, get_or-set_same once (pos / 64 + 1) _ 0 (simp length-set (omega arith)), get_or-set_other ws (pos / 64) (pos / 64 + 1) _ 0 (omega arith))
        (digit-xor _ _ _ ∙ ap (λ z. digit (get_or ws (pos / 64 + 1) 0) (i % 64) ⊕ z) (spread_high i e)))
        (λ e. rw (get_or-set_other once (pos / 64 + 1) (i / 64) _ 0 e)
        (by_cases (ℕ_discrete (i / 64) (pos / 64)) (here i)
        (λ d. away i (elsewhere i d) (by_cases (dec_lt i pos) (λ h. inl h) (λ h. inr (omega arith))))))

-- ---- lowered

module _ (n : ℕ) (ws : List ℕ) (w : ℕ) (pw : 1 ≤ w) (lw : w ≤ 32) (long : length ws ≡ n) (f : (i : ℕ) → get_or ws i 0 < 2 ^ 64) where
  word-down : (q b : ℕ) → b < 64 → digit (bit_xor (get_or ws q 0 / 2 ^ w) (get_or ws (q + 1) 0 * 2 ^ (64 - w) % 2 ^ 64)) b ≡ bits_of ws (64 * q + b + w)
  word-down q b h =
      digit-xor _ _ b ∙ ap₂ ◌⊕◌ (digit-shr (get_or ws q 0) w b) (digit-mod _ 64 b h)
      ∙ by_cases (dec_lt (w + b) 64)
      (λ i. ap₂ ◌⊕◌ (at_bit ws q (w + b) (64 * q + b + w) i (omega arith)) (digit-shl_below _ (64 - w) b (omega arith)) ∙ ⊕_false _)
      (λ i. ap₂ ◌⊕◌ (digit_past (get_or ws q 0) 64 (w + b) (f q) (omega arith)) (digit-shl _ (64 - w) b (omega arith) ∙ at_bit ws (q + 1) (b - (64 - w)) (64 * q + b + w) (omega arith) (omega arith)))

  -- past the last word, nothing enters
  abbrev pub sinking : ℕ → ℕ
  sinking i = cond (ltb (i + 1) n) (get_or ws (i + 1) 0 * 2 ^ (64 - w) % 2 ^ 64) 0

  sinking_is : (i : ℕ) → sinking i ≡ get_or ws (i + 1) 0 * 2 ^ (64 - w) % 2 ^ 64
  sinking_is i = by_cases (dec_lt (i + 1) n)
      (λ h. rw (lt-ltb (i + 1) n h))
      (λ h. let g : n ≤ i + 1 = omega arith in let d : get_or ws (i + 1) 0 ≡ 0 = get_or-eq_default ws 0 (omega arith) in let z : 0 * 2 ^ (64 - w) ≡ 0 = omega arith in rw (le-ltb (i + 1) n g, d, z) refl)

  pub lowered_is : (r : List ℕ) → length r ≡ n → ((i : ℕ) → i < n → get_or r i 0 ≡ bit_xor (get_or ws i 0 / 2 ^ w) (sinking i)) → (b : ℕ) → bits_of r b ≡ down w (bits_of ws) b
  unfolding down
  lowered_is r k m b =
      by_cases (dec_lt b (64 * n))
      (known_bits n r _ (λ j. bits_of ws (j + w)) m (λ i b _ h. ap (λ x. digit (bit_xor (get_or ws i 0 / 2 ^ w) x) b) (sinking_is i) ∙ word-down i b h) b)
      (λ g. bits_past n r b k (omega arith) ∙ sym (bits_past n ws (b + w) long (omega arith)))

-- ---- added

pub added_is : (n : ℕ) (a b r : List ℕ) → length a ≡ n → length b ≡ n → length r ≡ n → ((i : ℕ) → i < n → get_or r i 0 ≡ bit_xor (get_or a i 0) (get_or b i 0)) → (j : ℕ) → bits_of r j ≡ bits_of a j ⊕ bits_of b j
added_is n a b r la lb lr m j =
    by_cases (dec_lt j (64 * n))
    (known_bits n r _ (λ j. bits_of a j ⊕ bits_of b j) m (λ i c _ h. digit-xor (get_or a i 0) (get_or b i 0) c ∙ ap₂ ◌⊕◌ (at_word a i c h) (at_word b i c h)) j)
    (λ h. bits_past n r j lr (omega arith) ∙ sym (ap₂ ◌⊕◌ (bits_past n a j la (omega arith)) (bits_past n b j lb (omega arith))))
