-- The proofs for Rows.antt and `proofs/KindFour.antt`: each part of a move and of an output has its transpose, and their composition is that of the whole.
use Rattle.std.specs.Prelude.{◌≡◌, Bool, true, false, ◌&&◌, cond, ltb}
use Rattle.std.proofs.Math.Path.{refl, sym, ap, ap₂}
use Rattle.std.proofs.Common.{◌∙◌, lt-ltb, le-ltb, eq-eqb, ne_eqb}
use Rattle.std.proofs.Math.Bool.{and-false, and-true}
use Rattle.std.proofs.Math.Logic.{by_cases}
use Rattle.std.proofs.Math.Decide.{ℕ_discrete}
use Prim.Native.Nat.{ℕ, zero, suc, ◌+◌, ◌-◌, ◌*◌, ◌≤◌, ◌<◌}
use native.Mathlib.Omega.{arith}
use Rattle.theory.specs.Def.{◌⊕◌, xorsum, unit, pair}
use Rattle.theory.specs.Laws.{⊕_self, ⊕_comm, xor-ac, xorsum_cong, xorsum-none}
use Rattle.theory.specs.Sums.{xorsum_head, xorsum_rev, xorsum-times, unit_other, pair-sum, pair-sum_r, pair_comm, pair_same, pair-none, pair-append, pair_cut, pair_scale, pair-unit, pair-rows}
use Rattle.digits.specs.Def.{Word, Same, Clear}
use Rattle.kinds.specs.Generator.{times, ◌⊻◌, masked, right, left, join, twist, add_left, add_right, temper3, temper4, next_bit, stepped, word, enter, next2, tausworthe, gfsr}
use Rattle.kinds.specs.Reads.{same_cond, same_sum, same_left, same_right, word_in}
use Rattle.kinds.specs.Recurrence.{times-first}
use Rattle.kinds.specs.Transpose.{place, down, taps, back1, first1, back2, untwist, un_right, un_left, first4, Transposed}

-- ---- places

pub place_below : (pos n : ℕ) (y : Word) (i : ℕ) → i < pos → place pos n y i ≡ false
unfolding place
place_below pos n y i h = rw (lt-ltb i pos h)

pub place_past : (pos n : ℕ) (y : Word) → Clear (pos + n) (place pos n y)
unfolding place
place_past pos n y i h = let a : pos ≤ i = omega arith in let b : n ≤ i - pos = omega arith in rw (le-ltb i pos a, le-ltb (i - pos) n b)

place_at : (pos n : ℕ) (y : Word) (j : ℕ) → j < n → place pos n y (pos + j) ≡ y j
unfolding place
place_at pos n y j h =
    let a : pos ≤ pos + j = omega arith in let e : pos + j - pos ≡ j = omega arith in rw (le-ltb (pos + j) pos a, e, lt-ltb j n h)

-- the same, for a place that omega knows to be in it
pub place_from : (pos n : ℕ) (y : Word) (i : ℕ) → pos ≤ i → i - pos < n → place pos n y i ≡ y (i - pos)
unfolding place
place_from pos n y i h l = rw (le-ltb i pos h, lt-ltb (i - pos) n l)

pub same_place : (pos n : ℕ) (x y : Word) → Same n x y → (i : ℕ) → place pos n x i ≡ place pos n y i
unfolding place
same_place pos n x y e i = ap (cond (ltb i pos) false) (same_cond (i - pos) n (e (i - pos)) (λ _. refl))

pub pair_place : (k pos n : ℕ) (y s : Word) → pos + n ≤ k → pair k (place pos n y) s ≡ pair n y (λ j. s (pos + j))
pair_place k pos n y s l =
    pair_cut (pos + n) k (place pos n y) s l (λ b h _. place_past pos n y b h)
    ∙ pair-append pos n (place pos n y) s
    ∙ ap₂ ◌⊕◌ (pair-none pos (place pos n y) s (place_below pos n y)) (pair_same n _ y _ _ (place_at pos n y) (λ _ _. refl))

-- ---- a word that enters

pub pair-enter : (w q : ℕ) (ρ new s : Word) → pair (w + q) ρ (enter w new s) ≡ pair w ρ new ⊕ pair q (λ i. ρ (w + i)) s
unfolding enter
pair-enter w q ρ new s =
    pair-append w q ρ (enter w new s)
    ∙ ap₂ ◌⊕◌ (pair_same w ρ ρ _ new (λ _ _. refl) (λ i h. rw (lt-ltb i w h)))
    (pair_same q _ _ _ s (λ _ _. refl) (λ i h. let a : w ≤ w + i = omega arith in let e : w + i - w ≡ i = omega arith in rw (le-ltb (w + i) w a, e)))

pub pair-down : (w q : ℕ) (ρ s : Word) → Clear (w + q) ρ → pair (w + q) (down w ρ) s ≡ pair q (λ i. ρ (w + i)) s
unfolding down
pair-down w q ρ s c =
    pair_cut q (w + q) (down w ρ) s (omega arith) (λ i h _. c (i + w) (omega arith))
    ∙ pair_same q _ _ s s (λ i _. let e : i + w ≡ w + i = omega arith in ap ρ e) (λ _ _. refl)

-- ---- many steps

module _ (k : ℕ) (f b : Word → Word) (keeps : (ρ : Word) → Clear k ρ → Clear k (b ρ)) (sums : (ρ s : Word) → Clear k ρ → pair k (b ρ) s ≡ pair k ρ (f s)) where
  pub times_clear : (n : ℕ) (ρ : Word) → Clear k ρ → Clear k (times n b ρ)
  unfolding times
  times_clear zero ρ c = c
  times_clear (suc n) ρ c = keeps _ (times_clear n ρ c)

  pub times-sum : (n : ℕ) (ρ s : Word) → Clear k ρ → pair k (times n b ρ) s ≡ pair k ρ (times n f s)
  unfolding times
  times-sum zero ρ s c = refl
  times-sum (suc n) ρ s c = sums (times n b ρ) s (times_clear n ρ c) ∙ times-sum n ρ (f s) c ∙ ap (pair k ρ) (sym (times-first n f s))

-- ---- kind 1

pub taps_below : (k : ℕ) (a : Word) → Same k (taps k a) (λ i. a (k - suc i))
unfolding taps
taps_below k a i h = rw (lt-ltb i k h)

pub taps_at : (k : ℕ) (a : Word) → taps k a k ≡ true
unfolding taps
taps_at k a = let h : k ≤ k = omega arith in rw (le-ltb k k h) (eq-eqb k k refl)

pub taps_past : (k : ℕ) (a : Word) → Clear (suc k) (taps k a)
unfolding taps
taps_past k a i h = let l : k ≤ i = omega arith in rw (le-ltb i k l) (ne_eqb i k (omega arith))

sums : (k : ℕ) (a s : Word) → ((i : ℕ) → i < k → (a (k - suc i) && s i) ≡ (a (k - suc i) && s (k - suc (k - suc i)))) → pair k (λ i. a (k - suc i)) s ≡ xorsum k (λ i. a i && s (k - suc i))
unfolding pair
sums k a s h = xorsum_cong k _ _ h ∙ xorsum_rev k (λ i. a i && s (k - suc i))

-- the new bit is the sum that the taps below k stand for
pub taps-sum : (k : ℕ) (a s : Word) → pair k (taps k a) s ≡ next_bit k a s
unfolding next_bit
taps-sum k a s = pair_same k _ _ s s (taps_below k a) (λ _ _. refl) ∙ backwards
  where
    swap : (i : ℕ) → i < k → (a (k - suc i) && s i) ≡ (a (k - suc i) && s (k - suc (k - suc i)))
    swap i h = let e : i ≡ k - suc (k - suc i) = omega arith in ap (λ j. a (k - suc i) && s j) e

    backwards : pair k (λ i. a (k - suc i)) s ≡ xorsum k (λ i. a i && s (k - suc i))
    backwards = sums k a s swap

right-pair : (v : ℕ) (y x : Word) → pair (suc v) y (right 1 x) ≡ pair v (λ j. y (suc j)) x
unfolding pair right
right-pair v y x =
    xorsum_head v (λ i. y i && cond (ltb i 1) false (x (i - 1)))
    ∙ ap₂ ◌⊕◌ (and-false (y 0)) (xorsum_cong v _ _ (λ j _. let a : 1 ≤ suc j = omega arith in let e : suc j - 1 ≡ j = omega arith in rw (le-ltb (suc j) 1 a, e)))

step_last : (v : ℕ) (a ρ s : Word) → pair (suc v) ρ (stepped (suc v) a s) ≡ pair v ρ (λ i. s (suc i)) ⊕ (ρ v && next_bit (suc v) a s)
unfolding pair xorsum stepped
step_last v a ρ s =
    let e : suc v ≤ suc v = omega arith in
    rw (le-ltb (suc v) (suc v) e)
    (ap (λ b. b ⊕ (ρ v && next_bit (suc v) a s)) (xorsum_cong v _ _ (λ i h. let g : suc i < suc v = omega arith in rw (lt-ltb (suc i) (suc v) g))))

pub back1-sum : (k : ℕ) (a ρ s : Word) → 1 ≤ k → pair k (back1 k a ρ) s ≡ pair k ρ (stepped k a s)
unfolding back1 ◌⊻◌
back1-sum zero a ρ s h = absurd (omega arith)
back1-sum (suc v) a ρ s h =
    let e : suc v - 1 ≡ v = omega arith in
    pair-sum (suc v) (right 1 ρ) (λ i. ρ (suc v - 1) && taps (suc v) a i) s
    ∙ ap₂ ◌⊕◌ (pair_comm (suc v) (right 1 ρ) s ∙ right-pair v s ρ ∙ pair_comm v (λ j. s (suc j)) ρ)
    (pair_scale (suc v) (ρ (suc v - 1)) (taps (suc v) a) s ∙ ap₂ (λ i b. ρ i && b) e (taps-sum (suc v) a s))
    ∙ sym (step_last v a ρ s)

pub back1_clear : (k : ℕ) (a ρ : Word) → 1 ≤ k → Clear k ρ → Clear k (back1 k a ρ)
unfolding back1 ◌⊻◌ right
back1_clear k a ρ p c i h =
    let l : 1 ≤ i = omega arith in
    rw (le-ltb i 1 l) (by_cases (ℕ_discrete i k)
    (λ e. rw (e, taps_at k a) (ap (λ b. ρ (k - 1) ⊕ b) (and-true (ρ (k - 1))) ∙ ⊕_self (ρ (k - 1))))
    (λ n. rw (c (i - 1) (omega arith), taps_past k a i (omega arith)) (and-false (ρ (k - 1)))))

unit_clear : (k j : ℕ) → j < k → Clear k (unit j)
unit_clear k j l i h = unit_other j i (omega arith)

-- the row that has j alone
unit-sum : (k j : ℕ) (s : Word) → j < k → pair k (unit j) s ≡ s j
unit-sum k j s h = pair_comm k (unit j) s ∙ pair-unit k j s h

pub tausworthe-rows : (k L ν : ℕ) (a : Word) → 1 ≤ k → Transposed (tausworthe k L ν a) (times ν (back1 k a)) (first1 k a)
unfolding tausworthe first1
tausworthe-rows k L ν a p =
    let keeps : (ρ : Word) → Clear k ρ → Clear k (back1 k a ρ) = λ ρ. back1_clear k a ρ p in
    let adds : (ρ s : Word) → Clear k ρ → pair k (back1 k a ρ) s ≡ pair k ρ (stepped k a s) = λ ρ s _. back1-sum k a ρ s p in
    record {
      back_clear = times_clear k (stepped k a) (back1 k a) keeps adds ν;
      back_sum = times-sum k (stepped k a) (back1 k a) keeps adds ν;
      first_clear = λ j h. times_clear k (stepped k a) (back1 k a) keeps adds j (unit 0) (unit_clear k 0 p);
      first_sum = λ j s h. times-sum k (stepped k a) (back1 k a) keeps adds j (unit 0) s (unit_clear k 0 p) ∙ unit-sum k 0 _ p;
    }

-- ---- kind 2

rows_clear : (k r : ℕ) (a : Word) (R : ℕ → Word) → ((i : ℕ) → i < r → Clear k (R i)) → Clear k (λ b. xorsum r (λ i. a i && R i b))
rows_clear k r a R h b l = xorsum-none r _ (λ i g. ap (λ x. a i && x) (h i g b l) ∙ and-false (a i))

pub lowered_clear : (w k : ℕ) (ρ : Word) → Clear k ρ → Clear k (down w ρ)
unfolding down
lowered_clear w k ρ c i h = c (i + w) (omega arith)

new_word : (r w : ℕ) (a s ρ : Word) → pair w (next2 r w a s) ρ ≡ xorsum r (λ i. a i && pair w (λ j. s (i * w + j)) ρ)
unfolding next2 word
new_word r w a s ρ = pair-rows w r a (λ i j. s (i * w + j)) ρ

pub gfsr-rows : (r w L : ℕ) (a : Word) → 1 ≤ r → L ≤ w → Transposed (gfsr r w L a) (back2 r w a) unit
unfolding gfsr back2 ◌⊻◌ word
gfsr-rows r w L a p l =
    let inside : w ≤ r * w = omega (arith, word_in 0 r w p) in
    let split : r * w ≡ w + (r * w - w) = omega arith in
    record {
      back_clear = λ ρ c i h. ap₂ ◌⊕◌ (lowered_clear w (r * w) ρ c i h)
          (rows_clear (r * w) r a (λ q. place (q * w) w ρ) (λ q g j o. place_past (q * w) w ρ j (omega (arith, word_in q r w g))) i h);
      back_sum = λ ρ s c.
          pair-sum (r * w) (down w ρ) (λ b. xorsum r (λ i. a i && place (i * w) w ρ b)) s
          ∙ ap₂ ◌⊕◌ (ap (λ n. pair n (down w ρ) s) split ∙ pair-down w (r * w - w) ρ s (rw split at c))
          (pair-rows (r * w) r a (λ i. place (i * w) w ρ) s
          ∙ xorsum_cong r _ _ (λ i h. ap (λ b. a i && b) (pair_place (r * w) (i * w) w ρ s (word_in i r w h) ∙ pair_comm w ρ _))
          ∙ sym (pair_comm w ρ (next2 r w a s) ∙ new_word r w a s ρ))
          ∙ ⊕_comm (pair (r * w - w) (λ i. ρ (w + i)) s) (pair w ρ (next2 r w a s))
          ∙ sym (ap (λ n. pair n ρ (enter w (next2 r w a s) s)) split ∙ pair-enter w (r * w - w) ρ _ s);
      first_clear = λ j h. unit_clear (r * w) j (omega arith);
      first_sum = λ j s h. let e : j ≡ 0 * w + j = omega arith in unit-sum (r * w) j s (omega arith) ∙ ap s e;
    }

-- ---- kind 4: the twist

and_swap : (a b c : Bool) → (a && (b && c)) ≡ ((b && a) && c)
and_swap true true c = refl
and_swap true false c = refl
and_swap false true c = refl
and_swap false false c = refl

pair_last : (n : ℕ) (a y : Word) (c : Bool) → pair n y (λ j. a j && c) ≡ (xorsum n (λ i. a i && y i) && c)
unfolding pair
pair_last n a y c = xorsum_cong n _ _ (λ i _. and_swap (y i) (a i) c) ∙ xorsum-times n (λ i. a i && y i) c

pair-untwist : (v : ℕ) (a y x : Word) → pair (suc v) (untwist (suc v) a y) x ≡ pair v (λ j. y (suc j)) x ⊕ (xorsum (suc v) (λ i. a i && y i) && x v)
unfolding pair xorsum untwist
pair-untwist v a y x =
    let e : suc v ≤ suc v = omega arith in
    rw (le-ltb (suc v) (suc v) e)
    (ap (λ b. b ⊕ ((xorsum v (λ i. a i && y i) ⊕ a v && y v) && x v))
    (xorsum_cong v _ _ (λ i h. let g : suc i < suc v = omega arith in rw (lt-ltb (suc i) (suc v) g))))

pub pair-twist : (w : ℕ) (a y x : Word) → 1 ≤ w → pair w y (twist w a x) ≡ pair w (untwist w a y) x
unfolding twist ◌⊻◌
pair-twist zero a y x h = absurd (omega arith)
pair-twist (suc v) a y x h =
    let e : suc v - 1 ≡ v = omega arith in
    pair-sum_r (suc v) y (right 1 x) (λ j. a j && x (suc v - 1))
    ∙ ap₂ ◌⊕◌ (right-pair v y x) (pair_last (suc v) a y (x (suc v - 1)) ∙ ap (λ i. xorsum (suc v) (λ i. a i && y i) && x i) e)
    ∙ sym (pair-untwist v a y x)

pub pair-join : (n p : ℕ) (z x y : Word) → pair (n + p) z (join n x y) ≡ pair n z x ⊕ pair p (λ j. z (n + j)) (λ j. y (n + j))
unfolding join
pair-join n p z x y =
    pair-append n p z (join n x y)
    ∙ ap₂ ◌⊕◌ (pair_same n z z _ x (λ _ _. refl) (λ i h. rw (lt-ltb i n h)))
    (pair_same p _ _ _ (λ j. y (n + j)) (λ _ _. refl) (λ j h. let a : n ≤ n + j = omega arith in rw (le-ltb (n + j) n a)))

-- the transpose reads the row's first w bits alone
pub same_untwist : (w : ℕ) (a x y : Word) → Same w x y → Same w (untwist w a x) (untwist w a y)
unfolding untwist
same_untwist w a x y e j h = same_cond (suc j) w (e (suc j)) (λ _. xorsum_cong w _ _ (λ i g. ap (λ b. a i && b) (e i g)))

pub four : (a b c d : Bool) → b ⊕ (c ⊕ d) ⊕ a ≡ a ⊕ b ⊕ c ⊕ d
four a b c d = simp xor-ac

-- ---- kind 4: tempering

pair-right : (w u : ℕ) (y x : Word) → u ≤ w → pair w y (right u x) ≡ pair w (left w u y) x
unfolding right left
pair-right w u y x h =
    let e : w ≡ u + (w - u) = omega arith in
    ap (λ n. pair n y (right u x)) e
    ∙ pair-append u (w - u) y (right u x)
    ∙ ap₂ ◌⊕◌ (pair_comm u y (right u x) ∙ pair-none u (right u x) y (λ i l. rw (lt-ltb i u l)))
    (pair_same (w - u) _ (left w u y) _ x
    (λ i l. let a : i + u < w = omega arith in let q : u + i ≡ i + u = omega arith in rw (lt-ltb (i + u) w a, q))
    (λ i l. let a : u ≤ u + i = omega arith in let q : u + i - u ≡ i = omega arith in rw (le-ltb (u + i) u a, q)))
    ∙ sym (pair_cut (w - u) w (left w u y) x (omega arith) (λ i l _. let a : w ≤ i + u = omega arith in rw (le-ltb (i + u) w a)))

pair_left : (w u : ℕ) (y x : Word) → u ≤ w → pair w y (left w u x) ≡ pair w (right u y) x
pair_left w u y x h = pair_comm w y (left w u x) ∙ sym (pair-right w u x y h) ∙ pair_comm w x (right u y)

pair-masked : (w : ℕ) (b y x : Word) → pair w y (masked b x) ≡ pair w (masked b y) x
unfolding pair masked
pair-masked w b y x = xorsum_cong w _ _ (λ i _. and_swap (y i) (b i) (x i))

pair-add_right : (w u : ℕ) (y x : Word) → u ≤ w → pair w y (add_right u x) ≡ pair w (un_right w u y) x
unfolding add_right un_right ◌⊻◌
pair-add_right w u y x h = pair-sum_r w y x (right u x) ∙ ap (λ b. pair w y x ⊕ b) (pair-right w u y x h) ∙ sym (pair-sum w y (left w u y) x)

pair-add_left : (w u : ℕ) (b y x : Word) → u ≤ w → pair w y (add_left w u b x) ≡ pair w (un_left u b y) x
unfolding add_left un_left ◌⊻◌
pair-add_left w u b y x h =
    pair-sum_r w y x (masked b (left w u x))
    ∙ ap (λ q. pair w y x ⊕ q) (pair-masked w b y (left w u x) ∙ pair_left w u (masked b y) x h)
    ∙ sym (pair-sum w y (right u (masked b y)) x)

pub first4-sum : (k w U S : ℕ) (b : Word) (T : ℕ) (c : Word) (Z j : ℕ) (s : Word) → w ≤ k → U ≤ w → S ≤ w → T ≤ w → Z ≤ w → j < w
    → pair k (place 0 w (first4 w U S b T c Z j)) s ≡ temper4 w U S b T c Z (word w 0 s) j
unfolding first4 temper4 temper3 word
first4-sum k w U S b T c Z j s l hU hS hT hZ h =
    pair_place k 0 w _ s (omega arith)
    ∙ pair_same w _ _ _ (word w 0 s) (λ _ _. refl) (λ i g. let e : 0 + i ≡ 0 * w + i = omega arith in ap s e)
    ∙ sym
    (sym (pair_comm w (unit j) _ ∙ pair-unit w j (temper4 w U S b T c Z (word w 0 s)) h)
    ∙ pair-add_right w Z (unit j) _ hZ ∙ pair-add_left w T c _ _ hT ∙ pair-add_left w S b _ _ hS ∙ pair-add_right w U _ _ hU)

-- the tempering transposed reads a row's first w bits alone
pub same_un_right : (w u : ℕ) (x y : Word) → Same w x y → Same w (un_right w u x) (un_right w u y)
unfolding un_right
same_un_right w u x y e = same_sum w x y e _ _ (same_left w x y e u)

pub same_un_left : (w u : ℕ) (b x y : Word) → Same w x y → Same w (un_left u b x) (un_left u b y)
unfolding un_left masked
same_un_left w u b x y e = same_sum w x y e _ _ (same_right w _ _ (λ j h. ap (λ z. b j && z) (e j h)) u)
