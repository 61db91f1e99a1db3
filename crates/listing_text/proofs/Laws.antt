-- Text after text, and the digits of a number. Assumes nothing.
use mathlib.Core.Path.{◌≡◌, refl, sym, ap, ap₂, ◌∙◌}
use mathlib.Core.Bool.{Bool, true, false, cond}
use mathlib.Core.List.{List, [], ◌∷◌, ◌++◌, append_assoc}
use Prim.Native.Nat.{ℕ, zero, suc, ◌+◌, ◌*◌, ◌/◌, ◌%◌, ◌≤◌, ◌<◌}
use native.Mathlib.Numerals.{add-one}
use native.Mathlib.Omega.{arith}
use lib.Dec.{ltb}
use lib.ListN.{length, take, drop, length-append, take-append-drop}
use lib.Seq.{length-take-le, take_at, drop-append-add, drop-drop}
use borrow.Author.Tests.{lt-ltb, le-ltb}
use Rattle.listing_text.specs.Text.{decimal_in, decimal, most_number, number_bytes, line_bytes, lines_to}
use Rattle.listing_text.specs.declared.page.Page.{Page}
use Rattle.listing_text.specs.Wrote.{Wrote, Added}

-- ---- text after text

pub wrote_none : (was : List ℕ) (at : ℕ) → at ≤ length was → Wrote 0 was at [] was at
wrote_none was at h = record { few = omega arith; stop = omega arith; inside = h; long = refl; all = sym (take-append-drop at was) }

-- a wider bound, or another name for the text
pub wrote_as : {m n : ℕ} {was text now : List ℕ} {at e : ℕ} (other : List ℕ) → text ≡ other → length other ≤ n → Wrote m was at text now e → Wrote n was at other now e
wrote_as {at = at} other q h x =
    record {
      few = h;
      stop = x.stop ∙ ap (λ l. at + length l) q;
      inside = x.inside;
      long = x.long;
      all = rw (← q) x.all;
    }

pub wrote_wide : {m n : ℕ} {was text now : List ℕ} {at e : ℕ} → Wrote m was at text now e → m ≤ n → Wrote n was at text now e
wrote_wide x h = record { few = omega (arith, x.few); stop = x.stop; inside = x.inside; long = x.long; all = x.all }

module _ {m n : ℕ} {was mid now a b : List ℕ} {at e f : ℕ} (x : Wrote m was at a mid e) (y : Wrote n mid e b now f) where
  starts : at ≤ length was
  starts = omega (arith, x.stop, x.inside)

  front_long : length (take at was ++ a) ≡ e
  front_long = omega (arith, length-append (take at was) a, length-take-le at was starts, x.stop)

  mid_is : mid ≡ (take at was ++ a) ++ drop e was
  mid_is = x.all ∙ sym (append_assoc (take at was) a (drop e was))

  front : take e mid ≡ take at was ++ a
  front = ap (take e) mid_is ∙ take_at (take at was ++ a) (drop e was) e front_long

  back : drop f mid ≡ drop f was
  back =
      ap (drop f) mid_is
      ∙ ap (λ k. drop k ((take at was ++ a) ++ drop e was)) {x = f} {y = length (take at was ++ a) + length b} (omega (arith, front_long, y.stop))
      ∙ drop-append-add (take at was ++ a) (drop e was) (length b)
      ∙ drop-drop (length b) e was
      ∙ ap (λ k. drop k was) (sym y.stop)

  pub wrote_then : Wrote (m + n) was at (a ++ b) now f
  wrote_then =
      record {
        few = omega (arith, length-append a b, x.few, y.few);
        stop = omega (arith, length-append a b, x.stop, y.stop);
        inside = omega (arith, x.long, y.inside);
        long = y.long ∙ x.long;
        all =
            y.all
            ∙ ap₂ (λ p q. p ++ (b ++ q)) front back
            ∙ append_assoc (take at was) a (b ++ drop f was)
            ∙ ap (λ l. take at was ++ l) (sym (append_assoc a b (drop f was)));
      }

-- ---- the same of a page

added_none : (p : Page) → p.end ≤ length p.out.now → Added 0 p [] p
added_none p h = record { same = refl; wrote = wrote_none p.out.now p.end h }

pub added_then : {m n : ℕ} {p q r : Page} {a b : List ℕ} → Added m p a q → Added n q b r → Added (m + n) p (a ++ b) r
added_then x y = record { same = y.same ∙ x.same; wrote = wrote_then x.wrote y.wrote }

-- a wider bound, and another name for the text
pub added_wide : {m n : ℕ} {p q : Page} {text : List ℕ} → Added m p text q → m ≤ n → Added n p text q
added_wide x h = record { same = x.same; wrote = wrote_wide x.wrote h }

pub added_as : {m n : ℕ} {p q : Page} {text : List ℕ} (other : List ℕ) → text ≡ other → length other ≤ n → Added m p text q → Added n p other q
added_as other e h x = record { same = x.same; wrote = wrote_as other e h x.wrote }

-- ---- digits

pub decimal_small : (p n : ℕ) → n < 10 → decimal_in p n ≡ (48 + n) ∷ []
unfolding decimal_in
decimal_small zero n h = refl
decimal_small (suc p) n h = rw (lt-ltb n 10 h)

-- numbers of at most p + 1 digits are below this
abbrev limit : ℕ → ℕ
limit zero = 10
limit (suc p) = 10 * limit p

enough : (p n : ℕ) → n < limit p → decimal_in p n ≡ decimal_in (suc p) n
unfolding decimal_in
enough zero n h = rw (lt-ltb n 10 h)
enough (suc p) n h = ap (λ l. cond (ltb n 10) ((48 + n) ∷ []) (l ++ ((48 + n % 10) ∷ []))) (enough p (n / 10) (omega arith))

decimal_step : (p n : ℕ) → 10 ≤ n → decimal_in (suc p) n ≡ decimal_in p (n / 10) ++ ((48 + n % 10) ∷ [])
unfolding decimal_in
decimal_step p n g = rw (le-ltb n 10 g)

pub decimal_more : (n : ℕ) → 10 ≤ n → n < most_number → decimal n ≡ decimal (n / 10) ++ ((48 + n % 10) ∷ [])
decimal_more n g h = decimal_step 3 n g ∙ (ap (λ l. l ++ ((48 + n % 10) ∷ [])) (enough 3 (n / 10) (omega arith)))

decimal-length : (p n : ℕ) → length (decimal_in p n) ≤ suc p
unfolding decimal_in
decimal-length zero n = omega arith
decimal-length (suc p) n = go (ltb n 10) (decimal-length p (n / 10))
  where
    go : (b : Bool) → length (decimal_in p (n / 10)) ≤ suc p → length (cond b ((48 + n) ∷ []) (decimal_in p (n / 10) ++ ((48 + n % 10) ∷ []))) ≤ suc (suc p)
    go true h = omega arith
    go false h = omega (arith, length-append (decimal_in p (n / 10)) ((48 + n % 10) ∷ []))

pub decimal_few : (n : ℕ) → length (decimal n) ≤ number_bytes
decimal_few n = decimal-length 4 n

-- the digits of a tenth leave room for one more
pub few_more : (n : ℕ) → 10 ≤ n → n < most_number → length (decimal (n / 10)) + 1 ≤ number_bytes
few_more n g h = omega (arith, length-append (decimal (n / 10)) ((48 + n % 10) ∷ []), ap length (decimal_more n g h), decimal_few n)

-- ---- line after line

pub lines_none : (f : ℕ → List ℕ) (p : Page) → p.end ≤ length p.out.now → Added 0 p (lines_to 0 f) p
unfolding lines_to
lines_none f p h = added_none p h

lines_step : (f : ℕ → List ℕ) (i : ℕ) (line : List ℕ) → line ≡ f (i + 1) → lines_to (i + 1) f ≡ lines_to i f ++ line
unfolding lines_to
lines_step f i line q = rw q (rw add-one refl)

pub lines_more : {p q r : Page} {line : List ℕ} (f : ℕ → List ℕ) (i : ℕ) → line ≡ f (i + 1)
    → Added (i * line_bytes) p (lines_to i f) q → Added line_bytes q line r → Added ((i + 1) * line_bytes) p (lines_to (i + 1) f) r
lines_more {line = line} f i e x y =
    added_wide {m = i * line_bytes + line_bytes} (rw (lines_step f i line e) (added_then x y)) (omega arith)

-- ---- what the buffer holds when its page is done

pub finished : {m n : ℕ} {p q : Page} {text now : List ℕ} → Added m p text q → m ≤ n → now ≡ q.out.now → Wrote n p.out.now p.end text now q.end
finished x h e = rw e (wrote_wide x.wrote h)
