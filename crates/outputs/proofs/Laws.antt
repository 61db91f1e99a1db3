-- The run: what is filled, and where the state stands. Then the call, of the fields that the run's generator is prepared of.
use Rattle.std.proofs.Common.{◌≡◌, refl, sym, ap, ◌∙◌, arith, List, ℕ, ◌+◌, ◌≤◌, ◌<◌, length, get_or, ◌-◌, set, take, drop, ◌++◌, length-set, length-append, length-drop, length-take-le, get_or-drop, get_or-set_same, get_or-set_other, ltb-false}
use Rattle.std.proofs.lemmas.List.{get_or_append_left, get_or-append_right}
use Rattle.std.proofs.Math.Logic.{by_cases}
use Rattle.std.proofs.Math.Decide.{dec_lt}
use Rattle.digits.specs.Def.{Same, bits_of, number_of}
use Rattle.kinds.specs.Generator.{Machine}
use Rattle.document.specs.Memory.{Front}
use Rattle.document.specs.Outputs.{output}
use Rattle.document.specs.declared.Fields.{Fields}
use Rattle.document.specs.Generator.{size}
use Rattle.document.specs.Refusals.{field_cases, outputs_refusal, run_cases}
use Rattle.document.specs.Lowest.{after, field_rises}
use Rattle.document.specs.Ranges.{Accepted, passed}
use Rattle.document.proofs.Accepted.{accepted}
use Rattle.running.specs.declared.ready.Prepared.{Prepared}
use Rattle.running.specs.Prepared.{PreparedFor, machine_of}
use Rattle.running.specs.Theorems.{After, after_none, after_more, after_output, ready_local, prepared_output}
use Rattle.outputs.specs.Promises.{RanAs}

-- one more number at the front
pub front_more : (n v : ℕ) (f : ℕ → ℕ) (was now : List ℕ) → Front n f was now → n < length now → v ≡ f n → Front (n + 1) f was (set now n v)
front_more n v f was now x h e =
    record {
      long = length-set now n v ∙ x.long;
      front = λ i k. by_cases (dec_lt i n)
          (λ b. get_or-set_other now n i v 0 (λ q. omega arith) ∙ x.front i b)
          (λ b. let q : i ≡ n = omega arith in rw q (get_or-set_same now n v 0 h ∙ e));
      rest = λ i k. get_or-set_other now n i v 0 (λ q. omega arith) ∙ x.rest i (omega arith);
    }

pub front_none : (f : ℕ → ℕ) (was : List ℕ) → Front 0 f was was
front_none f was = record { long = refl; front = λ i h. absurd (omega arith); rest = λ i _. refl }

-- n outputs are written, and the state has moved n times
pub record Running (M : Machine) (start was : List ℕ) (n : ℕ) (s now : List ℕ) : Type 0 where
  pub front : Front n (λ i. output M i (bits_of start)) was now
  pub state : After M n start s

pub running_start : (M : Machine) (start was : List ℕ) → Running M start was 0 start was
running_start M start was = record { front = front_none _ was; state = after_none M start }

-- one output written, and one move made, of a prepared generator
pub running_turn : (p : Prepared) (start was : List ℕ) (n : ℕ) (s now : List ℕ) (r : ℕ) (u : List ℕ) → Running (machine_of p) start was n s now
    → n < length now → r ≡ number_of (machine_of p).width ((machine_of p).out (bits_of s)) → Same (machine_of p).size (bits_of u) ((machine_of p).move (bits_of s))
    → Running (machine_of p) start was (n + 1) u (set now n r)
running_turn p start was n s now r u x h e f =
    let M = machine_of p in
    let l = ready_local p in
    record {
      front = front_more n r (λ i. output M i (bits_of start)) was now x.front h (after_output M l n start s x.state r e);
      state = after_more M l n start s x.state u f;
    }

-- ---- the call

-- nothing is refused: the fields are accepted, and the buffer has room
pub outputs_passed : (g : Fields) (t : ℕ) (state : List ℕ) (room : ℕ) → outputs_refusal g t state room ≡ 0 → Accepted g × (t ≤ room)
unfolding outputs_refusal
outputs_passed g t state room e =
    let (a, b) = after 0 (field_cases g) (run_cases (size g) t state room) (field_rises g) e in
    let (_, f) = passed 6 _ _ b in
    let (_, h) = passed 8 _ _ f in
    let (r, _) = passed 10 _ _ h in
    (accepted g a, ltb-false room t r)

-- what is filled at a buffer's front alone is filled at the front of the buffer
pub front_of : (n : ℕ) (f g : ℕ → ℕ) (was mid : List ℕ) → n ≤ length was → ((i : ℕ) → f i ≡ g i) → Front (length (take n was)) f (take n was) mid → Front n g was (mid ++ drop n was)
front_of n f g was mid h e x =
    let few : length (take n was) ≡ n = length-take-le n was h in
    let long : length mid ≡ n = x.long ∙ few in
    record {
      long = length-append mid (drop n was) ∙ omega (arith, long, length-drop n was);
      front = λ i b. get_or_append_left mid (drop n was) 0 i (omega (arith, long)) ∙ x.front i (omega (arith, few)) ∙ e i;
      rest = λ i b. get_or-append_right mid (drop n was) n i 0 long b ∙ get_or-drop n was (i - n) 0 ∙ ap (λ k. get_or was k 0) {x = n + (i - n)} {y = i} (omega arith);
    }

-- what is accepted is run by the generator that the fields are prepared of
pub ran_as : (g : Fields) (t : ℕ) (state was : List ℕ) → 0 ≡ outputs_refusal g t state (length was) → (p : Prepared) → PreparedFor g p
    → (mid : List ℕ) → Front (length (take t was)) (λ n. output (machine_of p) n (bits_of state)) (take t was) mid → RanAs g t state was 0 (mid ++ drop t was)
ran_as g t state was z p q mid x =
    let (a, room) = outputs_passed g t state (length was) (sym z) in
    record {
      number = z;
      front = λ _. front_of t _ _ was mid room (λ n. prepared_output g p a q n (bits_of state)) x;
      kept = λ n. absurd (n refl);
    }

-- the same of the front n words, where n is t
pub ran_part : (g : Fields) (t n : ℕ) (state was : List ℕ) → 0 ≡ outputs_refusal g t state (length was) → (p : Prepared) → PreparedFor g p
    → (mid : List ℕ) → Front (length (take n was)) (λ n. output (machine_of p) n (bits_of state)) (take n was) mid → n ≡ t → RanAs g t state was 0 (mid ++ drop n was)
ran_part g t n state was z p q mid x e = rw e (ran_as g t state was z p q mid (rw e at x))
