-- The wrong builds that document 01 names. A build of a call gives a reply, and the lent memory afterwards, for all that the call takes. The table
-- `ShutOut` says for each sort of wrong build that none of them keeps the call's promise; `Theorems.antt` proves it.
use Rattle.std.specs.Prelude.{◌≡◌, Bool, true, false, not, ◌&&◌, List, ◌⊎◌, ℕ, ◌-◌, ◌*◌, ◌/◌, ◌%◌, ◌^◌, ◌≤◌, ◌<◌, length, get_or, take}
use Rattle.theory.specs.Def.{Bits, bit, count, agree, Dependent}
use Rattle.digits.specs.Def.{Word, bits_of}
use Rattle.kinds.specs.Generator.{Machine, output_bit}
use Rattle.document.specs.declared.Fields.{Fields}
use Rattle.document.specs.declared.Dimension.{Dimension}
use Rattle.document.specs.declared.Resolution.{Resolution}
use Rattle.document.specs.Limits.{row_words}
use Rattle.document.specs.Generator.{machine, size}
use Rattle.document.specs.Description.{fields_of}
use Rattle.document.specs.Refusals.{read_refusal}
use Rattle.document.specs.Outputs.{output}
use Rattle.document.specs.Cells.{cell_bit, is_yes}
use Rattle.document.specs.Report.{total, most_resolution, most_dimension, resolution_sum}
use Rattle.description.specs.declared.reading.Reading.{Reading}
use Rattle.description.specs.Promises.{ReadAs, WrittenAs}
use Rattle.outputs.specs.Promises.{RanAs}
use Rattle.question.specs.declared.Reply.{Reply}
use Rattle.question.specs.Promises.{Asked}
use Rattle.basis.specs.declared.BasisReply.{BasisReply}
use Rattle.basis.specs.Promises.{BasisRows}
use Rattle.report.specs.declared.reply.Report.{Report}
use Rattle.report.specs.Promises.{ReportedAs}
use Rattle.value.specs.declared.Valued.{Valued}
use Rattle.value.specs.Promises.{ValuedAs}
use Rattle.listing_text.specs.Text.{refused_line}
use Rattle.listing_text.specs.Listing.{Listed}

-- ---- builds

pub data Call : Type 0 where
  read : Call
  write : Call
  outputs : Call
  question : Call
  basis : Call
  report : Call
  value : Call
  listing : Call

-- what a call takes; `was` is the lent buffer
abbrev pub Takes : Call → Type 0
Takes read = record { bytes : List ℕ }
Takes write = record { g : Fields; was : List ℕ }
Takes outputs = record { g : Fields; t : ℕ; state : List ℕ; was : List ℕ }
Takes question = record { g : Fields; t : Dimension; l : Resolution; was : List ℕ }
Takes basis = record { g : Fields; t : Dimension; l : Resolution; was : List ℕ }
Takes report = record { g : Fields; was : List ℕ }
Takes value = record { y : ℕ; L : ℕ }
Takes listing = record { bytes : List ℕ; was : List ℕ }

-- what it gives; `now` is the lent buffer afterwards
abbrev pub Gives : Call → Type 0
Gives read = record { reply : Reading }
Gives write = record { refusal : ℕ; now : List ℕ }
Gives outputs = record { refusal : ℕ; now : List ℕ }
Gives question = record { reply : Reply; now : List ℕ }
Gives basis = record { reply : BasisReply; now : List ℕ }
Gives report = record { reply : Report; now : List ℕ }
Gives value = record { reply : Valued }
Gives listing = record { end : ℕ; now : List ℕ }

-- what it promises
abbrev pub Promised : (c : Call) → Takes c → Gives c → Type 0
Promised read a r = ReadAs a.bytes r.reply
Promised write a r = WrittenAs a.g a.was r.refusal r.now
Promised outputs a r = RanAs a.g a.t a.state a.was r.refusal r.now
Promised question a r = Asked a.g a.t a.l a.was r.reply r.now
Promised basis a r = BasisRows a.g a.t a.l a.was r.reply r.now
Promised report a r = ReportedAs a.g a.was r.reply r.now
Promised value a r = ValuedAs a.y a.L r.reply
Promised listing a r = Listed a.bytes a.was r.end r.now

-- numbers of n bits, no more of them than memory holds
abbrev pub Numbers : ℕ → List ℕ → Type 0
Numbers n ws = (length ws < 2 ^ 60) × ((i : ℕ) → get_or ws i 0 < 2 ^ n)

-- "Every other call here, but for value, takes that kind and those fields": they are those of bytes that are read
abbrev pub Given : Fields → Type 0
Given g = (bs : List ℕ) × Numbers 8 bs × (read_refusal bs ≡ 0) × (g ≡ fields_of bs)

-- what a caller can say
abbrev pub Fits : (c : Call) → Takes c → Type 0
Fits read a = Numbers 8 a.bytes
Fits write a = Given a.g × Numbers 8 a.was
Fits outputs a = Given a.g × (a.t < 2 ^ 64) × (length a.state ≡ row_words) × Numbers 64 a.state × Numbers 32 a.was
Fits question a = Given a.g × (a.t.0 < 2 ^ 64) × (a.l.0 < 2 ^ 64) × Numbers 64 a.was
Fits basis a = Given a.g × (a.t.0 < 2 ^ 64) × (a.l.0 < 2 ^ 64) × Numbers 64 a.was
Fits report a = Given a.g × Numbers 64 a.was
Fits value a = (a.y < 2 ^ 64) × (a.L < 2 ^ 32)
Fits listing a = Numbers 8 a.bytes × Numbers 8 a.was

abbrev pub Build : Call → Type 0
Build c = Takes c → Gives c

-- the promise is kept, as the library's own call keeps it, whatever a caller says
abbrev pub Keeps : (c : Call) → Build c → Type 0
Keeps c b = (a : Takes c) → Fits c a → Promised c a (b a)

-- no build that does so, whatever it is called with, keeps the promise
unfoldable pub NoBuild : (c : Call) → (Takes c → Gives c → Type 0) → Type 0
NoBuild c Does = (b : Build c) → ((a : Takes c) → Fits c a → Does a (b a)) → ¬ Keeps c b

-- the same of the replies that are not refusals: y n is the number n in the buffer after outputs from the start state s; r is an answer, or a report
unfoldable pub NoOutputs : (Fields → ℕ → Word → (ℕ → ℕ) → Type 0) → Type 0
NoOutputs Does = NoBuild outputs (λ a r. r.refusal ≡ 0 → Does a.g a.t (bits_of a.state) (λ n. get_or r.now n 0))

unfoldable pub NoAnswer : (Fields → ℕ → ℕ → Reply → Type 0) → Type 0
NoAnswer Does = NoBuild question (λ a r. r.reply.refusal ≡ 0 → Does a.g a.t.0 a.l.0 r.reply)

unfoldable pub NoReport : (Fields → Report → Type 0) → Type 0
NoReport Does = NoBuild report (λ a r. r.reply.refusal ≡ 0 → Does a.g r.reply)

-- ---- what the wrong builds do

-- a refusal; of a listing, no text at all or the line `refused N`
abbrev pub Refuses : (c : Call) → Gives c → Type 0
Refuses read r = ¬ (r.reply.refusal ≡ 0)
Refuses write r = ¬ (r.refusal ≡ 0)
Refuses outputs r = ¬ (r.refusal ≡ 0)
Refuses question r = ¬ (r.reply.refusal ≡ 0)
Refuses basis r = ¬ (r.reply.refusal ≡ 0)
Refuses report r = ¬ (r.reply.refusal ≡ 0)
Refuses value r = ¬ (r.reply.refusal ≡ 0)
Refuses listing r = (r.end ≡ 0) ⊎ ((n : ℕ) × (take r.end r.now ≡ refused_line n))

-- the lent buffer is as it was; read and value borrow none
abbrev pub Unwritten : (c : Call) → Takes c → Gives c → Type 0
Unwritten read a r = ⊥
Unwritten write a r = r.now ≡ a.was
Unwritten outputs a r = r.now ≡ a.was
Unwritten question a r = r.now ≡ a.was
Unwritten basis a r = r.now ≡ a.was
Unwritten report a r = r.now ≡ a.was
Unwritten value a r = ⊥
Unwritten listing a r = r.now ≡ a.was

-- l_t and t_l in a report, and the sums of the gaps that its own tables have
abbrev pub resolution_in : Report → ℕ → ℕ
resolution_in r t = get_or r.resolutions (t - 1) 0

abbrev pub dimension_in : Report → ℕ → ℕ
dimension_in r l = get_or r.dimensions (l - 1) 0

abbrev pub resolution_gaps : Machine → Report → ℕ
resolution_gaps M r = total M.size (λ t. most_resolution M t - resolution_in r t)

abbrev pub dimension_gaps : Machine → Report → ℕ
dimension_gaps M r = total M.width (λ l. most_dimension M l - dimension_in r l)

-- output bit i where bit j of output n has the number j·t + n
abbrev pub resolution_first : (M : Machine) → ℕ → ℕ → Bits M.size → Bool
resolution_first M t i s = output_bit M (i % t) (i / t) (bit s)

-- the machine whose y_0 is made after a move, and the one with all r·w bits
abbrev pub moved : Machine → Machine
moved M = record { size = M.size; width = M.width; move = M.move; out = λ s. M.out (M.move s) }

abbrev pub whole : Fields → Machine
whole g = record { size = g.r * g.w; width = (machine g).width; move = (machine g).move; out = (machine g).out }

-- how many states other than zero have the pattern p for their first m output bits
unfoldable pub other_hits : (M : Machine) → ℕ → ℕ → (ℕ → Bool) → ℕ
other_hits M l m p = count {k = M.size} (λ s. not (agree M.size (bit s) (λ _. false)) && agree m (λ i. cell_bit M l i s) p)

-- ---- the table

pub record ShutOut : Type 0 where
  -- "a build that refuses everything"
  pub refuses_everything : (c : Call) → NoBuild c (λ a r. Refuses c r)
  -- "one that says always yes or always no"
  pub always_yes : NoAnswer (λ g t l r. r.yes ≡ true)
  pub always_no : NoAnswer (λ g t l r. r.yes ≡ false)
  -- "one that leaves buffers unwritten"
  pub buffers_unwritten : (c : Call) → NoBuild c (Unwritten c)
  -- "one that runs the first output and repeats it"
  pub first_output_repeated : NoOutputs (λ g t s y. (n : ℕ) → n < t → y n ≡ y 0)
  -- "one that invents resolutions or sums": all of them the best, all of them 0, a sum that is not its own table's
  pub best_resolutions : NoReport (λ g r. (t : ℕ) → 1 ≤ t → t ≤ size g → resolution_in r t ≡ most_resolution (machine g) t)
  pub best_dimensions : NoReport (λ g r. (l : ℕ) → 1 ≤ l → l ≤ g.bits → dimension_in r l ≡ most_dimension (machine g) l)
  pub no_resolutions : NoReport (λ g r. (t : ℕ) → resolution_in r t ≡ 0)
  pub no_dimensions : NoReport (λ g r. (l : ℕ) → dimension_in r l ≡ 0)
  pub another_resolution_sum : NoReport (λ g r. ¬ (r.resolution_sum ≡ resolution_gaps (machine g) r))
  pub another_dimension_sum : NoReport (λ g r. ¬ (r.dimension_sum ≡ dimension_gaps (machine g) r))
  -- "Numbering bits resolution first: verdicts agree, d and the set do not"
  pub resolution_first_apart : NoAnswer (λ g t l r. r.yes ≡ false → Dependent (resolution_first (machine g) t) r.d (bits_of r.set))
  -- "Taking y_0 after a move. With an invertible transition no verdict shows it; with a_k = 0 the verdict can change"
  pub outputs_after_a_move : NoOutputs (λ g t s y. (n : ℕ) → n < t → y n ≡ output (moved (machine g)) n s)
  pub verdicts_after_a_move : NoAnswer (λ g t l r. r.yes ≡ is_yes (moved (machine g)) t l)
  -- "Giving kind 4 the full r·w bits .. with p above 0 bounds can shift"
  pub dead_bits_counted : NoReport (λ g r. g.kind ≡ 4 → r.resolution_sum ≡ resolution_sum (whole g))
  -- "Leaving out the zero state because no user starts there. The counts then cannot be equal"
  pub zero_state_left_out : NoAnswer (λ g t l r. r.yes ≡ true → (p q : Word) → other_hits (machine g) l (t * l) p ≡ other_hits (machine g) l (t * l) q)
  -- "Stopping a report at the first t with a gap: later t may have none"
  pub stopped_at_a_gap : NoReport (λ g r. (t u : ℕ) → 1 ≤ t → t < u → resolution_in r t < most_resolution (machine g) t → resolution_in r u ≡ 0)
