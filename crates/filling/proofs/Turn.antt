-- A turn of `first_dependent`: the row is laid, and then taken.
use Rattle.std.specs.Prelude.{◌≡◌, refl, Bool, true, false, List, ℕ, ◌+◌, ◌*◌, ◌≤◌, ◌<◌, length, get_or, replicate}
use Rattle.std.proofs.Common.{◌∙◌, arith}
use Rattle.std.proofs.Math.Logic.{by_cases}
use Rattle.std.proofs.Math.Decide.{dec_lt}
use Rattle.digits.specs.Def.{bits_of}
use Rattle.kinds.specs.Generator.{Machine}
use Rattle.document.specs.Limits.{row_words}
use Rattle.rows.specs.Theorems.{RowOf}
use Rattle.span.specs.Def.{Eliminated}
use Rattle.span.specs.Leads.{eliminated_start, eliminated_same}
use Rattle.std.proofs.lemmas.List.{get_or-replicate}
use Rattle.span.specs.Theorems as Span
use Rattle.elimination.specs.Words.{Written}
use Rattle.elimination.specs.Rows.{rows_of, slot_of, Taken}
use Rattle.elimination.proofs.RowBits.{others_same}
use Rattle.elimination.proofs.Take.{taken_more, taken_last}
use Rattle.filling.specs.Rows.{stride, state_row, StandsAll, Laid, FirstDependent}
use Rattle.filling.proofs.Laws.{stands_put, stands_kept}

-- ---- `lay_row`

module _ (M : Machine) (l i : ℕ) (ws mid out s : List ℕ) (z : RowOf M l i (bits_of s))
    (x : Written ws (i * stride) row_words (λ k. get_or s k 0) mid) (y : Written mid (i * stride + row_words) row_words (λ k. get_or s k 0) out) where
  pub laid : Laid M l i ws out
  laid = record {
    kept = record {
      long = y.kept.long ∙ x.kept.long;
      below = λ j h. y.kept.below j (omega arith) ∙ x.kept.below j h;
      above = λ j h. y.kept.above j (omega arith) ∙ x.kept.above j (omega arith);
    };
    first = stands_kept M l i mid out (i * stride) (λ k h. y.kept.below _ (omega arith)) (stands_put M l i ws mid s (i * stride) z x);
    second = stands_put M l i mid out s (i * stride + row_words) z y;
  }

-- ---- `first_dependent`

-- the rows below i are taken, and stand as they came in the second halves of their places
pub record Growing (M : Machine) (l i : ℕ) (ws buf slots : List ℕ) : Type 0 where
  pub long : length buf ≡ length ws
  pub raw : StandsAll M l i row_words buf
  pub taken : Eliminated (64 * row_words) (64 * row_words) i i (state_row M l) (rows_of buf stride) (slot_of slots)
  pub behind : (j : ℕ) → i * stride ≤ j → get_or buf j 0 ≡ get_or ws j 0

-- at first no bit leads a row
pub growing_none : (M : Machine) (l : ℕ) (ws : List ℕ) → Growing M l 0 ws ws (replicate (64 * row_words) 0)
growing_none M l ws = record {
  long = refl;
  raw = λ i h. absurd (omega arith);
  taken = eliminated_start (state_row M l) (rows_of ws stride) _ (λ b h. get_or-replicate (64 * row_words) b 0 0 h);
  behind = λ j h. refl;
}

module _ (M : Machine) (l i : ℕ) (ws buf slots : List ℕ) (x : Growing M l i ws buf slots) (mid : List ℕ) (y : Laid M l i buf mid) where
  pub made : Eliminated (64 * row_words) (64 * row_words) i i (state_row M l) (rows_of mid stride) (slot_of slots)
  made = eliminated_same (rows_of mid stride) (omega arith) (λ p h b f. others_same i stride stride y.kept (omega arith) p (omega arith) b (omega arith)) x.taken

  module _ (out slots' : List ℕ) (t : Bool) (z : Taken mid i stride row_words row_words slots out slots' t) where
    raw_more : StandsAll M l (i + 1) row_words out
    raw_more q h = by_cases (dec_lt q i)
        (λ g. stands_kept M l q buf out (q * stride + row_words) (λ k f. z.kept.below _ (omega arith) ∙ y.kept.below _ (omega arith)) (x.raw q g))
        (λ g. let e : q ≡ i = omega arith in rw e (stands_kept M l i mid out (i * stride + row_words) (λ k f. z.kept.above _ (omega arith)) y.second))

    behind_more : (j : ℕ) → (i + 1) * stride ≤ j → get_or out j 0 ≡ get_or ws j 0
    behind_more j h = z.kept.above j (omega arith) ∙ y.kept.above j (omega arith) ∙ x.behind j (omega arith)

    pub growing_more : t ≡ true → Growing M l (i + 1) ws out slots'
    growing_more e = record {
      long = z.kept.long ∙ y.kept.long ∙ x.long;
      raw = raw_more;
      taken = taken_more (state_row M l) (omega arith) (omega arith) made y.first.bits z e;
      behind = behind_more;
    }

    pub growing_last : (n : ℕ) → i < n → t ≡ false → FirstDependent M l n ws i out
    growing_last n h e =
        let w = taken_last (state_row M l) (omega arith) (omega arith) made y.first.bits z e in
        record {
          most = omega arith;
          rows = λ q _ g. (raw_more q (omega arith)).is;
          before = Span.independent w (omega arith) (omega arith);
          at = λ _. Span.dependent w (omega arith) i (omega arith) (z.no e).0;
          long = z.kept.long ∙ y.kept.long ∙ x.long;
          behind = λ j g. behind_more j (omega arith);
        }

pub growing_all : (M : Machine) (l n : ℕ) (ws buf slots : List ℕ) → Growing M l n ws buf slots → FirstDependent M l n ws n buf
growing_all M l n ws buf slots x = record {
  most = omega arith;
  rows = λ q h _. (x.raw q h).is;
  before = Span.independent x.taken (omega arith) (omega arith);
  at = λ h. absurd (omega arith);
  long = x.long;
  behind = x.behind;
}
