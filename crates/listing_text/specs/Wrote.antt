-- Text written at a place of a list of bytes.
use Rattle.std.specs.Prelude.{◌≡◌, List, ◌++◌, ℕ, ◌+◌, ◌≤◌, length, take, drop}
use Rattle.listing_text.specs.declared.page.Page.{Page}

-- `now` is `was` with `text`, of at most `most` bytes, from `at` to `end`
pub record Wrote (most : ℕ) (was : List ℕ) (at : ℕ) (text now : List ℕ) (end : ℕ) : Type 0 where
  pub few : length text ≤ most
  pub stop : end ≡ at + length text
  pub inside : end ≤ length was
  pub long : length now ≡ length was
  pub all : now ≡ take at was ++ (text ++ drop end was)

-- a page of the same buffer, with `text` behind what it had
pub record Added (most : ℕ) (was : Page) (text : List ℕ) (now : Page) : Type 0 where
  pub same : now.out.ghost_name ≡ was.out.ghost_name
  pub wrote : Wrote most was.out.now was.end text now.out.now now.end
