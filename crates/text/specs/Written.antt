-- What the writers of the listing promise: which bytes stand where. Assumes nothing.
use Rattle.std.specs.Prelude.{ℕ, ◌+◌, ◌≤◌, ◌≡◌, List, ◌++◌, length, take, drop}
use Rattle.std.proofs.lemmas.List.Edits.{sets}
use Rattle.io.specs.Counts.{IsPrefixLen}
use Rattle.text.specs.declared.Page.{Page}

-- `before` with `text`, of at most `most` bytes, from index `at` on, is `after`, and `r` is the index past the text
pub record Wrote (most : ℕ) (before : List ℕ) (at : ℕ) (text : List ℕ) (r : ℕ) (after : List ℕ) : Type 0 where
  pub is : after ≡ sets before at text
  pub next : r ≡ at + length text
  pub few : length text ≤ most

-- the text, of at most `most` bytes, is the first r bytes of `after`; what stood behind it stands
pub record Line (most : ℕ) (text before : List ℕ) (r : ℕ) (after : List ℕ) : Type 0 where
  pub is : after ≡ text ++ drop r before
  pub long : r ≡ length text
  pub few : length text ≤ most
  pub front : take r after ≡ text
  pub counts : IsPrefixLen r after

-- room for so many bytes more
abbrev pub HasRoom : ℕ → Page → Type 0
HasRoom most p = p.used + most ≤ length p.bytes.now

-- the page has the text, of at most `most` bytes, behind what it had, in the same lent bytes; what stands behind it stands
pub record Adds (most : ℕ) (old : Page) (text : List ℕ) (new : Page) : Type 0 where
  pub wrote : Wrote most old.bytes.now old.used text new.used new.bytes.now
  pub long : length new.bytes.now ≡ length old.bytes.now
  pub lent : new.bytes.ghost_name ≡ old.bytes.ghost_name
