-- What the code says of the two files: which bytes stand where, on the page that is to be printed and in the image's buffer. Assumes nothing.
use Rattle.std.specs.Prelude.{ℕ, ◌<◌, ◌≤◌, ◌≡◌, Option as Answered, None, Some, List, ◌++◌, length, drop}
use Rattle.std.proofs.Math.Option.{Option, none, some}
use Rattle.grammar.specs.Reads.{Refuses}
use Rattle.io.specs.Counts.{IsPrefixLen}
use Rattle.text.specs.declared.Page.{Page}
use Rattle.text.specs.Written.{Adds}
use Rattle.reader.specs.declared.why.Why.{Why}
use Rattle.encoder.specs.Encodes.{lent_bytes, lent_words, Encodes}

-- the longest of what is printed: a name of `most_name` bytes in its line; a refusal has at most 512
abbrev pub most_printed : ℕ
most_printed = 4608

-- the image's bytes and no other
abbrev pub ImageIs : Option (List ℕ) → Answered ℕ → List ℕ → List ℕ → Type 0
ImageIs none n before after = (n ≡ None) × (after ≡ before)
ImageIs (some img) n before after = (n ≡ Some (length img)) × (after ≡ img ++ drop (length img) before)

-- what was read of the files is not known here; the first bytes of the buffer are to be written
abbrev pub ImageFits : Answered ℕ → List ℕ → Type 0
ImageFits None img = Unit {0}
ImageFits (Some n) img = IsPrefixLen n img

pub record AnswerSays (name : List ℕ) (text list : Option (List ℕ)) (r : Answered ℕ) (img : List ℕ) (old : Page) (img' : List ℕ) (new : Page) : Type 0 where
  pub lines : List ℕ
  pub image : Option (List ℕ)
  pub encodes : Encodes name text list lines image
  pub printed : Adds most_printed old lines new
  pub is : ImageIs image r img img'
  pub fits : ImageFits r img'

-- ---- what the functions below it say

-- what the second line of a refusal asks of the place
pub record Shows (text : List ℕ) (w : Why) : Type 0 where
  pub least : 22 ≤ w.why
  pub most : w.why ≤ 27
  pub forward : w.from ≤ w.to
  pub within : w.to ≤ length text
  pub filled : (w.kind ≡ 0 → ⊥) → w.from < w.to
  pub flags : 29 ≡ length w.could

-- the reader refuses the list or the text
pub record IsRefused (list text : List ℕ) : Type 0 where
  pub number : ℕ
  pub line : ℕ
  pub refuses : Refuses lent_bytes lent_words list text number line

-- the lines of a refusal, whatever name the image were to have
pub record RefusalSays (text list : List ℕ) (old new : Page) : Type 0 where
  pub lines : List ℕ
  pub encodes : (name : List ℕ) → Encodes name (some text) (some list) lines none
  pub printed : Adds 512 old lines new
