-- What is decided of the next place before anything is written: what is wrong with it; or what takes it, and what is due and comes out then. Assumes nothing.
use Rattle.std.specs.Prelude.{ℕ, ◌<◌, ◌≡◌, Bool, true, false, List, [], ◌∷◌, ◌++◌, map, length, Option, Result, Ok, Err}
use Rattle.std.proofs.Math.Seq.{slice}
use Rattle.rules.specs.Image.{most_names}
use Rattle.grammar.specs.Tokens.{Tok}
use Rattle.grammar.specs.Places.{Piece, Spot}
use Rattle.grammar.specs.FieldList.{Entry}
use Rattle.grammar.specs.Names.{noted}
use Rattle.grammar.specs.Reads.{Wrong as WrongAt}
use Rattle.reading.specs.Items.{Item}
use Rattle.reading.specs.Progress.{Progress}
use Rattle.reading.specs.Table.{Due, take, does}
use Rattle.letters.specs.declared.places.Place.{Place}
use Rattle.dues.specs.declared.Dues.{Dues}
use Rattle.dues.specs.declared.Made.{Made}
use Rattle.dues.specs.Words.{taken, due_word, due_words, made_items, in_words}
use Rattle.dues.specs.Stack.{DueFits, Stacked, PassesAll}
use Rattle.letters.specs.Upto.{piece_at}
use Rattle.judging.specs.Worth.{Valid}
use Rattle.judging.specs.Wrong.{wrong_no}
use Rattle.judging.specs.declared.judge.Taken.{Taken}
use Rattle.judging.specs.declared.wrong.Wrong.{Wrong}
use Rattle.judging.specs.declared.wrong.Wrong.TheVariants.{TooLarge}

-- the token is taken by the thing due below which q others stand; its value is v
pub record TakenAs (fields : List Entry) (names : List (List ℕ)) (ds : List Due) (p : Piece) (k q : ℕ) (dues : Dues) (made : Option Made) : Type 0 where
  pub above : List Due
  pub taker : Due
  pub left : List Due
  pub split : ds ≡ above ++ (taker ∷ left)
  pub count : length left ≡ q
  pub passes : PassesAll above k
  pub value : ℕ
  pub valid : Valid fields names p k value
  pub instead : List Due
  pub nodes : List Item
  pub takes : does taker k value ≡ take instead nodes
  pub words : due_words dues ≡ map due_word instead
  pub items : made_items made ≡ nodes

-- a name that is new stands behind the others, of which there are fewer than there may be
abbrev pub Noted : List (List ℕ) → Piece → List ℕ → Bool → Type 0
Noted names p w false = noted names p ≡ names
Noted names p w true = (noted names p ≡ names ++ (w ∷ [])) × (length names < most_names)

-- what takes it; or what is wrong there behind these places and tokens, by its number 22 to 26
abbrev pub Judges : List Entry → List ℕ → List Spot → List Tok → List (List ℕ) → List Due → Place → Result Taken Wrong → Type 0
Judges fields text before us names ds r (Ok t) =
    TakenAs fields names ds (piece_at text r) r.kind t.at t.dues t.made × Noted names (piece_at text r) (slice r.from r.to text) t.new
Judges fields text before us names ds r (Err w) = WrongAt fields before us (piece_at text r) (wrong_no w)

-- however the text was read so far
pub record JudgeSays (fields : List Entry) (text : List ℕ) (at line : ℕ) (names : List (List ℕ)) (depth : ℕ) (ws : List ℕ) (r : Place) (j : Result Taken Wrong) : Type 0 where
  pub says : (ds : List Due) (is : List Item) (g : Progress fields text at line names ds is)
      → Stacked ds depth ws
      → Judges fields text g.before g.tokens names ds r j

-- ---- a token whose value is known, at the thing due of a word

pub record Takes-as (w k v : ℕ) (dues : Dues) (made : Option Made) : Type 0 where
  pub takes : (d : Due) → DueFits d → w ≡ due_word d → taken (due_words dues) (made_items made) ≡ in_words (does d k v)

abbrev pub DecideSays : ℕ → ℕ → ℕ → ℕ → Bool → Result Taken Wrong → Type 0
DecideSays w k v q new (Ok t) = (t.new ≡ new) × (t.at ≡ q) × Takes-as w k v t.dues t.made
DecideSays w k v q new (Err j) = (j ≡ TooLarge) × ((d : Due) → DueFits d → w ≡ due_word d → (es : List Due) (js : List Item) → does d k v ≡ take es js → ⊥)
