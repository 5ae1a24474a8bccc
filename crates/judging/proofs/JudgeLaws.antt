-- What is decided of the next place: each answer of the code, with what was learnt on the way to it, is the answer for every way in which the text may have
-- been read so far. Assumes nothing.
use Prim.Native.Nat.{ℕ, ◌<◌}
use mathlib.Core.Path.{◌≡◌, refl, sym, ap, ◌∙◌}
use mathlib.Core.Bool.{true, false}
use mathlib.Core.Option.{Option, none, some}
use mathlib.Core.List.{List, [], ◌∷◌, ◌++◌, map}
use native.Mathlib.Omega.{arith}
use native.Mathlib.Decide.{ℕ_discrete}
use lib.ListN.{length, get_or}
use lib.Seq.{slice}
use borrow.Author.Tests.{ne_eqb}
use Rattle.rules.specs.Image.{most_names}
use Rattle.grammar.specs.Tokens.{value_of}
use Rattle.grammar.specs.Places.{Piece, variable, field_word, digits, marked, bad_byte, present, decimal}
use Rattle.grammar.specs.FieldList.{Entry, word_of, position_of}
use Rattle.grammar.specs.Names.{noted, token_of, piece_kind}
use Rattle.grammar.specs.Reads.{Wrong as WrongAt}
use Rattle.grammar.proofs.Numbering.{position-below}
use Rattle.reading.specs.Items.{Item}
use Rattle.reading.specs.Table.{Due, Act, take, pass, refuse, does, feed, Fed, onward, went, stuck}
use Rattle.reading.specs.Progress.{Progress}
use Rattle.reading.proofs.Alike.{refused-whatever, taker-never-passes}
use Rattle.reading.proofs.Large.{large-stuck}
use Rattle.reading.proofs.Steps.{wrong_byte, wrong-order, wrong-field, wrong-number, wrong_name}
use Rattle.letters.specs.Says.{piece_by}
use Rattle.letters.specs.declared.places.Place.{Place}
use Rattle.dues.specs.declared.Dues.{Dues}
use Rattle.dues.specs.declared.Made.{Made}
use Rattle.std.specs.Prelude.{Option as Optional, Some, None, Result, Ok, Err}
use Rattle.dues.specs.Words.{taken, due_word, due_words, made_items, in_words}
use Rattle.dues.specs.Stack.{DueFits, IsDue, Stacked, Standing, passed_items, TakenBy, TakerSays}
use Rattle.dues.proofs.PassLaws.{feed-above}
use Rattle.dues.proofs.StackLaws.{act-takes, taker-word, taker-goes-on}
use Rattle.dues.specs.Words.{NameFits}
use Rattle.fieldlist.specs.declared.names.Span.{Span}
use Rattle.fieldlist.specs.Names.{words}
use Rattle.judging.specs.Worth.{Valid, Fails, no_field, too_large, one-name-more, WorthSays}
use Rattle.letters.specs.Upto.{piece_at}
use Rattle.judging.specs.Judged.{TakenAs, Judges, JudgeSays, Takes-as, DecideSays}
use Rattle.judging.specs.declared.worth.Worth.TheVariants as W
use Rattle.judging.specs.declared.judge.Taken.{Taken}
use Rattle.judging.specs.declared.wrong.Wrong.{Wrong}
use Rattle.judging.specs.declared.wrong.Wrong.TheVariants.{BadByte, NotTaken}
use Rattle.judging.proofs.WorthLaws.{words_long}

-- ---- what a kind says of a piece

piece-name : (k : ℕ) (w : List ℕ) → k ≡ 1 → piece_by k w ≡ variable w
unfolding piece_by
piece-name k w e = rw e

piece-field : (k : ℕ) (w : List ℕ) → k ≡ 2 → piece_by k w ≡ field_word w
unfolding piece_by
piece-field k w e = rw e

piece-number : (k : ℕ) (w : List ℕ) → k ≡ 3 → piece_by k w ≡ digits (decimal w)
unfolding piece_by
piece-number k w e = rw e

piece-bad : (k : ℕ) (w : List ℕ) → k ≡ 29 → piece_by k w ≡ bad_byte (get_or w 0 0)
unfolding piece_by
piece-bad k w e = rw e

piece-mark : (k : ℕ) (w : List ℕ) → (k ≡ 1 → ⊥) → (k ≡ 2 → ⊥) → (k ≡ 3 → ⊥) → (k ≡ 29 → ⊥) → piece_by k w ≡ marked k
unfolding piece_by
piece-mark k w a b c d = rw (ne_eqb k 1 a, ne_eqb k 2 b, ne_eqb k 3 c, ne_eqb k 29 d)

kind-of-piece : (k : ℕ) (w : List ℕ) → (k ≡ 29 → ⊥) → piece_kind (piece_by k w) ≡ some k
unfolding piece_kind
kind-of-piece k w d = first (ℕ_discrete k 1)
  where
    third : Dec (k ≡ 3) → (k ≡ 1 → ⊥) → (k ≡ 2 → ⊥) → piece_kind (piece_by k w) ≡ some k
    third (yes e) a b = rw (piece-number k w e) (ap some (sym e))
    third (no c) a b = rw (piece-mark k w a b c d) refl

    second : Dec (k ≡ 2) → (k ≡ 1 → ⊥) → piece_kind (piece_by k w) ≡ some k
    second (yes e) a = rw (piece-field k w e) (ap some (sym e))
    second (no b) a = third (ℕ_discrete k 3) a b

    first : Dec (k ≡ 1) → piece_kind (piece_by k w) ≡ some k
    first (yes e) = rw (piece-name k w e) (ap some (sym e))
    first (no a) = second (ℕ_discrete k 2) a

-- ---- what a value says of it

number-value : (fields : List Entry) (names : List (List ℕ)) (n k v : ℕ) → Valid fields names (digits n) k v → v ≡ n
unfolding token_of value_of
number-value fields names n k v h = cc

-- a name whose number is that of the next one is new
new-name : (fields : List Entry) (names : List (List ℕ)) (w : List ℕ) (k : ℕ) → Valid fields names (variable w) k (length names)
    → noted names (variable w) ≡ names ++ (w ∷ [])
unfolding token_of value_of noted present
new-name fields names w k h = go (position_of w names) refl
  where
    go : (o : Option ℕ) → position_of w names ≡ o → noted names (variable w) ≡ names ++ (w ∷ [])
    go none e = rw e
    go (some x) e =
        let same : noted names (variable w) ≡ names = rw e in
        let there : token_of (map word_of fields) names (variable w) ≡ some h.token = rw same at h.is in
        let n : x ≡ length names = cc in
        absurd (omega (arith, position-below w names e))

-- ---- at the thing due that takes the token

-- a token that it doesn't take, with its value, is refused
untaken-stuck : (ds : List Due) (k q v : ℕ) (t : TakenBy ds k q) (is : List Item)
    → ((es : List Due) (js : List Item) → does t.taker k v ≡ take es js → ⊥) → feed ds k v is ≡ stuck
unfolding feed
untaken-stuck ds k q v t is never =
    rw t.split (feed-above t.above (t.taker ∷ t.left) k v is t.passes ∙ go _ _ (does t.taker k v) refl)
  where
    go : (js : List Item) (next : List Item → Fed) (a : Act) → does t.taker k v ≡ a → onward a t.left js next ≡ stuck
    go js next (take es ks) e = absurd (never es ks e)
    go js next (pass ks) e = absurd (taker-never-passes t.taker k v t.takes e)
    go js next refuse e = refl

-- one that it takes
taken_as : (fields : List Entry) (names : List (List ℕ)) (ds : List Due) (p : Piece) (k q v w : ℕ) (d : Dues) (m : Optional Made) (t : TakenBy ds k q)
    → w ≡ due_word t.taker → DueFits t.taker → Valid fields names p k v → Takes-as w k v d m → TakenAs fields names ds p k q d m
taken_as fields names ds p k q v w d m t i fits valid h =
    let says : taken (due_words d) (made_items m) ≡ in_words (does t.taker k v) = h.takes t.taker fits i in
    let a = act-takes (does t.taker k v) (due_words d) (made_items m) says in
    let same : taken (due_words d) (made_items m) ≡ taken (map due_word a.0) a.1 = says ∙ ap in_words a.2 in
    record {
      above = t.above;
      taker = t.taker;
      left = t.left;
      split = t.split;
      count = t.count;
      passes = t.passes;
      value = v;
      valid = valid;
      instead = a.0;
      nodes = a.1;
      takes = a.2;
      words = cc;
      items = cc;
    }

-- one that has no value
fails-wrong : {fields : List Entry} {text : List ℕ} {at line : ℕ} {names : List (List ℕ)} {ds : List Due} {is : List Item}
    (g : Progress fields text at line names ds is) {p : Piece} {k j : ℕ} (q : ℕ)
    → TakenBy ds k q → Fails fields names p k j → WrongAt fields g.before g.tokens p j
fails-wrong {ds = ds} {is = is} g q t (no_field {w = w} h) = wrong-field g (field_word w) refl h (taker-goes-on ds 2 q t is)
fails-wrong {ds = ds} {is = is} g q t (too_large {n = n} h) = wrong-number g (digits n) refl (taker-goes-on ds 3 q t is) (large-stuck n h ds is)
fails-wrong {ds = ds} {is = is} g q t (one-name-more {w = w} h l) = wrong_name g (variable w) refl h l (taker-goes-on ds 1 q t is)

-- ---- the answers

module _ {fields : List Entry} {text : List ℕ} {at line : ℕ} {names : List (List ℕ)} {ds : List Due} {is : List Item} (g : Progress fields text at line names ds is) (r : Place) (q : ℕ) (t : TakenBy ds r.kind q) where
  -- only a number's value decides whether it is taken
  untaken-wrong : (v : ℕ) → Valid fields names (piece_at text r) r.kind v
      → ((es : List Due) (js : List Item) → does t.taker r.kind v ≡ take es js → ⊥) → WrongAt fields g.before g.tokens (piece_at text r) 25
  untaken-wrong v valid never = go (ℕ_discrete r.kind 3)
    where
      gone : feed ds r.kind v is ≡ stuck
      gone = untaken-stuck ds r.kind q v t is never

      there : feed ds r.kind 0 is ≡ went (t.instead ++ t.left) ((is ++ passed_items t.above) ++ t.nodes)
      there = taker-goes-on ds r.kind q t is

      go : Dec (r.kind ≡ 3) → WrongAt fields g.before g.tokens (piece_at text r) 25
      go (yes e) =
          let n = decimal (slice r.from r.to text) in
          let i : piece_at text r ≡ digits n = piece-number r.kind (slice r.from r.to text) e in
          let same : v ≡ n = number-value fields names n r.kind v (rw i at valid) in
          wrong-number g (piece_at text r) i
          (rw e at there)
          (rw (e, same) at gone)
      go (no e) =
          let both = sym there ∙ refused-whatever ds r.kind 0 v is is (λ i. absurd (e i)) gone in
          let clash : ◌≡◌ {A = ℕ} 0 1 = cc in
          absurd (omega arith)

  module _ (w : ℕ) (i : w ≡ due_word t.taker) (fits : DueFits t.taker) where
    known-judged : (v : ℕ) (j : Result Taken Wrong) → Valid fields names (piece_at text r) r.kind v → noted names (piece_at text r) ≡ names
        → DecideSays w r.kind v q false j → Judges fields text g.before g.tokens names ds r j
    known-judged v (Err j) valid same (e, never) = rw e (untaken-wrong v valid (never t.taker fits i))
    known-judged v (Ok u) valid same (n, e, h) = rw (n, e) (taken_as fields names ds (piece_at text r) r.kind q v w u.dues u.made t i fits valid h, same)

    new-judged : (j : Result Taken Wrong) → Valid fields names (piece_at text r) r.kind (length names) → r.kind ≡ 1 → length names < most_names
        → DecideSays w r.kind (length names) q true j → Judges fields text g.before g.tokens names ds r j
    new-judged (Err j) valid k room (e, never) = rw e (untaken-wrong (length names) valid (never t.taker fits i))
    new-judged (Ok u) valid k room (n, e, h) =
        let a : piece_at text r ≡ variable (slice r.from r.to text) = piece-name r.kind (slice r.from r.to text) k in
        let more : noted names (piece_at text r) ≡ names ++ (slice r.from r.to text ∷ []) =
        rw a (new-name fields names (slice r.from r.to text) r.kind (rw a at valid)) in
        rw (n, e) (taken_as fields names ds (piece_at text r) r.kind q (length names) w u.dues u.made t i fits valid h, (more, room))

-- ---- what the code learnt, and its answers

-- of what takes the token
abbrev pub Asked : ℕ → List ℕ → ℕ → Optional ℕ → Type 0
Asked depth ws k t = (ds : List Due) → Stacked ds depth ws → TakerSays ds k t

module _ (depth : ℕ) (ws : List ℕ) (k q : ℕ) (t : Optional ℕ) (s : Standing depth ws) (a : Asked depth ws k t) (e : t ≡ Some q) where
  standing-taker : TakenBy s.dues k q
  standing-taker = rw e at (a s.dues s.stacked)

  pub taker-is-due : IsDue (get_or ws q 0)
  taker-is-due =
      let w = taker-word s.dues depth ws k q s.stacked standing-taker in
      record { due = standing-taker.taker; fits = w.1; is = w.0 }

  pub taker-inside : q < length ws
  taker-inside = (taker-word s.dues depth ws k q s.stacked standing-taker).2

pub known-fits : (fields : List Entry) (names : List (List ℕ)) (p : Piece) (k v : ℕ) → WorthSays fields names p k (Ok (W.Known v)) → NameFits k v
known-fits fields names p k v h = h.2

pub new-fits : (fields : List Entry) (text : List ℕ) (names : List Span) (n : ℕ) (p : Piece) (k : ℕ) → WorthSays fields (words text names n) p k (Ok W.New) → NameFits k n
new-fits fields text names n p k h e = rw (words_long text names n) at h.2

module _ (fields : List Entry) (text : List ℕ) (at line : ℕ) (depth : ℕ) (ws : List ℕ) (r : Place) where
  pub judged-bad-byte : (names : List (List ℕ)) → r.kind ≡ 29 → JudgeSays fields text at line names depth ws r (Err BadByte)
  judged-bad-byte names e =
      record {
        says = λ ds is g s. wrong_byte g (piece_at text r) (piece-bad r.kind (slice r.from r.to text) e);
      }

  pub judged-order : (names : List (List ℕ)) (t : Optional ℕ) → (r.kind ≡ 29 → ⊥) → Asked depth ws r.kind t → t ≡ None
      → JudgeSays fields text at line names depth ws r (Err NotTaken)
  judged-order names t d a e =
      record {
        says = λ ds is g s.
            let none-there : TakerSays ds r.kind None = rw e at (a ds s) in
            wrong-order g (piece_at text r)
            (kind-of-piece r.kind (slice r.from r.to text) d) (none-there is);
      }

  module _ (names : List Span) (n q : ℕ) (t : Optional ℕ) (a : Asked depth ws r.kind t) (e : t ≡ Some q) where
    pub judged-worthless : (w : Wrong) → WorthSays fields (words text names n) (piece_at text r) r.kind (Err w)
        → JudgeSays fields text at line (words text names n) depth ws r (Err w)
    judged-worthless w fails = record { says = λ ds is g s. fails-wrong g q (rw e at (a ds s)) fails }

    pub judged-known : (v : ℕ) (j : Result Taken Wrong) → WorthSays fields (words text names n) (piece_at text r) r.kind (Ok (W.Known v))
        → DecideSays (get_or ws q 0) r.kind v q false j
        → JudgeSays fields text at line (words text names n) depth ws r j
    judged-known v j (valid, same, few) h =
        record {
          says = λ ds is g s.
              let b : TakenBy ds r.kind q = rw e at (a ds s) in
              let w = taker-word ds depth ws r.kind q s b in
              known-judged g r q b (get_or ws q 0) w.0 w.1 v j valid same h;
        }

    pub judged-new : (j : Result Taken Wrong) → WorthSays fields (words text names n) (piece_at text r) r.kind (Ok W.New)
        → DecideSays (get_or ws q 0) r.kind n q true j
        → JudgeSays fields text at line (words text names n) depth ws r j
    judged-new j (valid, k, room) h =
        record {
          says = λ ds is g s.
              let b : TakenBy ds r.kind q = rw e at (a ds s) in
              let w = taker-word ds depth ws r.kind q s b in
              new-judged g r q b (get_or ws q 0) w.0 w.1 j valid k room (rw (words_long text names n) h);
        }
