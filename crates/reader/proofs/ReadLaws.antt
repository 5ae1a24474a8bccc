-- The answer of the reader: from what a text gives, with a list that is right, to the image's bytes or the refusal. Assumes nothing.
use Prim.Native.Nat.{ℕ, suc, ◌+◌, ◌*◌, ◌-◌, ◌/◌, ◌%◌, ◌<◌, ◌≤◌}
use mathlib.Core.Path.{◌≡◌, refl, sym, ap, subst, ◌∙◌}
use mathlib.Core.Bool.{Bool, true, false}
use mathlib.Core.List.{List, [], ◌∷◌, ◌++◌, map}
use native.Mathlib.Omega.{arith}
use lib.ListN.{length, get_or, take, drop, set, replicate, length-map}
use lib.Dec.{ltb}
use borrow.Author.Tests.{lt-ltb, le-ltb, ltb-true, ltb-false}
use Rattle.laws.specs.UpTo.{length-up_to}
use Rattle.rules.specs.Published.{image}
use Rattle.grammar.specs.Classes.{among}
use Rattle.grammar.specs.FieldList.{Entry, code_of}
use Rattle.grammar.specs.Reads.{RefusedText, at-a-place, early-end, too-many-nodes, bad-byte, bad-order, unknown-field, outside-32-bits, too-many-names, most_bytes, words_for, Lent, short-output, short-work, bad-list, bad-text}
use Rattle.reading.specs.Links.{nodes_in, link}
use Rattle.fieldlist.specs.declared.FieldRows.{FieldRows}
use Rattle.fieldlist.specs.declared.BadRow.{BadRow}
use Rattle.fieldlist.specs.Answer.{entries_of, RightRows, Says, Answers}
use Rattle.tables.specs.Tabled.{Tabled}
use Rattle.std.specs.Prelude.{Result, Ok, Err}
use Rattle.reader.specs.declared.ReadError.{ReadError}
use Rattle.reader.specs.declared.text.Reading.{Reading}
use Rattle.building.specs.Finish.{Out}
use Rattle.reader.specs.Under.{Lasting}
use Rattle.reader.specs.Steps.{Begins}
use Rattle.reader.specs.Says.{Tells, TextSays, cleared, Handed, Withheld, Listens, early, words_after, Denies, ReadSays}
use Rattle.reader.proofs.CodeLaws.{narrow-codes}

-- ---- lengths

-- the test, told
pub few-lent : (w b : ℕ) (r : Bool) → r ≡ ltb w (words_for b) → r ≡ true → w < words_for b
few-lent w b r e t = ltb-true w (words_for b) (sym e ∙ t)

pub enough-lent : (w b : ℕ) (r : Bool) → r ≡ ltb w (words_for b) → r ≡ false → words_for b ≤ w
enough-lent w b r e t = ltb-false w (words_for b) (sym e ∙ t)

-- ---- the words

pub first-there : (ws : List ℕ) (v : ℕ) → 0 < length ws → get_or (set ws 0 v) 0 0 ≡ v
first-there [] v h = absurd (omega arith)
first-there (w ∷ ws) v h = refl

-- a word that is stored first is past nothing
past_first : (ws : List ℕ) (n v : ℕ) → drop (suc n) (set ws 0 v) ≡ drop (suc n) ws
past_first [] n v = refl
past_first (w ∷ ws) n v = refl

pub first-kept : (text ws : List ℕ) (v : ℕ) → drop (words_for (length text)) (set ws 0 v) ≡ drop (words_for (length text)) ws
first-kept text ws v =
    let n : words_for (length text) ≡ suc (3 * length text + 3) = omega arith in
    subst (λ (i : ℕ). drop i (set ws 0 v) ≡ drop i ws) (sym n) (past_first ws (3 * length text + 3) v)

pub clears : (text ws ws₁ ws₂ ws' : List ℕ)
    → drop (words_for (length text)) ws₁ ≡ drop (words_for (length text)) ws
    → Lasting text ws₁ ws₂
    → ws' ≡ replicate (words_for (length text)) 0 ++ drop (words_for (length text)) ws₂
    → ws' ≡ cleared text ws
clears text ws ws₁ ws₂ ws' e l c = c ∙ ap (λ (us : List ℕ). replicate (words_for (length text)) 0 ++ us) (l.past ∙ e)

-- ---- a list that is right

-- what the reading tells, of the text and the list that it began with
pub told-of : {list text : List ℕ} {rows : FieldRows} {ws ws₁ ws₂ : List ℕ} {s t : Reading} {r : Result Unit ReadError}
    → Begins text list rows ws ws₁ s → TextSays s t ws₁ ws₂ r → Tells list text rows (10 + 2 * rows.count) ws₁ r t ws₂
told-of {list} {text} {rows} {ws} {ws₁} {ws₂} {s} {t} {r} b k =
    subst (λ (n : ℕ). Tells list text rows n ws₁ r t ws₂) b.start
    (subst (λ (q : FieldRows). Tells list text q s.nodes.start ws₁ r t ws₂) b.its-rows
    (subst (λ (x : List ℕ). Tells list x s.rows.now s.nodes.start ws₁ r t ws₂) b.its-text
    (subst (λ (x : List ℕ). Tells x s.text.now s.rows.now s.nodes.start ws₁ r t ws₂) b.its-list k.tells)))

entries-long : (list : List ℕ) (rows : FieldRows) → length (entries_of list rows) ≡ rows.count
unfolding entries_of
entries-long list rows = length-up_to _ rows.count

module _
    (list text : List ℕ) (rows : FieldRows) (right : RightRows list rows) (start : ℕ) (ws ws₁ ws₂ ws' out : List ℕ) (t : Reading)
    (past : drop (words_for (length text)) ws₁ ≡ drop (words_for (length text)) ws)
    (c : ws' ≡ replicate (words_for (length text)) 0 ++ drop (words_for (length text)) ws₂)
  where
    pub handed : (n : ℕ) (codes out' : List ℕ) (u : Unit {0})
        → Tells list text rows start ws₁ (Ok u) t ws₂
        → start ≡ 10 + 2 * rows.count
        → codes ≡ take rows.count (map (λ c. c % 65536) rows.codes)
        → Out t.nodes.count t.names n codes t.nodes.image out out'
        → Handed list text rows n ws out ws' out'
    handed n codes out' u h b d o =
        let s = h.finds in
        let k : codes ≡ map code_of (entries_of list rows) = d ∙ narrow-codes list rows right in
        let many : length codes ≡ rows.count = ap length k ∙ length-map (entries_of list rows) code_of ∙ entries-long list rows in
        let behind : start ≡ 10 + 2 * length codes = b ∙ ap (λ (j : ℕ). 10 + 2 * j) (sym many) in
        let shown = o.shows s.items t.nodes.firsts (subst (λ (j : ℕ). Tabled s.items j t.nodes.image t.nodes.firsts) behind s.tabled) (sym s.counted) in
        record {
          img = image (map code_of (entries_of list rows)) (nodes_in (link s.items)) t.names;
          read = s.read;
          long = sym shown.long ∙ ap (λ (cs : List ℕ). length (image cs (nodes_in (link s.items)) t.names)) k;
          output = shown.is ∙ ap (λ (cs : List ℕ). image cs (nodes_in (link s.items)) t.names ++ drop n out) k;
          words = clears text ws ws₁ ws₂ ws' past h.lasting c;
        }

-- ---- the whole answer

-- a text's refusal has a number of its own
late : {fields : List Entry} {text : List ℕ} {k l : ℕ} → RefusedText fields text k l → among k early ≡ false
unfolding early among
late (at-a-place after s r bad-byte) = refl
late (at-a-place after s r (bad-order e h)) = refl
late (at-a-place after s r (unknown-field g e)) = refl
late (at-a-place after s r (outside-32-bits g h)) = refl
late (at-a-place after s r (too-many-names g e h)) = refl
late (early-end s r h) = refl
late (too-many-nodes s v t h) = refl

pub says-listed : (list text : List ℕ) (rows : FieldRows) (r : Result ℕ ReadError) (ws out ws' out' : List ℕ)
    → RightRows list rows
    → Lent (length out) (length ws) text
    → Listens list text rows r ws out ws' out'
    → ReadSays list text r ws out ws' out'
unfolding words_after
says-listed list text rows (Ok n) ws out ws' out' right lent h =
    record {
      img = h.img;
      reads = record { lent = lent; fields = entries_of list rows; listed = right.listed; read = h.read };
      long = h.long;
      output = h.output;
      words = h.words;
    }
says-listed list text rows (Err e) ws out ws' out' right lent h =
    record {
      refuses = bad-text lent right.listed h.refused;
      output = h.output;
      words = rw (late h.refused) h.words;
    }

pub says-20 : (list text ws out : List ℕ) → length out < most_bytes → Denies list text 20 0 ws out ws out
unfolding words_after early among
says-20 list text ws out h = record { refuses = short-output h; output = refl; words = refl }

pub says-28 : (list text ws out : List ℕ) → most_bytes ≤ length out → length ws < words_for (length text) → Denies list text 28 0 ws out ws out
unfolding words_after early among
says-28 list text ws out h l = record { refuses = short-work h l; output = refl; words = refl }

pub says-21 : (list text ws out : List ℕ) (r : Result FieldRows BadRow) (b : BadRow) → Lent (length out) (length ws) text → Answers list r → r ≡ Err b → Denies list text 21 0 ws out ws out
unfolding words_after early among
says-21 list text ws out r b l a h = record { refuses = bad-list l (subst (Says list) h a.says).1; output = refl; words = refl }
