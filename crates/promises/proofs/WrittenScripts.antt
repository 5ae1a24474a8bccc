-- All that we promise of `read`, on one page, in the order and the words of order 1 (document 02, "Written scripts"). `ReadSays` is its contract (the module Says
-- of crates/reader/specs); what is promised holds of whatever satisfies it, and `read` has no `requires`: nothing is asked of the caller. `Reads` and `Refuses`
-- (the module Reads of crates/grammar/specs) say which image a text and a list stand for, and which refusal they get. The proofs are elsewhere. Assumes nothing.
use Prim.Native.Nat.{ℕ, ◌≤◌}
use mathlib.Core.Path.{◌≡◌, sym, ap, subst, ◌∙◌}
use mathlib.Core.Bool.{true}
use mathlib.Core.Logic.{◌↔◌, ◌⊎◌, inl, inr}
use mathlib.Core.List.{List, [], ◌∷◌, map, ◌++◌}
use native.Mathlib.Omega.{arith}
use lib.ListN.{length, drop}
use Rattle.rules.specs.declared.Verdict.TheVariants as Verdict
use Rattle.rules.specs.Syntax.{Cmd, bare_cmd}
use Rattle.rules.specs.Image.{names_of, node_at, cmd_at, most_nodes, most_names, most_fields}
use Rattle.rules.specs.Scope.{Names}
use Rattle.rules.specs.Script.{root_of}
use Rattle.rules.specs.State.{size}
use Rattle.rules.specs.Refusals.{check}
use Rattle.rules.specs.Published.{Increasing, Published, image}
use Rattle.grammar.specs.Classes.{among}
use Rattle.grammar.specs.Tokens.{Tok}
use Rattle.grammar.specs.Places.{Piece, Spot, spot}
use Rattle.grammar.specs.FieldList.{Entry, code_of, Different, Listed}
use Rattle.grammar.specs.Grammar.{Writes, a_command}
use Rattle.grammar.specs.Nodes.{size_cmd, table_cmd}
use Rattle.grammar.specs.Proper.{ProperCmd, Field, Name}
use Rattle.grammar.specs.Names.{names_in}
use Rattle.grammar.specs.Reads.{most_bytes, Right, Wrong, Lent, Reads, Refuses}
use Rattle.reading.specs.Levels as Levels
use Rattle.writing.specs.WriteTokens.{write_cmd, parentheses}
use Rattle.writing.specs.Spell.{VariableName, Each, list_of}
use Rattle.writing.specs.Renumber.{names_written, by_appearance}
use Rattle.writing.specs.Back.{tree_of, codes_of, text_of, image_of, made_up_fields, made_up_names}
use Rattle.std.specs.Prelude.{Result, Ok, Err}
use Rattle.reader.specs.declared.ReadError.{ReadError}
use Rattle.reader.specs.Says.{ReadSays, cleared, words_after}
use Rattle.grammar.proofs.TableRight.{Judged, is-accepted, is-undeclared}
use Rattle.grammar.proofs.ReadChecks as ReadChecks
use Rattle.grammar.proofs.RefusalNumbers as RefusalNumbers
use Rattle.grammar.proofs.Answers.{refused-one, right-or-wrong}
use Rattle.reading.proofs.Answered.{Answer, an-image, a-refusal, answered, one-image, image-or-refusal}
use Rattle.reading.proofs.OneReading.{one-tree}
use Rattle.reading.proofs.SameTexts as SameTexts
use Rattle.writing.proofs.Fewest as Fewest
use Rattle.writing.proofs.ReadsBack as ReadsBack
use Rattle.writing.proofs.ImageBack as ImageBack
use Rattle.writing.proofs.ReadAgain as ReadAgain

-- ======== one answer, always

-- whatever is lent: an image or a refusal
pub an-answer : (out work : ℕ) (list text : List ℕ)
    → ((img : List ℕ) × Reads out work list text img) ⊎ ((k : ℕ) × (l : ℕ) × Refuses out work list text k l)
an-answer out work list text = go (answered out work list text)
  where
    go : Answer out work list text → ((img : List ℕ) × Reads out work list text img) ⊎ ((k : ℕ) × (l : ℕ) × Refuses out work list text k l)
    go (an-image {img} r) = inl (img, r)
    go (a-refusal {k} {l} r) = inr (k, l, r)

same-error : (e f : ReadError) → e.number ≡ f.number → e.line ≡ f.line → e ≡ f
same-error e f same line = ap (λ (k : ℕ). record { number = k; line = e.line }) same ∙ ap (λ (l : ℕ). record { number = f.number; line = l }) line

-- two results that satisfy the contract are equal: the answer, every lent word and every byte of the output
pub read-decides : (list text ws out : List ℕ) (r q : Result ℕ ReadError) (us vs outr outq : List ℕ)
    → ReadSays list text r ws out us outr → ReadSays list text q ws out vs outq → (r ≡ q) × (us ≡ vs) × (outr ≡ outq)
read-decides list text ws out (Ok n) (Ok m) us vs outr outq a b =
    let i : a.img ≡ b.img = one-image a.reads b.reads in
    let e : n ≡ m = a.long ∙ ap length i ∙ sym b.long in
    (ap Ok e, a.words ∙ sym b.words, a.output ∙ rw (i, e) (sym b.output))
read-decides list text ws out (Ok n) (Err f) us vs outr outq a b = absurd (image-or-refusal a.reads b.refuses)
read-decides list text ws out (Err e) (Ok m) us vs outr outq a b = absurd (image-or-refusal b.reads a.refuses)
read-decides list text ws out (Err e) (Err f) us vs outr outq a b =
    let one = refused-one a.refuses b.refuses in
    let same : e.number ≡ f.number = one.0 in
    let line : e.line ≡ f.line = one.1 in
    (ap Err (same-error e f same line), a.words ∙ rw same (sym b.words), a.output ∙ sym b.output)

-- ======== what is accepted, what is refused

-- the contract, told by what the text and the list are
pub record Image-is (list text ws out : List ℕ) (r : Result ℕ ReadError) (ws' out' img : List ℕ) : Type 0 where
  pub answer : r ≡ Ok (length img)
  pub output : out' ≡ img ++ drop (length img) out
  pub words : ws' ≡ cleared text ws

pub record Refusal-is (list text ws out : List ℕ) (r : Result ℕ ReadError) (ws' out' : List ℕ) (k l : ℕ) : Type 0 where
  pub answer : r ≡ Err (record { number = k; line = l })
  pub output : out' ≡ out
  pub words : ws' ≡ words_after k text ws

module _ (list text ws out ws' out' : List ℕ) where
  -- "Exactly that grammar's texts are accepted": an image that a text and a list stand for is the answer, its bytes are written, and no other
  pub image-if : (r : Result ℕ ReadError) → ReadSays list text r ws out ws' out'
      → (img : List ℕ) → Reads (length out) (length ws) list text img → Image-is list text ws out r ws' out' img
  image-if (Ok n) a img h =
      let i : a.img ≡ img = one-image a.reads h in
      let e : n ≡ length img = a.long ∙ ap length i in
      record { answer = ap Ok e; output = a.output ∙ rw (i, e); words = a.words }
  image-if (Err e) a img h = absurd (image-or-refusal h a.refuses)

  -- .. and no other is
  pub image-only : (r : Result ℕ ReadError) → ReadSays list text r ws out ws' out'
      → (n : ℕ) → r ≡ Ok n → (img : List ℕ) × Reads (length out) (length ws) list text img × (n ≡ length img)
  image-only r a n e =
      let b = subst (λ q. ReadSays list text q ws out ws' out') e a in
      (b.img, b.reads, b.long)

  -- "Refusals": the number and the line, exactly where its sentence holds; "A refusal writes nothing"
  pub refusal-if : (r : Result ℕ ReadError) → ReadSays list text r ws out ws' out'
      → (k l : ℕ) → Refuses (length out) (length ws) list text k l → Refusal-is list text ws out r ws' out' k l
  refusal-if (Ok n) a k l h = absurd (image-or-refusal a.reads h)
  refusal-if (Err e) a k l h =
      let one = refused-one a.refuses h in
      let same : e.number ≡ k = one.0 in
      let line : e.line ≡ l = one.1 in
      record { answer = ap Err (same-error e (record { number = k; line = l }) same line); output = a.output; words = rw same at a.words }

  pub refusal-only : (r : Result ℕ ReadError) → ReadSays list text r ws out ws' out'
      → (k l : ℕ) → r ≡ Err (record { number = k; line = l }) → Refuses (length out) (length ws) list text k l
  refusal-only r a k l e =
      let b = subst (λ q. ReadSays list text q ws out ws' out') e a in
      b.refuses

-- "at the first place": no beginning that is right reaches past a place that is wrong
pub first-place : {fields : List Entry} (before : List Spot) (l : ℕ) {k : ℕ} {p : Piece} (after : List Spot) {us ts : List Tok}
    → Right fields before us → Wrong fields before us p k → Right fields (before ++ (spot l p ∷ after)) ts → ⊥
first-place = right-or-wrong

-- the numbers: 20, 21, 27 and 28 give line 0, which is no line; 22 to 26 the line of a place, from 1 on
pub nine-refusals : {out work : ℕ} {list text : List ℕ} {k l : ℕ} → Refuses out work list text k l
    → ((among k (20 ∷ 21 ∷ 27 ∷ 28 ∷ []) ≡ true) × (l ≡ 0)) ⊎ ((22 ≤ k) × (k ≤ 26) × (1 ≤ l))
nine-refusals = RefusalNumbers.refused-numbers

-- an output of 16,426 bytes is enough for every image
pub few_bytes : {out work : ℕ} {list text img : List ℕ} → Reads out work list text img → length img ≤ most_bytes
few_bytes r = ReadChecks.few_bytes r

-- ======== "the image's tree being the only reading"

-- tokens are a way to write one command at the most
pub one-reading : (c d : Cmd) (ts : List Tok) → Writes (a_command c) ts → Writes (a_command d) ts → c ≡ d
one-reading c d ts v w = one-tree v w

module _ {out work : ℕ} {list text img : List ℕ} (r : Reads out work list text img) where
  -- the tree that is read in the image, numbers wiped, is the one that the text writes
  pub image's-tree : bare_cmd (cmd_at (node_at img) (root_of img)) ≡ r.read.tree
  image's-tree = ReadChecks.read-tree r

  -- "scoping is left to the check": with workspace enough it accepts the image, or refuses it with 9, never else
  pub refused-with-9-alone : (visible : Names) (words : ℕ) → size ≤ words → (k p : ℕ) → check visible words img ≡ Verdict.Refused k p → k ≡ 9
  refused-with-9-alone visible words enough k p e = go (ReadChecks.read-checks r visible words enough)
    where
      go : Judged visible words img → k ≡ 9
      go (is-accepted a) = let clash : ◌≡◌ {A = ℕ} 0 1 = cc in absurd (omega arith)
      go (is-undeclared q u) = cc

-- the grammar by levels, which the table of the reader follows, writes the same texts as the paper's rules with the order's conditions
pub same-texts : (c : Cmd) (ts : List Tok) → Writes (a_command c) ts ↔ Levels.Written (Levels.a_command c) ts
same-texts c ts = (λ w. SameTexts.levels-write w, λ w. SameTexts.rules-write w)

-- ======== reading back

-- every tree within the limits has a text, whose reading is that tree, its names renumbered by first appearance: one with names and fields that are made up
pub every-tree-has-a-text : (codes : List ℕ) (N : ℕ) → length codes ≤ most_fields → Increasing 0 codes → (out work : ℕ)
    → (c : Cmd) → ProperCmd (Field (length codes)) (Name N) c → size_cmd c ≤ most_nodes → length (names_written c) ≤ most_names
    → Lent out work (text_of (made_up_fields codes) (made_up_names N) c)
    → Reads out work (list_of (made_up_fields codes)) (text_of (made_up_fields codes) (made_up_names N) c) (image codes (table_cmd 0 (by_appearance c)) (length (names_written c)))
every-tree-has-a-text = ReadsBack.some-text

-- an image that keeps the published layout, with a list of its codes and any different names: its text is read as the image with its nodes children first, its names
-- by first appearance and N the names that appear
pub image-back : {visible : Names} (img : List ℕ) → Published visible img → {list : List ℕ} {fields : List Entry} (names : List (List ℕ)) (out work : ℕ)
    → Listed list fields → map code_of fields ≡ codes_of img → Each VariableName names → Different names → names_of img ≤ length names
    → Lent out work (text_of fields names (tree_of img))
    → Reads out work list (text_of fields names (tree_of img)) (image_of fields (tree_of img))
image-back = ImageBack.published-back

-- what a text is read as, written with any different names, is read as the same image
pub read-write-read : {out work : ℕ} {list text img : List ℕ} (r : Reads out work list text img) (names : List (List ℕ))
    → Each VariableName names → Different names → length names ≡ length (names_in r.read.places)
    → (more lent : ℕ) → Lent more lent (text_of r.fields names r.read.tree) → Reads more lent list (text_of r.fields names r.read.tree) img
read-write-read = ReadAgain.read-write-read

-- no text of a tree has fewer parentheses
pub fewest-parentheses : {c : Cmd} {ts : List Tok} → Writes (a_command c) ts → parentheses (write_cmd c) ≤ parentheses ts
fewest-parentheses = Fewest.fewest-parentheses
