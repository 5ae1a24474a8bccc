-- From what the reader answers to what is printed, one law for each way. Assumes nothing.
use Prim.Native.Nat.{ℕ, zero, suc, ◌+◌, ◌-◌, ◌<◌, ◌≤◌}
use mathlib.Core.Path.{◌≡◌, refl, sym, ap, subst, ◌∙◌}
use mathlib.Core.Option.{Option, none, some}
use mathlib.Core.List.{List, [], ◌∷◌, ◌++◌}
use native.Mathlib.Omega.{arith}
use lib.ListN.{length, take, drop, length-append}
use lib.Seq.{slice, length-slice, take_at}
use Rattle.grammar.specs.Reads.{Reads, RefusedText, Refuses, short-output, short-work, bad-list, bad-text}
use Rattle.reading.proofs.Answered.{image-or-refusal}
use Rattle.fieldlist.specs.Answer.{entries_of, RightRows, Says, Answers}
use Rattle.fieldlist.specs.Fault.{fault_no}
use Rattle.fieldlist.specs.Judged.{wrong, judged}
use Rattle.grammar.specs.FieldList.{Entry, Listed}
use Rattle.fieldlist.specs.declared.BadRow.{BadRow}
use Rattle.fieldlist.specs.declared.FieldRows.{FieldRows}
use Rattle.std.specs.Prelude.{Option as Answered, None, Some, Result, Ok, Err}
use Rattle.std.proofs.Common.{Bor}
use Rattle.reader.specs.declared.ReadError.{ReadError}
use Rattle.reader.specs.declared.why.Why.{Why}
use Rattle.reader.specs.Says.{Accepts, Denies, ReadSays}
use Rattle.reader.specs.Why.{There, WhySays}
use Rattle.reader.specs.Why.{Answers as WhyAnswers}
use Rattle.io.specs.Counts.{IsPrefixLen}
use Rattle.text.specs.declared.Page.{Page}
use Rattle.text.specs.Written.{Adds}
use Rattle.text.proofs.WroteLaws.{both-adds, adds_as}
use Rattle.wording.specs.Lines.{no_input, text_too_long, list_too_long, image_line, refused_line, row_line, second_line}
use Rattle.filing.specs.Given.{given}
use Rattle.filing.specs.Names.{most_name}
use Rattle.encoder.specs.Encodes as E
use Rattle.encoder.specs.Encodes.{most_text, most_list, Short, lent_bytes, lent_words, bad_list_lines, bad_text_lines, Encodes}
use Rattle.encoder.specs.Says.{most_printed, AnswerSays, Shows, IsRefused, RefusalSays}
use Rattle.encoder.proofs.FaultLaws.{refused-between}

-- ---- the two lines of a refusal

take_none : (n : ℕ) → take {A = ℕ} n [] ≡ []
take_none zero = refl
take_none (suc n) = refl

-- a part of a text by its length, and by its end
pub part-is : (f t : ℕ) (s : List ℕ) → take (t - f) (drop f s) ≡ slice f t s
part-is zero t s = let e : t - 0 ≡ t = omega arith in ap (λ (n : ℕ). take n s) e
part-is (suc f) zero [] = take_none (0 - suc f)
part-is (suc f) zero (b ∷ s) = let e : 0 - suc f ≡ 0 = omega arith in ap (λ (n : ℕ). take n (drop f s)) e
part-is (suc f) (suc t) [] = take_none (suc t - suc f)
part-is (suc f) (suc t) (b ∷ s) = let e : suc t - suc f ≡ t - f = omega arith in ap (λ (n : ℕ). take n (drop f s)) e ∙ part-is f t s

pub bad-list-wrote : (row why : ℕ) (d e o : Page) → Adds 64 d (refused_line 21 0) e → Adds 64 e (row_line row why) o
    → Adds 512 d (bad_list_lines row why) o
unfolding bad_list_lines
bad-list-wrote row why d e o v w =
    adds_as 128 512 d o (bad_list_lines row why) (bad_list_lines row why) (both-adds 64 64 d e o (refused_line 21 0) (row_line row why) v w) refl (omega arith)

pub bad-text-wrote : (text : List ℕ) (w : Why) (d e o : Page) → Adds 64 d (refused_line w.why w.line) e
    → Adds 385 e (second_line w.why w.kind (take (w.to - w.from) (drop w.from text)) w.could) o
    → Adds 512 d (bad_text_lines text w) o
unfolding bad_text_lines
bad-text-wrote text w d e o v x =
    let part = part-is w.from w.to text in
    let y : Adds 385 e (second_line w.why w.kind (slice w.from w.to text) w.could) o = rw part at x in
    adds_as 449 512 d o (bad_text_lines text w) (bad_text_lines text w)
    (both-adds 64 385 d e o (refused_line w.why w.line) (second_line w.why w.kind (slice w.from w.to text) w.could) v y) refl (omega arith)

-- what is asked of a place to show it
pub part_filled : (text : List ℕ) (w : Why) → Shows text w → (w.kind ≡ 0 → ⊥) → 0 < length (take (w.to - w.from) (drop w.from text))
part_filled text w s n =
    let f = s.filled n in
    let within = s.within in
    let e : length (take (w.to - w.from) (drop w.from text)) ≡ w.to - w.from = ap length (part-is w.from w.to text) ∙ length-slice w.from w.to text within in
    omega arith

-- ---- a refusal

-- the bytes and the words that are lent are enough, so it is the list or the text
pub lent-enough : {o w k l : ℕ} {list text : List ℕ} → lent_bytes ≤ o → lent_words ≤ w → length text ≤ most_text → Refuses o w list text k l → IsRefused list text
lent-enough a b h (short-output s) = absurd (omega arith)
lent-enough a b h (short-work g s) = absurd (omega arith)
lent-enough a b h (bad-list g n) = record { number = 21; line = 0; refuses = bad-list (omega arith, omega arith) n }
lent-enough a b h (bad-text {k = k} {l = l} g n t) = record { number = k; line = l; refuses = bad-text (omega arith, omega arith) n t }

pub refusal-list : (text list : List ℕ) (r : Result FieldRows BadRow) (b : BadRow) (d o : Page) → Short text list → Answers list r → r ≡ Err b
    → Adds 512 d (bad_list_lines b.row (fault_no b.fault)) o → RefusalSays text list d o
refusal-list text list r b d o short a e w =
    let says : (judged list ≡ wrong b.row (fault_no b.fault)) × ((fs : List Entry) → Listed list fs → ⊥) = subst (Says list) e a.says in
    record { lines = bad_list_lines b.row (fault_no b.fault); encodes = λ name. E.bad-list short says.0; printed = w }

pub right-rows : (list : List ℕ) (r : Result FieldRows BadRow) (rows : FieldRows) → Answers list r → r ≡ Ok rows → RightRows list rows
right-rows list r rows a e = subst (Says list) e a.says

module _ (text list : List ℕ) (rows : FieldRows) (w : Why) (ws ws' : List ℕ) (h : length text ≤ most_text) (x : RightRows list rows) (f : IsRefused list text) (s : WhySays list text rows w ws ws') where
  is-refused : RefusedText (entries_of list rows) text w.why w.line
  is-refused = go w.why s.answers
    where
      go : (k : ℕ) → WhyAnswers k (entries_of list rows) text w.line → RefusedText (entries_of list rows) text k w.line
      go zero a =
          absurd
          (image-or-refusal {out = lent_bytes} {work = lent_words} {img = a.img}
          (record { lent = (omega arith, omega arith); fields = entries_of list rows; listed = x.listed; read = a.read })
          f.refuses)
      go (suc k) a = a

  pub place-shows : Shows text w
  place-shows =
      let t = s.stops in
      let i = t.is in
      let b = refused-between is-refused in
      go t.place.kind refl t.there b
    where
      go : (k : ℕ) → s.stops.place.kind ≡ k → There k (entries_of list rows) text s.stops.before s.stops.tokens s.stops.place w.why w.line
          → (22 ≤ w.why) × (w.why ≤ 27) → Shows text w
      go zero e a b =
          let i = s.stops.is in
          let long = s.stops.could.long in
          record {
            least = b.0;
            most = b.1;
            forward = omega (arith, i.1, i.2, a.1, a.2);
            within = omega (arith, i.2, a.2);
            filled = λ n. absurd (n (i.0 ∙ e));
            flags = sym long;
          }
      go (suc k) e a b =
          let i = s.stops.is in
          let long = s.stops.could.long in
          record {
            least = b.0;
            most = b.1;
            forward = omega (arith, i.1, i.2, a.not-empty);
            within = omega (arith, i.2, a.within);
            filled = λ n. omega (arith, i.1, i.2, a.not-empty);
            flags = sym long;
          }

  pub refusal-text : (d o : Page) → length list ≤ most_list → Adds 512 d (bad_text_lines text w) o → RefusalSays text list d o
  refusal-text d o l v =
      record { lines = bad_text_lines text w; encodes = λ name. E.bad-text (h, l) x.listed is-refused s.stops; printed = v }

-- ---- a text and a list that are not too long

image-counts : (img : List ℕ) (n : ℕ) (before after : List ℕ) → n ≡ length img → after ≡ img ++ drop n before → IsPrefixLen n after
image-counts img n before after long is =
    let t : take n after ≡ img = ap (take n) is ∙ take_at img (drop n before) n (sym long) in
    let l : length after ≡ length img + length (drop n before) = ap length is ∙ length-append img (drop n before) in
    (omega arith, long ∙ ap length (sym t))

module _ (name text list img : List ℕ) (old : Page) (short : Short text list) where
  pub encoded-image : (y : Result ℕ ReadError) (n : ℕ) (ws ws' img' : List ℕ) (new : Page)
      → length name ≤ most_name
      → ReadSays list text y ws img ws' img'
      → y ≡ Ok n
      → Adds (length name + 28) old (image_line name n) new
      → AnswerSays name (some text) (some list) (Some n) img old img' new
  encoded-image y n ws ws' img' new few said is w =
      let x : Accepts list text n ws img ws' img' = subst (λ (z : Result ℕ ReadError). ReadSays list text z ws img ws' img') is said in
      let long = x.long in
      let reads : Reads lent_bytes lent_words list text x.img = record { lent = (omega arith, omega (arith, short.0)); fields = x.reads.fields; listed = x.reads.listed; read = x.reads.read } in
      record {
        lines = image_line name (length x.img);
        image = some x.img;
        encodes = E.an-image short reads;
        printed = adds_as (length name + 28) 4608 old new (image_line name n) (image_line name (length x.img)) w (ap (image_line name) long) (omega arith);
        is = (ap Some long, x.output ∙ ap (λ (k : ℕ). x.img ++ drop k img) long);
        fits = image-counts x.img n img img' long x.output;
      }

  module _ (y : Result ℕ ReadError) (e : ReadError) (ws ws' img' : List ℕ) (said : ReadSays list text y ws img ws' img') (is : y ≡ Err e) where
    denies : Denies list text e.number e.line ws img ws' img'
    denies = subst (λ (z : Result ℕ ReadError). ReadSays list text z ws img ws' img') is said

    pub reader-refuses : lent_bytes ≤ length img → lent_words ≤ length ws → IsRefused list text
    reader-refuses b w = lent-enough b w short.0 denies.refuses

    pub encoded-refusal : (new : Page) → RefusalSays text list old new → AnswerSays name (some text) (some list) None img old img' new
    encoded-refusal new s =
        record {
          lines = s.lines;
          image = none;
          encodes = s.encodes name;
          printed = adds_as 512 4608 old new s.lines s.lines s.printed refl (omega arith);
          is = (refl, denies.output);
          fits = tt;
        }

-- ---- two files

module _ (name img : List ℕ) (old new : Page) where
  lines-alone : (t l : Option (List ℕ)) (lines : List ℕ) → Encodes name t l lines none → Adds 64 old lines new → AnswerSays name t l None img old img new
  lines-alone t l lines x w =
      record {
        lines = lines;
        image = none;
        encodes = x;
        printed = adds_as 64 4608 old new lines lines w refl (omega arith);
        is = (refl, refl);
        fits = tt;
      }

  module _ (text list : Answered (Bor (List ℕ))) where
    pub answers-no-text : text ≡ None → Adds 64 old no_input new → AnswerSays name (given text) (given list) None img old img new
    answers-no-text e w = rw e (lines-alone none (given list) no_input E.text-missing w)

    pub answers-no-list : (t : Bor (List ℕ)) → text ≡ Some t → list ≡ None → Adds 64 old no_input new
        → AnswerSays name (given text) (given list) None img old img new
    answers-no-list t e f w = rw (e, f) (lines-alone (some t.now) none no_input E.list-missing w)

    module _ (t l : Bor (List ℕ)) (e : text ≡ Some t) (f : list ≡ Some l) where
      pub answers-long-text : most_text < length t.now → Adds 64 old text_too_long new → AnswerSays name (given text) (given list) None img old img new
      answers-long-text h w = rw (e, f) (lines-alone (some t.now) (some l.now) text_too_long (E.text-too-long h) w)

      pub answers-long-list : length t.now ≤ most_text → most_list < length l.now → Adds 64 old list_too_long new
          → AnswerSays name (given text) (given list) None img old img new
      answers-long-list h i w = rw (e, f) (lines-alone (some t.now) (some l.now) list_too_long (E.list-too-long h i) w)

      pub answers-encoded : (r : Answered ℕ) (img' : List ℕ) → AnswerSays name (some t.now) (some l.now) r img old img' new
          → AnswerSays name (given text) (given list) r img old img' new
      answers-encoded r img' x = rw (e, f) x
