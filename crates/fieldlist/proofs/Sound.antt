-- A list in which nothing is wrong is right: a row without fault is a row, and the rows together are what is listed. Assumes nothing.
use Prim.Native.Nat.{ℕ, suc, ◌<◌, ◌≤◌}
use mathlib.Core.Path.{◌≡◌, refl, sym, ap, ◌∙◌}
use mathlib.Core.Bool.{true}
use mathlib.Core.Option.{none}
use mathlib.Core.List.{List, [], ◌∷◌, ◌++◌, map, append-nil, append_assoc, map-append}
use native.Mathlib.Omega.{arith}
use lib.Dec.{eqb, ltb}
use lib.ListN.{length, get_or, drop, length-map, drop_of_length-le}
use lib.Seq.{slice}
use borrow.Author.Tests.{eqb-true, ltb-true, leb-false, not-false}
use Rattle.laws.specs.Bools.{and_both}
use Rattle.rules.specs.Image.{most_fields}
use Rattle.rules.specs.Published.{Increasing}
use Rattle.grammar.specs.Classes.{lower, line_end, class_of, is_letter, is_digit, in_word}
use Rattle.grammar.specs.Places.{every}
use Rattle.grammar.specs.FieldList.{Entry, word_of, code_of, FieldName, Rows, no_row, a-row, position_of, Different, Listed}
use Rattle.letters.specs.Runs.{run}
use Rattle.fieldlist.specs.Judged.{name_end, code_end, code_at, name_fault, code_fault, Line, line, start_of, end_of, number_of, name_of, last_code, fault, entry_of}
use Rattle.fieldlist.proofs.Pieces.{begins-at, begins-in, front, in_two, run-passes, run-within, run-first, first-none, absent, unless-none}
use Rattle.fieldlist.proofs.Words.{different-more}

-- ---- a name, a code

pub record GoodName (list : List ℕ) (names : List (List ℕ)) (at : ℕ) : Type 0 where
  pub name : FieldName (slice at (name_end list at) list)
  pub new : position_of (slice at (name_end list at) list) names ≡ none
  pub within : name_end list at ≤ length list
  pub onward : at ≤ name_end list at
  pub is : drop at list ≡ slice at (name_end list at) list ++ drop (name_end list at) list

low-in-word : (b : ℕ) → eqb (class_of b) lower ≡ true → in_word b ≡ true
unfolding in_word is_letter
low-in-word b e = rw (eqb-true (class_of b) lower e)

pub good-name : (list : List ℕ) (names : List (List ℕ)) (at : ℕ) → at < length list → name_fault list names at ≡ 0 → GoodName list names at
unfolding name_fault name_end every
good-name list names at h e =
    let a = first-none 1 _ _ e in
    let b = first-none 2 _ _ a.1 in
    let c = first-none 3 _ _ b.1 in
    let low = sym (begins-at (λ b. eqb (class_of b) lower) list at h) ∙ not-false _ a.0 in
    let is = run-first in_word list at (begins-at in_word list at h ∙ low-in-word (get_or list at 0) low) in
    record {
      name =
          record {
            first = get_or list at 0;
            rest = slice (suc at) (name_end list at) list;
            is = is;
            low = eqb-true _ _ low;
            follow = (and_both (in_word (get_or list at 0)) (every in_word (slice (suc at) (name_end list at) list)) (rw is at (run-passes in_word list at))).1;
            free = absent _ b.0;
          };
      new = absent _ c.0;
      within = run-within in_word list at (omega arith);
      onward = omega arith;
      is = in_two list at (run in_word (drop at list));
    }

pub record GoodCode (list : List ℕ) (last end : ℕ) : Type 0 where
  pub is : drop end list ≡ 44 ∷ (slice (suc end) (code_end list end) list ++ (line_end ∷ drop (suc (code_end list end)) list))
  pub digit : ℕ
  pub digits : List ℕ
  pub split : slice (suc end) (code_end list end) list ≡ digit ∷ digits
  pub all : every is_digit (digit ∷ digits) ≡ true
  pub low : 0 < code_at list end
  pub high : code_at list end < 65536
  pub above : last < code_at list end
  pub within : code_end list end < length list

pub good-code : (list : List ℕ) (last end : ℕ) → code_fault list last end ≡ 0 → GoodCode list last end
unfolding code_fault code_end
good-code list last end e =
    let a = first-none 4 _ _ e in
    let b = first-none 5 _ _ a.1 in
    let c = first-none 6 _ _ b.1 in
    let d = first-none 7 _ _ c.1 in
    let f = first-none 8 _ _ d.1 in
    let bounds = and_both (ltb 0 (code_at list end)) (ltb (code_at list end) 65536) (not-false _ d.0) in
    let split = run-first is_digit list (suc end) (not-false _ b.0) in
    let line = front line_end list (code_end list end) (not-false _ c.0) in
    record {
      is = front 44 list end (not-false _ a.0) ∙ ap (44 ∷◌) (in_two list (suc end) (run is_digit (drop (suc end) list)) ∙ rw line);
      digit = get_or list (suc end) 0;
      digits = slice (suc (suc end)) (code_end list end) list;
      split = split;
      all = rw split at (run-passes is_digit list (suc end));
      low = ltb-true _ _ bounds.0;
      high = ltb-true _ _ bounds.1;
      above = leb-false _ _ f.0;
      within = begins-in (eqb line_end) list (code_end list end) (not-false _ c.0);
    }

-- ---- one more row

abbrev pub Placed : List ℕ → List Line → Type 0
Placed list [] = Unit {0}
Placed list (l ∷ ls) = (start_of l ≤ end_of l) × (end_of l ≤ length list) × (0 < number_of l) × (number_of l < 65536) × Placed list ls

placed-more : (list : List ℕ) (ls : List Line) (l : Line) → Placed list ls
    → start_of l ≤ end_of l → end_of l ≤ length list → 0 < number_of l → number_of l < 65536 → Placed list (ls ++ (l ∷ []))
placed-more list [] l p a b c d = (a, b, c, d, tt)
placed-more list (m ∷ ls) l p a b c d = (p.0, p.1, p.2, p.3, placed-more list ls l p.4 a b c d)

increasing-more : (n : ℕ) (ls : List Line) (l : Line) → Increasing n (map number_of ls)
    → last_code n ls < number_of l → number_of l < 65536 → Increasing n (map number_of (ls ++ (l ∷ [])))
unfolding last_code
increasing-more n [] l p a b = (a, b, tt)
increasing-more n (m ∷ ls) l p a b = (p.0, p.1, increasing-more (number_of m) ls l p.2 a b)

-- these rows stand before this place
pub record Begun (list : List ℕ) (before : List Line) (at : ℕ) : Type 0 where
  pub within : at ≤ length list
  pub rows : (fs : List Entry) → Rows (drop at list) fs → Rows list (map (entry_of list) before ++ fs)
  pub different : Different (map (name_of list) before)
  pub increasing : Increasing 0 (map number_of before)
  pub placed : Placed list before

pub begun : (list : List ℕ) → Begun list [] 0
begun list = record { within = omega arith; rows = λ fs r. r; different = tt; increasing = tt; placed = tt }

module _ (list : List ℕ) (before : List Line) (at : ℕ) where
  abbrev pub row_at : Line
  row_at = line at (name_end list at) (code_at list (name_end list at))

  pub one_more : Begun list before at → at < length list → fault list before at ≡ 0
      → Begun list (before ++ (row_at ∷ [])) (suc (code_end list (name_end list at)))
  unfolding fault entry_of name_of start_of end_of number_of code_at
  one_more b h e =
      let two = unless-none _ _ e in
      let n = good-name list (map (name_of list) before) at h two.0 in
      let c = good-code list (last_code 0 before) (name_end list at) two.1 in
      record {
        within = omega (arith, c.within);
        rows =
            λ fs r.
            let row : Rows (drop at list) (entry_of list row_at ∷ fs) =
            rw (n.is, c.is, c.split) (a-row c.digit c.digits n.name c.all r) in
            rw (map-append (entry_of list) before (row_at ∷ []), append_assoc (map (entry_of list) before)) (b.rows (entry_of list row_at ∷ fs) row);
        different = rw (map-append (name_of list) before (row_at ∷ [])) (different-more _ _ b.different n.new);
        increasing = increasing-more 0 before row_at b.increasing c.above c.high;
        placed = placed-more list before row_at b.placed n.onward n.within c.low c.high;
      }

pub record Right (list : List ℕ) (ls : List Line) : Type 0 where
  pub listed : Listed list (map (entry_of list) ls)
  pub placed : Placed list ls

names-are : (list : List ℕ) (ls : List Line) → map word_of (map (entry_of list) ls) ≡ map (name_of list) ls
unfolding word_of entry_of
names-are list [] = refl
names-are list (l ∷ ls) = ap (name_of list l ∷◌) (names-are list ls)

codes-are : (list : List ℕ) (ls : List Line) → map code_of (map (entry_of list) ls) ≡ map number_of ls
unfolding code_of entry_of
codes-are list [] = refl
codes-are list (l ∷ ls) = ap (number_of l ∷◌) (codes-are list ls)

-- nothing is left
pub all_right : (list : List ℕ) (ls : List Line) (at : ℕ) → Begun list ls at → length list ≤ at → length ls ≤ most_fields → Right list ls
all_right list ls at b h few =
    record {
      listed =
          record {
            rows = rw append-nil at (b.rows [] (rw (drop_of_length-le list h) no_row));
            few = rw (length-map ls (entry_of list)) few;
            different = rw (names-are list ls) b.different;
            increasing = rw (codes-are list ls) b.increasing;
          };
      placed = b.placed;
    }
