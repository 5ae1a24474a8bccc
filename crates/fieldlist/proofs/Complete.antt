-- A list that is right has nothing wrong with it: each of its rows is looked at and found without fault. So a list in which something is wrong
-- can't be read as one that is right. Assumes nothing.
use Prim.Native.Nat.{ℕ, zero, suc, ◌+◌, ◌<◌, ◌≤◌}
use mathlib.Core.Path.{◌≡◌, refl, sym, ap, ◌∙◌}
use mathlib.Core.Bool.{Bool, true, false}
use mathlib.Core.Option.{none}
use mathlib.Core.List.{List, [], ◌∷◌, ◌++◌, map, append_assoc, map-append}
use native.Mathlib.Omega.{arith}
use lib.Dec.{ltb}
use lib.ListN.{length, drop, length-drop}
use lib.Seq.{slice, drop-drop}
use borrow.Author.Tests.{lt-ltb, le-ltb, lt-leb, ltb-true, ltb-false}
use Rattle.laws.specs.Bools.{and_both}
use Rattle.laws.specs.Lists.{length-snoc}
use Rattle.rules.specs.Image.{most_fields}
use Rattle.rules.specs.Published.{Increasing}
use Rattle.grammar.specs.Classes.{line_end, blanks, symbols, among, class_of, is_letter, is_digit, in_word}
use Rattle.grammar.specs.Places.{every, begins, present, decimal}
use Rattle.grammar.specs.FieldList.{Entry, word_of, code_of, FieldName, Rows, no_row, a-row, position_of, Different, Listed}
use Rattle.grammar.proofs.Listing.{name-in-word}
use Rattle.fieldlist.specs.Judged.{name_end, code_end, code_at, first_of, name_fault, code_fault, unless, Line, start_of, end_of, number_of, name_of, last_code, fault, right, wrong, told, judge, judged}
use Rattle.fieldlist.proofs.Pieces.{run_is}
use Rattle.fieldlist.proofs.Words.{different-apart}
use Rattle.fieldlist.proofs.Sound.{row_at}

-- ---- a row is without fault

comma-ends : (s : List ℕ) → begins in_word (44 ∷ s) ≡ false
unfolding begins in_word is_letter is_digit class_of blanks symbols among
comma-ends s = refl

line-ends : (s : List ℕ) → begins is_digit (line_end ∷ s) ≡ false
unfolding begins is_digit class_of blanks among
line-ends s = refl

module _ (list : List ℕ) (at d : ℕ) (w ds s : List ℕ)
    (is : drop at list ≡ w ++ (44 ∷ ((d ∷ ds) ++ (line_end ∷ s)))) (n : FieldName w) (all : every is_digit (d ∷ ds) ≡ true) where
  record RowIs : Type 0 where
    name : slice at (name_end list at) list ≡ w
    comma : drop (name_end list at) list ≡ 44 ∷ ((d ∷ ds) ++ (line_end ∷ s))
    digits : drop (suc (name_end list at)) list ≡ (d ∷ ds) ++ (line_end ∷ s)
    code : code_at list (name_end list at) ≡ decimal (d ∷ ds)
    ended : drop (code_end list (name_end list at)) list ≡ line_end ∷ s
    rest : drop (suc (code_end list (name_end list at))) list ≡ s

  behind : {b : ℕ} {t : List ℕ} (i : ℕ) → drop i list ≡ b ∷ t → drop (suc i) list ≡ t
  behind {b} {t} i e = let f : i + 1 ≡ suc i = omega arith in rw f at (sym (drop-drop 1 i list) ∙ ap (drop 1) e)

  row_is_lem : RowIs
  unfolding name_end code_end code_at
  row_is_lem =
      let u = run_is in_word list at w (44 ∷ ((d ∷ ds) ++ (line_end ∷ s))) is (name-in-word n) (comma-ends _) in
      let e = behind (name_end list at) u.rest in
      let v = run_is is_digit list (suc (name_end list at)) (d ∷ ds) (line_end ∷ s) e all (line-ends s) in
      record { name = u.is; comma = u.rest; digits = e; code = ap decimal v.is; ended = v.rest; rest = behind (code_end list (name_end list at)) v.rest }

  name-fine : (names : List (List ℕ)) → position_of w names ≡ none → name_fault list names at ≡ 0
  unfolding name_fault first_of begins present
  name-fine names new = rw (is, row_is_lem.name, n.free, new, n.is, n.low)

  code-fine : (last : ℕ) → last < decimal (d ∷ ds) → decimal (d ∷ ds) < 65536 → code_fault list last (name_end list at) ≡ 0
  unfolding code_fault first_of begins every
  code-fine last low high =
      let r = row_is_lem in
      let k = decimal (d ∷ ds) in
      rw
      (r.comma, r.digits, r.ended, r.code, (and_both (is_digit d) (every is_digit ds) all).0, lt-ltb 0 k (omega arith), lt-ltb k 65536 high, lt-leb k last low)

  pub fine : (before : List Line) → position_of w (map (name_of list) before) ≡ none → last_code 0 before < decimal (d ∷ ds) → decimal (d ∷ ds) < 65536
      → fault list before at ≡ 0
  unfolding fault unless
  fine before new low high = rw (name-fine (map (name_of list) before) new, code-fine (last_code 0 before) low high)

-- ---- the rows

increasing-apart : (n : ℕ) (ls : List Line) (k : ℕ) (ks : List ℕ) → Increasing n (map number_of ls ++ (k ∷ ks)) → (last_code n ls < k) × (k < 65536)
unfolding last_code
increasing-apart n [] k ks p = (p.0, p.1)
increasing-apart n (l ∷ ls) k ks p = increasing-apart (number_of l) ls k ks p.2

-- these rows are left at this place
record Left (list : List ℕ) (before : List Line) (at : ℕ) (fs : List Entry) : Type 0 where
  rows : Rows (drop at list) fs
  few : length before + length fs ≤ most_fields
  different : Different (map (name_of list) before ++ map word_of fs)
  increasing : Increasing 0 (map number_of before ++ map code_of fs)

some-row : {s : List ℕ} {fs : List Entry} → Rows s fs → 0 < length s → 0 < length fs
some-row no_row h = h
some-row (a-row d ds n a r) h = omega arith

-- the next row is looked at and found without fault
record Goes (list : List ℕ) (before : List Line) (at : ℕ) : Type 0 where
  fs : List Entry
  fault-free : fault list before at ≡ 0
  left : Left list (before ++ (row_at list before at ∷ [])) (suc (code_end list (name_end list at))) fs

goes : (list : List ℕ) (before : List Line) (at : ℕ) {s : List ℕ} {fs : List Entry}
    → Rows s fs → s ≡ drop at list → at < length list
    → length before + length fs ≤ most_fields
    → Different (map (name_of list) before ++ map word_of fs)
    → Increasing 0 (map number_of before ++ map code_of fs)
    → Goes list before at
unfolding name_of number_of start_of end_of word_of code_of
goes list before at no_row e h few diff incr = absurd (omega (arith, ap length e, length-drop at list))
goes list before at (a-row {w} {s} d ds {fs} n all r) e h few diff incr =
    let above = increasing-apart 0 before (decimal (d ∷ ds)) (map code_of fs) incr in
    let is = row_is_lem list at d w ds s (sym e) n all in
    record {
      fs = fs;
      fault-free = fine list at d w ds s (sym e) n all before (different-apart (map (name_of list) before) w (map word_of fs) diff) above.0 above.1;
      left =
          record {
            rows = rw is.rest r;
            few = omega (arith, length-snoc before (row_at list before at));
            different = rw (map-append (name_of list) before (row_at list before at ∷ []), append_assoc (map (name_of list) before), is.name) diff;
            increasing = rw (map-append number_of before (row_at list before at ∷ []), append_assoc (map number_of before), is.code) incr;
          };
    }

-- ---- the judgement

module _ (list : List ℕ) (room : ℕ) (before : List Line) (at : ℕ) where
  pub judge-end : length list ≤ at → judge list room before at ≡ right before
  unfolding judge
  judge-end h = go room
    where
      go : (room : ℕ) → judge list room before at ≡ right before
      go zero = rw (le-ltb at (length list) h)
      go (suc n) = rw (le-ltb at (length list) h)

pub judge-full : (list : List ℕ) (before : List Line) (at : ℕ) → at < length list → judge list zero before at ≡ wrong (suc (length before)) 1
unfolding judge
judge-full list before at h = rw (lt-ltb at (length list) h)

pub judge-row : (list : List ℕ) (room : ℕ) (before : List Line) (at : ℕ) → at < length list
    → judge list (suc room) before at
    ≡ told (fault list before at) (suc (length before))
    (judge list room (before ++ (row_at list before at ∷ [])) (suc (code_end list (name_end list at))))
unfolding judge
judge-row list room before at h = rw (lt-ltb at (length list) h)

module _ (list : List ℕ) (row why : ℕ) where
  abbrev NeverWrong : ℕ → Type 0
  NeverWrong room =
      (before : List Line) (at : ℕ) (fs : List Entry)
      → length before + room ≡ most_fields → Left list before at fs → judge list room before at ≡ wrong row why → ⊥

  never-wrong : (room : ℕ) → NeverWrong room
  unfolding told
  never-wrong zero before at fs m l e = go (ltb at (length list)) refl
    where
      go : (t : Bool) → ltb at (length list) ≡ t → ⊥
      go true h =
          let less = ltb-true at (length list) h in
          omega (arith, l.few, some-row l.rows (omega (arith, length-drop at list)))
      go false h = let z : ◌≡◌ {A = ℕ} 0 1 = cc (judge-end list zero before at (ltb-false at (length list) h)) in omega arith
  never-wrong (suc room) before at fs m l e = go (ltb at (length list)) refl (never-wrong room)
    where
      go : (t : Bool) → ltb at (length list) ≡ t → NeverWrong room → ⊥
      go true h later =
          let less = ltb-true at (length list) h in
          let g = goes list before at l.rows refl less l.few l.different l.increasing in
          later
          (before ++ (row_at list before at ∷ []))
          (suc (code_end list (name_end list at)))
          g.fs
          (omega (arith, length-snoc before (row_at list before at)))
          g.left
          (sym (judge-row list room before at less ∙ rw g.fault-free) ∙ e)
      go false h later = let z : ◌≡◌ {A = ℕ} 0 1 = cc (judge-end list (suc room) before at (ltb-false at (length list) h)) in omega arith

pub not_listed : (list : List ℕ) {row why : ℕ} → judged list ≡ wrong row why → (fs : List Entry) → Listed list fs → ⊥
unfolding judged
not_listed list {row} {why} e fs l =
    never-wrong list row why most_fields [] 0 fs refl
    (record { rows = l.rows; few = omega (arith, l.few); different = l.different; increasing = l.increasing })
    e
