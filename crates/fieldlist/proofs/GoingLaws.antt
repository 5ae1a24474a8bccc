-- The rows read one by one: what stands in the arrays is what stands before, and what is still to be looked at decides as the whole does. Assumes nothing.
use Prim.Native.Nat.{ℕ, zero, suc, ◌+◌, ◌-◌, ◌<◌, ◌≤◌}
use mathlib.Core.Path.{◌≡◌, refl, sym, ap, subst, ◌∙◌}
use mathlib.Core.List.{List, [], ◌∷◌, ◌++◌, map}
use native.Mathlib.Omega.{arith}
use lib.ListN.{length, set, replicate, take, length-set}
use Rattle.laws.specs.Lists.{length-snoc}
use Rattle.rules.specs.Image.{most_fields}
use Rattle.std.specs.Prelude.{Ok, Err}
use Rattle.fieldlist.specs.Judged.{name_end, code_end, Line, number_of, last_code, name_fault, code_fault, unless, start_of, end_of, fault, Judged, wrong, told, judge, judged}
use Rattle.fieldlist.specs.Fault.{fault_no, fault_at}
use Rattle.fieldlist.specs.declared.names.Span.{Span}
use Rattle.fieldlist.specs.declared.fault.RowFault.{RowFault}
use Rattle.fieldlist.specs.declared.fault.RowFault.TheVariants.{NoRoom, NoName, Reserved, Repeated, NoComma, NoDigit, NoLineEnd, OutOfRange, NotAbove}
use Rattle.fieldlist.specs.Names.{nowhere, words, Spans}
use Rattle.fieldlist.specs.Answer.{sixteen, span_of, answer_of, RowSays, RightRows, Answers}
use Rattle.fieldlist.specs.declared.FieldRows.{FieldRows}
use Rattle.fieldlist.specs.declared.parts.RowPart.{RowPart}
use Rattle.fieldlist.proofs.Sound.{Begun, begun, row_at, one_more, all_right}
use Rattle.fieldlist.proofs.Complete.{judge-end, judge-full, judge-row, not_listed}
use Rattle.fieldlist.proofs.SameLaws.{words-front, spans-front}
use Rattle.fieldlist.proofs.PartLaws.{some-fault}
use Rattle.fieldlist.proofs.AnswerLaws.{rows_of, push, words_are, spans-are, right-rows}

-- ---- what is answered

fault-back : (f : RowFault) → f ≡ fault_at (fault_no f)
unfolding fault_at
fault-back NoRoom = refl
fault-back NoName = refl
fault-back Reserved = refl
fault-back Repeated = refl
fault-back NoComma = refl
fault-back NoDigit = refl
fault-back NoLineEnd = refl
fault-back OutOfRange = refl
fault-back NotAbove = refl

answers-wrong : (list : List ℕ) (row : ℕ) (f : RowFault) → judged list ≡ wrong row (fault_no f) → Answers list (Err (record { row = row; fault = f }))
unfolding answer_of
answers-wrong list row f e =
    record {
      is = rw e (ap (λ (x : RowFault). Err (record { row = row; fault = x })) (fault-back f));
      says = (e, not_listed list e);
    }

told-wrong : (k row : ℕ) (rest : Judged) → (k ≡ 0 → ⊥) → told k row rest ≡ wrong row k
unfolding told
told-wrong zero row rest n = absurd (n refl)
told-wrong (suc k) row rest n = refl

last_more : (n : ℕ) (ls : List Line) (l : Line) → last_code n (ls ++ (l ∷ [])) ≡ number_of l
unfolding last_code
last_more n [] l = refl
last_more n (m ∷ ls) l = last_more (number_of m) ls l

-- ---- the loop

pub record Going (list : List ℕ) (names : List Span) (codes : List ℕ) (count last at : ℕ) : Type 0 where
  pub few : count ≤ most_fields
  pub spans : Spans list names count
  pub long : length names ≡ most_fields
  ls : List Line
  is-count : count ≡ length ls
  is-names : names ≡ sixteen nowhere (map span_of ls)
  is-codes : codes ≡ sixteen 0 (map number_of ls)
  is_last : last ≡ last_code 0 ls
  begun : Begun list ls at
  is : judge list (most_fields - count) ls at ≡ judged list

pub gone-none : (list : List ℕ) → Going list (replicate 16 nowhere) (replicate 16 0) 0 0 0
unfolding sixteen last_code judged
gone-none list =
    record {
      few = omega arith;
      spans = spans-are list [] _ _ refl refl tt;
      long = refl;
      ls = [];
      is-count = refl;
      is-names = refl;
      is-codes = refl;
      is_last = refl;
      begun = begun list;
      is = refl;
    }

module _ {list : List ℕ} {names : List Span} {codes : List ℕ} {count last at : ℕ} (g : Going list names codes count last at) where
  pub gone-full : at < length list → count ≡ 16 → Answers list (Err (record { row = 17; fault = NoRoom }))
  gone-full h e =
      let none : most_fields - count ≡ 0 = omega arith in
      let row : suc (length g.ls) ≡ 17 = omega (arith, g.is-count) in
      answers-wrong list 17 NoRoom (sym g.is ∙ rw none (judge-full list g.ls at h ∙ rw row))

  pub known-spans : Spans list (take count names) (length (take count names))
  known-spans = spans-front list names count (omega (arith, g.few, g.long)) g.spans

  room-is : (count ≡ 16 → ⊥) → most_fields - count ≡ suc (most_fields - (count + 1))
  room-is n = omega (arith, g.few)

  module _ (h : at < length list) (n : count ≡ 16 → ⊥) where
    fault-is : unless (name_fault list (words list (take count names) (length (take count names))) at) (code_fault list last (name_end list at)) ≡ fault list g.ls at
    unfolding fault
    fault-is =
        rw
        (words-front list names count (omega (arith, g.few, g.long)), words_are list g.ls names count g.is-names g.is-count, g.is_last)

    next-is : judged list
        ≡ told (fault list g.ls at) (suc (length g.ls))
        (judge list (most_fields - (count + 1)) (g.ls ++ (row_at list g.ls at ∷ [])) (suc (code_end list (name_end list at))))
    next-is = sym g.is ∙ rw (room-is n) (judge-row list (most_fields - (count + 1)) g.ls at h)

    pub gone-wrong : (f : RowFault) → RowSays list (words list (take count names) (length (take count names))) last at (Err f)
        → Answers list (Err (record { row = count + 1; fault = f }))
    gone-wrong f row =
        let number : suc (length g.ls) ≡ count + 1 = omega (arith, g.is-count) in
        let bad : fault list g.ls at ≡ fault_no f = sym fault-is ∙ row in
        answers-wrong list (count + 1) f (next-is ∙ rw bad (told-wrong (fault_no f) _ _ (some-fault f) ∙ rw number))

    pub gone-more : (p : RowPart) → RowSays list (words list (take count names) (length (take count names))) last at (Ok p)
        → Going list (set names count (record { from = at; to = p.end })) (set codes count p.code) (count + 1) p.code p.next
    unfolding told start_of end_of number_of
    gone-more p row =
        let ls = g.ls in
        let l = row_at list ls at in
        let free : fault list ls at ≡ 0 = sym fault-is ∙ row.0 in
        let more = one_more list ls at g.begun h free in
        let few : count < most_fields = omega (arith, g.few) in
        let long : count + 1 ≡ length (ls ++ (l ∷ [])) = omega (arith, length-snoc ls l, g.is-count) in
        let f = push nowhere span_of ls l count (record { from = at; to = p.end }) names g.is-names g.is-count few (ap (λ (t : ℕ). record { from = at; to = t }) row.1) in
        let k = push 0 number_of ls l count p.code codes g.is-codes g.is-count few row.2 in
        record {
          few = omega arith;
          spans = spans-are list (ls ++ (l ∷ [])) _ _ f long more.placed;
          long = length-set names count (record { from = at; to = p.end }) ∙ g.long;
          ls = ls ++ (l ∷ []);
          is-count = long;
          is-names = f;
          is-codes = k;
          is_last = row.2 ∙ sym (last_more 0 ls l);
          begun = rw row.3 more;
          is = rw row.3 (sym (next-is ∙ rw free));
        }

  pub gone-all : length list ≤ at → Answers list (Ok (record { count = count; names = names; codes = codes }))
  unfolding answer_of
  gone-all h =
      let few : length g.ls ≤ most_fields = omega (arith, g.few, g.is-count) in
      let is : record { count = count; names = names; codes = codes } ≡ rows_of g.ls = rw (g.is-count, g.is-names, g.is-codes) in
      record {
        is = ap Ok is ∙ ap answer_of (sym (judge-end list (most_fields - count) g.ls at h) ∙ g.is);
        says = subst (λ (r : FieldRows). RightRows list r) (sym is) (right-rows list g.ls (all_right list g.ls at g.begun h few) few);
      }
