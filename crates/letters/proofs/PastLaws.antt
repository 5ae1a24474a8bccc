-- The way past blanks: where it leads (`Passed`), and the invariant of the loop that goes it (`Passing`). Assumes nothing.
use Prim.Native.Nat.{ℕ, zero, suc, ◌+◌, ◌<◌, ◌≤◌}
use mathlib.Core.Path.{◌≡◌, refl, sym, ap, ◌∙◌}
use mathlib.Core.Bool.{Bool, true, false, cond}
use mathlib.Core.List.{List, [], ◌∷◌}
use native.Mathlib.Omega.{arith}
use native.Mathlib.Numerals.{add-one}
use lib.Dec.{eqb}
use lib.ListN.{length, get_or, drop, length-drop, drop_of_length-le}
use lib.Seq.{drop-cons, drop-drop, get_or-drop}
use borrow.Author.Tests.{eq-eqb, ne_eqb, eqb-true, eqb-false}
use Rattle.grammar.specs.Classes.{blank, line_end, class_of}
use Rattle.grammar.specs.Places.{line_after, line_from, Spot, Spelled, a-blank}
use Rattle.letters.specs.declared.cursor.Cursor.{Cursor}
use Rattle.letters.specs.Past.{past, past_all}

-- ---- a line

pub line-ends : (b l : ℕ) → b ≡ 10 → l + 1 ≡ line_after b l
unfolding line_after
line-ends b l e = rw (eq-eqb b 10 e) (add-one l)

pub line_stays : (b l : ℕ) → (b ≡ 10 → ⊥) → l ≡ line_after b l
unfolding line_after
line_stays b l n = rw (ne_eqb b 10 n)

line-few : (b l : ℕ) → line_after b l ≤ suc l
unfolding line_after
line-few b l = go (eqb b line_end)
  where
    go : (t : Bool) → cond t (suc l) l ≤ suc l
    go true = omega arith
    go false = omega arith

-- ---- the loop

pub record Passing (s : List ℕ) (at line i n : ℕ) : Type 0 where
  pub within : i ≤ length s
  pub few : n ≤ i + 1
  pub is : past s i n ≡ past s at line

module _ (s : List ℕ) (i n : ℕ) where
  past-blank : i < length s → class_of (get_or s i 0) ≡ blank → past s i n ≡ past s (i + 1) (line_after (get_or s i 0) n)
  unfolding past past_all
  past-blank h e = rw (drop-cons s i 0 h, e, add-one i)

  past-other : i < length s → (class_of (get_or s i 0) ≡ blank → ⊥) → past s i n ≡ record { at = i; line = n }
  unfolding past past_all
  past-other h e = rw (drop-cons s i 0 h, ne_eqb (class_of (get_or s i 0)) blank e)

  past_end : length s ≤ i → past s i n ≡ record { at = i; line = n }
  unfolding past past_all
  past_end h = rw (drop_of_length-le s h)

pub begun : {s : List ℕ} {at line : ℕ} → at ≤ length s → line ≤ at + 1 → Passing s at line at line
begun h l = record { within = h; few = l; is = refl }

module _ {s : List ℕ} {at line i n : ℕ} (p : Passing s at line i n) where
  pub turned : {c m : ℕ} → i < length s → c ≡ class_of (get_or s i 0) → c ≡ 1 → m ≡ line_after (get_or s i 0) n → Passing s at line (i + 1) m
  turned {c} {m} h e one l =
      record {
        within = omega arith;
        few = omega (arith, p.few, line-few (get_or s i 0) n);
        is = ap (past s (i + 1)) l ∙ sym (past-blank s i n h (sym e ∙ one)) ∙ p.is;
      }

  pub stopped : {c : ℕ} → i < length s → c ≡ class_of (get_or s i 0) → (c ≡ 1 → ⊥) → record { at = i; line = n } ≡ past s at line
  stopped h e other = sym (past-other s i n h (λ q. other (e ∙ q))) ∙ p.is

  pub ended : length s ≤ i → record { at = i; line = n } ≡ past s at line
  ended h = sym (past_end s i n h) ∙ p.is

-- ---- where it leads

record Leads (s : List ℕ) (at l : ℕ) (c : Cursor) : Type 0 where
  steps : ℕ
  is_at : c.at ≡ at + steps
  inside : steps ≤ length s
  few : c.line ≤ l + steps
  stops : steps < length s → class_of (get_or s steps 0) ≡ blank → ⊥
  spelled : {ps : List Spot} → Spelled (drop steps s) c.line ps → Spelled s l ps
  lines : line_from c.line (drop steps s) ≡ line_from l s

here : (s : List ℕ) (at l : ℕ) → (zero < length s → class_of (get_or s zero 0) ≡ blank → ⊥) → Leads s at l (record { at = at; line = l })
here s at l h =
    record { steps = zero; is_at = omega arith; inside = omega arith; few = omega arith; stops = h; spelled = λ p. p; lines = refl }

leads : (s : List ℕ) (at l : ℕ) → Leads s at l (past_all s at l)
unfolding past_all line_from
leads [] at l = here [] at l (λ h _. omega arith)
leads (b ∷ s) at l = go (eqb (class_of b) blank) refl (leads s (suc at) (line_after b l))
  where
    go : (t : Bool) → eqb (class_of b) blank ≡ t → Leads s (suc at) (line_after b l) (past_all s (suc at) (line_after b l))
        → Leads (b ∷ s) at l (cond t (past_all s (suc at) (line_after b l)) (record { at = at; line = l }))
    go true e r =
        record {
          steps = suc r.steps;
          is_at = omega (arith, r.is_at);
          inside = omega (arith, r.inside);
          few = omega (arith, r.few, line-few b l);
          stops = λ h. r.stops (omega arith);
          spelled = λ p. a-blank (eqb-true (class_of b) blank e) (r.spelled p);
          lines = r.lines;
        }
    go false e r = here (b ∷ s) at l (λ _. eqb-false (class_of b) blank e)

pub record Passed (s : List ℕ) (at l : ℕ) (c : Cursor) : Type 0 where
  pub from : at ≤ c.at
  pub within : c.at ≤ length s
  pub few : l ≤ at + 1 → c.line ≤ c.at + 1
  pub stops : c.at < length s → class_of (get_or s c.at 0) ≡ blank → ⊥
  pub spelled : {ps : List Spot} → Spelled (drop c.at s) c.line ps → Spelled (drop at s) l ps
  pub lines : line_from c.line (drop c.at s) ≡ line_from l (drop at s)

pub passed : (s : List ℕ) (at l : ℕ) → at ≤ length s → Passed s at l (past s at l)
unfolding past
passed s at l h =
    let r = leads (drop at s) at l in
    let far : drop r.steps (drop at s) ≡ drop (past_all (drop at s) at l).at s = drop-drop r.steps at s ∙ rw r.is_at in
    let long = length-drop at s in
    record {
      from = omega (arith, r.is_at);
      within = omega (arith, r.is_at, r.inside);
      few = λ q. omega (arith, r.is_at, r.few);
      stops = λ q e. r.stops (omega (arith, r.is_at)) (ap class_of (get_or-drop at s r.steps 0) ∙ rw (← r.is_at) e);
      spelled = λ {ps} q. r.spelled (rw far q);
      lines = rw (← far) r.lines;
    }
