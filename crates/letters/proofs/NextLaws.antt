-- The next place: the blanks are passed, and then the text ends or a piece stands there. Assumes nothing.
use Prim.Native.Nat.{ℕ, ◌+◌, ◌<◌, ◌≤◌}
use mathlib.Core.Path.{◌≡◌, refl, sym, ap, ◌∙◌}
use mathlib.Core.List.{List, []}
use native.Mathlib.Omega.{arith}
use lib.ListN.{length, get_or, drop, drop_of_length-le, get_or-eq_default}
use Rattle.grammar.specs.Classes.{blank, class_of}
use Rattle.grammar.specs.Places.{ends, line_from}
use Rattle.letters.specs.declared.cursor.Cursor.{Cursor}
use Rattle.letters.specs.declared.places.Place.{Place}
use Rattle.letters.specs.Past.{past}
use Rattle.letters.specs.Says.{Stands, NextSays}
use Rattle.letters.proofs.PastLaws.{Passed, passed}

-- past a text's end nothing is read but 0
pub past_all_lem : (s : List ℕ) (at : ℕ) → length s ≤ at → 0 ≡ get_or s at 0
past_all_lem s at h = sym (get_or-eq_default s 0 h)

module _ (s : List ℕ) (at line : ℕ) (c : Cursor) (is : c ≡ past s at line) (h : at ≤ length s) where
  went : Passed s at line c
  went = rw is (passed s at line h)

  pub no-blank-there : c.at < length s → class_of (get_or s c.at 0) ≡ blank → ⊥
  no-blank-there l = went.stops l

  pub says-end : length s ≤ c.at → NextSays s at line (record { kind = 0; from = c.at; to = c.at; line = c.line })
  unfolding line_from
  says-end l =
      let e : c.at ≡ length s = omega (arith, went.within) in
      let over : drop c.at s ≡ [] = drop_of_length-le s l in
      record {
        past-blanks = (ap (λ (k : Cursor). k.at) is, ap (λ (k : Cursor). k.line) is);
        at-end = λ _. record {
          is-from = e;
          is-to = e;
          is-line = rw over at went.lines;
          spelled = went.spelled (rw over ends);
        };
        found = λ n. absurd (n refl);
      }

  pub says-found : (r : Place) → line ≤ at + 1 → Stands s c.at c.line r → NextSays s at line r
  says-found r few st =
      let from = st.is-from in
      let on = st.is-line in
      record {
        past-blanks = (from ∙ ap (λ (k : Cursor). k.at) is, on ∙ ap (λ (k : Cursor). k.line) is);
        at-end = λ e. absurd (omega (arith, st.a-kind));
        found = λ _. record {
          is-to = rw from st.is-to;
          is-kind = rw from st.is-kind;
          not-before = omega (arith, went.from);
          not-empty = omega (arith, st.not-empty);
          within = st.within;
          few-lines = omega (arith, went.few few, st.not-empty);
          known = st.known;
          spelled = λ ps q. rw (from, on) (went.spelled (st.spelled ps (rw on at q)));
        };
      }
