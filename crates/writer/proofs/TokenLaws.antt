-- A token of an image: an integer, and a field with its word in a list. Assumes nothing.
use Prim.Native.Nat.{ℕ, zero, suc, ◌+◌, ◌-◌, ◌<◌, ◌≤◌}
use mathlib.Core.Path.{◌≡◌, refl, sym, ap, ◌∙◌}
use mathlib.Core.List.{List, []}
use native.Mathlib.Omega.{arith}
use lib.ListN.{length, get_or, take, drop}
use Rattle.std.proofs.lemmas.List.{drop-take}
use borrow.Author.Tests.{lt-ltb, le-ltb}
use Rattle.std.specs.Prelude.{Some}
use Rattle.laws.specs.UpTo.{up_to}
use Rattle.grammar.specs.Tokens.{field_name, number, kind_of as kind_of_tok}
use Rattle.writing.specs.WriteTokens.{write_int}
use Rattle.writing.specs.Spell.{bytes_for, decimal_of, made_up_field}
use Rattle.fieldlist.specs.Names.{nowhere, word_at, words, Spans}
use Rattle.fieldlist.specs.declared.names.Span.{Span}
use Rattle.pen.specs.Behind.{mark_of}
use Rattle.pen.specs.Draws.{Token, Marks}
use Rattle.pen.specs.declared.Pen.{Pen}
use Rattle.pen.proofs.DrawLaws.{token-writes, writes_then}
use Rattle.rules.specs.Image.{fields_of}
use Rattle.writer.specs.declared.fields.Fields.{Fields}
use Rattle.writer.specs.declared.fields.Fields.TheVariants.{MadeUp}
use Rattle.writer.specs.Fields.{words_for}
use Rattle.writer.specs.Walk.{WritesInt, WritesField}

pub up_to-get : (f : ℕ → List ℕ) (n k : ℕ) → k < n → f k ≡ get_or (up_to f n) k []
unfolding up_to
up_to-get f zero k h = absurd (omega arith)
up_to-get f (suc n) zero h = refl
up_to-get f (suc n) (suc k) h = up_to-get (λ i. f (suc i)) n k (omega arith)

module _ (b : ℕ) (p : Pen) where
  pub int_plain : (r : Pen) → b < 2147483648 → Token 3 (decimal_of b) p r → WritesInt b p r
  unfolding write_int kind_of_tok bytes_for
  int_plain r l t = record { says = λ names fields. rw (lt-ltb b 2147483648 l) (token-writes names fields (number b) t refl refl) }

  pub int_signed : (q r : Pen) → 2147483648 ≤ b → Marks (Some 4) p q → Token 3 (decimal_of (4294967296 - b)) q r → WritesInt b p r
  unfolding write_int kind_of_tok bytes_for mark_of
  int_signed q r l m t =
      record {
        says = λ names fields.
            rw (le-ltb b 2147483648 l)
            (writes_then names fields (m.says names fields) (token-writes names fields (number (4294967296 - b)) t refl refl));
      }

module _ (img : List ℕ) (fields : Fields) (f : ℕ) (h : 1 ≤ f) (l : f ≤ fields_of img) (p r : Pen) where
  pub field_made : fields ≡ MadeUp → Token 2 (made_up_field (f - 1)) p r → WritesField (words_for img fields) f p r
  unfolding kind_of_tok bytes_for
  field_made e t =
      record { says = λ names. rw e (token-writes names (words_for img MadeUp) (field_name f) t refl (up_to-get made_up_field (fields_of img) (f - 1) (omega arith))) }

module _ (img list : List ℕ) (names : List Span) (f : ℕ) (h : 1 ≤ f) (l : f ≤ fields_of img) where
  abbrev here : Span
  here = get_or names (f - 1) nowhere

  module _ (s : Spans list names (fields_of img)) where
    pub span_forward : here.from ≤ here.to
    span_forward = s.forward (f - 1) (omega arith)

    pub span_within : here.to ≤ length list
    span_within = s.within (f - 1) (omega arith)

  pub field_listed : (p r : Pen) → Spans list names (fields_of img) → Token 2 (take (here.to - here.from) (drop here.from list)) p r
      → WritesField (words list names (fields_of img)) f p r
  unfolding kind_of_tok bytes_for words
  field_listed p r s t =
      let m : here.from + (here.to - here.from) ≡ here.to = let v = span_forward s in omega arith in
      let e : take (here.to - here.from) (drop here.from list) ≡ word_at list here =
      sym (drop-take here.from (here.to - here.from) list) ∙ ap (λ k. drop here.from (take k list)) m in
      record {
        says = λ vs.
            token-writes vs (words list names (fields_of img)) (field_name f) t refl
            (e ∙ up_to-get (λ i. word_at list (get_or names i nowhere)) (fields_of img) (f - 1) (omega arith));
      }
