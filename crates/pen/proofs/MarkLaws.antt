-- The bytes of a mark, and a mark as a token. Assumes nothing.
use Prim.Native.Nat.{ℕ}
use mathlib.Core.Path.{◌≡◌, refl}
use mathlib.Core.List.{List, [], ◌∷◌}
use borrow.Author.Tests.{ne_eqb}
use Rattle.std.specs.Prelude.{Option, Some, None}
use Rattle.grammar.specs.Tokens.{mark, kind_of, Spelling, spelling}
use Rattle.writing.specs.Spell.{marks, spelled_as, bytes_for}
use Rattle.pen.specs.Behind.{mark_of}
use Rattle.pen.specs.Draws.{Token, Marks}
use Rattle.pen.specs.declared.Pen.{Pen}
use Rattle.pen.proofs.DrawLaws.{token-writes, writes-none}

-- no spelling has this kind
abbrev pub Absent : ℕ → List Spelling → Type 0
Absent k [] = Unit {0}
Absent k (spelling w j ∷ rest) = (k ≡ j → ⊥) × Absent k rest

pub absent : (k : ℕ) (l : List Spelling) → Absent k l → [] ≡ spelled_as k l
unfolding spelled_as
absent k [] h = refl
absent k (spelling w j ∷ rest) h = rw (ne_eqb k j h.0) (absent k rest h.1)

pub no_mark : {o : Option ℕ} (p : Pen) → o ≡ None → Marks o p p
unfolding mark_of
no_mark p e = record { says = λ names fields. rw e (writes-none names fields p) }

pub mark_there : {o : Option ℕ} {k : ℕ} {bs : List ℕ} {p r : Pen} → Token k bs p r → bs ≡ spelled_as k marks → o ≡ Some k → Marks o p r
unfolding kind_of bytes_for mark_of
mark_there {o} {k} {bs} {p} {r} t s e = record { says = λ names fields. rw e (token-writes names fields (mark k) t refl s) }
