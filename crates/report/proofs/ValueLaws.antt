-- What the pieces of a value's text make, one law for each way of writing a value. Assumes nothing.
use Prim.Native.Nat.{ℕ, ◌≤◌}
use mathlib.Core.Path.{◌≡◌, refl, sym, ap, ◌∙◌}
use mathlib.Core.List.{List, [], ◌∷◌, ◌++◌}
use native.Mathlib.Omega.{arith}
use lib.IntN.{ℤ}
use mir.Syntax.{w32}
use mir.Val.{to_z}
use Rattle.rules.specs.declared.Chain.{Chain}
use Rattle.rules.specs.declared.Chain.TheVariants.{Empty, From}
use Rattle.rules.specs.declared.Value.{Value}
use Rattle.rules.specs.declared.Value.TheVariants.{Nothing, Null, Int, Field, Object, Proc, Unset}
use Rattle.text.specs.Ascii.{ascii}
use Rattle.text.specs.Text.{decimal, signed, further, pair, last}
use Rattle.listed.specs.Listing.{code_of, chain_word, value_words}
use Rattle.text.specs.declared.Page.{Page}
use Rattle.text.specs.Written.{Adds}
use Rattle.text.proofs.WroteLaws.{both-adds, adds_as}

module _ (d o : Page) where
  pub int-wrote : (b : ℕ) (z : ℤ) (e u : Page) → z ≡ to_z w32 b → Adds 5 d (ascii " int ") e → Adds 21 e (signed z) u
      → Adds 1 u (ascii "\n") o → Adds 27 d (further (ascii "int" ∷ signed (to_z w32 b) ∷ [])) o
  unfolding further
  int-wrote b z e u i v w x =
      rw (← i)
      (both-adds 5 22 d e o (ascii " int ") (signed z ++ ascii "\n") v
      (both-adds 21 1 e u o (signed z) (ascii "\n") w x))

  pub chain-none : (ch : Chain) → ch ≡ Empty → Adds 6 d (ascii " none\n") o → Adds 22 d (further (chain_word ch ∷ [])) o
  unfolding further chain_word
  chain-none ch c w = adds_as 6 22 d o (ascii " none\n") (further (chain_word ch ∷ [])) w (rw c) (omega arith)

  pub chain-frame : (ch : Chain) (k a : ℕ) → ch ≡ From k → a ≡ k → Adds 22 d (last [] a) o → Adds 22 d (further (chain_word ch ∷ [])) o
  unfolding further chain_word
  chain-frame ch k a c i w = adds_as 22 22 d o (last [] k) (further (chain_word ch ∷ [])) (rw i at w) (rw c) (omega arith)

  pub proc-wrote : (n a : ℕ) (ch : Chain) (e : Page) → a ≡ n → Adds 26 d (pair (ascii " proc") a) e → Adds 22 e (further (chain_word ch ∷ [])) o
      → Adds 48 d (further (ascii "proc" ∷ decimal n ∷ chain_word ch ∷ [])) o
  unfolding further
  proc-wrote n a ch e i v w = both-adds 26 22 d e o (pair (ascii " proc") n) (further (chain_word ch ∷ [])) (rw i at v) w

  module _ (img : List ℕ) where
    pub field-wrote : (f c : ℕ) → c ≡ code_of img f → Adds 28 d (last (ascii " field") c) o → Adds 28 d (further (value_words img (Field f))) o
    unfolding further value_words
    field-wrote f c e w =
        adds_as 28 28 d o (last (ascii " field") c) (further (value_words img (Field f))) w
        (ap (λ (n : ℕ). last (ascii " field") n) e) (omega arith)

    -- each kind of value
    by_kind : (m : ℕ) (v w : Value) (t : List ℕ) → v ≡ w → Adds m d t o → t ≡ further (value_words img w) → m ≤ 48
        → Adds 48 d (further (value_words img v)) o
    by_kind m v w t e x i l =
        adds_as m 48 d o t (further (value_words img v)) x (i ∙ ap (λ (u : Value). further (value_words img u)) (sym e)) l

    pub value-nothing : (v : Value) → v ≡ Nothing → Adds 1 d (ascii "\n") o → Adds 48 d (further (value_words img v)) o
    unfolding further value_words
    value-nothing v e w = by_kind 1 v Nothing (ascii "\n") e w refl (omega arith)

    pub value-null : (v : Value) → v ≡ Null → Adds 6 d (ascii " null\n") o → Adds 48 d (further (value_words img v)) o
    unfolding further value_words
    value-null v e w = by_kind 6 v Null (ascii " null\n") e w refl (omega arith)

    pub value-int : (v : Value) (b : ℕ) → v ≡ Int b → Adds 27 d (further (ascii "int" ∷ signed (to_z w32 b) ∷ [])) o
        → Adds 48 d (further (value_words img v)) o
    unfolding further value_words
    value-int v b e w = by_kind 27 v (Int b) (further (ascii "int" ∷ signed (to_z w32 b) ∷ [])) e w refl (omega arith)

    pub value-field : (v : Value) (f : ℕ) → v ≡ Field f → Adds 28 d (further (value_words img (Field f))) o
        → Adds 48 d (further (value_words img v)) o
    value-field v f e w = by_kind 28 v (Field f) (further (value_words img (Field f))) e w refl (omega arith)

    pub value-object : (v : Value) (n a : ℕ) → v ≡ Object n → a ≡ n → Adds 29 d (last (ascii " object") a) o
        → Adds 48 d (further (value_words img v)) o
    unfolding further value_words
    value-object v n a e i w = by_kind 29 v (Object n) (last (ascii " object") n) e (rw i at w) refl (omega arith)

    pub value-proc : (v : Value) (n : ℕ) (ch : Chain) → v ≡ Proc n ch
        → Adds 48 d (further (ascii "proc" ∷ decimal n ∷ chain_word ch ∷ [])) o
        → Adds 48 d (further (value_words img v)) o
    unfolding further value_words
    value-proc v n ch e w =
        by_kind 48 v (Proc n ch) (further (ascii "proc" ∷ decimal n ∷ chain_word ch ∷ [])) e w refl (omega arith)

    pub value-unset : (v : Value) → v ≡ Unset → Adds 7 d (ascii " unset\n") o → Adds 48 d (further (value_words img v)) o
    unfolding further value_words
    value-unset v e w = by_kind 7 v Unset (ascii " unset\n") e w refl (omega arith)
