-- A token at the thing due of a word, with its value: taken, or not. Assumes nothing.
use Prim.Native.Nat.{ℕ}
use mathlib.Core.Path.{◌≡◌, sym, ap, ◌∙◌}
use mathlib.Core.List.{List}
use native.Mathlib.Omega.{arith}
use Rattle.reading.specs.Items.{Item}
use Rattle.reading.specs.Table.{Due, take, does}
use Rattle.dues.specs.declared.Dues.{Dues}
use Rattle.dues.specs.declared.Made.{Made}
use Rattle.dues.specs.declared.Deed.{Deed}
use Rattle.dues.specs.declared.Deed.TheVariants.{Take, Pass, Refuse}
use Rattle.dues.specs.Words.{due_word, deed_of, in_words}
use Rattle.dues.specs.Stack.{DueFits}
use Rattle.std.specs.Prelude.{Option}
use Rattle.judging.specs.Judged.{Takes-as}

-- what the code learnt of it
abbrev pub Learnt : ℕ → ℕ → ℕ → Deed → Type 0
Learnt w k v r = (d : Due) → DueFits d → w ≡ due_word d → deed_of r ≡ in_words (does d k v)

pub takes-it : (w k v : ℕ) (r : Deed) (dues : Dues) (made : Option Made) → Learnt w k v r → r ≡ Take dues made → Takes-as w k v dues made
takes-it w k v r dues made h e = record { takes = λ d f i. sym (ap deed_of e) ∙ h d f i }

abbrev pub Untaken : ℕ → ℕ → ℕ → Type 0
Untaken w k v = (d : Due) → DueFits d → w ≡ due_word d → (es : List Due) (js : List Item) → does d k v ≡ take es js → ⊥

pub passes-it : (w k v : ℕ) (r : Deed) (made : Option Made) → Learnt w k v r → r ≡ Pass made → Untaken w k v
passes-it w k v r made h e d f i es js t =
    let q : deed_of (Pass made) ≡ in_words (take es js) = sym (ap deed_of e) ∙ h d f i ∙ ap in_words t in
    let z : ◌≡◌ {A = ℕ} 1 0 = cc in
    omega arith

pub refuses-it : (w k v : ℕ) (r : Deed) → Learnt w k v r → r ≡ Refuse → Untaken w k v
refuses-it w k v r h e d f i es js t =
    let q : deed_of Refuse ≡ in_words (take es js) = sym (ap deed_of e) ∙ h d f i ∙ ap in_words t in
    let z : ◌≡◌ {A = ℕ} 1 0 = cc in
    omega arith
