-- Visible names as bits: names are 0 to 127, so a set of them is a number of 128 bits, and the names that all nodes hold
-- are a list of such numbers, with room for each node. Assumes nothing.
use Rattle.std.specs.Prelude.{ℕ, ◌/◌, ◌%◌, ◌^◌, ◌<◌, ◌≡◌, Bool, List, length, get_or, set, eqb}
use Rattle.rules.specs.declared.Node.{Node}
use Rattle.rules.specs.declared.Role.{Role}
use Rattle.rules.specs.declared.Role.TheVariants.{Unused, Index, Half, Uses, Binds, Child}
use Rattle.rules.specs.declared.Row.{Row}
use Rattle.rules.specs.Scope.{Names, has}
use Rattle.rules.proofs.StrayRows.{stray_word, grow_word}
use Rattle.checklaws.specs.Hands.{handed}

unfoldable pub bit : ℕ → ℕ → Bool
bit w x = eqb (w / 2 ^ x % 2) 1

-- the bits of w are these names
pub record Shows (w : ℕ) (visible : Names) : Type 0 where
  pub shows : (x : ℕ) → x < 128 → bit w x ≡ has x visible

-- a word that uses or declares a name: the name has a bit
abbrev pub NameFits : Role → ℕ → Type 0
NameFits Unused w = Unit {0}
NameFits Index w = Unit {0}
NameFits Half w = Unit {0}
NameFits Uses w = w < 128
NameFits Binds w = w < 128
NameFits (Child k) w = Unit {0}

-- a child is given v
abbrev pub given : Role → ℕ → ℕ → List ℕ → List ℕ
given Unused w v t = t
given Index w v t = t
given Half w v t = t
given Uses w v t = t
given Binds w v t = t
given (Child k) w v t = set t w v

-- what the nodes hold once those from n up have handed down
pub record Shown (visible : Names) (img : List ℕ) (n : ℕ) (held : List ℕ) : Type 0 where
  pub shows : (k : ℕ) → k < length held → Shows (get_or held k 0) (handed visible img n k)

-- each child of a node is
abbrev pub given_all : Row → Node → ℕ → List ℕ → List ℕ
given_all r x v t = given r.c x.c v (given r.b x.b v (given r.a x.a v t))

-- node n, of these roles and words, hands its names down in the list held, and strays or not
pub record Visited (r : Row) (x : Node) (n : ℕ) (held held' : List ℕ) (bad : Bool) : Type 0 where
  pub names : ℕ
  pub gives : held' ≡ given_all r x names held
  pub grows : (visible : Names) → Shows (get_or held n 0) visible → Shows names (grow_word visible r.a x.a)
  pub strays : (visible : Names) → Shows (get_or held n 0) visible → bad ≡ stray_word visible r.a x.a
