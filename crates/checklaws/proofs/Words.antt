-- A place of the pieces, for the rules that look at one code or one node: what the code's tests amount to. Codes by
-- their position, nodes by the roles of their words. Assumes nothing.
use Prim.Native.Nat.{ℕ, zero, suc, ◌+◌, ◌-◌, ◌<◌, ◌≤◌}
use mathlib.Core.Path.{◌≡◌, refl, sym, subst, ◌∙◌}
use mathlib.Core.Bool.{Bool, true, false, cond, not, ◌&&◌}
use mathlib.Core.Option.{Option, none, some}
use mathlib.Core.List.{List, [], ◌∷◌}
use native.Mathlib.Omega.{arith}
use lib.ListN.{get_or}
use lib.Dec.{eqb, leb}
use types.Run.{OneOf, miss}
use denote.Enum.Declared.{tag_of}
use borrow.Author.Tests.{le-leb, lt-leb, eq-eqb, ne_eqb, not-true, not-false}
use Rattle.rules.specs.contracts.Role.{the_type}
use Rattle.rules.specs.declared.Node.{Node}
use Rattle.rules.specs.declared.Verdict.{Verdict}
use Rattle.rules.specs.declared.Verdict.TheVariants.{Accepted, Refused}
use Rattle.rules.specs.declared.Kind.TheVariants.{Cmd as a_cmd}
use Rattle.rules.specs.declared.Role.{Role}
use Rattle.rules.specs.declared.Role.TheVariants.{Unused, Index, Half, Uses, Binds, Child}
use Rattle.rules.specs.declared.Row.{Row}
use Rattle.rules.specs.Image.{row_of, kind_of, nodes_of, code_at, node_at}
use Rattle.rules.specs.Refusals.{bad_code, no_row, blank, stains, is_kind, suits, misfits, bad_use, at_place, rule_of, rule}
use Rattle.checklaws.specs.Counts.{Counts}
use Rattle.checklaws.specs.Pieces.{refusal, code_rules, node_rules, use_rules, place_says, fits_word, words_reason}

not-not : (b : Bool) → not (not b) ≡ b
not-not true = refl
not-not false = refl

-- ---- codes

module _ (img : List ℕ) where
  code-bad : (i : ℕ) → bad_code img i ≡ true → Refused 4 i ≡ place_says img code_rules i
  unfolding place_says at_place rule_of rule
  code-bad i e = rw e

  code-good : (i : ℕ) → bad_code img i ≡ false → Accepted ≡ place_says img code_rules i
  unfolding place_says at_place rule_of rule
  code-good i e = rw e

  zero-bad : (i : ℕ) → code_at img i ≡ 0 → bad_code img i ≡ true
  unfolding bad_code
  zero-bad zero e = eq-eqb (code_at img 0) 0 e
  zero-bad (suc i) e = rw (eq-eqb (code_at img (suc i)) 0 e)

  pub code-zero : (i k : ℕ) → k ≡ code_at img i → k ≡ 0 → Refused 4 i ≡ place_says img code_rules i
  code-zero i k e h = code-bad i (zero-bad i (sym e ∙ h))

  first_good : (i : ℕ) → (code_at img i ≡ 0 → ⊥) → i ≡ 0 → bad_code img i ≡ false
  unfolding bad_code
  first_good zero h z = ne_eqb (code_at img 0) 0 h
  first_good (suc i) h z = absurd (omega arith)

  pub code-first : (i k : ℕ) → k ≡ code_at img i → (k ≡ 0 → ⊥) → i ≡ 0 → Accepted ≡ place_says img code_rules i
  code-first i k e h z = code-good i (first_good i (λ d. h (e ∙ d)) z)

  later : (i : ℕ) (b : Bool) → (code_at img i ≡ 0 → ⊥) → (i ≡ 0 → ⊥) → leb (code_at img i) (code_at img (i - 1)) ≡ b → bad_code img i ≡ b
  unfolding bad_code
  later zero b h z e = absurd (z refl)
  later (suc i) b h z e =
      let d : suc i - 1 ≡ i = omega arith in
      let f : leb (code_at img (suc i)) (code_at img i) ≡ b = subst (λ (j : ℕ). leb (code_at img (suc i)) (code_at img j) ≡ b) d e in
      rw (ne_eqb (code_at img (suc i)) 0 h) f

  module _ (i k j : ℕ) (e : k ≡ code_at img i) (h : k ≡ 0 → ⊥) (z : i ≡ 0 → ⊥) (f : j ≡ code_at img (i - 1)) where
    pub code-low : k ≤ j → Refused 4 i ≡ place_says img code_rules i
    code-low l = code-bad i (later i true (λ d. h (e ∙ d)) z (rw (← e, ← f) (le-leb k j l)))

    pub code-above : j < k → Accepted ≡ place_says img code_rules i
    code-above l = code-good i (later i false (λ d. h (e ∙ d)) z (rw (← e, ← f) (lt-leb k j l)))

pub ruleset coding = (code-zero, code-first, code-low, code-above)

-- ---- nodes

module _ (img : List ℕ) (n : ℕ) where
  node_says : Option Row → Node → Verdict
  node_says o x =
      cond (no_row o)
      (Refused 5 n)
      (cond (stains o x) (Refused 6 n) (cond (misfits img n o x) (Refused 7 n) Accepted))

  row-there : (r : Row) (x : Node) → refusal (words_reason img n r x) n ≡ node_says (some r) x
  unfolding node_says refusal no_row stains misfits words_reason
  row-there r x =
      go (blank r.a x.a && blank r.b x.b && blank r.c x.c) (suits img n r.a x.a && suits img n r.b x.b && suits img n r.c x.c)
    where
      go : (d f : Bool) → refusal (cond d (cond f 0 7) 6) n ≡ cond (not d) (Refused 6 n) (cond (not f) (Refused 7 n) Accepted)
      go true true = refl
      go true false = refl
      go false f = refl

  module _ (x : Node) (is : x ≡ node_at img n) where
    pub node-none : row_of x.tag ≡ none → Refused 5 n ≡ place_says img node_rules n
    unfolding place_says at_place no_row rule_of rule
    node-none e = rw (← is, e)

    pub node-some : (r : Row) (k : ℕ) → row_of x.tag ≡ some r → k ≡ words_reason img n r x → refusal k n ≡ place_says img node_rules n
    unfolding place_says at_place node_says rule_of rule
    node-some r k e h = rw (h, ← is, e) (row-there r x)

-- the roles of a word that the tag's row lists
pub blank-other : (p : Role) (w : ℕ) → OneOf (1 ∷ 2 ∷ 3 ∷ 4 ∷ 5 ∷ []) (tag_of the_type p) → true ≡ blank p w
unfolding blank
blank-other Unused w h = absurd (miss (1 ∷ 2 ∷ 3 ∷ 4 ∷ 5 ∷ []) 0 tt h)
blank-other Index w h = refl
blank-other Half w h = refl
blank-other Uses w h = refl
blank-other Binds w h = refl
blank-other (Child k) w h = refl

-- a word that isn't listed fits where it is zero
and-true : (b : Bool) → b ≡ (b && true)
and-true true = refl
and-true false = refl

pub fits-unused : (img : List ℕ) (n w : ℕ) (p : Role) → p ≡ Unused → eqb w 0 ≡ fits_word img n p w
unfolding fits_word blank suits
fits-unused img n w p e = rw e (and-true (eqb w 0))

-- ---- uses

module _ (img : List ℕ) (n : ℕ) (b : Bool) (is : b ≡ not (bad_use img n)) where
  pub use-good : b ≡ true → Accepted ≡ place_says img use_rules n
  unfolding place_says at_place rule_of rule
  use-good e = rw (not-true (bad_use img n) (sym is ∙ e))

  pub use-bad : b ≡ false → Refused 8 n ≡ place_says img use_rules n
  unfolding place_says at_place rule_of rule
  use-bad e = rw (not-false (bad_use img n) (sym is ∙ e))

pub ruleset uses = (use-good, use-bad)

module _ (img : List ℕ) (n m : ℕ) (is : m ≡ nodes_of img) where
  pub root-use : n + 1 ≡ m → (b : Bool) → b ≡ is_kind a_cmd (kind_of (node_at img n).tag) → b ≡ not (bad_use img n)
  unfolding bad_use
  root-use e b k = rw (eq-eqb (n + 1) (nodes_of img) (e ∙ is), ← k) (sym (not-not b))

  pub other-use : (n + 1 ≡ m → ⊥) → n < nodes_of img → (t : List ℕ) → Counts img (nodes_of img) t → eqb (get_or t n 0) 1 ≡ not (bad_use img n)
  unfolding bad_use
  other-use e l t k =
      rw
      (ne_eqb (n + 1) (nodes_of img) (λ d. e (d ∙ sym is)), ← k.counts n (omega (arith, k.long)))
      (sym (not-not (eqb (get_or t n 0) 1)))

pub ruleset once = (root-use, other-use)
