-- Rules 6 and 7 at one node: each word by its role, the three words of a row, and what the node's rules say then. Assumes nothing.
use Prim.Native.Nat.{ℕ}
use mathlib.Core.Path.{◌≡◌, refl, sym, ap, ◌∙◌}
use mathlib.Core.Bool.{Bool, true, false, cond, ◌&&◌}
use mathlib.Core.Option.{Option, none, some}
use mathlib.Core.List.{List}
use native.Mathlib.Omega.{arith}
use lib.Dec.{eqb, leb}
use borrow.Author.Tests.{lt-leb, leb-true}
use Rattle.rules.specs.declared.Node.{Node}
use Rattle.rules.specs.declared.Kind.{Kind}
use Rattle.rules.specs.declared.Kind.TheVariants.{Exp as an_exp, Test as a_test, Cmd as a_cmd}
use Rattle.rules.specs.declared.Role.{Role}
use Rattle.rules.specs.declared.Role.TheVariants.{Unused, Index, Half, Uses, Binds, Child}
use Rattle.rules.specs.declared.Row.{Row}
use Rattle.rules.specs.declared.Verdict.TheVariants.{Accepted, Refused}
use Rattle.rules.specs.Image.{kind_of, node_at, row, row_of, tags}
use Rattle.image.proofs.Rows.{Absent, absent}
use Rattle.rules.specs.Refusals.{blank, suits, is_kind, same_kind}
use Rattle.checklaws.specs.Pieces.{refusal, node_rules, place_says, fits_word, index_right, name_right}
use Rattle.checklaws.proofs.Three.{all_fit, not_right, not-blank}
use Rattle.checklaws.proofs.Words.{fits-unused, node-none, node-some}
use Rattle.nodecheck.specs.Rows.{row_fits}

-- ---- words

module _ (img : List ℕ) (n w : ℕ) where
  pub unused-fits : eqb w 0 ≡ fits_word img n Unused w
  unused-fits = fits-unused img n w Unused refl

  module _ (b : Bool) where
    pub index-fits : b ≡ index_right img w → b ≡ fits_word img n Index w
    unfolding fits_word blank suits
    index-fits e = e

    pub uses-fits : b ≡ name_right img w → b ≡ fits_word img n Uses w
    unfolding fits_word blank suits
    uses-fits e = e

    pub binds-fits : b ≡ name_right img w → b ≡ fits_word img n Binds w
    unfolding fits_word blank suits
    binds-fits e = e

    pub child_fits : (k : Kind) → b ≡ suits img n (Child k) w → b ≡ fits_word img n (Child k) w
    unfolding fits_word blank
    child_fits k e = e

-- ---- rows: three words that fit the roles of the tag's row

module _ (img : List ℕ) (n : ℕ) (x : Node) where
  pub arm : {p q s : Role} (a b c : Bool) → some (row p q s) ≡ row_of x.tag → a ≡ fits_word img n p x.a → b ≡ fits_word img n q x.b → c ≡ fits_word img n s x.c
      → (a && b && c) ≡ row_fits img n (row_of x.tag) x
  unfolding row_fits
  arm a b c e f g h = rw (← e, f, g, h)

  pub arm-of-two-halves : (c : Bool) → some (row Half Half Unused) ≡ row_of x.tag → c ≡ fits_word img n Unused x.c → c ≡ row_fits img n (row_of x.tag) x
  unfolding row_fits fits_word blank suits
  arm-of-two-halves c e h = rw (← e) h

pub no_row : (img : List ℕ) (n : ℕ) (x : Node) → Absent x.tag tags → false ≡ row_fits img n (row_of x.tag) x
unfolding row_fits
no_row img n x h = rw (absent x.tag h)

-- ---- kinds: the range of each has its tags and no others

by_ranges : Bool → Bool → Bool → Option Kind
by_ranges p q r = cond p (some an_exp) (cond q (some a_test) (cond r (some a_cmd) none))

off : (a b : Bool) → b ≡ false → (a && b) ≡ false
off true b e = e
off false b e = refl

module _ (t : ℕ) where
  exp-range : is_kind an_exp (kind_of t) ≡ (leb 1 t && leb t 7)
  unfolding is_kind same_kind kind_of by_ranges
  exp-range = go (leb 1 t && leb t 7) (leb 16 t && leb t 19) (leb 32 t && leb t 42)
    where
      go : (p q r : Bool) → is_kind an_exp (by_ranges p q r) ≡ p
      go true q r = refl
      go false true r = refl
      go false false true = refl
      go false false false = refl

  test-range : is_kind a_test (kind_of t) ≡ (leb 16 t && leb t 19)
  unfolding is_kind same_kind kind_of by_ranges
  test-range =
      go (leb 1 t && leb t 7) (leb 16 t) (leb t 19) (leb 32 t && leb t 42) (λ e. off (leb 1 t) (leb t 7) (lt-leb t 7 (omega (arith, leb-true 16 t e))))
    where
      go : (p a b r : Bool) → (a ≡ true → p ≡ false) → is_kind a_test (by_ranges p (a && b) r) ≡ (a && b)
      go true true b r h = cc (h refl)
      go true false b r h = refl
      go false true true r h = refl
      go false true false true h = refl
      go false true false false h = refl
      go false false b true h = refl
      go false false b false h = refl

  cmd-range : is_kind a_cmd (kind_of t) ≡ (leb 32 t && leb t 42)
  unfolding is_kind same_kind kind_of by_ranges
  cmd-range =
      go (leb 1 t && leb t 7) (leb 16 t && leb t 19) (leb 32 t) (leb t 42) (λ e. off (leb 1 t) (leb t 7) (lt-leb t 7 (omega (arith, leb-true 32 t e)))) (λ e. off (leb 16 t) (leb t 19) (lt-leb t 19 (omega (arith, leb-true 32 t e))))
    where
      go : (p q a b : Bool) → (a ≡ true → p ≡ false) → (a ≡ true → q ≡ false) → is_kind a_cmd (by_ranges p q (a && b)) ≡ (a && b)
      go true q true b h k = cc (h refl)
      go false true true b h k = cc (k refl)
      go true q false b h k = refl
      go false true false b h k = refl
      go false false true true h k = refl
      go false false true false h k = refl
      go false false false b h k = refl

  module _ (k : Kind) (b : Bool) where
    pub exp-tag : k ≡ an_exp → b ≡ (leb 1 t && leb t 7) → b ≡ is_kind k (kind_of t)
    exp-tag e f = rw (e, exp-range) f

    pub test-tag : k ≡ a_test → b ≡ (leb 16 t && leb t 19) → b ≡ is_kind k (kind_of t)
    test-tag e f = rw (e, test-range) f

    pub cmd-tag : k ≡ a_cmd → b ≡ (leb 32 t && leb t 42) → b ≡ is_kind k (kind_of t)
    cmd-tag e f = rw (e, cmd-range) f

pub ruleset kinds = (exp-tag, test-tag, cmd-tag)

-- ---- the node's rules

module _ (img : List ℕ) (n : ℕ) (x : Node) (is : x ≡ node_at img n) (f : Bool) (e : f ≡ row_fits img n (row_of x.tag) x) where
  fits-some : (o : Option Row) → row_of x.tag ≡ o → true ≡ row_fits img n o x → Accepted ≡ place_says img node_rules n
  unfolding row_fits refusal
  fits-some none d h = cc h
  fits-some (some r) d h = node-some img n x is r 0 d (all_fit img n r x true h refl)

  pub node-fits : f ≡ true → Accepted ≡ place_says img node_rules n
  node-fits h = fits-some (row_of x.tag) refl (sym h ∙ e)

  pub node-untagged : row_of x.tag ≡ none → Refused 5 n ≡ place_says img node_rules n
  node-untagged d = node-none img n x is d

  module _ (h : f ≡ false) (r : Row) (d : row_of x.tag ≡ some r) (b : Bool) (g : b ≡ (blank r.a x.a && blank r.b x.b && blank r.c x.c)) where
    misfits : f ≡ (fits_word img n r.a x.a && fits_word img n r.b x.b && fits_word img n r.c x.c)
    unfolding row_fits
    misfits = e ∙ ap (λ (o : Option Row). row_fits img n o x) d

    pub node-unfit : b ≡ true → Refused 7 n ≡ place_says img node_rules n
    unfolding refusal
    node-unfit i = node-some img n x is r 7 d (not_right img n r x f misfits h b g i)

    pub node-stained : b ≡ false → Refused 6 n ≡ place_says img node_rules n
    unfolding refusal
    node-stained i = node-some img n x is r 6 d (not-blank img n r x f misfits h b g i)

pub ruleset reasons = (node-fits, node-untagged, node-unfit, node-stained)
