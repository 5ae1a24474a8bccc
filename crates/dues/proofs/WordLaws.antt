-- The word of a thing due, taken apart: its number, tag and name come back. Assumes nothing.
use Prim.Native.Nat.{ℕ, ◌+◌, ◌*◌, ◌/◌, ◌%◌, ◌<◌, ◌≤◌}
use mathlib.Core.Path.{◌≡◌, refl, sym, ◌∙◌}
use mathlib.Core.Option.{some}
use native.Mathlib.Omega.{arith}
use Rattle.reading.specs.Table.{Due, command, body, var_name, var_semi, malloc_open, malloc_name, atom_open, middle, shut, otherwise, close, close_node, node, test, test_left, test_minus, operand, negative, name_first, first, first_dot, first_dotted, first_minus, becomes_due, expression, sel, sel_dot, after_minus, sel_minus, sel_minus_dot, proc_name, proc_colon, does}
use Rattle.dues.specs.declared.Deed.{Deed}
use Rattle.dues.specs.Words.{due_word, deed_of, in_words, things, due_by, done_to}
use Rattle.dues.specs.Stack.{DueFits, IsDue}

-- a word of these three
pub record Parts (w n t x : ℕ) : Type 0 where
  pub number : w % 64 ≡ n
  pub tag : w / 64 % 64 ≡ t
  pub name : w / 4096 ≡ x

parts-of : (n t x : ℕ) → n < 64 → t < 64 → Parts (n + 64 * t + 4096 * x) n t x
parts-of n t x h l = record { number = omega arith; tag = omega arith; name = omega arith }

-- what a word of a thing due says of it
pub record Apart (d : Due) (w : ℕ) : Type 0 where
  pub some_number : 1 ≤ w % 64
  pub last-number : w % 64 ≤ 32
  pub small-name : w / 4096 < 128
  pub tag-9 : w % 64 ≡ 9 → 0 < w / 64 % 64
  pub tag-12 : w % 64 ≡ 12 → 0 < w / 64 % 64
  pub tag-13 : w % 64 ≡ 13 → 0 < w / 64 % 64
  pub back : due_by (w % 64) (w / 64 % 64) (w / 4096) ≡ some d

-- from its parts; a thing due without a tag has 0 there
apart : (d : Due) (w n t x : ℕ)
    → Parts w n t x → 1 ≤ n → n ≤ 32 → x < 128 → (n ≡ 9 → 0 < t) → (n ≡ 12 → 0 < t) → (n ≡ 13 → 0 < t) → due_by n t x ≡ some d → Apart d w
apart d w n t x p a b c e f g h =
    record {
      some_number = omega (arith, p.number);
      last-number = omega (arith, p.number);
      small-name = omega (arith, p.name);
      tag-9 = λ m. rw p.tag (e (sym p.number ∙ m));
      tag-12 = λ m. rw p.tag (f (sym p.number ∙ m));
      tag-13 = λ m. rw p.tag (g (sym p.number ∙ m));
      back = rw (p.number, p.tag, p.name) h;
    }

-- a number that is none of the three
bare : (d : Due) (n x : ℕ) → 1 ≤ n → n ≤ 32 → x < 128 → (n ≡ 9 → ⊥) → (n ≡ 12 → ⊥) → (n ≡ 13 → ⊥) → due_by n 0 x ≡ some d → Apart d (n + 64 * 0 + 4096 * x)
bare d n x a b c e f g h =
    apart d _ n 0 x (parts-of n 0 x (omega arith) (omega arith)) a b c (λ m. absurd (e m)) (λ m. absurd (f m)) (λ m. absurd (g m)) h

tagged : (d : Due) (n t x : ℕ) → 1 ≤ n → n ≤ 32 → 0 < t → t < 64 → x < 128 → due_by n t x ≡ some d → Apart d (n + 64 * t + 4096 * x)
tagged d n t x a b p q c h = apart d _ n t x (parts-of n t x (omega arith) q) a b c (λ m. p) (λ m. p) (λ m. p) h

-- every thing due that fits comes back from its word
pub due-apart : (d : Due) → DueFits d → Apart d (due_word d)
unfolding due_word due_by things
due-apart command h = bare command 1 0 (omega arith) (omega arith) (omega arith) (λ e. omega arith) (λ e. omega arith) (λ e. omega arith) refl
due-apart body h = bare body 2 0 (omega arith) (omega arith) (omega arith) (λ e. omega arith) (λ e. omega arith) (λ e. omega arith) refl
due-apart var_name h = bare var_name 3 0 (omega arith) (omega arith) (omega arith) (λ e. omega arith) (λ e. omega arith) (λ e. omega arith) refl
due-apart (var_semi x) h = bare (var_semi x) 4 x (omega arith) (omega arith) h (λ e. omega arith) (λ e. omega arith) (λ e. omega arith) refl
due-apart malloc_open h = bare malloc_open 5 0 (omega arith) (omega arith) (omega arith) (λ e. omega arith) (λ e. omega arith) (λ e. omega arith) refl
due-apart malloc_name h = bare malloc_name 6 0 (omega arith) (omega arith) (omega arith) (λ e. omega arith) (λ e. omega arith) (λ e. omega arith) refl
due-apart atom_open h = bare atom_open 7 0 (omega arith) (omega arith) (omega arith) (λ e. omega arith) (λ e. omega arith) (λ e. omega arith) refl
due-apart middle h = bare middle 8 0 (omega arith) (omega arith) (omega arith) (λ e. omega arith) (λ e. omega arith) (λ e. omega arith) refl
due-apart (shut t) h =
    apart (shut t) _ 9 t 0
    (record { number = omega (arith, h.1); tag = omega (arith, h.1); name = omega (arith, h.1) })
    (omega arith)
    (omega arith)
    (omega arith)
    (λ m. h.0)
    (λ m. h.0)
    (λ m. h.0)
    refl
due-apart otherwise h = bare otherwise 10 0 (omega arith) (omega arith) (omega arith) (λ e. omega arith) (λ e. omega arith) (λ e. omega arith) refl
due-apart close h = bare close 11 0 (omega arith) (omega arith) (omega arith) (λ e. omega arith) (λ e. omega arith) (λ e. omega arith) refl
due-apart (close_node t x) h = tagged (close_node t x) 12 t x (omega arith) (omega arith) h.0.0 h.0.1 h.1 refl
due-apart (node t x) h = tagged (node t x) 13 t x (omega arith) (omega arith) h.0.0 h.0.1 h.1 refl
due-apart test h = bare test 14 0 (omega arith) (omega arith) (omega arith) (λ e. omega arith) (λ e. omega arith) (λ e. omega arith) refl
due-apart test_left h = bare test_left 15 0 (omega arith) (omega arith) (omega arith) (λ e. omega arith) (λ e. omega arith) (λ e. omega arith) refl
due-apart test_minus h = bare test_minus 16 0 (omega arith) (omega arith) (omega arith) (λ e. omega arith) (λ e. omega arith) (λ e. omega arith) refl
due-apart operand h = bare operand 17 0 (omega arith) (omega arith) (omega arith) (λ e. omega arith) (λ e. omega arith) (λ e. omega arith) refl
due-apart negative h = bare negative 18 0 (omega arith) (omega arith) (omega arith) (λ e. omega arith) (λ e. omega arith) (λ e. omega arith) refl
due-apart (name_first x) h = bare (name_first x) 19 x (omega arith) (omega arith) h (λ e. omega arith) (λ e. omega arith) (λ e. omega arith) refl
due-apart first h = bare first 20 0 (omega arith) (omega arith) (omega arith) (λ e. omega arith) (λ e. omega arith) (λ e. omega arith) refl
due-apart first_dot h = bare first_dot 21 0 (omega arith) (omega arith) (omega arith) (λ e. omega arith) (λ e. omega arith) (λ e. omega arith) refl
due-apart first_dotted h = bare first_dotted 22 0 (omega arith) (omega arith) (omega arith) (λ e. omega arith) (λ e. omega arith) (λ e. omega arith) refl
due-apart first_minus h = bare first_minus 23 0 (omega arith) (omega arith) (omega arith) (λ e. omega arith) (λ e. omega arith) (λ e. omega arith) refl
due-apart becomes_due h = bare becomes_due 24 0 (omega arith) (omega arith) (omega arith) (λ e. omega arith) (λ e. omega arith) (λ e. omega arith) refl
due-apart expression h = bare expression 25 0 (omega arith) (omega arith) (omega arith) (λ e. omega arith) (λ e. omega arith) (λ e. omega arith) refl
due-apart sel h = bare sel 26 0 (omega arith) (omega arith) (omega arith) (λ e. omega arith) (λ e. omega arith) (λ e. omega arith) refl
due-apart sel_dot h = bare sel_dot 27 0 (omega arith) (omega arith) (omega arith) (λ e. omega arith) (λ e. omega arith) (λ e. omega arith) refl
due-apart after_minus h = bare after_minus 28 0 (omega arith) (omega arith) (omega arith) (λ e. omega arith) (λ e. omega arith) (λ e. omega arith) refl
due-apart sel_minus h = bare sel_minus 29 0 (omega arith) (omega arith) (omega arith) (λ e. omega arith) (λ e. omega arith) (λ e. omega arith) refl
due-apart sel_minus_dot h = bare sel_minus_dot 30 0 (omega arith) (omega arith) (omega arith) (λ e. omega arith) (λ e. omega arith) (λ e. omega arith) refl
due-apart proc_name h = bare proc_name 31 0 (omega arith) (omega arith) (omega arith) (λ e. omega arith) (λ e. omega arith) (λ e. omega arith) refl
due-apart (proc_colon x) h = bare (proc_colon x) 32 x (omega arith) (omega arith) h (λ e. omega arith) (λ e. omega arith) (λ e. omega arith) refl

-- so what is done to its parts is done to it
pub apart-done : (w k v : ℕ) (r : Deed) → deed_of r ≡ done_to (due_by (w % 64) (w / 64 % 64) (w / 4096)) k v → (d : Due) → DueFits d → w ≡ due_word d → deed_of r ≡ in_words (does d k v)
apart-done w k v r h d f e = h ∙ rw (e, (due-apart d f).back)

-- the parts of any word that stands for a thing due
pub due-parts : (w : ℕ) → IsDue w → (d : Due) × Apart d w
due-parts w h = (h.due, rw h.is (due-apart h.due h.fits))
