-- Which numbers 25 is given to: where a number may stand, one below 2,147,483,648 can always stand (`small-stands`), and one above it never (`large-nowhere`). That number
-- itself stands behind its own sign and nowhere else: proofs/Accepted and proofs/Refused have it both ways. So 25 is "number outside 32 bits". Assumes nothing.
use Prim.Native.Nat.{ℕ, ◌<◌}
use mathlib.Core.Path.{◌≡◌, refl, ◌∙◌}
use mathlib.Core.List.{List, [], ◌∷◌, ◌++◌}
use native.Mathlib.Omega.{arith}
use borrow.Author.Tests.{lt-ltb}
use Rattle.grammar.specs.Tokens.{Tok, number, kind_of, value_of}
use Rattle.grammar.specs.Grammar.{Begins}
use Rattle.grammar.specs.Reads.{GoesOn}
use Rattle.reading.specs.Items.{Item}
use Rattle.reading.specs.Marks.{Known}
use Rattle.reading.specs.Table.{Due, command, body, var_name, var_semi, malloc_open, malloc_name, atom_open, middle, shut, otherwise, close, close_node, node, test, test_left, test_minus, operand, negative, name_first, first, first_dot, first_dotted, first_minus, becomes_due, expression, sel, sel_dot, after_minus, sel_minus, sel_minus_dot, proc_name, proc_colon, Act, take, pass, refuse, row_for, plain, signed, operands, commands, minuses, arguments, firsts, sides, does, Fed, went, stuck, onward, feed, feeds, start}
use Rattle.reading.proofs.FirstPlace.{fed-next, fed-one, known-append, stopped-right, refused-right, refused-alike, read_right}
use Rattle.reading.proofs.Large.{large-stuck}

-- taken, passed or refused
abbrev sort : Act → ℕ
sort (take ds is) = 0
sort (pass is) = 1
sort refuse = 2

module _ (n : ℕ) (small : n < 2147483648) where
  -- a small number does what 0 does
  sort-same : (d : Due) → sort (does d 3 n) ≡ sort (does d 3 0)
  unfolding does row_for operands commands minuses arguments firsts sides plain signed
  sort-same command = rw (lt-ltb n 2147483648 small) refl
  sort-same body = rw (lt-ltb n 2147483648 small) refl
  sort-same var_name = refl
  sort-same (var_semi x) = refl
  sort-same malloc_open = refl
  sort-same malloc_name = refl
  sort-same atom_open = refl
  sort-same middle = refl
  sort-same (shut t) = refl
  sort-same otherwise = refl
  sort-same close = refl
  sort-same (close_node t x) = refl
  sort-same (node t x) = refl
  sort-same test = rw (lt-ltb n 2147483648 small) refl
  sort-same test_left = refl
  sort-same test_minus = refl
  sort-same operand = rw (lt-ltb n 2147483648 small) refl
  sort-same negative = rw (lt-ltb n 2147483649 (omega (arith, small))) refl
  sort-same (name_first x) = refl
  sort-same first = refl
  sort-same first_dot = rw (lt-ltb n 2147483648 small) refl
  sort-same first_dotted = refl
  sort-same first_minus = refl
  sort-same becomes_due = refl
  sort-same expression = rw (lt-ltb n 2147483648 small) refl
  sort-same sel = refl
  sort-same sel_dot = rw (lt-ltb n 2147483648 small) refl
  sort-same after_minus = rw (lt-ltb n 2147483648 small) refl
  sort-same sel_minus = refl
  sort-same sel_minus_dot = rw (lt-ltb n 2147483648 small) refl
  sort-same proc_name = refl
  sort-same (proc_colon y) = refl

  small-stuck : (ds : List Due) (is js : List Item) → feed ds 3 n is ≡ stuck → feed ds 3 0 js ≡ stuck
  unfolding feed
  small-stuck [] is js e = refl
  small-stuck (d ∷ ds) is js e = go (does d 3 n) (does d 3 0) (sort-same d) (λ ks ls h. small-stuck ds ks ls h) e
    where
      go : (a b : Act) → sort a ≡ sort b → ((ks ls : List Item) → feed ds 3 n ks ≡ stuck → feed ds 3 0 ls ≡ stuck)
          → onward a ds is (λ ks. feed ds 3 n ks) ≡ stuck → onward b ds js (λ ks. feed ds 3 0 ks) ≡ stuck
      go (take es ks) b s next h = let clash : ◌≡◌ {A = ℕ} 0 1 = cc in absurd (omega arith)
      go (pass ks) (take es ls) s next h = absurd (omega (arith, s))
      go (pass ks) (pass ls) s next h = next (is ++ ks) (js ++ ls) h
      go (pass ks) refuse s next h = refl
      go refuse (take es ls) s next h = absurd (omega (arith, s))
      go refuse (pass ls) s next h = absurd (omega (arith, s))
      go refuse refuse s next h = refl

-- what can be gone on to a text is read
record Reached (us : List Tok) : Type 0 where
  due : List Due
  items : List Item
  fed : feeds us start [] ≡ went due items

reached : (us : List Tok) → Begins us → Reached us
reached us b = go (feeds us start []) refl
  where
    go : (f : Fed) → feeds us start [] ≡ f → Reached us
    go (went ds is) e = record { due = ds; items = is; fed = e }
    go stuck e = absurd (stopped-right us e b)

-- a number of 31 bits is never refused where a number may stand
pub small-stands : (us : List Tok) (n : ℕ) → Known us → Begins us → GoesOn us 3 → n < 2147483648 → (Begins (us ++ (number n ∷ [])) → ⊥) → ⊥
unfolding kind_of value_of
small-stands us n k b g small no_way = go (feed f.due 3 n f.items) refl
  where
    f : Reached us
    f = reached us b

    go : (h : Fed) → feed f.due 3 n f.items ≡ h → ⊥
    go stuck e = refused-alike us 3 f.fed (small-stuck n small f.due f.items f.items e) g
    go (went es js) e =
        no_way
        (read_right (us ++ (number n ∷ [])) (known-append us (number n ∷ []) k (tt, tt))
        (fed-next us (number n ∷ []) f.fed ∙ fed-one (number n) f.due f.items (went es js) e))

-- one of more than 32 bits is refused everywhere
pub large-nowhere : (us : List Tok) (n : ℕ) → 2147483648 < n → Begins us → Begins (us ++ (number n ∷ [])) → ⊥
unfolding kind_of value_of
large-nowhere us n large b c = let f = reached us b in refused-right us (number n) f.fed (large-stuck n large f.due f.items) c
