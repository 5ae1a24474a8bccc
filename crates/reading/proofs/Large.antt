-- Numbers that are taken nowhere: one above 2,147,483,648 is refused with a sign before it and without one, whatever is due. What is due and takes a number at
-- all looks at its size, and the rest passes or refuses it. Assumes nothing.
use Prim.Native.Nat.{ℕ, ◌<◌}
use mathlib.Core.Path.{◌≡◌, refl, ap}
use mathlib.Core.Bool.{Bool, true, false, true≢false}
use mathlib.Core.List.{List, [], ◌∷◌, ◌++◌}
use native.Mathlib.Omega.{arith}
use borrow.Author.Tests.{le-ltb}
use Rattle.reading.specs.Items.{Item}
use Rattle.reading.specs.Table.{Due, command, body, var_name, var_semi, malloc_open, malloc_name, atom_open, middle, shut, otherwise, close, close_node, node, test, test_left, test_minus, operand, negative, name_first, first, first_dot, first_dotted, first_minus, becomes_due, expression, sel, sel_dot, after_minus, sel_minus, sel_minus_dot, proc_name, proc_colon, Act, take, pass, refuse, row_for, plain, signed, operands, commands, minuses, arguments, firsts, sides, does, stuck, onward, feed}

abbrev is_take : Act → Bool
is_take (take ds is) = true
is_take (pass is) = false
is_take refuse = false

module _ (n : ℕ) (large : 2147483648 < n) where
  plain-none : (a : Act) → plain n a ≡ refuse
  unfolding plain
  plain-none a = rw (le-ltb n 2147483648 (omega arith))

  signed-none : (a : Act) → signed n a ≡ refuse
  unfolding signed
  signed-none a = rw (le-ltb n 2147483649 (omega arith))

  not_taken : (d : Due) → is_take (does d 3 n) ≡ false
  unfolding does row_for operands commands minuses arguments firsts sides
  not_taken command = ap is_take (plain-none _)
  not_taken body = ap is_take (plain-none _)
  not_taken var_name = refl
  not_taken (var_semi x) = refl
  not_taken malloc_open = refl
  not_taken malloc_name = refl
  not_taken atom_open = refl
  not_taken middle = refl
  not_taken (shut t) = refl
  not_taken otherwise = refl
  not_taken close = refl
  not_taken (close_node t x) = refl
  not_taken (node t x) = refl
  not_taken test = ap is_take (plain-none _)
  not_taken test_left = refl
  not_taken test_minus = refl
  not_taken operand = ap is_take (plain-none _)
  not_taken negative = ap is_take (signed-none _)
  not_taken (name_first x) = refl
  not_taken first = refl
  not_taken first_dot = ap is_take (plain-none _)
  not_taken first_dotted = refl
  not_taken first_minus = refl
  not_taken becomes_due = refl
  not_taken expression = ap is_take (plain-none _)
  not_taken sel = refl
  not_taken sel_dot = ap is_take (plain-none _)
  not_taken after_minus = ap is_take (plain-none _)
  not_taken sel_minus = refl
  not_taken sel_minus_dot = ap is_take (plain-none _)
  not_taken proc_name = refl
  not_taken (proc_colon y) = refl

  pub large-stuck : (ds : List Due) (is : List Item) → feed ds 3 n is ≡ stuck
  unfolding feed
  large-stuck [] is = refl
  large-stuck (d ∷ ds) is = go (does d 3 n) (not_taken d) (λ js. large-stuck ds js)
    where
      go : (a : Act) → is_take a ≡ false → ((js : List Item) → feed ds 3 n js ≡ stuck) → onward a ds is (λ js. feed ds 3 n js) ≡ stuck
      go (take es js) e r = absurd (true≢false e)
      go (pass js) e r = r (is ++ js)
      go refuse e r = refl
