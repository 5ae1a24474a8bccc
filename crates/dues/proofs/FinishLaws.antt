-- The end of a text, looked at by the stack of what is due: nothing takes it. So either everything due is passed and the nodes of all of it come out, or
-- something due refuses it, and the text ends too early. Assumes nothing.
use Prim.Native.Nat.{ℕ, zero, suc, ◌-◌, ◌<◌}
use mathlib.Core.Path.{◌≡◌, refl, sym, ap, ◌∙◌}
use mathlib.Core.Bool.{Bool, true, false, true≢false}
use mathlib.Core.Option.{none, some}
use mathlib.Core.List.{List, [], ◌∷◌, ◌++◌, append_assoc, append-nil}
use native.Mathlib.Omega.{arith}
use lib.ListN.{length, get_or}
use Rattle.std.specs.Prelude.{Option}
use Rattle.reading.specs.Items.{Item}
use Rattle.reading.specs.Table.{Due, command, body, var_name, var_semi, malloc_open, malloc_name, atom_open, middle, shut, otherwise, close, close_node, node, test, test_left, test_minus, operand, negative, name_first, first, first_dot, first_dotted, first_minus, becomes_due, expression, sel, sel_dot, after_minus, sel_minus, sel_minus_dot, proc_name, proc_colon, Act, take, pass, refuse, row_for, operands, commands, minuses, arguments, firsts, sides, does, finish}
use Rattle.dues.specs.declared.Made.{Made}
use Rattle.dues.specs.declared.Dues.{Dues}
use Rattle.dues.specs.declared.Deed.{Deed}
use Rattle.dues.specs.declared.Deed.TheVariants.{Take, Refuse}
use Rattle.dues.specs.Words.{deed_of}
use Rattle.dues.specs.Stack.{Stacked, Standing, passing, PassesAll, passed_items}
use Rattle.dues.proofs.StackLaws.{Looked, asked, Learns, act-takes, act-refuses}

-- what stands above is passed on the way down
pub finish-above : (above left : List Due) (is : List Item) → PassesAll above 0 → finish (above ++ left) is ≡ finish left (is ++ passed_items above)
unfolding finish passed_items
finish-above [] left is h = ap (finish left) (sym (append-nil is))
finish-above (d ∷ above) left is h =
    rw (h.0 0) (finish-above above left (is ++ passing d) h.1 ∙ ap (finish left) (append_assoc is (passing d) (passed_items above)))

pub finish-all : (ds : List Due) (is : List Item) → PassesAll ds 0 → finish ds is ≡ some (is ++ passed_items ds)
unfolding finish
finish-all ds is h = ap (λ es. finish es is) (sym (append-nil ds)) ∙ finish-above ds [] is h

pub finish-stops : (above left : List Due) (d : Due) (is : List Item) → PassesAll above 0 → does d 0 0 ≡ refuse → finish (above ++ (d ∷ left)) is ≡ none
unfolding finish
finish-stops above left d is h e = finish-above above (d ∷ left) is h ∙ rw e refl

-- ---- nothing takes it

abbrev is_take : Act → Bool
is_take (take ds is) = true
is_take (pass is) = false
is_take refuse = false

not_taken : (d : Due) (v : ℕ) → is_take (does d 0 v) ≡ false
unfolding does row_for operands commands minuses arguments firsts sides
not_taken command v = refl
not_taken body v = refl
not_taken var_name v = refl
not_taken (var_semi x) v = refl
not_taken malloc_open v = refl
not_taken malloc_name v = refl
not_taken atom_open v = refl
not_taken middle v = refl
not_taken (shut t) v = refl
not_taken otherwise v = refl
not_taken close v = refl
not_taken (close_node t x) v = refl
not_taken (node t x) v = refl
not_taken test v = refl
not_taken test_left v = refl
not_taken test_minus v = refl
not_taken operand v = refl
not_taken negative v = refl
not_taken (name_first x) v = refl
not_taken first v = refl
not_taken first_dot v = refl
not_taken first_dotted v = refl
not_taken first_minus v = refl
not_taken becomes_due v = refl
not_taken expression v = refl
not_taken sel v = refl
not_taken sel_dot v = refl
not_taken after_minus v = refl
not_taken sel_minus v = refl
not_taken sel_minus_dot v = refl
not_taken proc_name v = refl
not_taken (proc_colon y) v = refl

pub end-not-taken : (d : Due) (v : ℕ) {es : List Due} {js : List Item} → does d 0 v ≡ take es js → ⊥
end-not-taken d v e = true≢false (sym (ap is_take e) ∙ not_taken d v)

-- ---- the stack in its words, looked through for the end

module _ (ws : List ℕ) (depth : ℕ) where
  -- everything is passed
  pub ends_there : (i : ℕ) → Looked ws depth 0 i → i ≡ 0 → (ds : List Due) → Stacked ds depth ws
      → PassesAll ds 0 × ((is : List Item) → finish ds is ≡ some (is ++ passed_items ds))
  ends_there i l z ds s =
      let r = l.reaches ds s in
      let all : ds ≡ r.above = r.split ∙ rw (empty r.left (r.count ∙ z)) (append-nil r.above) in
      let h : PassesAll ds 0 = rw all r.passes in
      (h, λ is. finish-all ds is h)
    where
      empty : (l : List Due) → length l ≡ 0 → l ≡ []
      empty [] e = refl
      empty (d ∷ l) e = absurd (omega (arith, e))

  -- something due refuses it
  pub refused-at-end : (i : ℕ) (r : Deed) → Looked ws depth 0 i → 0 < i → Learns (get_or ws (i - 1) 0) 0 r → r ≡ Refuse
      → (ds : List Due) → Stacked ds depth ws → (is : List Item) → finish ds is ≡ none
  refused-at-end zero r l p h e ds s is = absurd (omega arith)
  refused-at-end (suc j) r l p h e ds s is =
      let n : suc j - 1 ≡ j = omega arith in
      let a = asked ws depth 0 j l ds s in
      let q = act-refuses (does a.top 0 0) (sym (ap deed_of e) ∙ h a.top a.fits (rw n a.word)) in
      rw a.split (finish-stops a.above a.left a.top is a.passes q)

  -- and there is no third way
  pub never-taken : {A : Type 0} (i : ℕ) (r : Deed) (v : Dues) (m : Option Made) → Standing depth ws → Looked ws depth 0 i → 0 < i
      → Learns (get_or ws (i - 1) 0) 0 r → r ≡ Take v m → A
  never-taken zero r v m s l p h e = absurd (omega arith)
  never-taken (suc j) r v m s l p h e =
      let n : suc j - 1 ≡ j = omega arith in
      let a = asked ws depth 0 j l s.dues s.stacked in
      let q = act-takes (does a.top 0 0) _ _ (sym (ap deed_of e) ∙ h a.top a.fits (rw n a.word)) in
      absurd (end-not-taken a.top 0 q.2)
