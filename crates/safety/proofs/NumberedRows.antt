-- How many rows the tables have: the numbers of the faults are 1 to 8, those of the rooms 1 to 3, those of the refusals 1 to 10,
-- each with its row and no others. No definition says so; a row more in a table, or one fewer, is seen here. Assumes nothing.
use Prim.Native.Nat.{ℕ, zero, suc}
use mathlib.Core.Path.{refl, subst}
use mathlib.Core.Logic.{◌↔◌}
use native.Mathlib.Omega.{arith}
use Rattle.rules.specs.Refusals.{Reason, no_space, too_short, wrong_contents, wrong_length, wrong_code, no_such_tag, unused_word, wrong_operand, not_once, undeclared, rule, rule_of}
use Rattle.rules.specs.Eval.{Wrong, difference_of_others, difference_outside, no_object, no_field, unlike_kinds, less_of_others, no_procedure, unset_variable, fault_no}
use Rattle.rules.specs.Control.{Room, of_frames, of_objects, of_control, room_no}
use Rattle.safety.specs.Numbered.{AFault, ARoom, ARefusal, OneTo}

-- ---- document 01, "Steps": faults

fault-number : (w : Wrong) → OneTo 8 (fault_no w)
fault-number difference_of_others = (omega arith, omega arith)
fault-number difference_outside = (omega arith, omega arith)
fault-number no_object = (omega arith, omega arith)
fault-number no_field = (omega arith, omega arith)
fault-number unlike_kinds = (omega arith, omega arith)
fault-number less_of_others = (omega arith, omega arith)
fault-number no_procedure = (omega arith, omega arith)
fault-number unset_variable = (omega arith, omega arith)

fault-of : (k : ℕ) → OneTo 8 k → AFault k
fault-of zero h = absurd (omega (arith, h.0))
fault-of (suc zero) h = (difference_of_others, refl)
fault-of (suc (suc zero)) h = (difference_outside, refl)
fault-of (suc (suc (suc zero))) h = (no_object, refl)
fault-of (suc (suc (suc (suc zero)))) h = (no_field, refl)
fault-of (suc (suc (suc (suc (suc zero))))) h = (unlike_kinds, refl)
fault-of (suc (suc (suc (suc (suc (suc zero)))))) h = (less_of_others, refl)
fault-of (suc (suc (suc (suc (suc (suc (suc zero))))))) h = (no_procedure, refl)
fault-of (suc (suc (suc (suc (suc (suc (suc (suc zero)))))))) h = (unset_variable, refl)
fault-of (suc (suc (suc (suc (suc (suc (suc (suc (suc k))))))))) h = absurd (omega (arith, h.1))

pub fault-numbers : (k : ℕ) → AFault k ↔ OneTo 8 k
fault-numbers k = (λ x. subst (OneTo 8) x.1 (fault-number x.0), fault-of k)

-- ---- document 01, "How a run ends": rooms

room-number : (r : Room) → OneTo 3 (room_no r)
room-number of_frames = (omega arith, omega arith)
room-number of_objects = (omega arith, omega arith)
room-number of_control = (omega arith, omega arith)

room_of : (k : ℕ) → OneTo 3 k → ARoom k
room_of zero h = absurd (omega (arith, h.0))
room_of (suc zero) h = (of_frames, refl)
room_of (suc (suc zero)) h = (of_objects, refl)
room_of (suc (suc (suc zero))) h = (of_control, refl)
room_of (suc (suc (suc (suc k)))) h = absurd (omega (arith, h.1))

pub room-numbers : (k : ℕ) → ARoom k ↔ OneTo 3 k
room-numbers k = (λ x. subst (OneTo 3) x.1 (room-number x.0), room_of k)

-- ---- document 01, "Refused scripts": refusals

refusal-number : (r : Reason) → OneTo 10 (rule_of r).number
unfolding rule_of rule
refusal-number no_space = (omega arith, omega arith)
refusal-number too_short = (omega arith, omega arith)
refusal-number wrong_contents = (omega arith, omega arith)
refusal-number wrong_length = (omega arith, omega arith)
refusal-number wrong_code = (omega arith, omega arith)
refusal-number no_such_tag = (omega arith, omega arith)
refusal-number unused_word = (omega arith, omega arith)
refusal-number wrong_operand = (omega arith, omega arith)
refusal-number not_once = (omega arith, omega arith)
refusal-number undeclared = (omega arith, omega arith)

refusal-of : (k : ℕ) → OneTo 10 k → ARefusal k
unfolding rule_of rule
refusal-of zero h = absurd (omega (arith, h.0))
refusal-of (suc zero) h = (too_short, refl)
refusal-of (suc (suc zero)) h = (wrong_contents, refl)
refusal-of (suc (suc (suc zero))) h = (wrong_length, refl)
refusal-of (suc (suc (suc (suc zero)))) h = (wrong_code, refl)
refusal-of (suc (suc (suc (suc (suc zero))))) h = (no_such_tag, refl)
refusal-of (suc (suc (suc (suc (suc (suc zero)))))) h = (unused_word, refl)
refusal-of (suc (suc (suc (suc (suc (suc (suc zero))))))) h = (wrong_operand, refl)
refusal-of (suc (suc (suc (suc (suc (suc (suc (suc zero)))))))) h = (not_once, refl)
refusal-of (suc (suc (suc (suc (suc (suc (suc (suc (suc zero))))))))) h = (undeclared, refl)
refusal-of (suc (suc (suc (suc (suc (suc (suc (suc (suc (suc zero)))))))))) h = (no_space, refl)
refusal-of (suc (suc (suc (suc (suc (suc (suc (suc (suc (suc (suc k))))))))))) h = absurd (omega (arith, h.1))

pub refusal-numbers : (k : ℕ) → ARefusal k ↔ OneTo 10 k
refusal-numbers k = (λ x. subst (OneTo 10) x.1 (refusal-number x.0), refusal-of k)
