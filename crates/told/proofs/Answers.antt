-- Each kind of answer as a caller in C or Rust is told it, computed: document 01's numbers, `nowhere` where there is no
-- place or node, and zero, which means nothing, where there is no number. Assumes nothing.
use Prim.Native.Nat.{ℕ}
use mathlib.Core.Path.{◌≡◌, refl}
use mathlib.Core.List.{[], ◌∷◌}
use native.Mathlib.Omega.{arith}
use Rattle.rules.specs.declared.Verdict.{Verdict}
use Rattle.rules.specs.declared.Verdict.TheVariants.{Accepted, Refused}
use Rattle.rules.specs.declared.Stop.TheVariants.{Faulted, Full, OutOfRange, NoRule}
use Rattle.rules.specs.declared.End.TheVariants.{Done, UsedUp, Stopped}
use Rattle.rules.specs.declared.Answer.TheVariants.{Refusal, Ending}
use Rattle.rules.specs.Numbers.{stop_no, stop_values, end_no, end_values, verdict_numbers}
use Rattle.told.specs.Told.{nowhere, number_in, place_in, verdict_no, checked_of, told_of}

pub checked-answers
    : (checked_of Accepted ∷ checked_of (Refused 4 0) ∷ checked_of (Refused 9 17) ∷ [])
    ≡ (record { verdict = 1; number = 0; place = 4294967295 }
    ∷ record { verdict = 2; number = 4; place = 0 }
    ∷ record { verdict = 2; number = 9; place = 17 }
    ∷ [])
unfolding nowhere number_in place_in verdict_no checked_of verdict_numbers
checked-answers = refl

pub zeros-are-no-verdict : (v : Verdict) → (checked_of v).verdict ≡ 0 → ⊥
unfolding checked_of verdict_no
zeros-are-no-verdict Accepted e = let z : ◌≡◌ {A = ℕ} 1 0 = e in omega arith
zeros-are-no-verdict (Refused k p) e = let z : ◌≡◌ {A = ℕ} 2 0 = e in omega arith

pub told-answers
    : (told_of (Refusal 4 1)
    ∷ told_of (Ending Done 2)
    ∷ told_of (Ending (Stopped (Faulted 3 5)) 4)
    ∷ told_of (Ending (Stopped (Full 1)) 9)
    ∷ told_of (Ending UsedUp 6)
    ∷ told_of (Ending (Stopped OutOfRange) 3)
    ∷ told_of (Ending (Stopped NoRule) 8)
    ∷ [])
    ≡ (record { refusal = 4; place = 1; end = 0; number = 0; node = 4294967295; steps = 0 }
    ∷ record { refusal = 0; place = 4294967295; end = 1; number = 0; node = 4294967295; steps = 2 }
    ∷ record { refusal = 0; place = 4294967295; end = 2; number = 3; node = 5; steps = 4 }
    ∷ record { refusal = 0; place = 4294967295; end = 3; number = 1; node = 4294967295; steps = 9 }
    ∷ record { refusal = 0; place = 4294967295; end = 4; number = 0; node = 4294967295; steps = 6 }
    ∷ record { refusal = 0; place = 4294967295; end = 5; number = 0; node = 4294967295; steps = 3 }
    ∷ record { refusal = 0; place = 4294967295; end = 0; number = 0; node = 4294967295; steps = 8 }
    ∷ [])
unfolding nowhere number_in place_in told_of stop_no stop_values end_no end_values
told-answers = refl
