-- Whatever is written has a first token, and that is no dot and no minus. Where it is no sign either, an expression before it is over.
-- Assumes nothing.
use mathlib.Core.Path.{◌≡◌, refl}
use mathlib.Core.Bool.{false}
use mathlib.Core.List.{List, [], ◌∷◌, ◌++◌}
use lib.Dec.{eqb}
use Rattle.grammar.specs.Tokens.{Tok, kind_of}
use Rattle.reading.specs.Levels.{Level, Written, a-field, a-number, a-negative, a-null, a-name, a-group, one-operand, dotted, one-selection, less-a-selection, a-proc, closed, only-a-proc, ends-dot-proc, ends-minus-proc, ends-minus-dot-proc, says-true, says-false, are-equal, is-less, declares, calls, allocates, assigns, assigns-field, assigns-at-proc, skips, in-sequence, in-parallel, repeats, chooses, in-atom}

abbrev pub Starts : List Tok → Type 0
Starts [] = ⊥
Starts (t ∷ ts) = (eqb (kind_of t) 23 ≡ false) × (eqb (kind_of t) 5 ≡ false)

-- more behind it
longer : (us vs : List Tok) → Starts us → Starts (us ++ vs)
longer [] vs s = absurd s
longer (t ∷ us) vs s = s

pub written-starts : {l : Level} {ts : List Tok} → Written l ts → Starts ts
unfolding kind_of
written-starts a-field = (refl, refl)
written-starts (a-number h) = (refl, refl)
written-starts (a-negative h) = (refl, refl)
written-starts a-null = (refl, refl)
written-starts a-name = (refl, refl)
written-starts (a-group w) = (refl, refl)
written-starts (one-operand w) = written-starts w
written-starts (dotted {us} w v) = longer us _ (written-starts w)
written-starts (one-selection w) = written-starts w
written-starts (less-a-selection {us} w m v) = longer us _ (written-starts w)
written-starts (a-proc w) = (refl, refl)
written-starts (closed w) = written-starts w
written-starts (only-a-proc w) = written-starts w
written-starts (ends-dot-proc {us} w v) = longer us _ (written-starts w)
written-starts (ends-minus-proc {us} w m v) = longer us _ (written-starts w)
written-starts (ends-minus-dot-proc {us} w m v u) = longer us _ (written-starts w)
written-starts (says-true w) = (refl, refl)
written-starts (says-false w) = (refl, refl)
written-starts (are-equal {us} w v u n) = longer us _ (written-starts w)
written-starts (is-less {us} w v u n) = longer us _ (written-starts w)
written-starts (declares w) = (refl, refl)
written-starts (calls {us} w v) = longer us _ (written-starts w)
written-starts allocates = (refl, refl)
written-starts (assigns w) = (refl, refl)
written-starts (assigns-field {us} w v u) = longer us _ (written-starts w)
written-starts (assigns-at-proc {us} w v u) = longer us _ (written-starts w)
written-starts skips = (refl, refl)
written-starts (in-sequence w v) = (refl, refl)
written-starts (in-parallel w v) = (refl, refl)
written-starts (repeats w) = (refl, refl)
written-starts (chooses w v) = (refl, refl)
written-starts (in-atom w) = (refl, refl)
