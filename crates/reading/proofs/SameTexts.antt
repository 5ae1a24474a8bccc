-- The rules of the paper with order 1's conditions, `Writes` of grammar/specs/Grammar, and the grammar by levels, `Written` of specs/Levels,
-- write the same texts. From the rules to the levels: what an expression is at its top, and how it ends, say on which level it stands.
-- From the levels to the rules: each level forgets what the conditions ask for. A test's tokens and those of the command behind it are one piece
-- in the levels and two in the rules.
use mathlib.Core.Path.{◌≡◌, refl, sym, subst, ap, ◌∙◌}
use mathlib.Core.List.{List, [], ◌∷◌, ◌++◌, append_assoc}
use Rattle.rules.specs.Syntax.{Exp, Test, Cmd, diff, select, assign_field, while, if}
use Rattle.grammar.specs.Tokens.{Tok, k_true, k_false, k_while, k_if, k_else, dot, becomes, equals, below}
use Rattle.grammar.specs.Grammar.{Top, Ending, Ended, Phrase, Writes, Minus, NoDifference, NoSelection, Behind, operand, selection, difference, procedure, no_operand}
use Rattle.grammar.specs.Grammar as G
use Rattle.reading.specs.Levels.{Level, Written}
use Rattle.reading.specs.Levels as L

-- ---- from the rules to the levels

-- a selection whose last part is a proc that is not in parentheses
data DotProc : Exp → List Tok → Type 0 where
  dot-proc : {a b : Exp} {us vs : List Tok} → Written (L.a_selection a) us → Written (L.a_procedure b) vs → DotProc (select 0 a b) (us ++ (dot ∷ vs))

-- where an expression stands among the levels, by its top and its ending
abbrev Stands : Top → Ending → Exp → List Tok → Type 0
Stands operand G.closed e us = Written (L.an_operand e) us
Stands operand G.bare e us = ⊥
Stands selection G.closed e us = Written (L.a_selection e) us
Stands selection G.bare e us = DotProc e us
Stands difference G.closed e us = Written (L.a_difference e) us
Stands difference G.bare e us = Written (L.an_expression e) us
Stands procedure G.closed e us = ⊥
Stands procedure G.bare e us = Written (L.a_procedure e) us

abbrev InLevels : Phrase → List Tok → Type 0
InLevels (G.an_expression t p e) us = Stands t p e us
InLevels (G.a_test f t) us = (c : Cmd) (vs : List Tok) → Written (L.a_command c) vs → Behind f vs → Written (L.a_tested t c) (us ++ vs)
InLevels (G.a_command c) us = Written (L.a_command c) us

to-selection : (t : Top) {e : Exp} {us : List Tok} → Stands t G.closed e us → NoDifference t → Written (L.a_selection e) us
to-selection operand w n = L.one-operand w
to-selection selection w n = w
to-selection difference w n = absurd n
to-selection procedure w n = absurd w

to-difference : (t : Top) {e : Exp} {us : List Tok} → Stands t G.closed e us → Written (L.a_difference e) us
to-difference operand w = L.one-selection (L.one-operand w)
to-difference selection w = L.one-selection w
to-difference difference w = w
to-difference procedure w = absurd w

from-dot-proc : {e : Exp} {us : List Tok} → DotProc e us → Written (L.an_expression e) us
from-dot-proc (dot-proc v w) = L.ends-dot-proc v w

to-expression : (t : Top) (p : Ending) {e : Exp} {us : List Tok} → Stands t p e us → Written (L.an_expression e) us
to-expression t G.closed w = L.closed (to-difference t w)
to-expression operand G.bare w = absurd w
to-expression selection G.bare w = from-dot-proc w
to-expression difference G.bare w = w
to-expression procedure G.bare w = L.only-a-proc w

to-dotted : (u : Top) (p : Ending) (b : Exp) (vs : List Tok) {a : Exp} {us : List Tok}
    → Written (L.a_selection a) us → Stands u p b vs → NoDifference u → NoSelection u → Stands selection p (select 0 a b) (us ++ (dot ∷ vs))
to-dotted operand G.closed b vs v w n s = L.dotted v w
to-dotted operand G.bare b vs v w n s = absurd w
to-dotted selection p b vs v w n s = absurd s
to-dotted difference p b vs v w n s = absurd n
to-dotted procedure G.closed b vs v w n s = absurd w
to-dotted procedure G.bare b vs v w n s = dot-proc v w

minus-dot-proc : {a b : Exp} {us vs : List Tok} {m : Tok}
    → Written (L.a_difference a) us → Minus m → DotProc b vs → Written (L.an_expression (diff 0 a b)) (us ++ (m ∷ vs))
minus-dot-proc u m (dot-proc v w) = L.ends-minus-dot-proc u m v w

to-less : (u : Top) (p : Ending) (b : Exp) (vs : List Tok) {a : Exp} {us : List Tok} {m : Tok}
    → Written (L.a_difference a) us → Minus m → Stands u p b vs → NoDifference u → Stands difference p (diff 0 a b) (us ++ (m ∷ vs))
to-less u G.closed b vs v m w n = L.less-a-selection v m (to-selection u w n)
to-less operand G.bare b vs v m w n = absurd w
to-less selection G.bare b vs v m w n = minus-dot-proc v m w
to-less difference G.bare b vs v m w n = absurd n
to-less procedure G.bare b vs v m w n = L.ends-minus-proc v m w

to-field : (u : Top) (p : Ending) (b : Exp) (vs : List Tok) {a c : Exp} {us ws : List Tok}
    → Written (L.a_selection a) us → Stands u p b vs → NoDifference u → NoSelection u → Written (L.an_expression c) ws
    → Written (L.a_command (assign_field 0 a b c)) (us ++ (dot ∷ (vs ++ (becomes ∷ ws))))
to-field operand G.closed b vs v w n s x = L.assigns-field v w x
to-field operand G.bare b vs v w n s x = absurd w
to-field selection p b vs v w n s x = absurd s
to-field difference p b vs v w n s x = absurd n
to-field procedure G.closed b vs v w n s x = absurd w
to-field procedure G.bare b vs v w n s x = L.assigns-at-proc v w x

-- tokens of three pieces, whichever two are taken together first
regrouped : {l : Level} (us vs ws : List Tok) → Written l (us ++ (vs ++ ws)) → Written l ((us ++ vs) ++ ws)
regrouped {l} us vs ws w = subst (λ xs. Written l xs) (sym (append_assoc us vs ws)) w

in-levels : {p : Phrase} {us : List Tok} → Writes p us → InLevels p us
in-levels G.a-field = L.a-field
in-levels (G.a-number h) = L.a-number h
in-levels (G.a-negative h) = L.a-negative h
in-levels (G.a-difference {t = t} {u = u} {p = p} {b = b} {vs = vs} v m w n) = to-less u p b vs (to-difference t (in-levels v)) m (in-levels w) n
in-levels G.a-null = L.a-null
in-levels G.a-name = L.a-name
in-levels (G.a-selection {t = t} {u = u} {p = p} {b = b} {vs = vs} v k w n s) = to-dotted u p b vs (to-selection t (in-levels v) k) (in-levels w) n s
in-levels (G.a-proc w) = L.a-proc (in-levels w)
in-levels (G.a-group {t = t} {p = p} w) = L.a-group (to-expression t p (in-levels w))
in-levels G.says-true = λ c vs w n. L.says-true w
in-levels G.says-false = λ c vs w n. L.says-false w
in-levels (G.are-equal {t = t} {u = u} {p = p} {us = us} {vs = vs} v w) =
    λ c ws x n. regrouped us (equals ∷ vs) ws (L.are-equal (to-difference t (in-levels v)) (to-expression u p (in-levels w)) x n)
in-levels (G.is-less {t = t} {u = u} {p = p} {us = us} {vs = vs} v w) =
    λ c ws x n. regrouped us (below ∷ vs) ws (L.is-less (to-difference t (in-levels v)) (to-expression u p (in-levels w)) x n)
in-levels (G.declares w) = L.declares (in-levels w)
in-levels (G.calls {t = t} {u = u} {p = p} v w) = L.calls (to-difference t (in-levels v)) (to-expression u p (in-levels w))
in-levels G.allocates = L.allocates
in-levels (G.assigns {t = t} {p = p} w) = L.assigns (to-expression t p (in-levels w))
in-levels (G.assigns-field {t = t} {u = u} {v = v} {p = p} {q = q} {b = b} {vs = vs} x k y n s z) =
    to-field u p b vs (to-selection t (in-levels x) k) (in-levels y) n s (to-expression v q (in-levels z))
in-levels G.skips = L.skips
in-levels (G.in-sequence v w) = L.in-sequence (in-levels v) (in-levels w)
in-levels (G.repeats {c = c} {vs = vs} v w n) = L.repeats (in-levels v c vs (in-levels w) n)
in-levels (G.chooses {t = t} {c = c} {d = d} {us = us} {vs = vs} {ws = ws} v w n x) =
    subst (λ xs. Written (L.a_command (if 0 t c d)) (k_if ∷ xs)) (append_assoc us vs (k_else ∷ ws))
    (L.chooses (in-levels v c vs (in-levels w) n) (in-levels x))
in-levels (G.in-parallel v w) = L.in-parallel (in-levels v) (in-levels w)
in-levels (G.in-atom w) = L.in-atom (in-levels w)

pub levels-write : {c : Cmd} {ts : List Tok} → Writes (G.a_command c) ts → Written (L.a_command c) ts
levels-write w = in-levels w

-- ---- from the levels to the rules

record Selects (e : Exp) (us : List Tok) : Type 0 where
  top : Top
  no_difference : NoDifference top
  writes : Writes (G.an_expression top G.closed e) us

record Closes (e : Exp) (us : List Tok) : Type 0 where
  top : Top
  writes : Writes (G.an_expression top G.closed e) us

record Expresses (e : Exp) (us : List Tok) : Type 0 where
  top : Top
  ending : Ending
  writes : Writes (G.an_expression top ending e) us

record Tests (t : Test) (c : Cmd) (us : List Tok) : Type 0 where
  ended : Ended
  of_test : List Tok
  behind : List Tok
  whole : of_test ++ behind ≡ us
  tests : Writes (G.a_test ended t) of_test
  writes : Writes (G.a_command c) behind
  unsigned : Behind ended behind

abbrev ByRules : Level → List Tok → Type 0
ByRules (L.an_operand e) us = Writes (G.an_expression operand G.closed e) us
ByRules (L.a_selection e) us = Selects e us
ByRules (L.a_difference e) us = Closes e us
ByRules (L.a_procedure e) us = Writes (G.an_expression procedure G.bare e) us
ByRules (L.an_expression e) us = Expresses e us
ByRules (L.a_tested t c) us = Tests t c us
ByRules (L.a_command c) us = Writes (G.a_command c) us

repeated : {t : Test} {c : Cmd} {us : List Tok} → Tests t c us → Writes (G.a_command (while 0 t c)) (k_while ∷ us)
repeated {t} {c} s = subst (λ xs. Writes (G.a_command (while 0 t c)) (k_while ∷ xs)) s.whole (G.repeats s.tests s.writes s.unsigned)

chosen : {t : Test} {c d : Cmd} {us vs : List Tok}
    → Tests t c us → Writes (G.a_command d) vs → Writes (G.a_command (if 0 t c d)) (k_if ∷ (us ++ (k_else ∷ vs)))
chosen {t} {c} {d} {us} {vs} s w =
    subst (λ xs. Writes (G.a_command (if 0 t c d)) (k_if ∷ xs))
    (sym (append_assoc s.of_test s.behind (k_else ∷ vs)) ∙ ap (λ xs. xs ++ (k_else ∷ vs)) s.whole)
    (G.chooses s.tests s.writes s.unsigned w)

by-rules : {l : Level} {us : List Tok} → Written l us → ByRules l us
by-rules L.a-field = G.a-field
by-rules (L.a-number h) = G.a-number h
by-rules (L.a-negative h) = G.a-negative h
by-rules L.a-null = G.a-null
by-rules L.a-name = G.a-name
by-rules (L.a-group w) = G.a-group (by-rules w).writes
by-rules (L.one-operand w) = record { top = operand; no_difference = tt; writes = by-rules w }
by-rules (L.dotted v w) =
    record { top = selection; no_difference = tt; writes = G.a-selection (by-rules v).writes (by-rules v).no_difference (by-rules w) tt tt }
by-rules (L.one-selection w) = record { top = (by-rules w).top; writes = (by-rules w).writes }
by-rules (L.less-a-selection v m w) =
    record { top = difference; writes = G.a-difference (by-rules v).writes m (by-rules w).writes (by-rules w).no_difference }
by-rules (L.a-proc w) = G.a-proc (by-rules w)
by-rules (L.closed w) = record { top = (by-rules w).top; ending = G.closed; writes = (by-rules w).writes }
by-rules (L.only-a-proc w) = record { top = procedure; ending = G.bare; writes = by-rules w }
by-rules (L.ends-dot-proc v w) =
    record { top = selection; ending = G.bare; writes = G.a-selection (by-rules v).writes (by-rules v).no_difference (by-rules w) tt tt }
by-rules (L.ends-minus-proc v m w) = record { top = difference; ending = G.bare; writes = G.a-difference (by-rules v).writes m (by-rules w) tt }
by-rules (L.ends-minus-dot-proc u m v w) =
    record {
      top = difference;
      ending = G.bare;
      writes = G.a-difference (by-rules u).writes m (G.a-selection (by-rules v).writes (by-rules v).no_difference (by-rules w) tt tt) tt;
    }
by-rules (L.says-true {us = us} w) =
    record { ended = no_operand; of_test = k_true ∷ []; behind = us; whole = refl; tests = G.says-true; writes = by-rules w; unsigned = tt }
by-rules (L.says-false {us = us} w) =
    record { ended = no_operand; of_test = k_false ∷ []; behind = us; whole = refl; tests = G.says-false; writes = by-rules w; unsigned = tt }
by-rules (L.are-equal {us = us} {vs = vs} {ws = ws} u v w n) =
    record {
      ended = G.an_operand;
      of_test = us ++ (equals ∷ vs);
      behind = ws;
      whole = append_assoc us (equals ∷ vs) ws;
      tests = G.are-equal (by-rules u).writes (by-rules v).writes;
      writes = by-rules w;
      unsigned = n;
    }
by-rules (L.is-less {us = us} {vs = vs} {ws = ws} u v w n) =
    record {
      ended = G.an_operand;
      of_test = us ++ (below ∷ vs);
      behind = ws;
      whole = append_assoc us (below ∷ vs) ws;
      tests = G.is-less (by-rules u).writes (by-rules v).writes;
      writes = by-rules w;
      unsigned = n;
    }
by-rules (L.declares w) = G.declares (by-rules w)
by-rules (L.calls v w) = G.calls (by-rules v).writes (by-rules w).writes
by-rules L.allocates = G.allocates
by-rules (L.assigns w) = G.assigns (by-rules w).writes
by-rules (L.assigns-field u v w) = G.assigns-field (by-rules u).writes (by-rules u).no_difference (by-rules v) tt tt (by-rules w).writes
by-rules (L.assigns-at-proc u v w) = G.assigns-field (by-rules u).writes (by-rules u).no_difference (by-rules v) tt tt (by-rules w).writes
by-rules L.skips = G.skips
by-rules (L.in-sequence v w) = G.in-sequence (by-rules v) (by-rules w)
by-rules (L.in-parallel v w) = G.in-parallel (by-rules v) (by-rules w)
by-rules (L.repeats w) = repeated (by-rules w)
by-rules (L.chooses v w) = chosen (by-rules v) (by-rules w)
by-rules (L.in-atom w) = G.in-atom (by-rules w)

pub rules-write : {c : Cmd} {ts : List Tok} → Written (L.a_command c) ts → Writes (G.a_command c) ts
rules-write w = by-rules w
