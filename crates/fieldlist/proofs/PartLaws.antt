-- The parts of a row as the code reads them: a law for each answer. Assumes nothing.
use Prim.Native.Nat.{ℕ, zero, suc, ◌+◌, ◌-◌, ◌<◌, ◌≤◌, min}
use mathlib.Core.Path.{◌≡◌, refl, sym, ap, ◌∙◌}
use mathlib.Core.Bool.{Bool, true, false, cond, not, ◌&&◌, true≢false}
use mathlib.Core.Option.{Option, none, some}
use mathlib.Core.List.{List, [], ◌∷◌}
use native.Mathlib.Omega.{arith}
use native.Mathlib.Nat.{min-eq_left, min-eq_right}
use native.Mathlib.Numerals.{add-one}
use lib.Dec.{eqb, ltb, leb}
use lib.ListN.{length, get_or, take, drop}
use lib.Seq.{slice}
use borrow.Author.Tests.{eq-eqb, ne_eqb, eqb-true, lt-ltb, le-ltb, lt-leb, le-leb, ltb-true, ltb-false, leb-true, leb-false, not-false}
use Rattle.laws.specs.Bools.{and_both}
use Rattle.grammar.specs.Classes.{lower, class_of, is_digit, in_word}
use Rattle.grammar.specs.Tokens.{Spelling, spelling, reserved, same_word, spelled}
use Rattle.grammar.specs.Places.{begins, present, decimal}
use Rattle.grammar.specs.FieldList.{position_of}
use Rattle.letters.specs.Runs.{run}
use denote.Enum.Bare.{sameb}
use Rattle.letters.specs.contracts.token.Token.{the_type}
use Rattle.letters.specs.declared.token.Token.{Token}
use Rattle.letters.specs.declared.token.Token.TheVariants as T
use Rattle.letters.specs.Token.{token_no}
use Rattle.letters.specs.Kinds.{kind_or, word_kind}
use Rattle.letters.proofs.RunLaws.{ran}
use Rattle.fieldlist.specs.Judged.{name_end, code_end, code_at, first_of, name_fault, code_fault, unless}
use Rattle.std.specs.Prelude.{Option as Optional, Some, None, is_some, Ok, Err}
use Rattle.laws.specs.Options.{math_option}
use Rattle.fieldlist.specs.Fault.{fault_no}
use Rattle.fieldlist.specs.Answer.{NameSays, CodeSays, RowSays}
use Rattle.fieldlist.specs.declared.parts.CodePart.{CodePart}
use Rattle.fieldlist.specs.declared.fault.RowFault.{RowFault}
use Rattle.fieldlist.specs.declared.fault.RowFault.TheVariants.{NoRoom, NoName, Reserved, Repeated, NoComma, NoDigit, NoLineEnd, OutOfRange, NotAbove}
use Rattle.fieldlist.proofs.Pieces.{begins-at, begins-end, begins-in}
use Rattle.fieldlist.proofs.SameLaws.{part-is}

-- ---- a byte that isn't there

module _ (s : List ℕ) (at b : ℕ) where
  pub lacks-end : length s ≤ at → true ≡ not (begins (eqb b) (drop at s))
  lacks-end h = rw (begins-end (eqb b) s at h)

  pub lacks-not : at < length s → get_or s at 0 ≡ b → false ≡ not (begins (eqb b) (drop at s))
  lacks-not h e = rw (begins-at (eqb b) s at h, eq-eqb b (get_or s at 0) (sym e))

  pub lacks-other : at < length s → (get_or s at 0 ≡ b → ⊥) → true ≡ not (begins (eqb b) (drop at s))
  lacks-other h n = rw (begins-at (eqb b) s at h, ne_eqb b (get_or s at 0) (λ e. n (sym e)))

pub ruleset lacks_lemmas = (lacks-end, lacks-not, lacks-other)

-- ---- a code

abbrev code_tests : ℕ → ℕ → List Bool
code_tests k last = not (ltb 0 k && ltb k 65536) ∷ leb k last ∷ []

module _ (k last : ℕ) where
  pub code-zero : k ≡ 0 → 8 ≡ first_of 8 (not (ltb 0 k && ltb k 65536) ∷ leb k last ∷ [])
  unfolding first_of
  code-zero e = rw (le-ltb 0 k (omega arith))

  pub code-large : 65535 < k → 8 ≡ first_of 8 (not (ltb 0 k && ltb k 65536) ∷ leb k last ∷ [])
  unfolding first_of
  code-large h = rw (lt-ltb 0 k (omega arith), le-ltb k 65536 (omega arith))

  pub code-low : (k ≡ 0 → ⊥) → k ≤ 65535 → k ≤ last → 9 ≡ first_of 8 (not (ltb 0 k && ltb k 65536) ∷ leb k last ∷ [])
  unfolding first_of
  code-low n h l = rw (lt-ltb 0 k (omega arith), lt-ltb k 65536 (omega arith), le-leb k last l)

  pub code-fine : (k ≡ 0 → ⊥) → k ≤ 65535 → last < k → 0 ≡ first_of 8 (not (ltb 0 k && ltb k 65536) ∷ leb k last ∷ [])
  unfolding first_of
  code-fine n h l = rw (lt-ltb 0 k (omega arith), lt-ltb k 65536 (omega arith), lt-leb k last l)

pub ruleset order_lemmas = (code-zero, code-large, code-low, code-fine)

-- the ceiling, far above every code, hides no fault
capped-tests : (k last : ℕ) → first_of 8 (code_tests (min k 8589934592) last) ≡ first_of 8 (code_tests k last)
unfolding first_of
capped-tests k last = go (leb k 8589934592) refl
  where
    go : (t : Bool) → leb k 8589934592 ≡ t → first_of 8 (code_tests (min k 8589934592) last) ≡ first_of 8 (code_tests k last)
    go true e = rw (min-eq_left (leb-true k 8589934592 e))
    go false e =
        let h = leb-false k 8589934592 e in
        let most : 8589934592 ≤ k = omega arith in
        rw (min-eq_right most, lt-ltb 0 k (omega arith), le-ltb k 65536 (omega arith))

capped_small : (k : ℕ) → min k 8589934592 < 65536 → min k 8589934592 ≡ k
capped_small k h = go (leb k 8589934592) refl
  where
    go : (t : Bool) → leb k 8589934592 ≡ t → min k 8589934592 ≡ k
    go true e = min-eq_left (leb-true k 8589934592 e)
    go false e =
        let l = leb-false k 8589934592 e in
        let most : 8589934592 ≤ k = omega arith in
        let small : 8589934592 < 65536 = rw (min-eq_right most) at h in
        absurd (omega arith)

tests-small : (k last : ℕ) → first_of 8 (code_tests k last) ≡ 0 → k < 65536
unfolding first_of
tests-small k last e = go (ltb k 65536) refl
  where
    go : (t : Bool) → ltb k 65536 ≡ t → k < 65536
    go true f = ltb-true k 65536 f
    go false f = let h = ltb-false k 65536 f in let z : ◌≡◌ {A = ℕ} 8 0 = rw (lt-ltb 0 k (omega arith), f) at e in absurd (omega arith)

-- ---- the digits

no_run : (p : ℕ → Bool) (s : List ℕ) → run p s ≡ 0 → begins p s ≡ false
no_run p s e = rw e at (ran p s).stops

none-run : (p : ℕ → Bool) (s : List ℕ) → begins p s ≡ false → run p s ≡ 0
unfolding begins run
none-run p [] e = refl
none-run p (b ∷ s) e = rw e

a-run : (p : ℕ → Bool) (s : List ℕ) → (run p s ≡ 0 → ⊥) → begins p s ≡ true
a-run p s n = go (begins p s) refl
  where
    go : (t : Bool) → begins p s ≡ t → t ≡ true
    go true e = refl
    go false e = absurd (n (none-run p s e))

module _ (s : List ℕ) (last end : ℕ) {t : Bool} (comma : t ≡ not (begins (eqb 44) (drop end s))) where
  pub no-comma : t ≡ true → CodeSays s last end (Err NoComma)
  unfolding code_fault first_of
  no-comma h = let f : not (begins (eqb 44) (drop end s)) ≡ true = sym comma ∙ h in rw f

  pub behind-comma : t ≡ false → end + 1 ≤ length s
  behind-comma h = omega (arith, begins-in (eqb 44) s end (not-false _ (sym comma ∙ h)))

  module _ {e : ℕ} (number : e ≡ end + 1 + run is_digit (drop (end + 1) s)) where
    pub no_digit : t ≡ false → e ≡ end + 1 → CodeSays s last end (Err NoDigit)
    unfolding code_fault first_of
    no_digit h z =
        let f : not (begins (eqb 44) (drop end s)) ≡ false = sym comma ∙ h in
        let g : begins is_digit (drop (suc end) s) ≡ false = no_run is_digit (drop (suc end) s) (rw (← add-one end) (omega arith)) in
        rw (f, g)

    digits-there : (e ≡ end + 1 → ⊥) → begins is_digit (drop (suc end) s) ≡ true
    digits-there n = a-run is_digit (drop (suc end) s) (λ z. n (omega (arith, ap (λ (i : ℕ). run is_digit (drop i s)) (add-one end))))

    ends : e ≡ code_end s end
    unfolding code_end
    ends = number ∙ rw (add-one end)

    module _ {u : Bool} (line : u ≡ not (begins (eqb 10) (drop e s))) where
      pub no-line-end : t ≡ false → (e ≡ end + 1 → ⊥) → u ≡ true → CodeSays s last end (Err NoLineEnd)
      unfolding code_fault first_of
      no-line-end h n l =
          let f : not (begins (eqb 44) (drop end s)) ≡ false = sym comma ∙ h in
          let g : not (begins (eqb 10) (drop (code_end s end) s)) ≡ true = rw ends at (sym line ∙ l) in
          rw (f, digits-there n, g)

      module _ {k : ℕ} (h : t ≡ false) (n : e ≡ end + 1 → ⊥) (l : u ≡ false) (i : k ≡ min (decimal (slice (end + 1) e s)) 8589934592) where
        code-is : k ≡ min (code_at s end) 8589934592
        unfolding code_at
        code-is = rw (add-one end, ends) at i

        order-is : code_fault s last end ≡ first_of 8 (code_tests k last)
        unfolding code_fault first_of
        order-is =
            let f : not (begins (eqb 44) (drop end s)) ≡ false = sym comma ∙ h in
            let g : not (begins (eqb 10) (drop (code_end s end) s)) ≡ false = rw ends at (sym line ∙ l) in
            sym (ap (λ (c : ℕ). first_of 8 (code_tests c last)) code-is ∙ (capped-tests (code_at s end) last ∙ rw (f, digits-there n, g)))

        pub code-wrong : (w : RowFault) → fault_no w ≡ first_of 8 (not (ltb 0 k && ltb k 65536) ∷ leb k last ∷ []) → CodeSays s last end (Err w)
        code-wrong w j = order-is ∙ sym j

        pub code_read : 0 ≡ first_of 8 (not (ltb 0 k && ltb k 65536) ∷ leb k last ∷ []) → CodeSays s last end (Ok (record { code = k; next = e + 1 }))
        code_read j =
            (order-is ∙ sym j, code-is ∙ capped_small (code_at s end) (rw code-is at (tests-small k last (sym j))), rw (ends, add-one (code_end s end)))

-- ---- the name

unfoldable large : List Spelling → Bool  -- each kind is above that of a field
large [] = true
large (spelling v k ∷ t) = ltb 2 k && large t

kind-large : (w : List ℕ) (t : List Spelling) {k : ℕ} → large t ≡ true → spelled w t ≡ some k → 2 < k
unfolding large spelled
kind-large w [] h e = let z : ◌≡◌ {A = ℕ} 0 1 = cc in absurd (omega arith)
kind-large w (spelling v j ∷ t) {k} h e =
    let both = and_both (ltb 2 j) (large t) h in
    go (same_word w v) (ltb-true 2 j both.0) (kind-large w t both.1) e
  where
    go : (q : Bool) → 2 < j → (spelled w t ≡ some k → 2 < k) → cond q (some j) (spelled w t) ≡ some k → 2 < k
    go true l later f = let i : j ≡ k = cc in omega arith
    go false l later f = later f

reserved-large : large reserved ≡ true
unfolding large reserved
reserved-large = refl

kind-field : (w : List ℕ) (q : ℕ) → q ≡ word_kind w → q ≡ 2 → present (spelled w reserved) ≡ false
unfolding word_kind kind_or present
kind-field w q e f = go (spelled w reserved) refl e
  where
    go : (o : Option ℕ) → spelled w reserved ≡ o → q ≡ kind_or o → present o ≡ false
    go none i g = refl
    go (some k) i g = absurd (omega (arith, kind-large w reserved reserved-large i))

kind-other : (w : List ℕ) (q : ℕ) → q ≡ word_kind w → (q ≡ 2 → ⊥) → present (spelled w reserved) ≡ true
unfolding word_kind kind_or present
kind-other w q e n = go (spelled w reserved) e
  where
    go : (o : Option ℕ) → q ≡ kind_or o → present o ≡ true
    go none g = absurd (n g)
    go (some k) g = refl

is_present : (i : Optional ℕ) (o : Option ℕ) {r : Bool} → math_option i ≡ o → r ≡ is_some i → r ≡ present o
unfolding present
is_present None o e f = f ∙ rw (← e)
is_present (Some k) o e f = f ∙ rw (← e)

-- whether it is a field's kind is told by its number
is_field : (t : Token) → sameb the_type t T.Field ≡ eqb (token_no t) 2
is_field T.Name = refl
is_field T.Field = refl
is_field T.Number = refl
is_field T.Sign = refl
is_field T.Minus = refl
is_field T.Null = refl
is_field T.Proc = refl
is_field T.True = refl
is_field T.False = refl
is_field T.Var = refl
is_field T.Malloc = refl
is_field T.Skip = refl
is_field T.While = refl
is_field T.If = refl
is_field T.Else = refl
is_field T.Atom = refl
is_field T.OpeningParenthesis = refl
is_field T.ClosingParenthesis = refl
is_field T.OpeningBrace = refl
is_field T.ClosingBrace = refl
is_field T.Semicolon = refl
is_field T.Bars = refl
is_field T.Dot = refl
is_field T.Becomes = refl
is_field T.Equals = refl
is_field T.Below = refl
is_field T.Colon = refl
is_field T.Nowhere = refl

told-other : (t : Token) {r : Bool} → r ≡ not (sameb the_type t T.Field) → r ≡ true → token_no t ≡ 2 → ⊥
told-other t {r} e f g = let z : not (eqb (token_no t) 2) ≡ true = rw (is_field t) at (sym e ∙ f) in true≢false (sym z ∙ rw (eq-eqb (token_no t) 2 g))

told-field : (t : Token) {r : Bool} → r ≡ not (sameb the_type t T.Field) → r ≡ false → token_no t ≡ 2
told-field t {r} e f = eqb-true (token_no t) 2 (not-false _ (rw (is_field t) at (sym e ∙ f)))

module _ (s : List ℕ) (names : List (List ℕ)) (at : ℕ) {e c : ℕ}
    (there : at < length s) (ended : e ≡ at + run in_word (drop at s)) (within : e ≤ length s) (class : c ≡ class_of (get_or s at 0)) where
  ends_so : e ≡ name_end s at
  unfolding name_end
  ends_so = ended

  first-is : begins (λ b. eqb (class_of b) lower) (drop at s) ≡ eqb c 3
  first-is = begins-at (λ b. eqb (class_of b) lower) s at there ∙ rw (← class)

  pub not_lower : (c ≡ 3 → ⊥) → NameSays s names at (Err NoName)
  unfolding name_fault first_of
  not_lower n = rw (first-is, ne_eqb c 3 n)

  module _ (t : Token) {n : Bool} (kind : token_no t ≡ word_kind (take (e - at) (drop at s))) (other : n ≡ not (sameb the_type t T.Field)) where
    kind-is : token_no t ≡ word_kind (slice at (name_end s at) s)
    kind-is = rw (part-is s at e (omega (arith, ended)), ends_so) at kind

    pub name-reserved : c ≡ 3 → n ≡ true → NameSays s names at (Err Reserved)
    unfolding name_fault first_of
    name-reserved l m =
        let f : present (spelled (slice at (name_end s at) s) reserved) ≡ true = kind-other _ (token_no t) kind-is (told-other t other m) in
        rw (first-is, eq-eqb c 3 l, f)

    module _ (i : Optional ℕ) {r : Bool} (place : math_option i ≡ position_of (take (e - at) (drop at s)) names) (test : r ≡ is_some i) where
      known : r ≡ present (position_of (slice at (name_end s at) s) names)
      known = is_present i _ (rw (part-is s at e (omega (arith, ended)), ends_so) at place) test

      pub name-repeated : c ≡ 3 → n ≡ false → r ≡ true → NameSays s names at (Err Repeated)
      unfolding name_fault first_of
      name-repeated l m u =
          let f : present (spelled (slice at (name_end s at) s) reserved) ≡ false = kind-field _ (token_no t) kind-is (told-field t other m) in
          rw (first-is, eq-eqb c 3 l, f, ← known, u)

      pub name-right : c ≡ 3 → n ≡ false → r ≡ false → NameSays s names at (Ok e)
      unfolding name_fault first_of
      name-right l m u =
          let f : present (spelled (slice at (name_end s at) s) reserved) ≡ false = kind-field _ (token_no t) kind-is (told-field t other m) in
          (rw (first-is, eq-eqb c 3 l, f, ← known, u), ends_so, within)

-- ---- the row

unless-first : (i j : ℕ) → (i ≡ 0 → ⊥) → unless i j ≡ i
unfolding unless
unless-first zero j n = absurd (n refl)
unless-first (suc i) j n = refl

pub some-fault : (f : RowFault) → fault_no f ≡ 0 → ⊥
some-fault NoRoom e = omega arith
some-fault NoName e = omega arith
some-fault Reserved e = omega arith
some-fault Repeated e = omega arith
some-fault NoComma e = omega arith
some-fault NoDigit e = omega arith
some-fault NoLineEnd e = omega arith
some-fault OutOfRange e = omega arith
some-fault NotAbove e = omega arith

module _ (s : List ℕ) (names : List (List ℕ)) (last at : ℕ) where
  pub bad-name : (f : RowFault) → NameSays s names at (Err f) → RowSays s names last at (Err f)
  bad-name f e = rw e (unless-first (fault_no f) (code_fault s last (name_end s at)) (some-fault f))

  module _ {end : ℕ} (named : NameSays s names at (Ok end)) where
    pub bad-code : (f : RowFault) → CodeSays s last end (Err f) → RowSays s names last at (Err f)
    unfolding unless
    bad-code f e = rw (named.0, ← named.1) e

    pub named-row : (p : CodePart) → CodeSays s last end (Ok p) → RowSays s names last at (Ok (record { end = end; code = p.code; next = p.next }))
    unfolding unless
    named-row p r = (rw (named.0, ← named.1) r.0, named.1, rw (← named.1) r.1, rw (← named.1) r.2)
