-- Which expressions begin with a sign, from the leaves up: so code that goes through the nodes children first knows it with one bit a node, as it
-- knows `end_of`. Assumes nothing.
use Prim.Native.Nat.{ℕ, ◌-◌, ◌^◌}
use mathlib.Core.Path.{◌≡◌, refl, ◌∙◌}
use mathlib.Core.Bool.{Bool, true, false, cond, not, ◌&&◌}
use mathlib.Core.List.{List, [], ◌∷◌, ◌++◌}
use lib.Dec.{ltb}
use Rattle.rules.specs.Syntax.{Exp, no_exp, field, int, diff, null, ref, select, proc}
use Rattle.grammar.specs.Tokens.{Tok, number, kind_of, sign}
use Rattle.writing.specs.WriteTokens.{grouped, opens_left, opens_dot, sign_first, write_int, write_exp}

unfoldable pub sign_of : Exp → Bool
sign_of (no_exp n) = false
sign_of (field n f) = false
sign_of (int n b) = not (ltb b 2147483648)
sign_of (diff n a b) = not (opens_left a) && sign_of a
sign_of (null n) = false
sign_of (ref n x) = false
sign_of (select n a b) = not (opens_dot a) && sign_of a
sign_of (proc n y c) = false

-- what stands behind decides nothing where it begins with no sign
sign-left : (us vs : List Tok) → sign_first vs ≡ false → sign_first (us ++ vs) ≡ sign_first us
unfolding sign_first
sign-left [] vs e = e
sign-left (t ∷ us) vs e = refl

sign-group : (k : Bool) (us : List Tok) → sign_first (grouped k us) ≡ (not k && sign_first us)
unfolding grouped sign_first kind_of
sign-group true us = refl
sign-group false us = refl

sign-int : (b : ℕ) → sign_first (write_int b) ≡ not (ltb b 2147483648)
unfolding write_int sign_first kind_of
sign-int b = go (ltb b 2147483648)
  where
    go : (t : Bool) → sign_first (cond t (number b ∷ []) (sign ∷ number (2 ^ 32 - b) ∷ [])) ≡ not t
    go true = refl
    go false = refl

pub sign-of : (e : Exp) → sign_first (write_exp e) ≡ sign_of e
unfolding write_exp sign_of sign_first kind_of
sign-of (no_exp n) = refl
sign-of (field n f) = refl
sign-of (int n b) = sign-int b
sign-of (diff n a b) = sign-left (grouped (opens_left a) (write_exp a)) _ refl ∙ (sign-group (opens_left a) (write_exp a) ∙ rw (sign-of a) refl)
sign-of (null n) = refl
sign-of (ref n x) = refl
sign-of (select n a b) = sign-left (grouped (opens_dot a) (write_exp a)) _ refl ∙ (sign-group (opens_dot a) (write_exp a) ∙ rw (sign-of a) refl)
sign-of (proc n y c) = refl
