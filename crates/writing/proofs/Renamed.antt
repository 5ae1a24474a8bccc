-- A tree with other names is written with other names, and nothing else about it changes. Assumes nothing.
use Prim.Native.Nat.{ℕ, ◌-◌, ◌^◌}
use mathlib.Core.Path.{◌≡◌, refl, sym, ap}
use mathlib.Core.Bool.{Bool, true, false, cond, true≢false, false≢true, ◌||◌}
use mathlib.Core.List.{List, [], ◌∷◌, ◌++◌, map, map-append}
use lib.Dec.{ltb}
use Rattle.rules.specs.Syntax.{Exp, Test, Cmd, no_exp, field, int, diff, null, ref, select, proc, no_test, is_true, is_false, equal, less, no_cmd, var, call, malloc, assign, assign_field, skip, seq, while, if, par, atom, bare_exp, bare_test, bare_cmd}
use Rattle.grammar.specs.Tokens.{Tok, name, field_name, number, mark, kind_of, sign, minus, k_proc, k_var, k_while, k_if, k_else, k_atom, lpar, rpar, lbrace, rbrace, semi, bars, dot, becomes, equals, below, colon}
use Rattle.grammar.specs.Grammar.{Ended, an_operand, no_operand}
use Rattle.grammar.specs.Nodes.{size_exp, size_test, size_cmd}
use Rattle.grammar.specs.Proper.{ProperExp, ProperTest, ProperCmd}
use Rattle.writing.specs.WriteTokens.{top_of, is_difference, is_bare, not_dotted, end_of, grouped, opens_left, opens_dot, sign_first, signed, write_int, ended_by, write_exp, write_test, write_behind, write_cmd}
use Rattle.writing.specs.Renumber.{rename_tok, rename_exp, rename_test, rename_cmd}

module _ (g : ℕ → ℕ) where
  abbrev renamed : List Tok → List Tok
  renamed ts = map (rename_tok g) ts

  -- ---- what an expression is at its top, and how it ends

  top-same : (e : Exp) → top_of (rename_exp g e) ≡ top_of e
  unfolding top_of rename_exp
  top-same (no_exp n) = refl
  top-same (field n f) = refl
  top-same (int n b) = refl
  top-same (diff n a b) = refl
  top-same (null n) = refl
  top-same (ref n x) = refl
  top-same (select n a b) = refl
  top-same (proc n y c) = refl

  end_same : (e : Exp) → end_of (rename_exp g e) ≡ end_of e
  unfolding end_of rename_exp
  end_same (no_exp n) = refl
  end_same (field n f) = refl
  end_same (int n b) = refl
  end_same (diff n a b) = rw (top-same b, end_same b) refl
  end_same (null n) = refl
  end_same (ref n x) = refl
  end_same (select n a b) = rw (top-same b, end_same b) refl
  end_same (proc n y c) = refl

  ended_same : (t : Test) → ended_by (rename_test g t) ≡ ended_by t
  unfolding ended_by rename_test
  ended_same (no_test n) = refl
  ended_same (is_true n) = refl
  ended_same (is_false n) = refl
  ended_same (equal n a b) = refl
  ended_same (less n a b) = refl

  signed_same : (f : Ended) (us : List Tok) → signed f (renamed us) ≡ signed f us
  unfolding signed sign_first rename_tok kind_of
  signed_same an_operand [] = refl
  signed_same an_operand (name x ∷ us) = refl
  signed_same an_operand (field_name i ∷ us) = refl
  signed_same an_operand (number n ∷ us) = refl
  signed_same an_operand (mark k ∷ us) = refl
  signed_same no_operand us = refl

  -- ---- tokens, and the same with other names

  record Renames (us vs : List Tok) : Type 0 where
    is : us ≡ renamed vs

  nothing : Renames [] []
  nothing = record { is = refl }

  front : (t : Tok) {us vs : List Tok} → Renames us vs → Renames (rename_tok g t ∷ us) (t ∷ vs)
  front t r = record { is = ap (rename_tok g t ∷◌) r.is }

  both : {us vs ws xs : List Tok} → Renames us vs → Renames ws xs → Renames (us ++ ws) (vs ++ xs)
  both {us} {vs} {ws} {xs} r s = record { is = (let d = r.is in let e = s.is in rw (d, e) (sym (map-append (rename_tok g) vs xs))) }

  between : {us vs ws xs : List Tok} → Renames us vs → (t : Tok) → Renames ws xs → Renames (us ++ (rename_tok g t ∷ ws)) (vs ++ (t ∷ xs))
  between r t s = both r (front t s)

  parted : (k j : Bool) → k ≡ j → {us vs : List Tok} → Renames us vs → Renames (grouped k us) (grouped j vs)
  unfolding grouped rename_tok
  parted true true e r = front (mark 17) (between r (mark 18) nothing)
  parted true false e r = absurd (true≢false e)
  parted false true e r = absurd (false≢true e)
  parted false false e r = r

  left : (a : Exp) {us vs : List Tok} → Renames us vs → Renames (grouped (opens_left (rename_exp g a)) us) (grouped (opens_left a) vs)
  unfolding opens_left
  left a r = parted _ _ (ap is_bare (end_same a)) r

  left-of-dot : (a : Exp) {us vs : List Tok} → Renames us vs → Renames (grouped (opens_dot (rename_exp g a)) us) (grouped (opens_dot a) vs)
  unfolding opens_dot
  left-of-dot a r = parted _ _ (rw (top-same a, end_same a) refl) r

  first-called : (f : Ended) (a : Exp) {us vs : List Tok} → Renames us vs → Renames (grouped (opens_left (rename_exp g a) || signed f us) us) (grouped (opens_left a || signed f vs) vs)
  unfolding opens_left
  first-called f a {us} {vs} r = parted _ _ (let e = r.is in rw (e, end_same a, signed_same f vs) refl) r

  first-dotted : (f : Ended) (a : Exp) {us vs : List Tok} → Renames us vs → Renames (grouped (opens_dot (rename_exp g a) || signed f us) us) (grouped (opens_dot a || signed f vs) vs)
  unfolding opens_dot
  first-dotted f a {us} {vs} r = parted _ _ (let e = r.is in rw (e, top-same a, end_same a, signed_same f vs) refl) r

  right : (b : Exp) {us vs : List Tok} → Renames us vs → Renames (grouped (is_difference (top_of (rename_exp g b))) us) (grouped (is_difference (top_of b)) vs)
  right b r = parted _ _ (ap is_difference (top-same b)) r

  right-of-dot : (b : Exp) {us vs : List Tok} → Renames us vs → Renames (grouped (not_dotted (top_of (rename_exp g b))) us) (grouped (not_dotted (top_of b)) vs)
  right-of-dot b r = parted _ _ (ap not_dotted (top-same b)) r

  integer : (b : ℕ) → Renames (write_int b) (write_int b)
  unfolding write_int rename_tok
  integer b = go (ltb b 2147483648)
    where
      go : (t : Bool) → Renames (cond t (number b ∷ []) (sign ∷ number (2 ^ 32 - b) ∷ [])) (cond t (number b ∷ []) (sign ∷ number (2 ^ 32 - b) ∷ []))
      go true = record { is = refl }
      go false = record { is = refl }

  body : (t : Test) (c : Cmd) → Renames (write_behind (rename_cmd g c) (ended_by t)) (write_behind c (ended_by t))
      → Renames (write_behind (rename_cmd g c) (ended_by (rename_test g t))) (write_behind c (ended_by t))
  body t c r = rw (ended_same t) r

  -- ---- trees

  mutual
    unfolding write_exp rename_exp rename_tok

    exp-renamed : (e : Exp) → Renames (write_exp (rename_exp g e)) (write_exp e)
    exp-renamed (no_exp n) = nothing
    exp-renamed (field n f) = record { is = refl }
    exp-renamed (int n b) = integer b
    exp-renamed (diff n a b) = between (left a (exp-renamed a)) minus (right b (exp-renamed b))
    exp-renamed (null n) = record { is = refl }
    exp-renamed (ref n x) = record { is = refl }
    exp-renamed (select n a b) = between (left-of-dot a (exp-renamed a)) dot (right-of-dot b (exp-renamed b))
    exp-renamed (proc n y c) = front k_proc (front (name y) (front colon (behind-renamed c no_operand)))

    test-renamed : (t : Test) → Renames (write_test (rename_test g t)) (write_test t)
    test-renamed (no_test n) = nothing
    test-renamed (is_true n) = record { is = refl }
    test-renamed (is_false n) = record { is = refl }
    test-renamed (equal n a b) = between (left a (exp-renamed a)) equals (exp-renamed b)
    test-renamed (less n a b) = between (left a (exp-renamed a)) below (exp-renamed b)

    behind-renamed : (c : Cmd) (f : Ended) → Renames (write_behind (rename_cmd g c) f) (write_behind c f)
    behind-renamed (no_cmd n) f = nothing
    behind-renamed (var n x c) f = front k_var (front (name x) (front semi (behind-renamed c no_operand)))
    behind-renamed (call n a b) f = between (first-called f a (exp-renamed a)) lpar (between (exp-renamed b) rpar nothing)
    behind-renamed (malloc n x) f = record { is = refl }
    behind-renamed (assign n x e) f = front (name x) (front becomes (exp-renamed e))
    behind-renamed (assign_field n a b c) f =
        between (first-dotted f a (exp-renamed a)) dot (between (right-of-dot b (exp-renamed b)) becomes (exp-renamed c))
    behind-renamed (skip n) f = record { is = refl }
    behind-renamed (seq n c d) f = front lbrace (between (behind-renamed c no_operand) semi (between (behind-renamed d no_operand) rbrace nothing))
    behind-renamed (while n t c) f = front k_while (both (test-renamed t) (body t c (behind-renamed c (ended_by t))))
    behind-renamed (if n t c d) f =
        front k_if (both (test-renamed t) (between (body t c (behind-renamed c (ended_by t))) k_else (behind-renamed d no_operand)))
    behind-renamed (par n c d) f = front lbrace (between (behind-renamed c no_operand) bars (between (behind-renamed d no_operand) rbrace nothing))
    behind-renamed (atom n c) f = front k_atom (front lpar (between (behind-renamed c no_operand) rpar nothing))

  pub write-renamed : (c : Cmd) → write_cmd (rename_cmd g c) ≡ map (rename_tok g) (write_cmd c)
  unfolding write_cmd
  write-renamed c = (behind-renamed c no_operand).is

  -- ---- the rest stays

  mutual
    unfolding rename_exp bare_exp

    bare-exp : (e : Exp) → bare_exp (rename_exp g e) ≡ rename_exp g e
    bare-exp (no_exp n) = refl
    bare-exp (field n f) = refl
    bare-exp (int n b) = refl
    bare-exp (diff n a b) = rw (bare-exp a, bare-exp b)
    bare-exp (null n) = refl
    bare-exp (ref n x) = refl
    bare-exp (select n a b) = rw (bare-exp a, bare-exp b)
    bare-exp (proc n y c) = rw (bare-renamed c)

    bare-test : (t : Test) → bare_test (rename_test g t) ≡ rename_test g t
    bare-test (no_test n) = refl
    bare-test (is_true n) = refl
    bare-test (is_false n) = refl
    bare-test (equal n a b) = rw (bare-exp a, bare-exp b)
    bare-test (less n a b) = rw (bare-exp a, bare-exp b)

    pub bare-renamed : (c : Cmd) → bare_cmd (rename_cmd g c) ≡ rename_cmd g c
    bare-renamed (no_cmd n) = refl
    bare-renamed (var n x c) = rw (bare-renamed c)
    bare-renamed (call n a b) = rw (bare-exp a, bare-exp b)
    bare-renamed (malloc n x) = refl
    bare-renamed (assign n x e) = rw (bare-exp e)
    bare-renamed (assign_field n a b c) = rw (bare-exp a, bare-exp b, bare-exp c)
    bare-renamed (skip n) = refl
    bare-renamed (seq n c d) = rw (bare-renamed c, bare-renamed d)
    bare-renamed (while n t c) = rw (bare-test t, bare-renamed c)
    bare-renamed (if n t c d) = rw (bare-test t, bare-renamed c, bare-renamed d)
    bare-renamed (par n c d) = rw (bare-renamed c, bare-renamed d)
    bare-renamed (atom n c) = rw (bare-renamed c)

  mutual
    unfolding rename_exp size_exp

    size-exp : (e : Exp) → size_exp (rename_exp g e) ≡ size_exp e
    size-exp (no_exp n) = refl
    size-exp (field n f) = refl
    size-exp (int n b) = refl
    size-exp (diff n a b) = rw (size-exp a, size-exp b)
    size-exp (null n) = refl
    size-exp (ref n x) = refl
    size-exp (select n a b) = rw (size-exp a, size-exp b)
    size-exp (proc n y c) = rw (size-renamed c)

    size-test : (t : Test) → size_test (rename_test g t) ≡ size_test t
    size-test (no_test n) = refl
    size-test (is_true n) = refl
    size-test (is_false n) = refl
    size-test (equal n a b) = rw (size-exp a, size-exp b)
    size-test (less n a b) = rw (size-exp a, size-exp b)

    pub size-renamed : (c : Cmd) → size_cmd (rename_cmd g c) ≡ size_cmd c
    size-renamed (no_cmd n) = refl
    size-renamed (var n x c) = rw (size-renamed c)
    size-renamed (call n a b) = rw (size-exp a, size-exp b)
    size-renamed (malloc n x) = refl
    size-renamed (assign n x e) = rw (size-exp e)
    size-renamed (assign_field n a b c) = rw (size-exp a, size-exp b, size-exp c)
    size-renamed (skip n) = refl
    size-renamed (seq n c d) = rw (size-renamed c, size-renamed d)
    size-renamed (while n t c) = rw (size-test t, size-renamed c)
    size-renamed (if n t c d) = rw (size-test t, size-renamed c, size-renamed d)
    size-renamed (par n c d) = rw (size-renamed c, size-renamed d)
    size-renamed (atom n c) = rw (size-renamed c)

module _ (P Q R : ℕ → Type 0) (g : ℕ → ℕ) (names : (x : ℕ) → Q x → R (g x)) where
  mutual
    unfolding rename_exp

    proper-exp : (e : Exp) → ProperExp P Q e → ProperExp P R (rename_exp g e)
    proper-exp (no_exp n) p = p
    proper-exp (field n f) p = p
    proper-exp (int n b) p = p
    proper-exp (diff n a b) p = (proper-exp a p.0, proper-exp b p.1)
    proper-exp (null n) p = p
    proper-exp (ref n x) p = names x p
    proper-exp (select n a b) p = (proper-exp a p.0, proper-exp b p.1)
    proper-exp (proc n y c) p = (names y p.0, proper-renamed c p.1)

    proper-test : (t : Test) → ProperTest P Q t → ProperTest P R (rename_test g t)
    proper-test (no_test n) p = p
    proper-test (is_true n) p = p
    proper-test (is_false n) p = p
    proper-test (equal n a b) p = (proper-exp a p.0, proper-exp b p.1)
    proper-test (less n a b) p = (proper-exp a p.0, proper-exp b p.1)

    pub proper-renamed : (c : Cmd) → ProperCmd P Q c → ProperCmd P R (rename_cmd g c)
    proper-renamed (no_cmd n) p = p
    proper-renamed (var n x c) p = (names x p.0, proper-renamed c p.1)
    proper-renamed (call n a b) p = (proper-exp a p.0, proper-exp b p.1)
    proper-renamed (malloc n x) p = names x p
    proper-renamed (assign n x e) p = (names x p.0, proper-exp e p.1)
    proper-renamed (assign_field n a b c) p = (proper-exp a p.0, proper-exp b p.1, proper-exp c p.2)
    proper-renamed (skip n) p = p
    proper-renamed (seq n c d) p = (proper-renamed c p.0, proper-renamed d p.1)
    proper-renamed (while n t c) p = (proper-test t p.0, proper-renamed c p.1)
    proper-renamed (if n t c d) p = (proper-test t p.0, proper-renamed c p.1, proper-renamed d p.2)
    proper-renamed (par n c d) p = (proper-renamed c p.0, proper-renamed d p.1)
    proper-renamed (atom n c) p = proper-renamed c p
