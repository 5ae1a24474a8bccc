-- The table of a proper tree writes the tree down, with the numbers of its nodes, in the sense of the base (`WroteCmd`): one clause a constructor.
-- The nodes may be a part of a longer list, from number n on. Assumes nothing.
use Prim.Native.Nat.{ℕ, ◌+◌, ◌-◌, ◌<◌, ◌≤◌}
use mathlib.Core.Path.{◌≡◌, refl, ◌∙◌}
use mathlib.Core.Option.{some}
use mathlib.Core.List.{List, [], ◌∷◌, ◌++◌}
use native.Mathlib.Omega.{arith}
use lib.ListN.{length, get_elem?, length-append}
use Rattle.laws.specs.Elems.{elem-stays, elem-second}
use Rattle.rules.specs.Syntax.{Exp, Test, Cmd, no_exp, field, int, diff, null, ref, select, proc, no_test, is_true, is_false, equal, less, no_cmd, var, call, malloc, assign, assign_field, skip, seq, while, if, par, atom, exp_no, cmd_no}
use Rattle.rules.specs.declared.Node.{Node}
use Rattle.rules.proofs.Writing.{four, WroteExp, WroteTest, WroteCmd}
use Rattle.grammar.specs.Nodes.{size_exp, size_test, size_cmd, words, last_of, table_exp, table_test, table_cmd}
use Rattle.grammar.specs.Proper.{ProperExp, ProperTest, ProperCmd, Field, Name}
use Rattle.grammar.proofs.Proper.{some-exp, some-test, some-cmd}
use Rattle.grammar.proofs.Sizes.{length-exp, length-test, length-cmd}
use Rattle.grammar.proofs.Numbered.{numbered_exp, numbered_test, numbered_cmd, root-exp, root-test, root-cmd}

module _ (nodes : List Node) where
  -- these are its nodes from n on
  abbrev pub Part : ℕ → List Node → Type 0
  Part n xs = (i : ℕ) (x : Node) → get_elem? xs i ≡ some x → get_elem? nodes (n + i) ≡ some x

  -- ---- parts of a part

  first : (n : ℕ) (xs ys : List Node) → Part n (xs ++ ys) → Part n xs
  first n xs ys h i x e = h i x (elem-stays xs ys i x e)

  second : (n s : ℕ) (xs ys : List Node) → length xs ≡ s → Part n (xs ++ ys) → Part (n + s) ys
  second n s xs ys l h i x e =
      let k : s + i - length xs ≡ i = omega arith in
      let m : n + s + i ≡ n + (s + i) = omega arith in
      rw m (h (s + i) x (elem-second xs ys (s + i) (omega arith) ∙ rw k e))

  the-node : (n : ℕ) (x : Node) → Part n (x ∷ []) → get_elem? nodes n ≡ some x
  the-node n x h = let e : n + 0 ≡ n = omega arith in rw e at (h 0 x refl)

  -- ---- a node behind its children's: the line, the children's numbers i, j, k, and their parts

  behind-one : (n s i : ℕ) (w : ℕ → Node) (xs : List Node) → length xs ≡ s → 1 ≤ s → i ≡ last_of n s → Part n (xs ++ (w (last_of n s) ∷ []))
      → (get_elem? nodes (n + s) ≡ some (w i)) × (i < n + s) × Part n xs
  unfolding last_of
  behind-one n s i w xs l o r h = (rw r (the-node (n + s) _ (second n s xs _ l h)), omega arith, first n xs _ h)

  module _ (n t : ℕ) where
    behind-two : (s u i j : ℕ) (xs ys : List Node) → length xs ≡ s → length ys ≡ u → 1 ≤ s → 1 ≤ u → i ≡ last_of n s → j ≡ last_of (n + s) u
        → Part n ((xs ++ ys) ++ (words t (last_of n s) (last_of (n + s) u) 0 ∷ []))
        → (get_elem? nodes (n + (s + u)) ≡ some (four t i j 0)) × (i < n + (s + u)) × (j < n + (s + u)) × Part n xs × Part (n + s) ys
    unfolding four words last_of
    behind-two s u i j xs ys l m o p q r h =
        let k = length-append xs ys in
        let g = first n (xs ++ ys) _ h in (
          rw (q, r) (the-node (n + (s + u)) _ (second n (s + u) (xs ++ ys) _ (omega arith) h)),
          omega arith,
          omega arith,
          first n xs ys g,
          second n s xs ys l g,
        )

    behind-three : (s u v i j k : ℕ) (xs ys zs : List Node) → length xs ≡ s → length ys ≡ u → length zs ≡ v → 1 ≤ s → 1 ≤ u → 1 ≤ v
        → i ≡ last_of n s → j ≡ last_of (n + s) u → k ≡ last_of (n + s + u) v
        → Part n ((xs ++ (ys ++ zs)) ++ (words t (last_of n s) (last_of (n + s) u) (last_of (n + s + u) v) ∷ []))
        → (get_elem? nodes (n + (s + (u + v))) ≡ some (four t i j k))
        × (i < n + (s + (u + v))) × (j < n + (s + (u + v))) × (k < n + (s + (u + v)))
        × Part n xs × Part (n + s) ys × Part (n + s + u) zs
    unfolding four words last_of
    behind-three s u v i j k xs ys zs l m o p q r d e f h =
        let a = length-append xs (ys ++ zs) in
        let b = length-append ys zs in
        let g = first n (xs ++ (ys ++ zs)) _ h in
        let y = second n s xs (ys ++ zs) l g in (
          rw (d, e, f) (the-node (n + (s + (u + v))) _ (second n (s + (u + v)) (xs ++ (ys ++ zs)) _ (omega arith) h)),
          omega arith,
          omega arith,
          omega arith,
          first n xs (ys ++ zs) g,
          first (n + s) ys zs y,
          second (n + s) u ys zs m y,
        )

  -- ---- the tree is written

  module _ (F N : ℕ) where
    exps : (n t : ℕ) (a b : Exp) → ProperExp (Field F) (Name N) a → ProperExp (Field F) (Name N) b
        → Part n ((table_exp n a ++ table_exp (n + size_exp a) b) ++ (words t (last_of n (size_exp a)) (last_of (n + size_exp a) (size_exp b)) 0 ∷ []))
        → (get_elem? nodes (n + (size_exp a + size_exp b)) ≡ some (four t (exp_no (numbered_exp n a)) (exp_no (numbered_exp (n + size_exp a) b)) 0))
        × (exp_no (numbered_exp n a) < n + (size_exp a + size_exp b))
        × (exp_no (numbered_exp (n + size_exp a) b) < n + (size_exp a + size_exp b))
        × Part n (table_exp n a) × Part (n + size_exp a) (table_exp (n + size_exp a) b)
    exps n t a b p q h =
        behind-two n t (size_exp a) (size_exp b) _ _ (table_exp n a) (table_exp (n + size_exp a) b)
        (length-exp n a) (length-exp (n + size_exp a) b)
        (some-exp (Field F) (Name N) a p) (some-exp (Field F) (Name N) b q)
        (root-exp n a) (root-exp (n + size_exp a) b) h

    cmds : (n t : ℕ) (c d : Cmd) → ProperCmd (Field F) (Name N) c → ProperCmd (Field F) (Name N) d
        → Part n ((table_cmd n c ++ table_cmd (n + size_cmd c) d) ++ (words t (last_of n (size_cmd c)) (last_of (n + size_cmd c) (size_cmd d)) 0 ∷ []))
        → (get_elem? nodes (n + (size_cmd c + size_cmd d)) ≡ some (four t (cmd_no (numbered_cmd n c)) (cmd_no (numbered_cmd (n + size_cmd c) d)) 0))
        × (cmd_no (numbered_cmd n c) < n + (size_cmd c + size_cmd d))
        × (cmd_no (numbered_cmd (n + size_cmd c) d) < n + (size_cmd c + size_cmd d))
        × Part n (table_cmd n c) × Part (n + size_cmd c) (table_cmd (n + size_cmd c) d)
    cmds n t c d p q h =
        behind-two n t (size_cmd c) (size_cmd d) _ _ (table_cmd n c) (table_cmd (n + size_cmd c) d)
        (length-cmd n c) (length-cmd (n + size_cmd c) d)
        (some-cmd (Field F) (Name N) c p) (some-cmd (Field F) (Name N) d q)
        (root-cmd n c) (root-cmd (n + size_cmd c) d) h

    -- a command in a node
    around : (n : ℕ) (w : ℕ → Node) (c : Cmd) → ProperCmd (Field F) (Name N) c → Part n (table_cmd n c ++ (w (last_of n (size_cmd c)) ∷ []))
        → (get_elem? nodes (n + size_cmd c) ≡ some (w (cmd_no (numbered_cmd n c))))
        × (cmd_no (numbered_cmd n c) < n + size_cmd c) × Part n (table_cmd n c)
    around n w c p h = behind-one n (size_cmd c) _ w (table_cmd n c) (length-cmd n c) (some-cmd (Field F) (Name N) c p) (root-cmd n c) h

    mutual
      unfolding numbered_exp table_exp four words

      wrote-exp : (n : ℕ) (e : Exp) → ProperExp (Field F) (Name N) e → Part n (table_exp n e) → WroteExp nodes F N (numbered_exp n e)
      wrote-exp n (no_exp k) p h = absurd p
      wrote-exp n (field k f) p h = (the-node n _ h, p.0, p.1)
      wrote-exp n (int k b) p h = (the-node n _ h, p)
      wrote-exp n (diff k a b) p h =
          let (l, i, j, g, m) = exps n 3 a b p.0 p.1 h in (l, i, j, wrote-exp n a p.0 g, wrote-exp (n + size_exp a) b p.1 m)
      wrote-exp n (null k) p h = the-node n _ h
      wrote-exp n (ref k x) p h = (the-node n _ h, p)
      wrote-exp n (select k a b) p h =
          let (l, i, j, g, m) = exps n 6 a b p.0 p.1 h in (l, i, j, wrote-exp n a p.0 g, wrote-exp (n + size_exp a) b p.1 m)
      wrote-exp n (proc k y c) p h = let (l, i, g) = around n (λ i. four 7 y i 0) c p.1 h in (l, p.0, i, wrote-cmd n c p.1 g)

      wrote-test : (n : ℕ) (t : Test) → ProperTest (Field F) (Name N) t → Part n (table_test n t) → WroteTest nodes F N (numbered_test n t)
      wrote-test n (no_test k) p h = absurd p
      wrote-test n (is_true k) p h = the-node n _ h
      wrote-test n (is_false k) p h = the-node n _ h
      wrote-test n (equal k a b) p h =
          let (l, i, j, g, m) = exps n 18 a b p.0 p.1 h in (l, i, j, wrote-exp n a p.0 g, wrote-exp (n + size_exp a) b p.1 m)
      wrote-test n (less k a b) p h =
          let (l, i, j, g, m) = exps n 19 a b p.0 p.1 h in (l, i, j, wrote-exp n a p.0 g, wrote-exp (n + size_exp a) b p.1 m)

      pub wrote-cmd : (n : ℕ) (c : Cmd) → ProperCmd (Field F) (Name N) c → Part n (table_cmd n c) → WroteCmd nodes F N (numbered_cmd n c)
      wrote-cmd n (no_cmd k) p h = absurd p
      wrote-cmd n (var k x c) p h = let (l, i, g) = around n (λ i. four 32 x i 0) c p.1 h in (l, p.0, i, wrote-cmd n c p.1 g)
      wrote-cmd n (call k a b) p h =
          let (l, i, j, g, m) = exps n 33 a b p.0 p.1 h in (l, i, j, wrote-exp n a p.0 g, wrote-exp (n + size_exp a) b p.1 m)
      wrote-cmd n (malloc k x) p h = (the-node n _ h, p)
      wrote-cmd n (assign k x e) p h =
          let (l, i, g) = behind-one n (size_exp e) _ (λ i. four 35 x i 0) (table_exp n e) (length-exp n e) (some-exp (Field F) (Name N) e p.1) (root-exp n e) h in
          (l, p.0, i, wrote-exp n e p.1 g)
      wrote-cmd n (assign_field k a b c) p h =
          let (l, i, j, u, f, g, m) =
          behind-three n 36 (size_exp a) (size_exp b) (size_exp c) _ _ _
          (table_exp n a) (table_exp (n + size_exp a) b) (table_exp (n + size_exp a + size_exp b) c)
          (length-exp n a) (length-exp (n + size_exp a) b) (length-exp (n + size_exp a + size_exp b) c)
          (some-exp (Field F) (Name N) a p.0) (some-exp (Field F) (Name N) b p.1) (some-exp (Field F) (Name N) c p.2)
          (root-exp n a) (root-exp (n + size_exp a) b) (root-exp (n + size_exp a + size_exp b) c) h in
          (l, i, j, u, wrote-exp n a p.0 f, wrote-exp (n + size_exp a) b p.1 g, wrote-exp (n + size_exp a + size_exp b) c p.2 m)
      wrote-cmd n (skip k) p h = the-node n _ h
      wrote-cmd n (seq k c d) p h =
          let (l, i, j, g, m) = cmds n 38 c d p.0 p.1 h in (l, i, j, wrote-cmd n c p.0 g, wrote-cmd (n + size_cmd c) d p.1 m)
      wrote-cmd n (while k t c) p h =
          let (l, i, j, g, m) =
          behind-two n 39 (size_test t) (size_cmd c) _ _ (table_test n t) (table_cmd (n + size_test t) c)
          (length-test n t) (length-cmd (n + size_test t) c)
          (some-test (Field F) (Name N) t p.0) (some-cmd (Field F) (Name N) c p.1)
          (root-test n t) (root-cmd (n + size_test t) c) h in
          (l, i, j, wrote-test n t p.0 g, wrote-cmd (n + size_test t) c p.1 m)
      wrote-cmd n (if k t c d) p h =
          let (l, i, j, u, f, g, m) =
          behind-three n 40 (size_test t) (size_cmd c) (size_cmd d) _ _ _
          (table_test n t) (table_cmd (n + size_test t) c) (table_cmd (n + size_test t + size_cmd c) d)
          (length-test n t) (length-cmd (n + size_test t) c) (length-cmd (n + size_test t + size_cmd c) d)
          (some-test (Field F) (Name N) t p.0) (some-cmd (Field F) (Name N) c p.1) (some-cmd (Field F) (Name N) d p.2)
          (root-test n t) (root-cmd (n + size_test t) c) (root-cmd (n + size_test t + size_cmd c) d) h in
          (l, i, j, u, wrote-test n t p.0 f, wrote-cmd (n + size_test t) c p.1 g, wrote-cmd (n + size_test t + size_cmd c) d p.2 m)
      wrote-cmd n (par k c d) p h =
          let (l, i, j, g, m) = cmds n 41 c d p.0 p.1 h in (l, i, j, wrote-cmd n c p.0 g, wrote-cmd (n + size_cmd c) d p.1 m)
      wrote-cmd n (atom k c) p h = let (l, i, g) = around n (λ i. four 42 i 0 0) c p h in (l, i, wrote-cmd n c p g)
