-- Linking the items of a proper tree gives the tree's table: `links-are`. A run of items is told by what it adds to the nodes and to the first nodes, from n nodes on;
-- a tree's run adds as many of both as the tree has nodes, and the last that it adds has n as its first node. Assumes nothing.
use Prim.Native.Nat.{ℕ, suc, ◌+◌, ◌-◌, ◌%◌, ◌<◌, ◌≤◌}
use mathlib.Core.Path.{◌≡◌, refl, ap, ◌∙◌}
use mathlib.Core.Option.{some}
use mathlib.Core.List.{List, [], ◌∷◌, ◌++◌, append_assoc, append-nil}
use native.Mathlib.Omega.{arith}
use lib.ListN.{length, get_or, length-append, get_or-append}
use lib.Seq.{get_or-append-add}
use Rattle.rules.specs.Syntax.{Exp, Test, Cmd, no_exp, field, int, diff, null, ref, select, proc, no_test, is_true, is_false, equal, less, no_cmd, var, call, malloc, assign, assign_field, skip, seq, while, if, par, atom}
use Rattle.rules.specs.declared.Node.{Node}
use Rattle.rules.specs.declared.Kind.{Kind}
use Rattle.rules.specs.declared.Role.TheVariants.{Unused, Binds, Child}
use Rattle.rules.specs.Image.{tags, row, row_in, row_of, line_of, line_in}
use Rattle.grammar.specs.Nodes.{size_exp, size_test, size_cmd, words, last_of, table_exp, table_test, table_cmd}
use Rattle.grammar.specs.Proper.{ProperExp, ProperTest, ProperCmd}
use Rattle.grammar.proofs.Sizes.{behind-one}
use Rattle.reading.specs.Items.{Item, put, items_exp, items_test, items_cmd}
use Rattle.reading.specs.Links.{linked_by, linked, first_by, first_of, Chained, chained, nodes_in, link_on, link_from, link}

-- ---- items one after the other

pub link-append : (is js : List Item) (s : Chained) → link_from (is ++ js) s ≡ link_from js (link_from is s)
unfolding link_from
link-append [] js s = refl
link-append (i ∷ is) js s = link-append is js (link_on i s)

pub link-one-more : (is : List Item) (i : Item) → link (is ++ (i ∷ [])) ≡ link_on i (link is)
unfolding link link_from
link-one-more is i = link-append is (i ∷ []) (chained [] [])

-- from n nodes on these items add these s nodes, with these first nodes
record Run (n s : ℕ) (is : List Item) (xs : List Node) (fs : List ℕ) : Type 0 where
  nodes-long : length xs ≡ s
  firsts-long : length fs ≡ s
  adds : (ns : List Node) (gs : List ℕ) → length ns ≡ n → length gs ≡ n → link_from is (chained ns gs) ≡ chained (ns ++ xs) (gs ++ fs)

run_none : (n : ℕ) → Run n 0 [] [] []
unfolding link_from
run_none n = record { nodes-long = refl; firsts-long = refl; adds = λ ns gs p q. rw (append-nil ns, append-nil gs) }

run-then : {n s t : ℕ} {is js : List Item} {xs ys : List Node} {fs hs : List ℕ}
    → Run n s is xs fs → Run (n + s) t js ys hs → Run n (s + t) (is ++ js) (xs ++ ys) (fs ++ hs)
run-then {n} {s} {t} {is} {js} {xs} {ys} {fs} {hs} p q =
    let a = p.nodes-long in
    let b = p.firsts-long in
    record {
      nodes-long = length-append xs ys ∙ omega (arith, q.nodes-long);
      firsts-long = length-append fs hs ∙ omega (arith, q.firsts-long);
      adds = λ ns gs l m.
          link-append is js (chained ns gs)
          ∙ rw (
            p.adds ns gs l m,
            q.adds (ns ++ xs) (gs ++ fs) (length-append ns xs ∙ omega arith) (length-append gs fs ∙ omega arith),
            append_assoc ns xs ys,
            append_assoc gs fs hs,
          );
    }

-- and one item more
run-node : {n s : ℕ} {is : List Item} {xs : List Node} {fs : List ℕ} (i : Item) (x : Node) (k : ℕ) → Run n s is xs fs
    → ((gs : List ℕ) → length gs ≡ n → (linked (n + s) (gs ++ fs) i ≡ x) × (first_of (n + s) (gs ++ fs) i ≡ k))
    → Run n (suc s) (is ++ (i ∷ [])) (xs ++ (x ∷ [])) (fs ++ (k ∷ []))
unfolding link_from link_on
run-node {n} {s} {is} {xs} {fs} i x k p h =
    let a = p.nodes-long in
    record {
      nodes-long = behind-one x xs p.nodes-long;
      firsts-long = behind-one k fs p.firsts-long;
      adds = λ ns gs l m.
          let e : length (ns ++ xs) ≡ n + s = length-append ns xs ∙ omega arith in
          link-append is (i ∷ []) (chained ns gs)
          ∙ rw (p.adds ns gs l m, e, (h gs m).0, (h gs m).1, append_assoc ns xs (x ∷ []), append_assoc gs fs (k ∷ []));
    }

-- ---- a tree's items

record Links (n s : ℕ) (is : List Item) (xs : List Node) : Type 0 where
  firsts : List ℕ
  run : Run n s is xs firsts
  filled : 1 ≤ s
  last : get_or firsts (s - 1) 0 ≡ n

-- with the tree's own node, whose first node is n
closes : {n s : ℕ} {is : List Item} {xs : List Node} {fs : List ℕ} (i : Item) (x : Node) → Run n s is xs fs
    → ((gs : List ℕ) → length gs ≡ n → (linked (n + s) (gs ++ fs) i ≡ x) × (first_of (n + s) (gs ++ fs) i ≡ n))
    → Links n (suc s) (is ++ (i ∷ [])) (xs ++ (x ∷ []))
closes {n} {s} {is} {xs} {fs} i x p h =
    let e : suc s - 1 ≡ length fs + 0 = omega (arith, p.firsts-long) in
    record {
      firsts = fs ++ (n ∷ []);
      run = run-node i x n p h;
      filled = omega arith;
      last = rw e (get_or-append-add fs (n ∷ []) 0 0);
    }

last-at : (gs fs : List ℕ) (n s k : ℕ) → length gs ≡ n → 1 ≤ s → get_or fs (s - 1) 0 ≡ k → get_or (gs ++ fs) (n + s - 1) 0 ≡ k
last-at gs fs n s k l o h = let e : n + s - 1 ≡ length gs + (s - 1) = omega arith in rw e (get_or-append-add gs fs (s - 1) 0 ∙ h)

-- no child
alone : (n : ℕ) (i : Item) (x : Node) → ((m : ℕ) (gs : List ℕ) → (linked m gs i ≡ x) × (first_of m gs i ≡ m)) → Links n 1 (i ∷ []) (x ∷ [])
alone n i x h = closes i x (run_none n) (λ gs l. let e : n + 0 ≡ n = omega arith in ((h (n + 0) (gs ++ [])).0, (h (n + 0) (gs ++ [])).1 ∙ e))

-- one
around : {n s : ℕ} {is : List Item} {xs : List Node} (i : Item) (w : ℕ → Node)
    → ((m : ℕ) (gs : List ℕ) → (linked m gs i ≡ w (m - 1)) × (first_of m gs i ≡ get_or gs (m - 1) 0))
    → Links n s is xs → Links n (suc s) (is ++ (i ∷ [])) (xs ++ (w (last_of n s) ∷ []))
unfolding last_of
around {n} {s} i w h p =
    closes i (w (last_of n s)) p.run
    (λ gs l. ((h (n + s) (gs ++ p.firsts)).0, (h (n + s) (gs ++ p.firsts)).1 ∙ last-at gs p.firsts n s n l p.filled p.last))

-- two
module _ {n s u : ℕ} {is js : List Item} {xs ys : List Node} (t : ℕ) {j k : Kind} (r : row_of t ≡ some (row (Child j) (Child k) Unused)) where
  two : Links n s is xs → Links (n + s) u js ys
      → Links n (suc (s + u)) ((is ++ js) ++ (put t 0 ∷ [])) ((xs ++ ys) ++ (words t (last_of n s) (last_of (n + s) u) 0 ∷ []))
  unfolding last_of linked linked_by first_of first_by
  two p q =
      closes (put t 0) _ (run-then p.run q.run) (λ gs l.
      let fs = p.firsts in
      let hs = q.firsts in
      let a = p.filled in
      let b : get_or (gs ++ (fs ++ hs)) (n + (s + u) - 1) 0 ≡ n + s =
      last-at gs (fs ++ hs) n (s + u) (n + s) l (omega arith) (last-at fs hs s u (n + s) p.run.firsts-long q.filled q.last) in
      let c : get_or (gs ++ (fs ++ hs)) (n + s - 1) 0 ≡ n =
      last-at gs (fs ++ hs) n s n l a (get_or-append fs hs 0 (s - 1) (omega (arith, p.run.firsts-long)) ∙ p.last) in
      let d : n + (s + u) - 1 ≡ n + s + u - 1 = omega arith in
      (rw (r, b, d), rw (r, b, c)))

-- three
module _ {n s u v : ℕ} {is js ks : List Item} {xs ys zs : List Node} (t : ℕ) {i j k : Kind} (r : row_of t ≡ some (row (Child i) (Child j) (Child k))) where
  three : Links n s is xs → Links (n + s) u js ys → Links (n + s + u) v ks zs
      → Links n (suc (s + (u + v)))
      ((is ++ (js ++ ks)) ++ (put t 0 ∷ []))
      ((xs ++ (ys ++ zs)) ++ (words t (last_of n s) (last_of (n + s) u) (last_of (n + s + u) v) ∷ []))
  unfolding last_of linked linked_by first_of first_by
  three p q o =
      closes (put t 0) _ (run-then p.run (run-then q.run o.run)) (λ gs l.
      let fs = p.firsts in
      let hs = q.firsts in
      let rest = hs ++ o.firsts in
      let a = p.filled in
      let e = p.run.firsts-long in
      let b : get_or (gs ++ (fs ++ rest)) (n + (s + (u + v)) - 1) 0 ≡ n + s + u =
      last-at gs (fs ++ rest) n (s + (u + v)) (n + s + u) l (omega arith)
      (last-at fs rest s (u + v) (n + s + u) e (omega (arith, q.filled))
      (last-at hs o.firsts u v (n + s + u) q.run.firsts-long o.filled o.last)) in
      let c : get_or (gs ++ (fs ++ rest)) (n + (s + u) - 1) 0 ≡ n + s =
      last-at gs (fs ++ rest) n (s + u) (n + s) l (omega arith)
      (last-at fs rest s u (n + s) e q.filled
      (get_or-append hs o.firsts 0 (u - 1) (omega (arith, q.run.firsts-long, q.filled)) ∙ q.last)) in
      let d : get_or (gs ++ (fs ++ rest)) (n + s - 1) 0 ≡ n =
      last-at gs (fs ++ rest) n s n l a (get_or-append fs rest 0 (s - 1) (omega arith) ∙ p.last) in
      let f : n + s + u - 1 ≡ n + (s + u) - 1 = omega arith in
      let g : n + (s + (u + v)) - 1 ≡ n + s + u + v - 1 = omega arith in
      (rw (r, b, f, c, g), rw (r, b, f, c, d)))

-- ---- every tree: field indexes and names are words

module _ (P Q : ℕ → Type 0) (small-field : (f : ℕ) → P f → f < 65536) (small-name : (x : ℕ) → Q x → x < 65536) where
  name-whole : (x : ℕ) → Q x → x % 65536 ≡ x
  name-whole x q = omega (arith, small-name x q)

  -- a name and a command in a node
  binds : {n s : ℕ} {is : List Item} {xs : List Node} (t x : ℕ) {k : Kind} → Q x → row_of t ≡ some (row Binds (Child k) Unused)
      → Links n s is xs → Links n (suc s) (is ++ (put t x ∷ [])) (xs ++ (words t x (last_of n s) 0 ∷ []))
  unfolding linked linked_by first_of first_by
  binds t x q r p = around (put t x) (λ i. words t x i 0) (λ m gs. (rw (r, name-whole x q), rw r)) p

  mutual
    unfolding items_exp table_exp size_exp linked linked_by first_of first_by row_of row_in line_of line_in tags

    link-exp : (n : ℕ) (e : Exp) → ProperExp P Q e → Links n (size_exp e) (items_exp e) (table_exp n e)
    link-exp n (no_exp i) p = absurd p
    link-exp n (field i f) p =
        let e : f % 65536 ≡ f = omega (arith, small-field f p) in alone n (put 1 f) (words 1 f 0 0) (λ m gs. (rw e, refl))
    link-exp n (int i b) p = alone n (put 2 b) _ (λ m gs. (refl, refl))
    link-exp n (diff i a b) p = two 3 refl (link-exp n a p.0) (link-exp (n + size_exp a) b p.1)
    link-exp n (null i) p = alone n (put 4 0) _ (λ m gs. (refl, refl))
    link-exp n (ref i x) p = alone n (put 5 x) (words 5 x 0 0) (λ m gs. (rw (name-whole x p), refl))
    link-exp n (select i a b) p = two 6 refl (link-exp n a p.0) (link-exp (n + size_exp a) b p.1)
    link-exp n (proc i y c) p = binds 7 y p.0 refl (link-cmd n c p.1)

    link-test : (n : ℕ) (t : Test) → ProperTest P Q t → Links n (size_test t) (items_test t) (table_test n t)
    link-test n (no_test i) p = absurd p
    link-test n (is_true i) p = alone n (put 16 0) _ (λ m gs. (refl, refl))
    link-test n (is_false i) p = alone n (put 17 0) _ (λ m gs. (refl, refl))
    link-test n (equal i a b) p = two 18 refl (link-exp n a p.0) (link-exp (n + size_exp a) b p.1)
    link-test n (less i a b) p = two 19 refl (link-exp n a p.0) (link-exp (n + size_exp a) b p.1)

    link-cmd : (n : ℕ) (c : Cmd) → ProperCmd P Q c → Links n (size_cmd c) (items_cmd c) (table_cmd n c)
    link-cmd n (no_cmd i) p = absurd p
    link-cmd n (var i x c) p = binds 32 x p.0 refl (link-cmd n c p.1)
    link-cmd n (call i a b) p = two 33 refl (link-exp n a p.0) (link-exp (n + size_exp a) b p.1)
    link-cmd n (malloc i x) p = alone n (put 34 x) (words 34 x 0 0) (λ m gs. (rw (name-whole x p), refl))
    link-cmd n (assign i x e) p =
        around (put 35 x) (λ j. words 35 x j 0) (λ m gs. (rw (name-whole x p.0), refl)) (link-exp n e p.1)
    link-cmd n (assign_field i a b c) p =
        three 36 refl (link-exp n a p.0) (link-exp (n + size_exp a) b p.1) (link-exp (n + size_exp a + size_exp b) c p.2)
    link-cmd n (skip i) p = alone n (put 37 0) _ (λ m gs. (refl, refl))
    link-cmd n (seq i c d) p = two 38 refl (link-cmd n c p.0) (link-cmd (n + size_cmd c) d p.1)
    link-cmd n (while i t c) p = two 39 refl (link-test n t p.0) (link-cmd (n + size_test t) c p.1)
    link-cmd n (if i t c d) p =
        three 40 refl (link-test n t p.0) (link-cmd (n + size_test t) c p.1) (link-cmd (n + size_test t + size_cmd c) d p.2)
    link-cmd n (par i c d) p = two 41 refl (link-cmd n c p.0) (link-cmd (n + size_cmd c) d p.1)
    link-cmd n (atom i c) p = around (put 42 0) (λ j. words 42 j 0 0) (λ m gs. (refl, refl)) (link-cmd n c p)

  pub links-are : (c : Cmd) → ProperCmd P Q c → nodes_in (link (items_cmd c)) ≡ table_cmd 0 c
  unfolding link
  links-are c p = ap nodes_in ((link-cmd 0 c p).run.adds [] [] refl refl)
