-- A script that passed the rules 1 to 8 is formed (`formed`), and rule 9 is a search downward for the lowest node that
-- strays: the answer for the places passed is kept, and a lower one takes its place (`down-start`, `down`, `down-end`).
-- Assumes nothing.
use Prim.Native.Nat.{ℕ, suc, ◌+◌, ◌-◌, ◌<◌, ◌≤◌}
use mathlib.Core.Path.{◌≡◌, refl, sym, ap, ◌∙◌}
use mathlib.Core.Bool.{Bool, true, false, cond}
use mathlib.Core.List.{List, []}
use mathlib.Core.Logic.{inl, inr}
use native.Mathlib.Omega.{arith}
use Rattle.rules.specs.declared.Verdict.{Verdict}
use Rattle.rules.specs.declared.Verdict.TheVariants.{Accepted, Refused}
use Rattle.rules.specs.Image.{row_of, nodes_of, node_at, Tree, cmd_at}
use Rattle.rules.specs.Refusals.{Reason, no_such_tag, unused_word, wrong_operand, not_once, or_else, at_place, lowest, rule_of, rule}
use Rattle.rules.proofs.ReasonTable.{broken, In}
use Rattle.rules.proofs.Groups.{at-accepted, low-accepted}
use Rattle.rules.specs.State.{size}
use Rattle.rules.proofs.GoodFacts.{Sized}
use Rattle.rules.proofs.Good.{row_fits_lem, use-once, root-kind}
use Rattle.checklaws.specs.Pieces.{node_rules, use_rules, name_rules, rules_say, names_say}
use Rattle.checklaws.specs.Bits.{Shown}
use Rattle.checklaws.specs.Hands.{Formed, stray_at}
use Rattle.checklaws.proofs.Hands.{strays-is}
use Rattle.checklaws.proofs.Handing.{handed-down-at}
use Rattle.rules.specs.Scope.{Names, has, strays_cmd}
use Rattle.rules.specs.Script.{root_of}
use Rattle.rules.proofs.Strays.{strays_tree}
use Rattle.rules.proofs.TreeKinds.{is-cmd}

-- ---- formed

module _ (img : List ℕ) where
  passed : (rs : List Reason) (n : ℕ) → rules_say img rs n ≡ Accepted → (p : ℕ) → p < n → (r : Reason) → In r rs → broken [] size img r p ≡ false
  unfolding rules_say
  passed rs n e p l r i = at-accepted (broken [] size img) rs p (low-accepted (broken [] size img) rs n e p l) r i

  pub formed : Sized img → Accepted ≡ rules_say img node_rules (nodes_of img) → Accepted ≡ rules_say img use_rules (nodes_of img) → Formed img
  unfolding rule_of rule
  formed z h i =
      let e = sym h in
      let f = sym i in
      record {
        sized = z;
        nodes = λ n l.
            row_fits_lem img n (row_of (node_at img n).tag) (node_at img n)
            (passed node_rules (nodes_of img) e n l no_such_tag (inl refl))
            (passed node_rules (nodes_of img) e n l unused_word (inr (inl refl)))
            (passed node_rules (nodes_of img) e n l wrong_operand (inr (inr (inl refl))));
        once = λ n l. use-once img n l (passed use_rules (nodes_of img) f n (omega arith) not_once (inl refl));
        root =
            let m = z.some-node in
            root-kind img m (passed use_rules (nodes_of img) f (nodes_of img - 1) (omega arith) not_once (inl refl));
      }

-- ---- downward

or-accepted : (v : Verdict) → or_else v Accepted ≡ v
unfolding or_else
or-accepted Accepted = refl
or-accepted (Refused k p) = refl

or_assoc : (u v w : Verdict) → or_else (or_else u v) w ≡ or_else u (or_else v w)
unfolding or_else
or_assoc Accepted v w = refl
or_assoc (Refused k p) v w = refl

module _ (visible : Names) (img : List ℕ) where
  name_at : ℕ → Verdict
  name_at n = at_place (broken visible size img) name_rules n

  down-start : (n : ℕ) → n ≡ nodes_of img → or_else (names_say visible img n) Accepted ≡ names_say visible img (nodes_of img)
  down-start n e = or-accepted (names_say visible img n) ∙ rw e

  one_down : (n : ℕ) (v : Verdict) → or_else (names_say visible img (suc n)) v ≡ or_else (names_say visible img n) (or_else (name_at n) v)
  unfolding names_say name_at lowest
  one_down n v = or_assoc (lowest (broken visible size img) name_rules n) (at_place (broken visible size img) name_rules n) v

  stray-is : (n : ℕ) → Formed img → n < nodes_of img → has n (strays_cmd visible (cmd_at (node_at img) (root_of img))) ≡ stray_at visible img n
  unfolding root_of strays_tree
  stray-is n g l = ap (λ (t : Tree). strays_tree visible t n) (sym (is-cmd (node_at img) (nodes_of img - 1) g.root)) ∙ strays-is visible img g n l

  place : (n : ℕ) (b : Bool) (v : Verdict) → Formed img → n < nodes_of img → b ≡ stray_at visible img n → or_else (name_at n) v ≡ cond b (Refused 9 n) v
  unfolding name_at at_place or_else rule_of rule
  place n b v g l e = rw (stray-is n g l, ← e) (go b)
    where
      go : (c : Bool) → or_else (cond c (Refused 9 n) Accepted) v ≡ cond c (Refused 9 n) v
      go true = refl
      go false = refl

  down : (n m : ℕ) (b : Bool) (v : Verdict) → Formed img → n < nodes_of img → n + 1 ≡ m → b ≡ stray_at visible img n → or_else (names_say visible img m) v ≡ names_say visible img (nodes_of img) → or_else (names_say visible img n) (cond b (Refused 9 n) v) ≡ names_say visible img (nodes_of img)
  down n m b v g l d e h =
      let f : suc n ≡ m = omega arith in
      ap (or_else (names_say visible img n)) (sym (place n b v g l e)) ∙ sym (one_down n v) ∙ rw f h

  down-end : (n : ℕ) (v : Verdict) → n ≡ 0 → or_else (names_say visible img n) v ≡ names_say visible img (nodes_of img) → v ≡ names_say visible img (nodes_of img)
  unfolding names_say lowest or_else
  down-end n v z h = rw z at h

-- between two turns, from the list held₀: the names that the nodes from n up handed down, and the answer for them
pub record Down (img held₀ : List ℕ) (n : ℕ) (held : List ℕ) (v : Verdict) : Type 0 where
  pub shown : (visible : Names) → Shown visible img (nodes_of img) held₀ → Shown visible img n held
  pub says : (visible : Names) → Shown visible img (nodes_of img) held₀ → or_else (names_say visible img n) v ≡ names_say visible img (nodes_of img)

pub down-begins : (img held : List ℕ) (n : ℕ) → n ≡ nodes_of img → Down img held n held Accepted
down-begins img held n e =
    record {
      shown = λ visible h. handed-down-at visible img (nodes_of img) n held (sym e) h;
      says = λ visible h. down-start visible img n e;
    }

module _ (img held₀ held : List ℕ) (n : ℕ) (v : Verdict) where
  down-turns : (held' : List ℕ) (b : Bool) (u : Verdict)
      → u ≡ cond b (Refused 9 (n - 1)) v
      → ((visible : Names) → Shown visible img (n - 1 + 1) held → (b ≡ stray_at visible img (n - 1)) × Shown visible img (n - 1) held')
      → Down img held₀ n held v → Formed img → n ≤ nodes_of img → 0 < n → Down img held₀ (n - 1) held' u
  down-turns held' b u e visits d g l m =
      record {
        shown = λ visible h. (visits visible (at visible h)).1;
        says = λ visible h. ap (or_else (names_say visible img (n - 1))) e ∙ down visible img (n - 1) n b v g (omega arith) (omega arith) (visits visible (at visible h)).0 (d.says visible h);
      }
    where
      at : (visible : Names) → Shown visible img (nodes_of img) held₀ → Shown visible img (n - 1 + 1) held
      at visible h = handed-down-at visible img n (n - 1 + 1) held (omega arith) (d.shown visible h)

  -- node n - 1 strays, or it doesn't
  pub down-strays : (held' : List ℕ) (b : Bool) → b ≡ true
      → ((visible : Names) → Shown visible img (n - 1 + 1) held → (b ≡ stray_at visible img (n - 1)) × Shown visible img (n - 1) held')
      → Down img held₀ n held v → Formed img → n ≤ nodes_of img → 0 < n → Down img held₀ (n - 1) held' (Refused 9 (n - 1))
  down-strays held' b e = down-turns held' b (Refused 9 (n - 1)) (rw e)

  pub down-keeps : (held' : List ℕ) (b : Bool) → b ≡ false
      → ((visible : Names) → Shown visible img (n - 1 + 1) held → (b ≡ stray_at visible img (n - 1)) × Shown visible img (n - 1) held')
      → Down img held₀ n held v → Formed img → n ≤ nodes_of img → 0 < n → Down img held₀ (n - 1) held' v
  down-keeps held' b e = down-turns held' b v (rw e)

  pub down_ends : Down img held₀ n held v → n ≤ 0 → (visible : Names) → Shown visible img (nodes_of img) held₀ → v ≡ names_say visible img (nodes_of img)
  down_ends d l visible h = down-end visible img n v (omega arith) (d.says visible h)

pub ruleset downward = (down-begins, down-strays, down-keeps, down_ends)
