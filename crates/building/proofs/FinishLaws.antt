-- The end of a text, the codes as words, and the image that goes out. Assumes nothing.
use Prim.Native.Nat.{ℕ, suc, ◌+◌, ◌*◌, ◌%◌, ◌<◌, ◌≤◌}
use mathlib.Core.Path.{◌≡◌, refl, sym, ap, subst, ◌∙◌}
use mathlib.Core.Bool.{Bool, true, false, not}
use mathlib.Core.List.{List, [], ◌∷◌, ◌++◌, map, append-nil}
use native.Mathlib.Omega.{arith}
use native.Mathlib.Decide.{dec_lt}
use lib.ListN.{length, get_or, take, drop, set, length-map, length-set, get_or-map}
use lib.Seq.{sets, length-sets, take-suc, take-suc-set, take_all, length-take-le}
use Rattle.rules.specs.Image.{most_fields, most_nodes}
use Rattle.rules.specs.Published.{image}
use Rattle.grammar.specs.Reads.{most_bytes}
use Rattle.reading.specs.Links.{nodes_in, link}
use Rattle.reading.specs.Table.{Due}
use Rattle.dues.specs.Stack.{Stacked, Standing, PassesAll, passed_items}
use Rattle.tables.specs.Tabled.{head_bytes}
use Rattle.tables.proofs.Tabling.{tabled-image}
use Rattle.std.specs.Prelude.{Ok, Err}
use Rattle.tables.specs.Tabled.{Tabled}
use Rattle.building.specs.declared.finish.EndError.TheVariants.{Early, TooManyNodes}
use Rattle.building.specs.declared.nodes.Nodes.{Nodes}
use Rattle.building.specs.Built.{Passed, EndSays}
use Rattle.building.specs.Grown.{Grows}
use Rattle.building.specs.Finish.{EndSaysAll, Out}
use Rattle.building.proofs.PassedLaws.{finish-all, all-passed}

-- ---- the end of a text

-- b is what `all_pass` answers
abbrev pub AllPass : Bool → ℕ → List ℕ → Type 0
AllPass b depth ws = (ds : List Due) → Stacked ds depth ws → EndSays ds b

denied : (b : Bool) → not b ≡ true → b ≡ false
denied true e = sym e
denied false e = refl

granted : (b : Bool) → not b ≡ false → b ≡ true
granted true e = refl
granted false e = sym e

pub there : (depth : ℕ) (ws : List ℕ) (b : Bool) → AllPass b depth ws → not b ≡ false → AllPass true depth ws
there depth ws b h n = subst (λ (x : Bool). AllPass x depth ws) (granted b n) h

pub may-pass : (depth : ℕ) (ws : List ℕ) → Standing depth ws → AllPass true depth ws → Passed ws depth 0 0
may-pass depth ws s h = all-passed s.dues ws depth s.stacked (h s.dues s.stacked)

-- what `put_passed` says, of the whole stack
abbrev pub AllAdded : ℕ → List ℕ → Nodes → Nodes → Type 0
AllAdded depth ws s t =
    (above left : List Due) → Stacked (above ++ left) depth ws → length left ≡ 0 → PassesAll above 0 → Grows (passed_items above) s t

module _
    (depth : ℕ)
    (ws : List ℕ)
    (s t : Nodes)
    (standing : Standing depth ws)
    (ends : AllPass true depth ws)
    (added : AllAdded depth ws s t) where
  all-added : (ds : List Due) → Stacked ds depth ws → Grows (passed_items ds) s t
  all-added ds h = added ds [] (subst (λ (es : List Due). Stacked es depth ws) (sym (append-nil ds)) h) refl (ends ds h)

  same-start : t.start ≡ s.start
  same-start = (all-added standing.dues standing.stacked).1

  pub too_many : most_nodes < t.count → EndSaysAll depth ws (Err TooManyNodes) s t
  too_many h =
      record {
        says = λ ds is st b.
            let c = (all-added ds st).0.adds is b in
            let js = is ++ passed_items ds in
            record {
              items = js;
              ends = finish-all ds is (ends ds st);
              many = elim (dec_lt most_nodes (length js)) [
                | yes p ↦ p
                | no q ↦ let e = c.counted (omega arith) in absurd (omega arith)
              ];
            };
        same = same-start;
      }

  pub few-enough : t.count ≤ most_nodes → EndSaysAll depth ws (Ok tt) s t
  few-enough h =
      record {
        says = λ ds is st b.
            let c = (all-added ds st).0.adds is b in
            let js = is ++ passed_items ds in
            let few : length js ≤ most_nodes = elim (dec_lt most_nodes (length js)) [
              | yes p ↦ let e = c.past p in absurd (omega arith)
              | no q ↦ omega arith
            ] in
            record {
              items = js;
              ends = finish-all ds is (ends ds st);
              few = few;
              counted = c.counted few;
              tabled = subst (λ (i : ℕ). Tabled js i t.image t.firsts) (sym same-start) (c.tabled few);
            };
        same = same-start;
      }

-- ---- the codes as words: the first i of them

pub record Narrowed (codes words : List ℕ) (i : ℕ) : Type 0 where
  pub so_far : i ≤ 16
  pub long : length words ≡ 16
  pub same : take i words ≡ take i (map (λ c. c % 65536) codes)

pub one-narrowed : (codes words : List ℕ) (i : ℕ) → length codes ≡ 16 → Narrowed codes words i → i < 16
    → Narrowed codes (set words i (get_or codes i 0 % 65536)) (i + 1)
one-narrowed codes words i k n h =
    let s : i + 1 ≡ suc i = omega arith in
    let v = get_or codes i 0 % 65536 in
    let low : ℕ → ℕ = λ c. c % 65536 in
    let l = n.long in
    let m = length-map codes low in
    record {
      so_far = omega arith;
      long = length-set words i v ∙ l;
      same = rw s
          (take-suc-set words i v (omega arith)
          ∙ ap (λ (x : List ℕ). x ++ (v ∷ [])) n.same
          ∙ ap (λ (x : ℕ). take i (map low codes) ++ (x ∷ [])) (sym (get_or-map low codes i 0))
          ∙ sym (take-suc (map low codes) i 0 (omega arith)));
    }

-- ---- the image goes out

pub image-out : (img codes img' out out' : List ℕ) (nodes names : ℕ)
    → length img ≡ most_bytes → length codes ≤ most_fields → nodes ≤ most_nodes
    → img' ≡ sets img 0 (head_bytes codes nodes names)
    → out' ≡ take (10 + 2 * length codes + 8 * nodes) img' ++ drop (10 + 2 * length codes + 8 * nodes) out
    → Out nodes names (10 + 2 * length codes + 8 * nodes) codes img out out'
image-out img codes img' out out' nodes names l h i e o =
    record {
      bytes = refl;
      shows = λ js firsts t c.
          let n = length-sets img 0 (head_bytes codes nodes names) in
          let long : length img' ≡ most_bytes = ap length e ∙ n ∙ l in
          let it : take (10 + 2 * length codes + 8 * nodes) img' ≡ image codes (nodes_in (link js)) names =
          rw (← c) (tabled-image js codes names (10 + 2 * length codes) img firsts img' t refl (omega (arith, l)) (rw c e)) in
          record {
            long = sym (ap length it) ∙ length-take-le (10 + 2 * length codes + 8 * nodes) img' (omega arith);
            is = o ∙ ap (λ (x : List ℕ). x ++ drop (10 + 2 * length codes + 8 * nodes) out) it;
          };
    }
