-- What a token passes on its way down the stack: the nodes that come out there are put, one thing due after the other; and whether a text may
-- end. Assumes nothing.
use Prim.Native.Nat.{ℕ, zero, suc, ◌+◌, ◌-◌, ◌<◌, ◌≤◌}
use mathlib.Core.Path.{◌≡◌, refl, sym, ap, subst, ◌∙◌}
use mathlib.Core.Bool.{true, false}
use mathlib.Core.Option.{Option, none, some}
use mathlib.Core.List.{List, [], ◌∷◌, ◌++◌, append_assoc, append-nil}
use native.Mathlib.Omega.{arith}
use lib.ListN.{length, get_or, length-append}
use Rattle.std.specs.Prelude.{Option as Answered, Some, None}
use Rattle.std.specs.Option.{ForSome}
use Rattle.reading.specs.Items.{Item, put}
use Rattle.reading.specs.Table.{Due, command, body, var_name, var_semi, malloc_open, malloc_name, atom_open, middle, shut, otherwise, close, close_node, node, test, test_left, test_minus, operand, negative, name_first, first, first_dot, first_dotted, first_minus, becomes_due, expression, sel, sel_dot, after_minus, sel_minus, sel_minus_dot, proc_name, proc_colon, Act, take, pass, refuse, does, over, finish}
use Rattle.dues.specs.declared.Made.{Made}
use Rattle.dues.specs.declared.Deed.{Deed}
use Rattle.dues.specs.declared.Deed.TheVariants.{Take, Pass, Refuse}
use Rattle.dues.specs.Words.{passed, due_word, made_items, deed_of, in_words}
use Rattle.dues.specs.Stack.{DueFits, Stacked, passing, PassesAll, passed_items}
use Rattle.dues.proofs.StackLaws.{Learns, Looked, asked, stack_top, stack-left, stack-length}
use Rattle.building.specs.declared.nodes.Nodes.{Nodes}
use Rattle.building.specs.Grown.{Grows}
use Rattle.building.specs.Built.{WordPasses, Passed, EndSays}
use Rattle.building.proofs.BuildLaws.{nothing-grown, both-grown}

-- ---- the node of one thing due

-- its tag has room in a word
abbrev SmallTag : List Item → Type 0
SmallTag [] = Unit {0}
SmallTag (put t v ∷ is) = t < 64

small-passing : (d : Due) → DueFits d → SmallTag (passing d)
unfolding passing
small-passing command f = tt
small-passing body f = tt
small-passing var_name f = tt
small-passing (var_semi x) f = tt
small-passing malloc_open f = tt
small-passing malloc_name f = tt
small-passing atom_open f = tt
small-passing middle f = tt
small-passing (shut t) f = tt
small-passing otherwise f = tt
small-passing close f = tt
small-passing (close_node t x) f = tt
small-passing (node t x) f = f.0.1
small-passing test f = tt
small-passing test_left f = tt
small-passing test_minus f = tt
small-passing operand f = tt
small-passing negative f = tt
small-passing (name_first x) f = tt
small-passing first f = tt
small-passing first_dot f = tt
small-passing first_dotted f = tt
small-passing first_minus f = tt
small-passing becomes_due f = tt
small-passing expression f = tt
small-passing sel f = tt
small-passing sel_dot f = tt
small-passing after_minus f = tt
small-passing sel_minus f = omega arith
small-passing sel_minus_dot f = tt
small-passing proc_name f = tt
small-passing (proc_colon x) f = tt

none-some : {x : Made} → ◌≡◌ {A = Answered Made} None (Some x) → ⊥
none-some e = cc

same-made : {x y : Made} → Some x ≡ Some y → x ≡ y
same-made e = cc

small-made : (o : Answered Made) → SmallTag (made_items o) → ForSome o (λ m. m.tag < 65536)
small-made None s = λ m e. absurd (none-some e)
small-made (Some x) s = λ m e. let h : x.tag < 64 = s in let i : x ≡ m = same-made e in rw (← i) (omega arith)

same-items : (is js : List Item) → passed is ≡ passed js → is ≡ js
same-items is js e = cc

-- the answer's node is the one that comes out there
its-node : (w kind : ℕ) (r : Deed) (x : Answered Made) → Learns w kind r → r ≡ Pass x
    → (d : Due) → DueFits d → w ≡ due_word d → does d kind 0 ≡ pass (passing d) → made_items x ≡ passing d
its-node w kind r x h e d f i p = same-items (made_items x) (passing d) (sym (ap deed_of e) ∙ h d f i ∙ ap in_words p)

pub small-tag : (w kind : ℕ) (r : Deed) (x : Answered Made) → WordPasses w kind → Learns w kind r → r ≡ Pass x → ForSome x (λ m. m.tag < 65536)
small-tag w kind r x p h e =
    small-made x (subst SmallTag (sym (its-node w kind r x h e p.due p.fits p.is p.passes)) (small-passing p.due p.fits))

-- ---- the loop: the nodes of those on top are put, and i things due are left of the whole stack

-- how those that are passed fall into two
pub record Sinks (above : List Due) (floor i : ℕ) (s t : Nodes) : Type 0 where
  pub done : List Due
  pub rest : List Due
  pub split : above ≡ done ++ rest
  pub count : length rest + floor ≡ i
  pub grows : Grows (passed_items done) s t

pub record Sunk (work : List ℕ) (depth floor kind i : ℕ) (s t : Nodes) : Type 0 where
  pub inside : i ≤ depth
  pub sinks : (above left : List Due) → Stacked (above ++ left) depth work → length left ≡ floor → PassesAll above kind → Sinks above floor i s t

pub none-sunk : (work : List ℕ) (depth floor kind : ℕ) (s : Nodes) → Sunk work depth floor kind depth s s
unfolding passed_items
none-sunk work depth floor kind s =
    record {
      inside = omega arith;
      sinks = λ above left h c p.
          let l = stack-length (above ++ left) depth work h in
          let k = length-append above left in
          record { done = []; rest = above; split = refl; count = omega arith; grows = nothing-grown s };
    }

-- the thing due that is met next
record Met (work : List ℕ) (kind j : ℕ) (rest : List Due) : Type 0 where
  due : Due
  behind : List Due
  is : rest ≡ due ∷ behind
  word : get_or work j 0 ≡ due_word due
  fits : DueFits due
  passes : does due kind 0 ≡ pass (passing due)

passes_at : (done : List Due) (d : Due) (rest : List Due) (kind : ℕ) → PassesAll (done ++ (d ∷ rest)) kind → does d kind 0 ≡ pass (passing d)
passes_at [] d rest kind p = p.0 0
passes_at (e ∷ done) d rest kind p = passes_at done d rest kind p.1

same_head : {a b : Due} {l m : List Due} → a ∷ l ≡ b ∷ m → b ≡ a
same_head e = cc

meets : (work : List ℕ) (depth floor kind j : ℕ) (done rest left : List Due) → Stacked (done ++ rest ++ left) depth work → length left ≡ floor
    → PassesAll (done ++ rest) kind → length rest + floor ≡ suc j → floor < suc j → Met work kind j rest
meets work depth floor kind j done [] left s c p e h = absurd (omega (arith, e))
meets work depth floor kind j done (d ∷ rest) left s c p e h =
    let l = length-append rest left in
    let n : length (d ∷ (rest ++ left)) ≡ suc j = omega (arith, e) in
    let under : Stacked (d ∷ (rest ++ left)) (suc j) work =
    subst (λ (k : ℕ). Stacked (d ∷ (rest ++ left)) k work) n
    (stack-left done (d ∷ (rest ++ left)) depth work (subst (λ (ds : List Due). Stacked ds depth work) (append_assoc done (d ∷ rest) left) s)) in
    let t = stack_top (d ∷ (rest ++ left)) j work under in
    let same = same_head t.is in
    record {
      due = d;
      behind = rest;
      is = refl;
      word = t.word ∙ ap due_word same;
      fits = subst DueFits same t.fits;
      passes = passes_at done d rest kind p;
    }

-- what is met where the nodes of those before it are put
met_at : (work : List ℕ) (depth floor kind j : ℕ) (s t : Nodes) (above left : List Due)
    → Stacked (above ++ left) depth work → length left ≡ floor → PassesAll above kind
    → (k : Sinks above floor (suc j) s t) → floor < suc j → Met work kind j k.rest
met_at work depth floor kind j s t above left h c p k l =
    meets work depth floor kind j k.done k.rest left
    (subst (λ (ds : List Due). Stacked (ds ++ left) depth work) k.split h) c
    (subst (λ (ds : List Due). PassesAll ds kind) k.split p) k.count l

pub next-passes : (work : List ℕ) (depth floor kind i : ℕ) (s t : Nodes) → Passed work depth floor kind
    → Sunk work depth floor kind i s t → floor < i → WordPasses (get_or work (i - 1) 0) kind
next-passes work depth floor kind zero s t p k l = absurd (omega arith)
next-passes work depth floor kind (suc j) s t p k l =
    let e : suc j - 1 ≡ j = omega arith in
    let q = met_at work depth floor kind j s t p.above p.left p.stacked p.count p.passes (k.sinks p.above p.left p.stacked p.count p.passes) l in
    rw e (record { due = q.due; fits = q.fits; is = q.word; passes = q.passes })

items_more : (done : List Due) (d : Due) → passed_items (done ++ (d ∷ [])) ≡ passed_items done ++ passing d
unfolding passed_items
items_more [] d = append-nil (passing d)
items_more (e ∷ done) d =
    ap (λ (is : List Item). passing e ++ is) (items_more done d) ∙ sym (append_assoc (passing e) (passed_items done) (passing d))

pub one-sunk : (work : List ℕ) (depth floor kind i : ℕ) (s t u : Nodes)
    → Sunk work depth floor kind i s t → floor < i
    → ((d : Due) → DueFits d → get_or work (i - 1) 0 ≡ due_word d → does d kind 0 ≡ pass (passing d) → Grows (passing d) t u)
    → Sunk work depth floor kind (i - 1) s u
one-sunk work depth floor kind zero s t u k l a = absurd (omega arith)
one-sunk work depth floor kind (suc j) s t u k l a =
    let e : suc j - 1 ≡ j = omega arith in
    record {
      inside = omega (arith, k.inside);
      sinks = λ above left h c p.
          let n = k.sinks above left h c p in
          let q = met_at work depth floor kind j s t above left h c p n l in
          let long = ap length q.is in
          record {
            done = n.done ++ (q.due ∷ []);
            rest = q.behind;
            split =
                n.split ∙ ap (λ (ds : List Due). n.done ++ ds) q.is ∙ sym (append_assoc n.done (q.due ∷ []) q.behind);
            count = omega (arith, n.count, long);
            grows =
                subst (λ (is : List Item). Grows is s u) (sym (items_more n.done q.due))
                (both-grown (passed_items n.done) (passing q.due) s t u n.grows (a q.due q.fits (rw e q.word) q.passes));
          };
    }

none-behind : (done rest above : List Due) (floor i : ℕ) → above ≡ done ++ rest → length rest + floor ≡ i → i ≤ floor → done ≡ above
none-behind done [] above floor i e c l = sym (e ∙ append-nil done)
none-behind done (d ∷ rest) above floor i e c l = absurd (omega (arith, c))

-- ---- an answer that passes nothing

abbrev pub Stops : Deed → Type 0
Stops r = (m : Answered Made) → r ≡ Pass m → ⊥

not-passed : (r : Deed) (is : List Item) → Stops r → deed_of r ≡ passed is → ⊥
not-passed (Take v m) is h e = let z : ◌≡◌ {A = ℕ} 1 0 = cc in omega arith
not-passed (Pass m) is h e = h m refl
not-passed Refuse is h e = let z : ◌≡◌ {A = ℕ} 1 0 = cc in omega arith

-- ---- the end of a text

pub finish-above : (above left : List Due) (is : List Item) → PassesAll above 0 → finish (above ++ left) is ≡ finish left (is ++ passed_items above)
unfolding finish passed_items
finish-above [] left is h = ap (finish left) (sym (append-nil is))
finish-above (d ∷ above) left is h =
    rw (h.0 0) (finish-above above left (is ++ passing d) h.1 ∙ ap (finish left) (append_assoc is (passing d) (passed_items above)))

-- and where all pass, their nodes are the last
pub finish-all : (ds : List Due) (is : List Item) → PassesAll ds 0 → finish ds is ≡ some (is ++ passed_items ds)
unfolding finish
finish-all ds is h = ap (λ (es : List Due). finish es is) (sym (append-nil ds)) ∙ finish-above ds [] is h

-- there the whole stack is passed
pub all-passed : (ds : List Due) (work : List ℕ) (depth : ℕ) → Stacked ds depth work → PassesAll ds 0 → Passed work depth 0 0
all-passed ds work depth s p =
    record { above = ds; left = []; stacked = subst (λ (es : List Due). Stacked es depth work) (sym (append-nil ds)) s; count = refl; passes = p }

no_end : (r : Deed) (a : Act) (is : List Item) (next : List Item → Option (List Item)) → Stops r → deed_of r ≡ in_words a → over a is next ≡ none
no_end r (take ds js) is next s e = refl
no_end r (pass js) is next s e = absurd (not-passed r js s e)
no_end r refuse is next s e = refl

pub may-not-end : (work : List ℕ) (depth i : ℕ) (r : Deed) → Looked work depth 0 i → 0 < i → Learns (get_or work (i - 1) 0) 0 r → Stops r
    → (ds : List Due) → Stacked ds depth work → EndSays ds false
unfolding finish
may-not-end work depth zero r l p h o ds s is = absurd (omega arith)
may-not-end work depth (suc j) r l p h o ds s is =
    let n : suc j - 1 ≡ j = omega arith in
    let a = asked work depth 0 j l ds s in
    ap (λ (es : List Due). finish es is) a.split
    ∙ finish-above a.above (a.top ∷ a.left) is a.passes
    ∙ no_end r (does a.top 0 0) (is ++ passed_items a.above) (λ js. finish a.left js) o (h a.top a.fits (rw n a.word))
