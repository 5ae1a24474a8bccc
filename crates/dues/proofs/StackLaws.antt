-- The stack of what is due, looked through from its top: how far a token gets, and what takes it. Assumes nothing.
use Prim.Native.Nat.{ℕ, zero, suc, ◌-◌, ◌<◌, ◌≤◌}
use mathlib.Core.Path.{◌≡◌, refl, sym, ap, ◌∙◌}
use mathlib.Core.List.{List, [], ◌∷◌, ◌++◌, append_assoc}
use native.Mathlib.Omega.{arith}
use lib.ListN.{length, get_or}
use Rattle.reading.specs.Items.{Item}
use Rattle.reading.specs.Table.{Due, Act, take, pass, refuse, does, feed, went}
use Rattle.dues.specs.declared.Made.{Made}
use Rattle.dues.specs.declared.Dues.{Dues}
use Rattle.dues.specs.declared.Deed.{Deed}
use Rattle.dues.specs.declared.Deed.TheVariants.{Take, Pass, Refuse}
use Rattle.std.specs.Prelude.{Option, Some, None}
use Rattle.dues.specs.Words.{taken, passed, refused, due_word, deed_of, in_words}
use Rattle.dues.specs.Stack.{DueFits, IsDue, stack_of, Stacked, Standing, passing, PassesAll, passed_items, Reaches, TakenBy, TakerSays}
use Rattle.dues.proofs.PassLaws.{passes-always, feed-above}

-- ---- the top of a stack

pub record Top (ds : List Due) (n : ℕ) (ws : List ℕ) : Type 0 where
  pub top : Due
  pub left : List Due
  pub is : ds ≡ top ∷ left
  pub word : get_or ws n 0 ≡ due_word top
  pub fits : DueFits top
  pub under : Stacked left n ws

pub stack_top : (ds : List Due) (n : ℕ) (ws : List ℕ) → Stacked ds (suc n) ws → Top ds n ws
unfolding stack_of
stack_top [] n ws h = absurd (no-empty h.is)
  where
    no-empty : get_or ws n 0 ∷ stack_of n ws ≡ [] → ⊥
    no-empty e = let z : ◌≡◌ {A = ℕ} 1 0 = cc in omega arith
stack_top (d ∷ ds) n ws h =
    record {
      top = d;
      left = ds;
      is = refl;
      word = cc;
      fits = h.fit.0;
      under = record { is = cc; fit = h.fit.1; inside = omega (arith, h.inside) };
    }

pub stack-length : (ds : List Due) (n : ℕ) (ws : List ℕ) → Stacked ds n ws → length ds ≡ n
unfolding stack_of
stack-length [] zero ws h = refl
stack-length [] (suc n) ws h = let t = stack_top [] n ws h in absurd (never t.is)
  where
    never : {d : Due} {ds : List Due} → [] ≡ d ∷ ds → ⊥
    never e = let z : ◌≡◌ {A = ℕ} 1 0 = cc in omega arith
stack-length (d ∷ ds) zero ws h = absurd (never h.is)
  where
    never : {w : ℕ} {vs : List ℕ} → [] ≡ w ∷ vs → ⊥
    never e = let z : ◌≡◌ {A = ℕ} 1 0 = cc in omega arith
stack-length (d ∷ ds) (suc n) ws h =
    ap suc (stack-length ds n ws (record { is = cc; fit = h.fit.1; inside = omega (arith, h.inside) }))

-- what is left of a stack stands below
pub stack-left : (above left : List Due) (n : ℕ) (ws : List ℕ) → Stacked (above ++ left) n ws → Stacked left (length left) ws
stack-left [] left n ws h = rw (stack-length left n ws h) h
stack-left (d ∷ above) left zero ws h = absurd (omega (arith, stack-length (d ∷ (above ++ left)) zero ws h))
stack-left (d ∷ above) left (suc n) ws h =
    stack-left above left n ws (rw (same (stack_top (d ∷ (above ++ left)) n ws h).is) (stack_top (d ∷ (above ++ left)) n ws h).under)
  where
    same : {a b : Due} {us vs : List Due} → a ∷ us ≡ b ∷ vs → us ≡ vs
    same e = cc

-- ---- how far a token of kind k has got: the last i things due are still to be asked

pub record Looked (ws : List ℕ) (depth k i : ℕ) : Type 0 where
  pub inside : i ≤ depth
  pub reaches : (ds : List Due) → Stacked ds depth ws → Reaches ds k i

pub none-looked : (ws : List ℕ) (depth k i : ℕ) → i ≡ depth → Looked ws depth k i
none-looked ws depth k i e =
    record {
      inside = omega arith;
      reaches = λ ds h. record { above = []; left = ds; split = refl; count = stack-length ds depth ws h ∙ sym e; passes = tt };
    }

-- the thing due that is asked next
pub record Asked (ws : List ℕ) (ds : List Due) (k j : ℕ) : Type 0 where
  pub above : List Due
  pub top : Due
  pub left : List Due
  pub split : ds ≡ above ++ (top ∷ left)
  pub count : length left ≡ j
  pub passes : PassesAll above k
  pub word : get_or ws j 0 ≡ due_word top
  pub fits : DueFits top

pub asked : (ws : List ℕ) (depth k j : ℕ) → Looked ws depth k (suc j) → (ds : List Due) → Stacked ds depth ws → Asked ws ds k j
asked ws depth k j l ds h =
    let r = l.reaches ds h in
    let under : Stacked r.left (suc j) ws =
    rw (← r.count) (stack-left r.above r.left depth ws (rw (← r.split) h)) in
    let t = stack_top r.left j ws under in
    record {
      above = r.above;
      top = t.top;
      left = t.left;
      split = r.split ∙ ap (λ (es : List Due). r.above ++ es) t.is;
      count = stack-length t.left j ws t.under;
      passes = r.passes;
      word = t.word;
      fits = t.fits;
    }

-- the next word stands for a thing due
pub next-is-due : (ws : List ℕ) (depth k i : ℕ) → Standing depth ws → Looked ws depth k i → 0 < i → IsDue (get_or ws (i - 1) 0)
next-is-due ws depth k zero s l p = absurd (omega arith)
next-is-due ws depth k (suc j) s l p =
    let a = asked ws depth k j l s.dues s.stacked in
    let e : suc j - 1 ≡ j = omega arith in
    rw e (record { due = a.top; fits = a.fits; is = a.word })

-- what the code learnt of it
abbrev pub Learns : ℕ → ℕ → Deed → Type 0
Learns w k r = (d : Due) → DueFits d → w ≡ due_word d → deed_of r ≡ in_words (does d k 0)

act-passes : (a : Act) (js : List Item) → passed js ≡ in_words a → (is : List Item) × (a ≡ pass is)
act-passes (take ds is) js e = absurd (let z : ◌≡◌ {A = ℕ} 1 0 = cc in omega arith)
act-passes (pass is) js e = (is, refl)
act-passes refuse js e = absurd (let z : ◌≡◌ {A = ℕ} 1 0 = cc in omega arith)

pub act-takes : (a : Act) (vs : List ℕ) (js : List Item) → taken vs js ≡ in_words a → (ds : List Due) × (is : List Item) × (a ≡ take ds is)
act-takes (take ds is) vs js e = (ds, is, refl)
act-takes (pass is) vs js e = absurd (let z : ◌≡◌ {A = ℕ} 1 0 = cc in omega arith)
act-takes refuse vs js e = absurd (let z : ◌≡◌ {A = ℕ} 1 0 = cc in omega arith)

pub act-refuses : (a : Act) → refused ≡ in_words a → a ≡ refuse
act-refuses (take ds is) e = absurd (let z : ◌≡◌ {A = ℕ} 1 0 = cc in omega arith)
act-refuses (pass is) e = absurd (let z : ◌≡◌ {A = ℕ} 1 0 = cc in omega arith)
act-refuses refuse e = refl

all_pass : (above : List Due) (d : Due) (k : ℕ) → PassesAll above k → ((v : ℕ) → does d k v ≡ pass (passing d)) → PassesAll (above ++ (d ∷ [])) k
all_pass [] d k h p = (p, tt)
all_pass (e ∷ above) d k h p = (h.0, all_pass above d k h.1 p)

-- it is passed
pub passed_on : (ws : List ℕ) (depth k i : ℕ) (r : Deed) (m : Option Made) → Looked ws depth k i → 0 < i → Learns (get_or ws (i - 1) 0) k r → r ≡ Pass m → Looked ws depth k (i - 1)
passed_on ws depth k zero r m l p h e = absurd (omega arith)
passed_on ws depth k (suc j) r m l p h e =
    let n : suc j - 1 ≡ j = omega arith in
    record {
      inside = omega (arith, l.inside);
      reaches = λ ds s.
          let a = asked ws depth k j l ds s in
          let q = act-passes (does a.top k 0) _ (sym (ap deed_of e) ∙ h a.top a.fits (rw n a.word)) in
          record {
            above = a.above ++ (a.top ∷ []);
            left = a.left;
            split = a.split ∙ sym (append_assoc a.above (a.top ∷ []) a.left);
            count = a.count ∙ sym n;
            passes = all_pass a.above a.top k a.passes (passes-always a.top k q.0 q.1);
          };
    }

-- it takes the token
pub taken-there : (ws : List ℕ) (depth k i : ℕ) (r : Deed) (v : Dues) (m : Option Made)
    → Looked ws depth k i → 0 < i → Learns (get_or ws (i - 1) 0) k r → r ≡ Take v m → (ds : List Due) → Stacked ds depth ws → TakerSays ds k (Some (i - 1))
taken-there ws depth k zero r v m l p h e ds s = absurd (omega arith)
taken-there ws depth k (suc j) r v m l p h e ds s =
    let n : suc j - 1 ≡ j = omega arith in
    let a = asked ws depth k j l ds s in
    let q = act-takes (does a.top k 0) _ _ (sym (ap deed_of e) ∙ h a.top a.fits (rw n a.word)) in
    record {
      above = a.above;
      taker = a.top;
      left = a.left;
      split = a.split;
      count = a.count ∙ sym n;
      passes = a.passes;
      instead = q.0;
      nodes = q.1;
      takes = q.2;
    }

-- the word of what takes a token, which stands in the words
pub taker-word : (ds : List Due) (depth : ℕ) (ws : List ℕ) (k q : ℕ) → Stacked ds depth ws → (t : TakenBy ds k q)
    → (get_or ws q 0 ≡ due_word t.taker) × DueFits t.taker × (q < length ws)
taker-word ds depth ws k q s t =
    let under : Stacked (t.taker ∷ t.left) (suc q) ws =
    rw (← t.count) (stack-left t.above (t.taker ∷ t.left) depth ws (rw (← t.split) s)) in
    let top = stack_top (t.taker ∷ t.left) q ws under in
    (top.word ∙ ap due_word (sym (same top.is)), under.fit.0, under.inside)
  where
    same : {a b : Due} {us vs : List Due} → a ∷ us ≡ b ∷ vs → a ≡ b
    same e = cc

-- with value 0 it goes on
pub taker-goes-on : (ds : List Due) (k q : ℕ) (t : TakenBy ds k q) (is : List Item) → feed ds k 0 is ≡ went (t.instead ++ t.left) ((is ++ passed_items t.above) ++ t.nodes)
unfolding feed
taker-goes-on ds k q t is = rw t.split (feed-above t.above (t.taker ∷ t.left) k 0 is t.passes ∙ rw t.takes)

-- it refuses it
pub refused-there : (ws : List ℕ) (depth k i : ℕ) (r : Deed)
    → Looked ws depth k i → 0 < i → Learns (get_or ws (i - 1) 0) k r → r ≡ Refuse → (ds : List Due) → Stacked ds depth ws → TakerSays ds k None
unfolding feed
refused-there ws depth k zero r l p h e ds s is = absurd (omega arith)
refused-there ws depth k (suc j) r l p h e ds s is =
    let n : suc j - 1 ≡ j = omega arith in
    let a = asked ws depth k j l ds s in
    let q = act-refuses (does a.top k 0) (sym (ap deed_of e) ∙ h a.top a.fits (rw n a.word)) in
    rw a.split (feed-above a.above (a.top ∷ a.left) k 0 is a.passes ∙ rw q)

-- nothing is due any more
pub nothing_left : (ws : List ℕ) (depth k i : ℕ) → Looked ws depth k i → i ≡ 0 → (ds : List Due) → Stacked ds depth ws → TakerSays ds k None
unfolding feed
nothing_left ws depth k i l z ds s is =
    let r = l.reaches ds s in
    rw r.split (feed-above r.above r.left k 0 is r.passes ∙ rw (empty r.left (r.count ∙ z)))
  where
    empty : (l : List Due) → length l ≡ 0 → l ≡ []
    empty [] e = refl
    empty (d ∷ l) e = absurd (omega (arith, e))

-- it stands in the words
pub next-inside : (ws : List ℕ) (depth k i : ℕ) → Standing depth ws → Looked ws depth k i → 0 < i → i - 1 < length ws
next-inside ws depth k i s l p = omega (arith, s.stacked.inside, l.inside)

pub looked-inside : (ws : List ℕ) (depth k i : ℕ) → Looked ws depth k i → i ≤ depth
looked-inside ws depth k i l = l.inside

pub ruleset looking = (none-looked, next-is-due, passed_on, taken-there, refused-there, next-inside)
