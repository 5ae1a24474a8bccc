-- What stands behind the tokens that are looked at: the end of a text, or more tokens of which only the first is known. Something that is
-- due and asks for nothing more is settled by it, so a law on reading is said for anything that stands behind. Assumes nothing.
use Prim.Native.Nat.{ℕ}
use mathlib.Core.Path.{◌≡◌, refl, sym, ap, ◌∙◌}
use mathlib.Core.Option.{Option, none}
use mathlib.Core.List.{List, [], ◌∷◌, ◌++◌, append_assoc, append-nil}
use Rattle.grammar.specs.Tokens.{Tok, kind_of, value_of}
use Rattle.reading.specs.Items.{Item, put}
use Rattle.reading.specs.Table.{Due, Act, take, pass, refuse, after, does, Fed, went, stuck, onward, feed, feeds, fed_on, over, finish}

pub record Rest (X : Type 0) : Type 0 where
  pub kind : ℕ  -- of the token that looks next
  pub value : ℕ
  pub stop : X  -- what is seen where a token is refused
  pub seen : List Due → List Item → X  -- what is seen with these things due and these nodes so far
  -- a thing due that is over gives way to what is due below it
  pub settles : (d : Due) (ds : List Due) (is js : List Item) → does d kind value ≡ pass js → seen (d ∷ ds) is ≡ seen ds (is ++ js)
  -- a thing due that brings a node and then does as another is that other, behind the node
  pub stands : (d e : Due) (t x : ℕ) (ds : List Due) (is : List Item)
      → does d kind value ≡ after t x (does e kind value) → seen (d ∷ ds) is ≡ seen (e ∷ ds) (is ++ (put t x ∷ []))

-- ---- a token, and what stands behind it

unfoldable pub on_fed : {X : Type 0} → Fed → X → (List Due → List Item → X) → X
on_fed (went ds is) stop next = next ds is
on_fed stuck stop next = stop

onward-after : (a : Act) (t x : ℕ) (ds : List Due) (is : List Item) (next : List Item → Fed)
    → onward (after t x a) ds is next ≡ onward a ds (is ++ (put t x ∷ [])) next
onward-after (take es js) t x ds is next = ap (went (es ++ ds)) (sym (append_assoc is (put t x ∷ []) js))
onward-after (pass js) t x ds is next = ap next (sym (append_assoc is (put t x ∷ []) js))
onward-after refuse t x ds is next = refl

module _ {X : Type 0} (t : Tok) (stop : X) (next : List Due → List Item → X) where
  unfoldable pub looks : List Due → List Item → X
  looks ds is = on_fed (feed ds (kind_of t) (value_of t) is) stop next

  pub settles-here : (d : Due) (ds : List Due) (is js : List Item) → does d (kind_of t) (value_of t) ≡ pass js → looks (d ∷ ds) is ≡ looks ds (is ++ js)
  unfolding looks feed
  settles-here d ds is js e = rw e

  pub stands_here : (d e : Due) (m x : ℕ) (ds : List Due) (is : List Item)
      → does d (kind_of t) (value_of t) ≡ after m x (does e (kind_of t) (value_of t)) → looks (d ∷ ds) is ≡ looks (e ∷ ds) (is ++ (put m x ∷ []))
  unfolding looks feed
  stands_here d e m x ds is h =
      rw h (ap (λ (f : Fed). on_fed f stop next) (onward-after (does e (kind_of t) (value_of t)) m x ds is (λ js. feed ds (kind_of t) (value_of t) js)))

  unfoldable pub from : Rest X
  from = record { kind = kind_of t; value = value_of t; stop = stop; seen = looks; settles = settles-here; stands = stands_here }

-- a token before a rest, and tokens before it
unfoldable pub token : {X : Type 0} → Tok → Rest X → Rest X
token t r = from t r.stop r.seen

infixr 20 ◌before◌
unfoldable pub ◌before◌ : {X : Type 0} → List Tok → Rest X → Rest X
[] before r = r
(t ∷ ts) before r = token t (ts before r)

pub behind-append : {X : Type 0} (us vs : List Tok) (r : Rest X) → (us ++ vs) before r ≡ us before (vs before r)
unfolding ◌before◌
behind-append [] vs r = refl
behind-append (t ∷ us) vs r = ap (token t) (behind-append us vs r)

-- the first token is taken
module _ {X : Type 0} (t : Tok) (r : Rest X) (d : Due) {es : List Due} (ds : List Due) (is : List Item) where
  pub took : {js : List Item} → does d (kind_of t) (value_of t) ≡ take es js → (token t r).seen (d ∷ ds) is ≡ r.seen (es ++ ds) (is ++ js)
  unfolding token from looks feed on_fed
  took e = rw e

  pub took-bare : does d (kind_of t) (value_of t) ≡ take es [] → (token t r).seen (d ∷ ds) is ≡ r.seen (es ++ ds) is
  took-bare e = took e ∙ ap (r.seen (es ++ ds)) (append-nil is)

-- ---- the two rests: the end of a text, and tokens that are fed

pub over-after : (a : Act) (t x : ℕ) (is : List Item) (next : List Item → Option (List Item))
    → over (after t x a) is next ≡ over a (is ++ (put t x ∷ [])) next
over-after (take es js) t x is next = refl
over-after (pass js) t x is next = ap next (sym (append_assoc is (put t x ∷ []) js))
over-after refuse t x is next = refl

unfoldable pub the_end : Rest (Option (List Item))
unfolding finish
the_end =
    record {
      kind = 0;
      value = 0;
      stop = none;
      seen = finish;
      settles = λ d ds is js e. rw e;
      stands = λ d e t x ds is h. rw h (over-after (does e 0 0) t x is (λ js. finish ds js));
    }

unfoldable pub fed-behind : (t : Tok) (us : List Tok) → Rest Fed
fed-behind t us = from t stuck (feeds us)

pub stop_is : {X : Type 0} (ts : List Tok) (r : Rest X) → (ts before r).stop ≡ r.stop
unfolding ◌before◌ token from
stop_is [] r = refl
stop_is (t ∷ ts) r = stop_is ts r

fed-on : {X : Type 0} (f : Fed) (stop : X) {g : List Due → List Item → X} (h : List Due → List Item → Fed) (k : List Due → List Item → X)
    → ((es : List Due) (js : List Item) → g es js ≡ on_fed (h es js) stop k) → on_fed f stop g ≡ on_fed (fed_on f h) stop k
unfolding on_fed
fed-on (went es js) stop h k e = e es js
fed-on stuck stop h k e = refl

-- what is seen is what feeding brings
pub seen-is : {X : Type 0} (ts : List Tok) (r : Rest X) (ds : List Due) (is : List Item)
    → (ts before r).seen ds is ≡ on_fed (feeds ts ds is) r.stop r.seen
unfolding ◌before◌ token from looks feeds on_fed
seen-is [] r ds is = refl
seen-is (t ∷ ts) r ds is = rw (stop_is ts r) (fed-on (feed ds (kind_of t) (value_of t) is) r.stop (feeds ts) r.seen (seen-is ts r))
