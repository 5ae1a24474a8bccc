-- What is read the grammar writes: if a text is read and these nodes come out, there is a command that the grammar writes so, and these are its nodes.
-- The tokens that are left, from any place on, are meant by the stack that stands there; at the start that is one command.
use Prim.Native.Nat.{ℕ}
use native.Mathlib.Omega.{arith}
use mathlib.Core.Path.{◌≡◌, refl, subst, ◌∙◌}
use mathlib.Core.Option.{some}
use mathlib.Core.List.{List, [], ◌∷◌, ◌++◌, append_assoc, append-nil}
use Rattle.rules.specs.Syntax.{Cmd}
use Rattle.grammar.specs.Tokens.{Tok, mark, kind_of, value_of}
use Rattle.reading.specs.Levels.{Written, a_command}
use Rattle.reading.specs.Items.{Item, items_cmd}
use Rattle.reading.specs.Marks.{Known}
use Rattle.reading.specs.Table.{Due, command, Act, take, pass, refuse, does, Fed, went, stuck, onward, feed, fed_on, feeds, over, finish, finished, start, reading}
use Rattle.reading.proofs.Meanings.{Meaning, ◌⊆◌, Is, phrase, only, ◌then◌, both, Means, Meant}
use Rattle.reading.proofs.SoundRows.{Keeps, token_of, Told, known-told, due}
use Rattle.reading.proofs.SoundTable.{does-keeps}

-- the nodes `js` are those that came out, `is`, and then those that come with the tokens `us`
record Left (ds : List Due) (us : List Tok) (is js : List Item) : Type 0 where
  nodes : List Item
  meant : Meant ds us nodes
  whole : js ≡ is ++ nodes

-- what the upper part of a stack means, and then what the lower part does
then-assoc : (P Q R : Meaning) → P then (Q then R) ⊆ (P then Q) then R
then-assoc P Q R us is (both p (both q r)) = simp (← append_assoc) (both (both p q) r)

beneath : (P Q R : Meaning) → Q ⊆ R → P then Q ⊆ P then R
beneath P Q R f us is (both {vs} {js} p q) = both p (f vs js q)

splits : (es ds : List Due) → Meant (es ++ ds) ⊆ Meant es then Meant ds
splits [] ds us is m = both only m
splits (e ∷ es) ds us is m = then-assoc (Means e) (Meant es) (Meant ds) us is (beneath (Means e) (Meant (es ++ ds)) (Meant es then Meant ds) (splits es ds) us is m)

-- ---- one token

passed : (d : Due) (ds : List Due) (us : List Tok) (is js ls : List Item) → Means d [] js → Left ds us (is ++ js) ls → Left (d ∷ ds) us is ls
passed d ds us is js ls h l = record { nodes = js ++ l.nodes; meant = both {us = []} h l.meant; whole = l.whole ∙ append_assoc is js l.nodes }

taken : (t : Tok) (d : Due) (ds es : List Due) (us : List Tok) (is js ks ls : List Item)
    → Keeps (Means d) t (take es js) → (Meant es then Meant ds) us ks → ls ≡ (is ++ js) ++ ks → Left (d ∷ ds) (t ∷ us) is ls
taken t d ds es us is js ks ls h (both {us = xs} {is = ps} {js = qs} m n) e =
    record { nodes = (js ++ ps) ++ qs; meant = both {us = t ∷ xs} {is = js ++ ps} (h xs ps m) n; whole = e ∙ simp append_assoc }

fed : (t : Tok) (ds es : List Due) (us : List Tok) (is js ls : List Item)
    → Told t → feed ds (kind_of t) (value_of t) is ≡ went es js → Left es us js ls → Left ds (t ∷ us) is ls
unfolding feed
fed t [] es us is js ls told e l = absurd (let z : ◌≡◌ {A = ℕ} 0 1 = cc in omega arith)
fed t (d ∷ ds) es us is js ls told e l = go (does d (kind_of t) (value_of t)) (does-keeps d t told) (λ ks q. fed t ds es us ks js ls told q l) e
  where
    go : (a : Act) → Keeps (Means d) t a → ((ks : List Item) → feed ds (kind_of t) (value_of t) ks ≡ went es js → Left ds (t ∷ us) ks ls)
        → onward a ds is (λ ks. feed ds (kind_of t) (value_of t) ks) ≡ went es js → Left (d ∷ ds) (t ∷ us) is ls
    go (take fs ks) h r q =
        let p : es ≡ fs ++ ds = cc in
        let o : js ≡ is ++ ks = cc in
        let m : Meant (fs ++ ds) us l.nodes = subst (λ (gs : List Due). Meant gs us l.nodes) p l.meant in
        taken t d ds fs us is ks l.nodes ls h (splits fs ds us l.nodes m) (rw o at l.whole)
    go (pass ks) h r q = passed d ds (t ∷ us) is ks ls h (r (is ++ ks) q)
    go refuse h r q = absurd (let z : ◌≡◌ {A = ℕ} 0 1 = cc in omega arith)

-- ---- the end, and a text

ended : (ds : List Due) (is js : List Item) → finish ds is ≡ some js → Left ds [] is js
unfolding finish kind_of value_of token_of
ended [] is js e = record { nodes = []; meant = only; whole = cc (append-nil is) }
ended (d ∷ ds) is js e = go (does d 0 0) (does-keeps d (mark 0) refl) (λ ks. ended ds ks js) e
  where
    go : (a : Act) → Keeps (Means d) (mark 0) a → ((ks : List Item) → finish ds ks ≡ some js → Left ds [] ks js)
        → over a is (λ ks. finish ds ks) ≡ some js → Left (d ∷ ds) [] is js
    go (take fs ks) h r q = absurd (let z : ◌≡◌ {A = ℕ} 0 1 = cc in omega arith)
    go (pass ks) h r q = passed d ds [] is ks js h (r (is ++ ks) q)
    go refuse h r q = absurd (let z : ◌≡◌ {A = ℕ} 0 1 = cc in omega arith)

gone-on : (ts : List Tok) (ds : List Due) (is js : List Item) → Known ts → finished (feeds ts ds is) ≡ some js → Left ds ts is js
unfolding feeds
gone-on [] ds is js k e = ended ds is js e
gone-on (t ∷ ts) ds is js k e = go (feed ds (kind_of t) (value_of t) is) refl (λ es ks. gone-on ts es ks js k.1) e
  where
    go : (f : Fed) → feed ds (kind_of t) (value_of t) is ≡ f → ((es : List Due) (ks : List Item) → finished (feeds ts es ks) ≡ some js → Left es ts ks js)
        → finished (fed_on f (λ es ks. feeds ts es ks)) ≡ some js → Left ds (t ∷ ts) is js
    go (went es ks) p r q = fed t ds es ts is ks js (known-told t k.0) p (r es ks q)
    go stuck p r q = absurd (let z : ◌≡◌ {A = ℕ} 0 1 = cc in omega arith)

command-of : (ts : List Tok) (is : List Item) → Is a_command ts is → (c : Cmd) × Written (a_command c) ts × (is ≡ items_cmd c)
command-of ts is (phrase c w) = (c, w, refl)

pub reads_only : (ts : List Tok) (is : List Item) → Known ts → reading ts ≡ some is → (c : Cmd) × Written (a_command c) ts × (is ≡ items_cmd c)
unfolding reading
reads_only ts is k e =
    let l = gone-on ts start [] is k e in
    command-of ts is (rw l.whole (due command ts l.nodes l.meant))
