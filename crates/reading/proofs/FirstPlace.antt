-- The first place at which a text goes wrong is where its reading stops: tokens that are read can be gone on to a text of the grammar, and tokens
-- that are refused can't. The same of kinds alone, "whatever its names, fields and numbers": what is refused for a kind is refused for every
-- token of the kind, since reading looks at values only where a number is too large, and 0 never is.
use Prim.Native.Nat.{ℕ, zero, suc, ◌<◌}
use mathlib.Core.Path.{◌≡◌, refl, ap, ◌∙◌}
use mathlib.Core.Option.{none, some}
use mathlib.Core.List.{List, [], ◌∷◌, ◌++◌, map, map-append}
use native.Mathlib.Omega.{arith}
use Rattle.grammar.specs.Tokens.{Tok, name, field_name, number, mark, kind_of, value_of}
use Rattle.grammar.specs.Grammar.{Text, Begins, BeginsAlike}
use Rattle.reading.specs.Items.{Item, items_cmd}
use Rattle.reading.specs.Marks.{IsMark, Known}
use Rattle.reading.specs.Table.{Due, Fed, went, stuck, feed, feeds, fed_on, finished, start, reading}
use Rattle.reading.proofs.Moves.{feeds-append}
use Rattle.reading.proofs.SameTexts.{levels-write, rules-write}
use Rattle.reading.proofs.Complete.{reads_all}
use Rattle.reading.proofs.Sound.{reads_only}
use Rattle.reading.proofs.Alike.{all_same, stops-alike}
use Rattle.reading.proofs.Completes.{Completed, completed}

-- ---- feeding one list after the other

pub fed-next : (us vs : List Tok) {es : List Due} {js : List Item} → feeds us start [] ≡ went es js → feeds (us ++ vs) start [] ≡ feeds vs es js
fed-next us vs e = feeds-append us vs start [] ∙ ap (λ f. fed_on f (λ es js. feeds vs es js)) e

fed-stuck : (us vs : List Tok) → feeds us start [] ≡ stuck → feeds (us ++ vs) start [] ≡ stuck
fed-stuck us vs e = feeds-append us vs start [] ∙ ap (λ f. fed_on f (λ es js. feeds vs es js)) e

pub fed-one : (t : Tok) (ds : List Due) (is : List Item) (f : Fed) → feed ds (kind_of t) (value_of t) is ≡ f → feeds (t ∷ []) ds is ≡ f
unfolding feeds
fed-one t ds is (went es js) e = rw e refl
fed-one t ds is stuck e = rw e refl

pub known-append : (us vs : List Tok) → Known us → Known vs → Known (us ++ vs)
known-append [] vs k l = l
known-append (t ∷ us) vs k l = (k.0, known-append us vs k.1 l)

-- for every kind there is a token of it that says 0
record Zero (k : ℕ) : Type 0 where
  token : Tok
  kind : kind_of token ≡ k
  value : value_of token ≡ 0
  is_mark : IsMark token

zero_of : (k : ℕ) → 0 < k → Zero k
unfolding kind_of value_of
zero_of zero h = absurd (omega arith)
zero_of (suc zero) h = record { token = name 0; kind = refl; value = refl; is_mark = tt }
zero_of (suc (suc zero)) h = record { token = field_name 0; kind = refl; value = refl; is_mark = tt }
zero_of (suc (suc (suc zero))) h = record { token = number 0; kind = refl; value = refl; is_mark = tt }
zero_of (suc (suc (suc (suc k)))) h = record { token = mark (suc (suc (suc (suc k)))); kind = refl; value = refl; is_mark = omega arith }

-- ---- tokens that are refused

-- what is not read to its end is no text
pub no_text : (ts : List Tok) → reading ts ≡ none → Text ts → ⊥
no_text ts e w =
    let read : reading ts ≡ some (items_cmd w.command) = reads_all (levels-write w.writes) in
    let clash : ◌≡◌ {A = ℕ} 0 1 = cc in
    omega arith

-- and none begins with tokens at which reading stops
pub stopped-right : (us : List Tok) → feeds us start [] ≡ stuck → Begins us → ⊥
unfolding reading
stopped-right us e b = no_text (us ++ b.rest) (ap finished (fed-stuck us b.rest e)) b.text

pub refused-right : (us : List Tok) (t : Tok) {ds : List Due} {is : List Item}
    → feeds us start [] ≡ went ds is → feed ds (kind_of t) (value_of t) is ≡ stuck → Begins (us ++ (t ∷ [])) → ⊥
refused-right us t {ds} {is} e h b = stopped-right (us ++ (t ∷ [])) (fed-next us (t ∷ []) e ∙ fed-one t ds is stuck h) b

pub refused-alike : (us : List Tok) (k : ℕ) {ds : List Due} {is : List Item}
    → feeds us start [] ≡ went ds is → feed ds k 0 is ≡ stuck → BeginsAlike (map kind_of us ++ (k ∷ [])) → ⊥
refused-alike us k e h b =
    stopped-right b.tokens (stops-alike us b.tokens k start start [] [] (all_same start) b.alike e h) b.begins

-- ---- tokens that are read

pub a-text : (ts : List Tok) {is : List Item} → Known ts → reading ts ≡ some is → Text ts
a-text ts {is} k e =
    let w = reads_only ts is k e in
    record { command = w.0; writes = rules-write w.1 }

pub read_right : (us : List Tok) {ds : List Due} {is : List Item} → Known us → feeds us start [] ≡ went ds is → Begins us
unfolding reading
read_right us {ds} {is} k e =
    let c : Completed ds = completed ds in
    record {
      rest = c.rest;
      text = a-text (us ++ c.rest) (known-append us c.rest k c.known) (ap finished (fed-next us c.rest e) ∙ (c.ends is).1);
    }

pub read_alike : (us : List Tok) (k : ℕ) {ds es : List Due} {is js : List Item}
    → Known us → 0 < k → feeds us start [] ≡ went ds is → feed ds k 0 is ≡ went es js → BeginsAlike (map kind_of us ++ (k ∷ []))
read_alike us k {ds} {es} {is} {js} h p e f =
    let z : Zero k = zero_of k p in
    let fed : feeds (z.token ∷ []) ds is ≡ went es js = fed-one z.token ds is (went es js) (rw (z.kind, z.value) f) in
    record {
      tokens = us ++ (z.token ∷ []);
      alike = map-append kind_of us (z.token ∷ []) ∙ ap (λ j. map kind_of us ++ (j ∷ [])) z.kind;
      begins = read_right (us ++ (z.token ∷ [])) (known-append us (z.token ∷ []) h (z.is_mark, tt)) (fed-next us (z.token ∷ []) e ∙ fed);
    }
