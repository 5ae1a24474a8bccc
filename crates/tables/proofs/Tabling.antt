-- Items are put into an image one after the other: `tabled-none`, `tabled-more`. With the head before them the bytes are the image: `tabled-image`. Assumes nothing.
use Prim.Native.Nat.{ℕ, zero, suc, ◌+◌, ◌*◌, ◌-◌, ◌<◌, ◌≤◌}
use mathlib.Core.Path.{◌≡◌, refl, sym, ap, ◌∙◌}
use mathlib.Core.Option.{Option, none, some}
use mathlib.Core.List.{List, [], ◌∷◌, ◌++◌, flatten, append-nil}
use native.Mathlib.Omega.{arith}
use native.Mathlib.Decide.{ℕ_discrete}
use lib.ListN.{length, get_or, take, drop, set, replicate, length-append}
use lib.Seq.{sets, sets-eq, slice, slice_empty, get_or-append_seam, get_or-set_same, get_or-set_other, take_at, drop_at, drop-append-le, take-append-add, take-add, length-take-le}
use Rattle.laws.specs.Lists.{length-snoc}
use Rattle.rules.specs.declared.Node.{Node}
use Rattle.rules.specs.declared.Role.{Role}
use Rattle.rules.specs.declared.Role.TheVariants.{Unused, Index, Half, Uses, Binds, Child}
use Rattle.rules.specs.declared.Row.{Row}
use Rattle.rules.specs.Image.{row_of}
use Rattle.rules.specs.Published.{bytes_of, node_bytes, image}
use Rattle.rules.proofs.Table.{laid, laid-append}
use Rattle.reading.specs.Items.{Item, put}
use Rattle.reading.specs.Links.{back, linked_by, linked, first_by, first_of, Chained, chained, nodes_in, firsts_in, link_on, link_from, link}
use Rattle.reading.proofs.Links.{link-one-more}
use Rattle.tables.specs.Puts.{Puts}
use Rattle.tables.specs.Tabled.{Tabled, head_bytes}
use Rattle.tables.proofs.NodeLaws.{zeros}

-- ---- so many items, so many nodes and first nodes

counts-from : (is : List Item) (ns : List Node) (fs : List ℕ) → length ns ≡ length fs
    → (length (nodes_in (link_from is (chained ns fs))) ≡ length ns + length is)
    × (length (firsts_in (link_from is (chained ns fs))) ≡ length ns + length is)
unfolding link_from link_on
counts-from [] ns fs l = (omega arith, omega arith)
counts-from (i ∷ is) ns fs l =
    let x = linked (length ns) fs i in
    let k = first_of (length ns) fs i in
    let p = length-snoc ns x in
    let q = length-snoc fs k in
    let r = counts-from is (ns ++ (x ∷ [])) (fs ++ (k ∷ [])) (omega arith) in
    (omega (arith, r.0), omega (arith, r.1))

pub nodes-counted : (is : List Item) → length (nodes_in (link is)) ≡ length is
unfolding link
nodes-counted is = let r = (counts-from is [] [] refl).0 in omega arith

pub firsts-counted : (is : List Item) → length (firsts_in (link is)) ≡ length is
unfolding link
firsts-counted is = let r = (counts-from is [] [] refl).1 in omega arith

-- ---- zeros behind the first nodes don't count

module _ (fs gs : List ℕ) (same : (k : ℕ) → get_or fs k 0 ≡ get_or gs k 0) where
  back-same : (p : Role) (e : ℕ) → back fs p e ≡ back gs p e
  back-same Unused e = refl
  back-same Index e = refl
  back-same Half e = refl
  back-same Uses e = refl
  back-same Binds e = refl
  back-same (Child k) e = same (e - 1)

  node-same : (m t v : ℕ) (o : Option Row) → linked_by m fs t v o ≡ linked_by m gs t v o
  unfolding linked_by
  node-same m t v none = refl
  node-same m t v (some r) =
      let c = back-same r.c m in
      let b : back fs r.b (back fs r.c m) ≡ back gs r.b (back gs r.c m) = back-same r.b (back fs r.c m) ∙ ap (back gs r.b) c in
      rw (b, c)

  first-same : (m : ℕ) (o : Option Row) → first_by m fs o ≡ first_by m gs o
  unfolding first_by
  first-same m none = refl
  first-same m (some r) =
      let c = back-same r.c m in
      let b : back fs r.b (back fs r.c m) ≡ back gs r.b (back gs r.c m) = back-same r.b (back fs r.c m) ∙ ap (back gs r.b) c in
      back-same r.a (back fs r.b (back fs r.c m)) ∙ ap (back gs r.a) b

-- ---- one more

beside : (fs : List ℕ) (v k : ℕ) → (k ≡ length fs → ⊥) → get_or fs k 0 ≡ get_or (fs ++ (v ∷ [])) k 0
beside [] v zero d = absurd (d refl)
beside [] v (suc k) d = refl
beside (x ∷ fs) v zero d = refl
beside (x ∷ fs) v (suc k) d = beside fs v k (λ e. d (ap suc e))

entry_more : (firsts fs : List ℕ) (m v : ℕ) → ((k : ℕ) → get_or firsts k 0 ≡ get_or fs k 0) → length fs ≡ m → m < length firsts
    → (k : ℕ) → get_or (set firsts m v) k 0 ≡ get_or (fs ++ (v ∷ [])) k 0
entry_more firsts fs m v same l h k =
    elim (ℕ_discrete k m) [
      | yes e ↦ rw (e, get_or-set_same firsts m v 0 h, ← l) (sym (get_or-append_seam fs v [] 0))
      | no d ↦ get_or-set_other firsts m k v 0 d ∙ same k ∙ beside fs v k (λ e. d (e ∙ l))
    ]

-- a part that ends where these are put
grows : (img bs : List ℕ) (start i n : ℕ) → start ≤ i → i + length bs ≡ n → n ≤ length img → slice start n (sets img i bs) ≡ slice start i img ++ bs
grows img bs start i n s e h =
    let k = length-take-le i img (omega arith) in
    let l : length (take i img ++ bs) ≡ n = length-append (take i img) bs ∙ omega arith in
    ap (λ (x : List ℕ). slice start n x) (sets-eq bs img i (omega arith))
    ∙ ap (drop start) (take_at (take i img ++ bs) (drop (i + length bs) img) n l)
    ∙ drop-append-le start (take i img) bs (omega arith)

laid-one-more : (ns : List Node) (x : Node) → laid node_bytes (ns ++ (x ∷ [])) ≡ laid node_bytes ns ++ node_bytes x
unfolding flatten
laid-one-more ns x = laid-append node_bytes ns (x ∷ []) ∙ ap (λ (y : List ℕ). laid node_bytes ns ++ y) (append-nil (node_bytes x))

node-long : (x : Node) → length (node_bytes x) ≡ 8
unfolding node_bytes bytes_of
node-long x = refl

module _ (is : List Item) (start tag value : ℕ) (img firsts img' firsts' : List ℕ) where
  pub tabled-more : Tabled is start img firsts → Puts start (length is) tag value img firsts img' firsts'
      → start + 8 * length is + 8 ≤ length img → length is < length firsts
      → Tabled (is ++ (put tag value ∷ [])) start img' firsts'
  unfolding link_on linked first_of
  tabled-more t p room short = go (link is) refl
    where
      go : (s : Chained) → link is ≡ s → Tabled (is ++ (put tag value ∷ [])) start img' firsts'
      go (chained ns fs) e =
          let a : length ns ≡ length is = sym (ap (λ (s : Chained). length (nodes_in s)) e) ∙ nodes-counted is in
          let b : length fs ≡ length is = sym (ap (λ (s : Chained). length (firsts_in s)) e) ∙ firsts-counted is in
          let same : (k : ℕ) → get_or firsts k 0 ≡ get_or fs k 0 = λ k. t.entries k ∙ ap (λ (s : Chained). get_or (firsts_in s) k 0) e in
          let next : link (is ++ (put tag value ∷ [])) ≡ link_on (put tag value) (chained ns fs) = link-one-more is (put tag value) ∙ ap (link_on (put tag value)) e in
          let x = node-same firsts fs same (length is) tag value (row_of tag) in
          let y = first-same firsts fs same (length is) (row_of tag) in
          let l = length-snoc is (put tag value) in
          let i = start + 8 * length is in
          let node = linked_by (length is) fs tag value (row_of tag) in
          let put_in : img' ≡ sets img i (node_bytes node) = p.bytes ∙ ap (λ (z : Node). sets img i (node_bytes z)) x in
          let long = node-long node in
          record {
            entries = λ k.
                rw (next, p.first, y, a) (entry_more firsts fs (length is) (first_by (length is) fs (row_of tag)) same b short k);
            bytes =
                ap (λ (z : List ℕ). slice start (start + 8 * length (is ++ (put tag value ∷ []))) z) put_in
                ∙ grows img (node_bytes node) start i (start + 8 * length (is ++ (put tag value ∷ []))) (omega arith) (omega arith) (omega arith)
                ∙ ap (λ (z : List ℕ). z ++ node_bytes node) (t.bytes ∙ ap (λ (s : Chained). laid node_bytes (nodes_in s)) e)
                ∙ sym (laid-one-more ns node)
                ∙ rw (next, a);
          }

pub tabled-none : (start n : ℕ) (img : List ℕ) → Tabled [] start img (replicate n 0)
unfolding link link_from flatten
tabled-none start n img =
    let e : start + 8 * 0 ≡ start = omega arith in
    record { entries = zeros n; bytes = rw e (slice_empty start img) }

-- ---- the head

pub words_long : (ws : List ℕ) → length (laid bytes_of ws) ≡ 2 * length ws
unfolding flatten bytes_of
words_long [] = refl
words_long (w ∷ ws) = omega (arith, words_long ws)

head-long : (codes : List ℕ) (m names : ℕ) → length (head_bytes codes m names) ≡ 10 + 2 * length codes
unfolding head_bytes
head-long codes m names = words_long (10 ∷ length codes ∷ (10 + 2 * length codes) ∷ m ∷ names ∷ codes) ∙ omega arith

head-image : (codes : List ℕ) (nodes : List Node) (names : ℕ) → image codes nodes names ≡ head_bytes codes (length nodes) names ++ laid node_bytes nodes
unfolding image head_bytes flatten bytes_of
head-image codes nodes names = refl

part-behind : (l : List ℕ) (i n : ℕ) → i + n ≤ length l → slice i (i + n) l ≡ take n (drop i l)
part-behind l i n h = rw (take-add i n l) (drop_at (take i l) (take n (drop i l)) i (length-take-le i l (omega arith)))

pub tabled-image : (is : List Item) (codes : List ℕ) (names start : ℕ) (img firsts img' : List ℕ)
    → Tabled is start img firsts
    → start ≡ 10 + 2 * length codes
    → start + 8 * length is ≤ length img
    → img' ≡ sets img 0 (head_bytes codes (length is) names)
    → take (start + 8 * length is) img' ≡ image codes (nodes_in (link is)) names
tabled-image is codes names start img firsts img' t s room e =
    let head = head_bytes codes (length is) names in
    let l : length head ≡ start = head-long codes (length is) names ∙ sym s in
    let m = nodes-counted is in
    let n = 8 * length is in
    let z : 0 + length head ≡ start = omega arith in
    let a : sets img 0 head ≡ head ++ drop start img = sets-eq head img 0 (omega arith) ∙ ap (λ (k : ℕ). head ++ drop k img) z in
    let b : take (start + n) (head ++ drop start img) ≡ head ++ take n (drop start img) =
    ap (λ (k : ℕ). take (k + n) (head ++ drop start img)) (sym l) ∙ take-append-add head (drop start img) n in
    let d : take n (drop start img) ≡ laid node_bytes (nodes_in (link is)) = sym (part-behind img start n room) ∙ t.bytes in
    ap (take (start + n)) (e ∙ a) ∙ b ∙ ap (λ (x : List ℕ). head ++ x) d ∙ sym (head-image codes (nodes_in (link is)) names ∙ rw m)
