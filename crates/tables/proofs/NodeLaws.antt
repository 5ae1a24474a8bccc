-- The words of a node by their roles, in the shapes in which the code meets them. Assumes nothing.
use Prim.Native.Nat.{ℕ, zero, suc, ◌+◌, ◌*◌, ◌-◌, ◌/◌, ◌%◌, ◌<◌, ◌≤◌}
use mathlib.Core.Path.{◌≡◌, refl, sym, ap, ◌∙◌}
use mathlib.Core.Option.{Option, none, some}
use mathlib.Core.List.{List}
use native.Mathlib.Omega.{arith}
use native.Mathlib.Decide.{ℕ_discrete}
use lib.ListN.{length, get_or, set, replicate}
use lib.Seq.{sets, get_or-set_same, get_or-set_other}
use Rattle.rules.specs.declared.Kind.{Kind}
use Rattle.rules.specs.declared.Role.{Role}
use Rattle.rules.specs.declared.Role.TheVariants.{Child}
use Rattle.rules.specs.declared.Row.{Row}
use Rattle.rules.specs.declared.Node.{Node}
use Rattle.rules.specs.Image.{row_of}
use Rattle.rules.specs.Published.{node_bytes}
use Rattle.rules.proofs.Table.{Small}
use Rattle.std.specs.Prelude.{Option as Answered, Some, None}
use Rattle.laws.specs.Options.{math_option}
use Rattle.grammar.specs.Nodes.{words}
use Rattle.reading.specs.Links.{word_by, back, linked_by, linked, first_by, first_of}
use Rattle.tables.specs.Puts.{Falling, Joined, Puts}

-- ---- a node by its row

pub by_row : (m tag value : ℕ) (firsts : List ℕ) (w : Row) (a b c e f first : ℕ)
    → (c ≡ word_by w.c 0 m) × (c < 65536)
    → (e ≡ back firsts w.c m) × (e ≤ m)
    → (b ≡ word_by w.b (value / 65536) e) × (b < 65536)
    → (f ≡ back firsts w.b e) × (f ≤ e)
    → (a ≡ word_by w.a (value % 65536) f) × (a < 65536)
    → (first ≡ back firsts w.a f) × (first ≤ f)
    → Joined m tag value firsts (some w) (record { tag = tag; a = a; b = b; c = c }) first
unfolding linked_by first_by words
by_row m tag value firsts w a b c e f first hc he hb hf ha hs =
    let i : b ≡ word_by w.b (value / 65536) (back firsts w.c m) = hb.0 ∙ ap (word_by w.b (value / 65536)) he.0 in
    let j : f ≡ back firsts w.b (back firsts w.c m) = hf.0 ∙ ap (back firsts w.b) he.0 in
    let k : a ≡ word_by w.a (value % 65536) (back firsts w.b (back firsts w.c m)) = ha.0 ∙ ap (word_by w.a (value % 65536)) j in
    record {
      node = rw (hc.0, i, k);
      starts = hs.0 ∙ ap (back firsts w.a) j;
      low = omega (arith, he.1, hf.1, hs.1);
      small-a = ha.1;
      small_b = hb.1;
      small-c = hc.1;
    }

-- no tag: a node that nothing reads
pub no_row : (m tag value : ℕ) (firsts : List ℕ) (o : Option Row) (r : Answered Row) → r ≡ None → math_option r ≡ o
    → Joined m tag value firsts o (record { tag = tag; a = 0; b = 0; c = 0 }) m
unfolding linked_by first_by words
no_row m tag value firsts o r h e =
    let z : o ≡ none = sym e ∙ ap math_option h in
    record { node = rw z; starts = rw z; low = omega arith; small-a = omega arith; small_b = omega arith; small-c = omega arith }

-- ---- written

pub small-node : (m tag value : ℕ) (firsts : List ℕ) (o : Option Row) (x : Node) (first : ℕ) → tag < 65536 → Joined m tag value firsts o x first → Small x
unfolding linked_by words
small-node m tag value firsts none x first l j =
    let t : x.tag ≡ tag = ap (λ (y : Node). y.tag) j.node in
    record { tag = omega arith; a = j.small-a; b = j.small_b; c = j.small-c }
small-node m tag value firsts (some r) x first l j =
    let t : x.tag ≡ tag = ap (λ (y : Node). y.tag) j.node in
    record { tag = omega arith; a = j.small-a; b = j.small_b; c = j.small-c }

pub zeros : (n k : ℕ) → get_or {A = ℕ} (replicate n 0) k 0 ≡ 0
zeros zero k = refl
zeros (suc n) zero = refl
zeros (suc n) (suc k) = zeros n k

pub falling-none : (n : ℕ) → Falling (replicate n 0)
falling-none n = record { falls = λ k. rw (zeros n k) (omega arith) }

-- a first node that is put in keeps the others
pub falling-set : (firsts : List ℕ) (m v : ℕ) → Falling firsts → m < length firsts → v ≤ m → Falling (set firsts m v)
falling-set firsts m v f h l =
    record {
      falls = λ k.
          elim (ℕ_discrete k m) [
            | yes e ↦ let g : get_or (set firsts m v) m 0 ≡ v = get_or-set_same firsts m v 0 h in rw (e, g) l
            | no d ↦ rw (get_or-set_other firsts m k v 0 d) (f.falls k)
          ];
    }

pub puts : (start m tag value : ℕ) (img firsts img' firsts' : List ℕ) (x : Node) (first : ℕ)
    → Falling firsts → m < length firsts
    → Joined m tag value firsts (row_of tag) x first
    → img' ≡ sets img (start + 8 * m) (node_bytes x)
    → firsts' ≡ set firsts m first
    → Puts start m tag value img firsts img' firsts'
unfolding linked first_of
puts start m tag value img firsts img' firsts' x first f h j b e =
    record {
      bytes = b ∙ ap (λ (y : Node). sets img (start + 8 * m) (node_bytes y)) j.node;
      first = e ∙ ap (λ (y : ℕ). set firsts m y) j.starts;
      falling = rw e (falling-set firsts m first f h j.low);
    }
