-- The nodes so far grow by those that come out. Assumes nothing.
use Prim.Native.Nat.{ℕ, ◌+◌, ◌*◌, ◌<◌, ◌≤◌}
use mathlib.Core.Path.{◌≡◌, refl, ap, subst, ◌∙◌}
use mathlib.Core.List.{List, [], ◌∷◌, ◌++◌, append_assoc, append-nil}
use native.Mathlib.Omega.{arith}
use native.Mathlib.Decide.{dec_lt}
use lib.ListN.{length, replicate, length-set, length-replicate}
use lib.Seq.{length-sets}
use Rattle.std.specs.Prelude.{Option, Some, None}
use Rattle.laws.specs.Lists.{length-snoc}
use Rattle.rules.specs.Image.{most_nodes}
use Rattle.grammar.specs.Reads.{most_bytes}
use Rattle.rules.specs.Published.{node_bytes}
use Rattle.reading.specs.Items.{Item, put}
use Rattle.reading.specs.Links.{linked, first_of}
use Rattle.tables.specs.Puts.{Puts}
use Rattle.tables.proofs.NodeLaws.{falling-none}
use Rattle.tables.proofs.Tabling.{tabled-more}
use Rattle.dues.specs.declared.Made.{Made}
use Rattle.dues.specs.Words.{made_items}
use Rattle.building.specs.Room.{Roomy}
use Rattle.building.specs.Built.{Built, Adds}
use Rattle.building.specs.declared.nodes.Nodes.{Nodes}
use Rattle.building.specs.Grown.{Grows}

-- ---- the room

pub none-roomy : (start : ℕ) → start ≤ 42 → Roomy start (replicate most_bytes 0) (replicate most_nodes 0)
none-roomy start h =
    record {
      bytes = length-replicate {A = ℕ} most_bytes 0;
      links = length-replicate {A = ℕ} most_nodes 0;
      begins = h;
      falling = falling-none most_nodes;
    }

-- ---- lists of nodes

nothing-added : (start m : ℕ) (img firsts : List ℕ) → Roomy start img firsts → m ≤ 2049 → Adds [] start m m img firsts img firsts
nothing-added start m img firsts r h = record { room = r; few = h; adds = λ is b. rw (append-nil is) b }

-- one after the other
both-added : (is js : List Item) (start m n o : ℕ) (img firsts img' firsts' img'' firsts'' : List ℕ)
    → Adds is start m n img firsts img' firsts' → Adds js start n o img' firsts' img'' firsts'' → Adds (is ++ js) start m o img firsts img'' firsts''
both-added is js start m n o img firsts img' firsts' img'' firsts'' a b =
    record {
      room = b.room;
      few = b.few;
      adds = λ before h. subst (λ (l : List Item). Built l start o img'' firsts'') (append_assoc before is js) (b.adds (before ++ is) (a.adds before h));
    }

-- the same of the nodes as a whole
pub nothing-grown : (s : Nodes) → Grows [] s s
nothing-grown s = (nothing-added s.start s.count s.image s.firsts s.roomy s.few, refl)

pub both-grown : (is js : List Item) (s t u : Nodes) → Grows is s t → Grows js t u → Grows (is ++ js) s u
both-grown is js s t u a b = (
  both-added is js s.start s.count t.count u.count s.image s.firsts t.image t.firsts u.image u.firsts a.0
      (subst (λ (k : ℕ). Adds js k t.count u.count t.image t.firsts u.image u.firsts) a.1 b.0),
  b.1 ∙ a.1,
)

-- ---- a node of an answer

-- below 2,049 the nodes are counted
all-counted : (is : List Item) (start m : ℕ) (img firsts : List ℕ) → Built is start m img firsts → m < 2049 → length is ≤ most_nodes
all-counted is start m img firsts b h =
    elim (dec_lt most_nodes (length is)) [
      | yes p ↦ absurd (omega (arith, b.past p))
      | no n ↦ omega arith
    ]

-- the room stays
roomy-more : (start m tag value : ℕ) (img firsts img' firsts' : List ℕ) → Roomy start img firsts → Puts start m tag value img firsts img' firsts' → Roomy start img' firsts'
roomy-more start m tag value img firsts img' firsts' r p =
    record {
      bytes = ap length p.bytes ∙ length-sets img (start + 8 * m) (node_bytes (linked m firsts (put tag value))) ∙ r.bytes;
      links = ap length p.first ∙ length-set firsts m (first_of m firsts (put tag value)) ∙ r.links;
      begins = r.begins;
      falling = p.falling;
    }

pub no_node : (s : Nodes) (o : Option Made) → o ≡ None → Grows (made_items o) s s
no_node s o e = rw e (nothing-grown s)

pub one-node : (start m : ℕ) (o : Option Made) (x : Made) (img firsts img' firsts' : List ℕ) → Roomy start img firsts → o ≡ Some x → m < 2048
    → Puts start m x.tag x.value img firsts img' firsts'
    → Adds (made_items o) start m (m + 1) img firsts img' firsts'
one-node start m o x img firsts img' firsts' r n h p =
    let room = roomy-more start m x.tag x.value img firsts img' firsts' r p in
    rw n
    (record {
      room = room;
      few = omega arith;
      adds = λ is b.
          let i = put x.tag x.value in
          let few = all-counted is start m img firsts b (omega arith) in
          let e = b.counted few in
          let l = length-snoc is i in
          let long = r.bytes in
          let wide = r.links in
          let low = r.begins in
          record {
            roomy = room;
            few = omega arith;
            counted = λ _. omega arith;
            tabled = λ _.
                tabled-more is start x.tag x.value img firsts img' firsts' (b.tabled few)
                (subst (λ (k : ℕ). Puts start k x.tag x.value img firsts img' firsts') e p) (omega arith) (omega arith);
            past = λ q. absurd (omega arith);
          };
    })

pub no_room : (start m : ℕ) (o : Option Made) (x : Made) (img firsts : List ℕ) → Roomy start img firsts → m ≤ 2049 → o ≡ Some x → 2048 ≤ m
    → Adds (made_items o) start m 2049 img firsts img firsts
no_room start m o x img firsts r h n f =
    rw n
    (record {
      room = r;
      few = omega arith;
      adds = λ is b.
          let l = length-snoc is (put x.tag x.value) in
          let never : length (is ++ (put x.tag x.value ∷ [])) ≤ most_nodes → ⊥ =
          λ q. let e = b.counted (omega arith) in omega arith in
          record { roomy = r; few = omega arith; counted = λ q. absurd (never q); tabled = λ q. absurd (never q); past = λ q. refl };
    })
