-- Four words one after the other are a node's bytes. Assumes nothing.
use Prim.Native.Nat.{ℕ, suc, ◌+◌}
use mathlib.Core.Path.{◌≡◌}
use mathlib.Core.List.{List}
use native.Mathlib.Omega.{arith}
use lib.Seq.{sets}
use Rattle.rules.specs.declared.Node.{Node}
use Rattle.rules.specs.Published.{bytes_of, node_bytes}

pub four-words : (x : Node) (at : ℕ) (i j k l m : List ℕ)
    → j ≡ sets i at (bytes_of x.tag)
    → k ≡ sets j (at + 2) (bytes_of x.a)
    → l ≡ sets k (at + 4) (bytes_of x.b)
    → m ≡ sets l (at + 6) (bytes_of x.c)
    → m ≡ sets i at (node_bytes x)
unfolding bytes_of node_bytes
four-words x at i j k l m p q r s =
    let b : at + 2 ≡ suc (suc at) = omega arith in
    let d : at + 4 ≡ suc (suc (suc (suc at))) = omega arith in
    let f : at + 6 ≡ suc (suc (suc (suc (suc (suc at))))) = omega arith in
    rw (s, r, q, p, b, d, f)
