-- `lister::room` meets its contract, by a law of lists: so many zeros are not counted one by one. Assumes nothing.
use Prim.Native.Nat.{ℕ}
use mathlib.Core.Path.{◌≡◌, sym}
use lib.ListN.{length, replicate, length-replicate}
use Rattle.lister.proofs.room.Goals as goal

long : (n : ℕ) → n ≡ length (replicate {A = ℕ} n 0)
long n = sym (length-replicate {A = ℕ} n 0)

pub returns : goal.returns
returns c = long 1179904
