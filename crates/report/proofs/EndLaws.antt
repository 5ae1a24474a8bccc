-- What the pieces of an end's line make: one law for each end. Assumes nothing.
use Prim.Native.Nat.{ℕ}
use mathlib.Core.Path.{◌≡◌, refl, ap}
use mathlib.Core.List.{◌++◌}
use native.Mathlib.Omega.{arith}
use Rattle.rules.specs.declared.Stop.{Stop}
use Rattle.rules.specs.declared.Stop.TheVariants.{Faulted, Full, OutOfRange, NoRule}
use Rattle.rules.specs.declared.End.{End}
use Rattle.rules.specs.declared.End.TheVariants.{Done, UsedUp, Stopped}
use Rattle.rules.specs.Numbers.{end_no, stop_no}
use Rattle.text.specs.Ascii.{ascii}
use Rattle.text.specs.Text.{digit_count_by, digit_count, decimal, further, line, pair, last}
use Rattle.listed.specs.Listing.{stop_words, end_words, end_line}
use Rattle.text.specs.declared.Page.{Page}
use Rattle.text.specs.Written.{Adds}
use Rattle.text.proofs.WroteLaws.{both-adds, adds_as}

module _ (m : ℕ) (d o : Page) where
  pub end-done : (e : End) → e ≡ Done → Adds 33 d (last (ascii "end 1 steps") m) o → Adds 128 d (end_line e m) o
  unfolding end_line end_no end_words line further decimal digit_count digit_count_by
  end-done e i w = rw i (adds_as 33 128 d o (last (ascii "end 1 steps") m) (end_line Done m) w refl (omega arith))

  pub end-used-up : (e : End) → e ≡ UsedUp → Adds 33 d (last (ascii "end 4 steps") m) o → Adds 128 d (end_line e m) o
  unfolding end_line end_no end_words line further decimal digit_count digit_count_by
  end-used-up e i w = rw i (adds_as 33 128 d o (last (ascii "end 4 steps") m) (end_line UsedUp m) w refl (omega arith))

  pub end-stopped : (e : End) (s : Stop) → e ≡ Stopped s → Adds 128 d (end_line (Stopped s) m) o → Adds 128 d (end_line e m) o
  end-stopped e s i w = rw i w

  pub stop-fault : (s : Stop) (k n : ℕ) → s ≡ Faulted k n → Adds 128 d (end_line (Stopped (Faulted k n)) m) o → Adds 128 d (end_line (Stopped s) m) o
  stop-fault s k n i w = rw i w

  pub stop-room : (s : Stop) (k : ℕ) → s ≡ Full k → Adds 128 d (end_line (Stopped (Full k)) m) o → Adds 128 d (end_line (Stopped s) m) o
  stop-room s k i w = rw i w

  pub stop-range : (s : Stop) → s ≡ OutOfRange → Adds 33 d (last (ascii "end 5 steps") m) o → Adds 128 d (end_line (Stopped s) m) o
  unfolding end_line end_no end_words stop_no stop_words line further decimal digit_count digit_count_by
  stop-range s i w = rw i (adds_as 33 128 d o (last (ascii "end 5 steps") m) (end_line (Stopped OutOfRange) m) w refl (omega arith))

  pub stop-no-rule : (s : Stop) → s ≡ NoRule → Adds 33 d (last (ascii "end 0 steps") m) o → Adds 128 d (end_line (Stopped s) m) o
  unfolding end_line end_no end_words stop_no stop_words line further decimal digit_count digit_count_by
  stop-no-rule s i w = rw i (adds_as 33 128 d o (last (ascii "end 0 steps") m) (end_line (Stopped NoRule) m) w refl (omega arith))

  pub fault-wrote : (k n a b : ℕ) (e u : Page) → a ≡ k → b ≡ n → Adds 32 d (pair (ascii "end 2 fault") a) e
      → Adds 26 e (pair (ascii " node") b) u
      → Adds 28 u (last (ascii " steps") m) o
      → Adds 128 d (end_line (Stopped (Faulted k n)) m) o
  unfolding end_line end_no end_words stop_no stop_words line further decimal digit_count digit_count_by
  fault-wrote k n a b e u i j v w x =
      adds_as 86 128 d o (pair (ascii "end 2 fault") k ++ (pair (ascii " node") n ++ last (ascii " steps") m))
      (end_line (Stopped (Faulted k n)) m)
      (both-adds 32 54 d e o (pair (ascii "end 2 fault") k) (pair (ascii " node") n ++ last (ascii " steps") m) (rw i at v)
      (both-adds 26 28 e u o (pair (ascii " node") n) (last (ascii " steps") m) (rw j at w) x))
      refl (omega arith)

  pub room-wrote : (k a : ℕ) (e : Page) → a ≡ k → Adds 31 d (pair (ascii "end 3 room") a) e
      → Adds 28 e (last (ascii " steps") m) o
      → Adds 128 d (end_line (Stopped (Full k)) m) o
  unfolding end_line end_no end_words stop_no stop_words line further decimal digit_count digit_count_by
  room-wrote k a e i v w =
      adds_as 59 128 d o (pair (ascii "end 3 room") k ++ last (ascii " steps") m) (end_line (Stopped (Full k)) m)
      (both-adds 31 28 d e o (pair (ascii "end 3 room") k) (last (ascii " steps") m) (rw i at v) w)
      refl (omega arith)
