-- Things due that one kind of token alone takes, by their numbers. Assumes nothing.
use Prim.Native.Nat.{ℕ, ◌+◌, ◌*◌}
use mathlib.Core.Path.{◌≡◌, ◌∙◌}
use mathlib.Core.Bool.{cond}
use mathlib.Core.List.{[], ◌∷◌}
use lib.Dec.{eqb}
use Rattle.reading.specs.Items.{put}
use Rattle.reading.specs.Table.{command, var_semi, malloc_name, close_node, node, expression, proc_colon, take, row_for, does}
use Rattle.dues.specs.declared.Deed.{Deed}
use Rattle.dues.specs.Words.{taken, refused, due_word, deed_of, things, due_by, done_to}
use Rattle.dues.proofs.DeedLaws.{decided}

module _ (k v n t x : ℕ) (r : Deed) where
  pub row-var-name : n ≡ 3 → deed_of r ≡ cond (eqb k 1) (taken ((4 + 4096 * v) ∷ []) []) refused → deed_of r ≡ done_to (due_by n t x) k v
  unfolding due_by things does row_for due_word
  row-var-name e h = h ∙ rw e (decided (eqb k 1) (take (var_semi v ∷ []) []))

  pub row-malloc-name : n ≡ 6 → deed_of r ≡ cond (eqb k 1) (taken ((12 + 64 * 34 + 4096 * v) ∷ []) []) refused → deed_of r ≡ done_to (due_by n t x) k v
  unfolding due_by things does row_for due_word
  row-malloc-name e h = h ∙ rw e (decided (eqb k 1) (take (close_node 34 v ∷ []) []))

  pub row-proc-name : n ≡ 31 → deed_of r ≡ cond (eqb k 1) (taken ((32 + 4096 * v) ∷ []) []) refused → deed_of r ≡ done_to (due_by n t x) k v
  unfolding due_by things does row_for due_word
  row-proc-name e h = h ∙ rw e (decided (eqb k 1) (take (proc_colon v ∷ []) []))

  module _ (d : Deed) where
    pub row-var-semi : n ≡ 4 → deed_of d ≡ taken (1 ∷ (13 + 64 * 32 + 4096 * x) ∷ []) [] → deed_of r ≡ cond (eqb k 21) (deed_of d) refused → deed_of r ≡ done_to (due_by n t x) k v
    unfolding due_by things does row_for due_word
    row-var-semi e f h = h ∙ rw (e, f) (decided (eqb k 21) (take (command ∷ node 32 x ∷ []) []))

    pub row-malloc-open : n ≡ 5 → deed_of d ≡ taken (6 ∷ []) [] → deed_of r ≡ cond (eqb k 17) (deed_of d) refused → deed_of r ≡ done_to (due_by n t x) k v
    unfolding due_by things does row_for due_word
    row-malloc-open e f h = h ∙ rw (e, f) (decided (eqb k 17) (take (malloc_name ∷ []) []))

    pub row-atom-open : n ≡ 7 → deed_of d ≡ taken (1 ∷ (12 + 64 * 42) ∷ []) [] → deed_of r ≡ cond (eqb k 17) (deed_of d) refused → deed_of r ≡ done_to (due_by n t x) k v
    unfolding due_by things does row_for due_word
    row-atom-open e f h = h ∙ rw (e, f) (decided (eqb k 17) (take (command ∷ close_node 42 0 ∷ []) []))

    pub row-shut : n ≡ 9 → deed_of d ≡ taken [] (put t 0 ∷ []) → deed_of r ≡ cond (eqb k 20) (deed_of d) refused → deed_of r ≡ done_to (due_by n t x) k v
    unfolding due_by things does row_for due_word
    row-shut e f h = h ∙ rw (e, f) (decided (eqb k 20) (take [] (put t 0 ∷ [])))

    pub row-otherwise : n ≡ 10 → deed_of d ≡ taken (1 ∷ (13 + 64 * 40) ∷ []) [] → deed_of r ≡ cond (eqb k 15) (deed_of d) refused → deed_of r ≡ done_to (due_by n t x) k v
    unfolding due_by things does row_for due_word
    row-otherwise e f h = h ∙ rw (e, f) (decided (eqb k 15) (take (command ∷ node 40 0 ∷ []) []))

    pub row-close : n ≡ 11 → deed_of d ≡ taken [] [] → deed_of r ≡ cond (eqb k 18) (deed_of d) refused → deed_of r ≡ done_to (due_by n t x) k v
    unfolding due_by things does row_for due_word
    row-close e f h = h ∙ rw (e, f) (decided (eqb k 18) (take [] []))

    pub row-close-node : n ≡ 12 → deed_of d ≡ taken [] (put t x ∷ []) → deed_of r ≡ cond (eqb k 18) (deed_of d) refused → deed_of r ≡ done_to (due_by n t x) k v
    unfolding due_by things does row_for due_word
    row-close-node e f h = h ∙ rw (e, f) (decided (eqb k 18) (take [] (put t x ∷ [])))

    pub row-becomes : n ≡ 24 → deed_of d ≡ taken (25 ∷ (13 + 64 * 36) ∷ []) [] → deed_of r ≡ cond (eqb k 24) (deed_of d) refused → deed_of r ≡ done_to (due_by n t x) k v
    unfolding due_by things does row_for due_word
    row-becomes e f h = h ∙ rw (e, f) (decided (eqb k 24) (take (expression ∷ node 36 0 ∷ []) []))

    pub row-proc-colon : n ≡ 32 → deed_of d ≡ taken (1 ∷ (13 + 64 * 7 + 4096 * x) ∷ []) [] → deed_of r ≡ cond (eqb k 27) (deed_of d) refused → deed_of r ≡ done_to (due_by n t x) k v
    unfolding due_by things does row_for due_word
    row-proc-colon e f h = h ∙ rw (e, f) (decided (eqb k 27) (take (command ∷ node 7 x ∷ []) []))

pub ruleset only-rows = (row-var-name, row-malloc-name, row-proc-name, row-var-semi, row-malloc-open, row-atom-open, row-shut, row-otherwise, row-close, row-close-node, row-becomes, row-proc-colon)
