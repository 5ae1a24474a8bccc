-- The needed names suffice: demand 3, "every name the next step could need". In a store that fits, a command part whose
-- needed names its chain bears is not stuck, whatever else that chain bears: so `needs` leaves out no name that the step
-- reads or writes. A procedure that it makes is only known to be a proc of the script (`Stated`). Assumes nothing.
use Prim.Native.Nat.{ℕ, ◌≤◌}
use mathlib.Core.Bool.{◌||◌}
use lib.Dec.{T, eqb, eqb_refl}
use Rattle.rules.specs.Syntax.{Exp, Test, Cmd, no_cmd, var, call, malloc, assign, assign_field, skip, seq, while, if, par, atom}
use Rattle.rules.specs.Scope.{Names}
use Rattle.rules.specs.declared.Chain.{Chain}
use Rattle.rules.specs.declared.Value.{Value}
use Rattle.rules.specs.State.{Store, find, field_of, object_at, HasFrame, HasObject}
use Rattle.rules.specs.Script.{Script}
use Rattle.rules.specs.Eval.{fault_no, no_object, no_field, no_procedure, there, Closure, closure, as_object, as_field, as_proc, eval, test}
use Rattle.rules.specs.Step.{calling, into_field, exec_by, exec}
use Rattle.safety.specs.Safe.{FitExp, FitTest, FitCmd, single, RealIf, RealObject, RealStore}
use Rattle.safety.specs.Fits.{Fine}
use Rattle.safety.specs.Needs.{needs_exp, needs_test, needs}
use Rattle.safety.proofs.LinksNeeded.{Bear, first, second}
use Rattle.safety.proofs.Fine.{Any, Of, Stated, fine_bind, fine-there, fine-object, fine-field, fine-proc, fine-object-at, fine-field-of, fine-find, eval-borne, test-borne}

module _ (sc : Script) (s : Store) (good : RealStore sc s) (visible : Names) (ch : Chain) where
  abbrev Held : Value → Type 0
  Held = RealIf sc ⊥ (Stated sc) s

  fine-exp : (e : Exp) → FitExp sc visible e → Bear s ch (needs_exp e) → Fine sc Held (eval s ch e)
  fine-exp e h b = eval-borne sc s (Stated sc) (λ n dh p. (_, p.is)) good ch visible (λ n y c p. (_, p.1)) e h b

  fine-cond : (t : Test) → FitTest sc visible t → Bear s ch (needs_test t) → Fine sc Any (test sc s ch t)
  fine-cond t h b =
      test-borne sc s (Stated sc) (λ n dh p. (_, p.is)) good ch visible (λ n y c p. (_, p.1)) (λ n dh p. p) t h b

  fine-calling : (v : Value) (p : Closure) → Of (Stated sc) p → Fine sc Any (calling sc s v p)
  unfolding calling
  fine-calling v (closure m dh) p = fine_bind sc Any Any (there (sc.proc_at m)) _ (fine-there sc Any _ p.0 p.1 tt) λ q _. tt

  fine-into-field : (o f : ℕ) (u : Value) → HasObject s o → (1 ≤ f) × (f ≤ sc.fields) → Fine sc Any (into_field s o f u)
  unfolding into_field
  fine-into-field o f u l m =
      fine_bind sc (RealObject sc s) Any (there (object_at s o)) _ (fine-object-at sc s good o l) λ obj fits.
      fine_bind sc Held Any (there (field_of obj f)) _ (fine-field-of sc s (Stated sc) (λ n dh p. (_, p.is)) obj f fits m) λ old _. tt

  pub fine-single : (c : Cmd) → T (single c) → FitCmd sc visible c → Bear s ch (needs c) → Fine sc Any (exec sc s ch c)
  unfolding exec_by single needs
  fine-single (no_cmd n) t h b = h
  fine-single (var n x c) t h b = tt
  fine-single (call n a e) t h b =
      fine_bind sc Held Any (eval s ch a) _ (fine-exp a h.1 (first s ch (needs_exp a) (needs_exp e) b)) λ v r.
      fine_bind sc (Of (Stated sc)) Any (as_proc (fault_no no_procedure) n v) _ (fine-proc sc s (Stated sc) no_procedure n h.0.0 v r) λ p q.
      fine_bind sc Held Any (eval s ch e) _ (fine-exp e h.2 (second s ch (needs_exp a) (needs_exp e) b)) λ w _.
      fine-calling w p q
  fine-single (malloc n x) t h b =
      fine_bind sc (λ k. HasFrame s k) Any (there (find s.frames x ch)) _ (fine-find sc s ch x (b x (eqb_refl x))) λ k _. tt
  fine-single (assign n x e) t h b =
      fine_bind sc (λ k. HasFrame s k) Any (there (find s.frames x ch)) _ (fine-find sc s ch x (first s ch (eqb x) (needs_exp e) b x (eqb_refl x))) λ k _.
      fine_bind sc Held Any (eval s ch e) _ (fine-exp e h.2 (second s ch (eqb x) (needs_exp e) b)) λ v _. tt
  fine-single (assign_field n a e c) t h b =
      let both : Bear s ch (λ x. needs_exp a x || needs_exp e x) = first s ch (λ x. needs_exp a x || needs_exp e x) (needs_exp c) b in
      fine_bind sc Held Any (eval s ch a) _ (fine-exp a h.1 (first s ch (needs_exp a) (needs_exp e) both)) λ v p.
      fine_bind sc Held Any (eval s ch e) _ (fine-exp e h.2 (second s ch (needs_exp a) (needs_exp e) both)) λ w q.
      fine_bind sc (λ o. HasObject s o) Any (as_object (fault_no no_object) n v) _ (fine-object sc s (Stated sc) no_object n h.0.0 v p) λ o l.
      fine_bind sc (λ f. (1 ≤ f) × (f ≤ sc.fields)) Any (as_field (fault_no no_field) n w) _ (fine-field sc s (Stated sc) no_field n h.0.0 w q) λ f m.
      fine_bind sc Held Any (eval s ch c) _ (fine-exp c h.3 (second s ch (λ x. needs_exp a x || needs_exp e x) (needs_exp c) b)) λ u _.
      fine-into-field o f u l m
  fine-single (skip n) t h b = tt
  fine-single (seq n a c) t h b = absurd t
  fine-single (while n e c) t h b = fine_bind sc Any Any (test sc s ch e) _ (fine-cond e h.1 b) λ z _. tt
  fine-single (if n e c d) t h b = fine_bind sc Any Any (test sc s ch e) _ (fine-cond e h.1 b) λ z _. tt
  fine-single (par n a c) t h b = absurd t
  fine-single (atom n c) t h b = tt
