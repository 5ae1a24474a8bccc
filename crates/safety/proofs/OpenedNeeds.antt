-- What a sequence or parallel needs: all that the commands need which it is opened to, those that can move and those that
-- wait, in its own chain (document 01, "Steps": opened whenever they are put into control). Assumes nothing.
use Prim.Native.Nat.{ℕ}
use mathlib.Core.Path.{◌≡◌, refl}
use lib.Dec.{T}
use Rattle.rules.specs.Syntax.{Cmd, no_cmd, var, call, malloc, assign, assign_field, skip, seq, while, if, par, atom, cmd_no}
use Rattle.rules.specs.Scope.{Names}
use Rattle.rules.specs.declared.Chain.{Chain}
use Rattle.rules.specs.Script.{Script}
use Rattle.rules.specs.Control.{Control, command, followed, beside, entered, opened}
use Rattle.safety.specs.Inside.{Waits, next, within, on-left, on-right, inside}
use Rattle.rules.proofs.Around as Around
use Rattle.safety.specs.Safe.{FitCmd, single}
use Rattle.safety.specs.Needs.{needs}
use Rattle.safety.proofs.LinksNeeded.{or-from-left, or-from-right}
use Rattle.safety.proofs.Progress.{fit_at}

module _ (sc : Script) (visible : Names) (ch : Chain) where
  -- Q of every command of a tree, and those that can move are command parts
  abbrev pub Each : (ℕ → Chain → Type 0) → Control → Type 0
  Each Q (command n dh) = T (single (sc.cmd_at n)) × Q n dh
  Each Q (followed t n dh) = Each Q t × Q n dh
  Each Q (beside l r) = Each Q l × Each Q r
  Each Q (entered t) = Each Q t

  each_more : (P Q : ℕ → Chain → Type 0) → ((n : ℕ) (dh : Chain) → P n dh → Q n dh) → (t : Control) → Each P t → Each Q t
  each_more P Q f (command n dh) h = (h.0, f n dh h.1)
  each_more P Q f (followed t n dh) h = (each_more P Q f t h.0, f n dh h.1)
  each_more P Q f (beside l r) h = (each_more P Q f l h.0, each_more P Q f r h.1)
  each_more P Q f (entered t) h = each_more P Q f t h

  pub each_at : (Q : ℕ → Chain → Type 0) (C : Around.Around) (u : Control) → Each Q (Around.plug C u) → Each Q u
  unfolding Around.plug
  each_at Q Around.here u h = h
  each_at Q (Around.after_it C n dh) u h = each_at Q C u h.0
  each_at Q (Around.left_of C r) u h = each_at Q C u h.0
  each_at Q (Around.right_of l C) u h = each_at Q C u h.1
  each_at Q (Around.inside C) u h = each_at Q C u h

  pub each-waits : (Q : ℕ → Chain → Type 0) (t : Control) (n : ℕ) (dh : Chain) → Each Q t → Waits t n dh → Q n dh
  each-waits Q _ n dh h next = h.1
  each-waits Q _ n dh h (within {t = t} w) = each-waits Q t n dh h.0 w
  each-waits Q _ n dh h (on-left {l = l} w) = each-waits Q l n dh h.0 w
  each-waits Q _ n dh h (on-right {r = r} w) = each-waits Q r n dh h.1 w
  each-waits Q _ n dh h (inside {t = t} w) = each-waits Q t n dh h w

  -- the command at a node, in this chain, needs no more than c
  pub record Less (c : Cmd) (n : ℕ) (dh : Chain) : Type 0 where
    pub chain : dh ≡ ch
    pub scoped : FitCmd sc visible (sc.cmd_at n)
    pub less : (x : ℕ) → T (needs (sc.cmd_at n) x) → T (needs c x)

  less-at : (c : Cmd) → FitCmd sc visible c → Less c (cmd_no c) ch
  less-at c h =
      let e = fit_at sc c visible h in
      record {
        chain = refl;
        scoped = rw e h;
        less = λ x k. rw e at k;
      }

  alone : (c : Cmd) → T (single c) → FitCmd sc visible c → T (single (sc.cmd_at (cmd_no c))) × Less c (cmd_no c) ch
  alone c t h = (rw (fit_at sc c visible h) t, less-at c h)

  part : (a c : Cmd) → ((x : ℕ) → T (needs a x) → T (needs c x)) → (n : ℕ) (dh : Chain) → Less a n dh → Less c n dh
  part a c f n dh h = record { chain = h.chain; scoped = h.scoped; less = λ x k. f x (h.less x k) }

  -- when a command is opened, each command then in control stands in its chain and needs no more than it did
  pub opened-less : (c : Cmd) → FitCmd sc visible c → Each (Less c) (opened c ch)
  unfolding opened single cmd_no needs
  opened-less (no_cmd n) h = absurd h
  opened-less (var n x c) h = alone (var n x c) tt h
  opened-less (call n a b) h = alone (call n a b) tt h
  opened-less (malloc n x) h = alone (malloc n x) tt h
  opened-less (assign n x e) h = alone (assign n x e) tt h
  opened-less (assign_field n a b c) h = alone (assign_field n a b c) tt h
  opened-less (skip n) h = alone (skip n) tt h
  opened-less (seq n a b) h = (
    each_more (Less a) (Less (seq n a b)) (part a (seq n a b) λ x. or-from-left (needs a x) (needs b x)) (opened a ch) (opened-less a h.1),
    part b (seq n a b) (λ x. or-from-right (needs a x) (needs b x)) (cmd_no b) ch (less-at b h.2),
  )
  opened-less (while n t c) h = alone (while n t c) tt h
  opened-less (if n t a b) h = alone (if n t a b) tt h
  opened-less (par n a b) h = (
    each_more (Less a) (Less (par n a b)) (part a (par n a b) λ x. or-from-left (needs a x) (needs b x)) (opened a ch) (opened-less a h.1),
    each_more (Less b) (Less (par n a b)) (part b (par n a b) λ x. or-from-right (needs a x) (needs b x)) (opened b ch) (opened-less b h.2),
  )
  opened-less (atom n c) h = alone (atom n c) tt h
