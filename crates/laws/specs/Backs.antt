-- A function with a way back tells its arguments apart. Assumes nothing.
use Rattle.std.specs.Prelude.{◌≡◌}
use Rattle.std.proofs.Common.{sym, ap, ◌∙◌}

pub one-back : {A B : Type 0} (f : A → B) (g : B → A) → ((a : A) → g (f a) ≡ a) → (a c : A) → f a ≡ f c → a ≡ c
one-back f g back a c e = sym (back a) ∙ ap g e ∙ back c
