-- The cut of the reads is not seen: of a text the first 262,145 bytes, and of a list the first 4,097, give what the whole files give. Assumes nothing.
use Prim.Native.Nat.{ℕ, suc, ◌<◌, ◌≤◌}
use mathlib.Core.Path.{◌≡◌, refl, subst, ap, ◌∙◌}
use mathlib.Core.Option.{Option, some}
use mathlib.Core.List.{List}
use native.Mathlib.Omega.{arith}
use native.Mathlib.Decide.{dec_lt}
use lib.ListN.{length, take}
use lib.Seq.{take_all, length-take-le}
use Rattle.encoder.specs.Encodes.{most_text, most_list, Encodes, text-too-long, list-too-long, an-image, bad-list, bad-text}

-- one byte more than the limit tells whether a file is too long
whole : (n : ℕ) (s : List ℕ) → length (take (suc n) s) ≤ n → take (suc n) s ≡ s
whole n s h = elim (dec_lt n (length s)) [
  | yes l ↦ let e = length-take-le (suc n) s (omega arith) in absurd (omega arith)
  | no f ↦ take_all (suc n) s (omega arith)
]

too_long : (n : ℕ) (s : List ℕ) → n < length (take (suc n) s) → n < length s
too_long n s h = elim (dec_lt n (length s)) [
  | yes l ↦ l
  | no f ↦ let e = ap length (take_all (suc n) s (omega arith)) in absurd (omega arith)
]

module _ (name text list : List ℕ) where
  same : {text' list' lines : List ℕ} {image : Option (List ℕ)} → text' ≡ text → list' ≡ list → Encodes name (some text') (some list') lines image
      → Encodes name (some text) (some list) lines image
  same {text'} {list'} {lines} {image} e f x =
      subst (λ (t : List ℕ). Encodes name (some t) (some list) lines image) e
      (subst (λ (l : List ℕ). Encodes name (some text') (some l) lines image) f x)

  cut : {text' list' lines : List ℕ} {image : Option (List ℕ)} → text' ≡ take (suc most_text) text → list' ≡ take (suc most_list) list
      → Encodes name (some text') (some list') lines image → Encodes name (some text) (some list) lines image
  cut e f (text-too-long h) = text-too-long (too_long most_text text (omega (arith, ap length e)))
  cut e f (list-too-long h i) =
      let w = whole most_text text (omega (arith, ap length e)) in
      list-too-long {text = text} {list = list} (omega (arith, ap length e, ap length w)) (too_long most_list list (omega (arith, ap length f)))
  cut e f (an-image s r) =
      same (e ∙ whole most_text text (omega (arith, ap length e, s.0))) (f ∙ whole most_list list (omega (arith, ap length f, s.1))) (an-image s r)
  cut e f (bad-list s w) =
      same (e ∙ whole most_text text (omega (arith, ap length e, s.0))) (f ∙ whole most_list list (omega (arith, ap length f, s.1))) (bad-list s w)
  cut e f (bad-text s l r w) =
      same (e ∙ whole most_text text (omega (arith, ap length e, s.0))) (f ∙ whole most_list list (omega (arith, ap length f, s.1))) (bad-text s l r w)

  pub cut-unseen : {lines : List ℕ} {image : Option (List ℕ)} → Encodes name (some (take 262145 text)) (some (take 4097 list)) lines image
      → Encodes name (some text) (some list) lines image
  cut-unseen x = cut refl refl x
