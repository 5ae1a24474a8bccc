-- What is read from words in which a state is laid out is that state: its frames and its objects, all of them, in their order.
-- Every object has the script's fields, which the caller knows of its state. Assumes nothing.
use Prim.Native.Nat.{ℕ, ◌%◌, ◌<◌, ◌≤◌}
use mathlib.Core.Path.{◌≡◌, sym, ap, ◌∙◌}
use mathlib.Core.Option.{Option, some}
use mathlib.Core.List.{List}
use native.Mathlib.Omega.{arith}
use lib.ListN.{length, get_elem?}
use Rattle.rules.specs.declared.Value.{Value}
use Rattle.rules.specs.State.{Store, AnObject, object, object_at, frames_used, objects_used}
use Rattle.rules.specs.Control.{Control}
use Rattle.rules.specs.Image.{fields_of}
use Rattle.words.specs.Layout.{value_word, frame_count, object_count, value_end}
use Rattle.words.specs.Decode.{value_of}
use Rattle.words.specs.LaidOut.{LaidOut}
use Rattle.words.proofs.Back.{value-small, value-back}
use Rattle.words.proofs.Reading.{frame-count, object-count, few-frames, few-objects, frame-at, field-word}
use Rattle.show.specs.Entries.{frame_in, field_word_in, listed, at_most, frames_up_to, frames_in, fields_up_to, object_in, objects_up_to, objects_in}
use Rattle.show.proofs.Listed.{listed-is}

-- a number of 35 bits has no more
low : (w : ℕ) → w < value_end → w % value_end ≡ w
low w l = omega arith

-- a count within its limit
within : (most n m : ℕ) → n ≡ m → n ≤ most → at_most most n ≡ m
unfolding at_most
within most n m e h = omega arith

module _ (s : Store) (c : Option Control) (rest ws : List ℕ) (h : LaidOut s c rest ws) where
  pub frames-are : frames_in ws ≡ s.frames
  unfolding frames_in frames_up_to
  frames-are =
      ap (listed (frame_in ws)) (within 1024 (frame_count ws) (frames_used s) (frame-count s c rest ws h) (few-frames s c rest ws h))
      ∙ listed-is s.frames (frame_in ws) (frame-at s c rest ws h)

  field_is : (o i : ℕ) (obj : AnObject) (v : Value) → object_at s o ≡ some obj → get_elem? obj.values i ≡ some v → field_word_in ws o i ≡ v
  field_is o i obj v e d =
      let fits = (h.good.objects o obj e).fields i v d in
      ap (λ (w : ℕ). value_of (w % value_end)) (field-word s c rest ws h o i obj v e d)
      ∙ ap value_of (low (value_word v) (value-small v fits))
      ∙ value-back v fits

  module _ (img : List ℕ)
      (full : (k : ℕ) (obj : AnObject) → object_at s k ≡ some obj → length obj.values ≡ fields_of img) where
    object-is : (o : ℕ) (obj : AnObject) → object_at s o ≡ some obj → object_in img ws o ≡ obj
    unfolding object_in fields_up_to
    object-is o obj e =
        let l = full o obj e in
        let few = (h.good.objects o obj e).few in
        ap object
        (ap (listed (field_word_in ws o)) (within 16 (fields_of img) (length obj.values) (sym l) (omega arith))
        ∙ listed-is obj.values (field_word_in ws o) (λ i v d. field_is o i obj v e d))

    pub objects-are : objects_in img ws ≡ s.objects
    unfolding objects_in objects_up_to
    objects-are =
        ap (listed (object_in img ws)) (within 256 (object_count ws) (objects_used s) (object-count s c rest ws h) (few-objects s c rest ws h))
        ∙ listed-is s.objects (object_in img ws) object-is
