-- From where a reading ended to what is told of it. Assumes nothing.
use Prim.Native.Nat.{ℕ, zero, suc, ◌<◌}
use mathlib.Core.Path.{◌≡◌, refl, sym, ap, subst}
use mathlib.Core.Bool.{Bool}
use mathlib.Core.List.{List, [], ◌∷◌, ◌++◌}
use native.Mathlib.Omega.{arith}
use lib.ListN.{length, drop, replicate, length-append}
use lib.Seq.{append_snoc}
use Rattle.grammar.specs.Places.{Spot, spot, Spelled}
use Rattle.grammar.specs.FieldList.{Entry}
use Rattle.grammar.specs.Reads.{RefusedText, at-a-place, early-end, too-many-nodes, bad-byte, bad-order, unknown-field, outside-32-bits, too-many-names, words_for}
use Rattle.grammar.proofs.Spelling.{spelled-some, spelled-one}
use Rattle.reading.specs.Items.{Item}
use Rattle.reading.specs.Table.{Due}
use Rattle.reading.specs.Progress.{Progress}
use Rattle.reading.proofs.Steps.{right-so-far}
use Rattle.reading.proofs.Ends.{spelled-whole}
use Rattle.fieldlist.specs.declared.FieldRows.{FieldRows}
use Rattle.fieldlist.specs.Answer.{entries_of}
use Rattle.dues.specs.Stack.{Stacked, Standing}
use Rattle.std.specs.Prelude.{Result, Ok, Err}
use Rattle.reader.specs.declared.ReadError.{ReadError}
use Rattle.reader.specs.declared.text.Reading.{Reading}
use Rattle.letters.specs.Upto.{piece_at, Upto, none_yet, one_more}
use Rattle.reader.specs.Says.{Stopped, Tells}
use Rattle.reader.specs.Taking.{Asked}
use Rattle.reader.specs.Why.{why_of, Answers, There, Stops, WhySays}
use Rattle.reader.proofs.ReadLaws.{clears}
use Rattle.reader.proofs.TakingLaws.{tells_all}

-- ---- the places so far are those that were read

-- whatever follows
upto-spelled : {text : List ℕ} {at line : ℕ} {before : List Spot} → Upto text at line before → (ps : List Spot) → Spelled (drop at text) line ps → Spelled text 1 (before ++ ps)
upto-spelled none_yet ps h = h
upto-spelled {text} (one_more {at} {line} {before} {p} u n k) ps h =
    subst (Spelled text 1) (sym (append_snoc before (spot p.line (piece_at text p)) ps))
    (upto-spelled u (spot p.line (piece_at text p) ∷ ps) ((n.found (λ e. omega (arith, k, e))).spelled ps h))

same_start : (xs ys zs : List Spot) → xs ++ zs ≡ ys ++ zs → xs ≡ ys
same_start [] [] zs e = refl
same_start [] (y ∷ ys) zs e = absurd (omega (arith, ap length e, length-append (y ∷ ys) zs))
same_start (x ∷ xs) [] zs e = absurd (omega (arith, ap length e, length-append (x ∷ xs) zs))
same_start (x ∷ xs) (y ∷ ys) zs e =
    let i : x ≡ y = cc in
    let j : xs ++ zs ≡ ys ++ zs = cc in
    let k = same_start xs ys zs j in
    cc

same-places : {fields : List Entry} {text : List ℕ} {at line : ℕ} {names : List (List ℕ)} {ds : List Due} {is : List Item} {before : List Spot}
    (g : Progress fields text at line names ds is) → Upto text at line before → before ≡ g.before
same-places {text = text} {at = at} {line = line} {before = before} g u =
    let rest = spelled-some (drop at text) line in
    same_start before g.before rest.0 (spelled-one (upto-spelled u rest.0 rest.1) (g.spelled rest.0 rest.1))

-- ---- what is told

-- what is refused has a number
some_refusal : {fields : List Entry} {text : List ℕ} {k l : ℕ} → RefusedText fields text k l → 0 < k
some_refusal (at-a-place after s r bad-byte) = omega arith
some_refusal (at-a-place after s r (bad-order e h)) = omega arith
some_refusal (at-a-place after s r (unknown-field g e)) = omega arith
some_refusal (at-a-place after s r (outside-32-bits g h)) = omega arith
some_refusal (at-a-place after s r (too-many-names g e h)) = omega arith
some_refusal (early-end s r h) = omega arith
some_refusal (too-many-nodes s v t h) = omega arith

module _
    (list text : List ℕ) (rows : FieldRows) (start : ℕ) (r : Result Unit ReadError) (t : Reading) (ws ws₁ ws₂ ws' : List ℕ) (could : List Bool)
    (h : Tells list text rows start ws₁ r t ws₂)
  where
    answers : (q : Result Unit ReadError) → Tells list text rows start ws₁ q t ws₂ → Answers (why_of q t.place could).why (entries_of list rows) text (why_of q t.place could).line
    answers (Ok u) k = record { img = _; read = k.finds.read; last = k.stopped.last }
    answers (Err e) k = go e.number refl k.finds
      where
        go : (n : ℕ) → e.number ≡ n → RefusedText (entries_of list rows) text n e.line → Answers n (entries_of list rows) text e.line
        go zero i f = absurd (omega (arith, some_refusal f))
        go (suc n) i f = f

    there : (q : Result Unit ReadError) (k : Stopped list text rows q t ws₂)
        → There t.place.kind (entries_of list rows) text k.progress.before k.progress.tokens t.place (why_of q t.place could).why (why_of q t.place could).line
    there q k = go q k t.place.kind refl
      where
        go : (q : Result Unit ReadError) (k : Stopped list text rows q t ws₂) (j : ℕ)
            → t.place.kind ≡ j
            → There j (entries_of list rows) text k.progress.before k.progress.tokens t.place (why_of q t.place could).why (why_of q t.place could).line
        go q k zero i =
            let n = k.next.at-end i in
            (spelled-whole k.progress n.spelled, n.is-from, n.is-to)
        go (Ok u) k (suc j) i = absurd (k.wrong (omega (arith, i)))
        go (Err e) k (suc j) i =
            let p = t.place in
            let n = k.next.found (λ z. omega (arith, i, z)) in
            let w = k.wrong (omega (arith, i)) in
            let rest = spelled-some (drop p.to text) p.line in
            record {
              after = rest.0;
              spelled = rw w.1 (k.progress.spelled _ (n.spelled rest.0 rest.1));
              wrong = w.0;
              not-empty = n.not-empty;
              within = n.within;
            }

    module _
        (asked : (ds : List Due) → Stacked ds t.depth ws₂ → Asked ds 29 could)
        (past : drop (words_for (length text)) ws₁ ≡ drop (words_for (length text)) ws)
        (c : ws' ≡ replicate (words_for (length text)) 0 ++ drop (words_for (length text)) ws₂)
      where
        shape : (q : Result Unit ReadError) → ((why_of q t.place could).kind ≡ t.place.kind) × ((why_of q t.place could).from ≡ t.place.from) × ((why_of q t.place could).to ≡ t.place.to)
        shape (Ok u) = (refl, refl, refl)
        shape (Err e) = (refl, refl, refl)

        flags : (q : Result Unit ReadError) → (why_of q t.place could).could ≡ could
        flags (Ok u) = refl
        flags (Err e) = refl

        stops : Stops (entries_of list rows) text (why_of r t.place could)
        stops =
            let s = h.stopped in
            record {
              before = s.progress.before;
              tokens = s.progress.tokens;
              right = right-so-far s.progress;
              at = s.at;
              line = s.line;
              upto = rw (← same-places s.progress s.upto) s.upto;
              place = t.place;
              next = s.next;
              is = shape r;
              there = there r s;
              could = rw (flags r) (tells_all s.progress could (asked s.dues s.stacked));
            }

        pub told-why : WhySays list text rows (why_of r t.place could) ws ws'
        told-why = record { answers = answers r h; stops = stops; words = clears text ws ws₁ ws₂ ws' past h.lasting c }
