-- A place, once it is judged: what the code does next may be done, and where the reader is then. Assumes nothing.
use Prim.Native.Nat.{ℕ, ◌+◌, ◌<◌, ◌≤◌}
use mathlib.Core.Path.{◌≡◌, sym, subst, ◌∙◌}
use mathlib.Core.Bool.{Bool, true, false}
use mathlib.Core.List.{List, [], ◌∷◌, ◌++◌}
use native.Mathlib.Omega.{arith}
use lib.ListN.{length, set, take as first_of, length-set}
use lib.Seq.{slice, length-take-le}
use Rattle.std.specs.Prelude.{Result, Ok, Err}
use Rattle.std.specs.Option.{ForSome}
use Rattle.laws.specs.UpTo.{length-up_to}
use Rattle.rules.specs.Image.{most_names}
use Rattle.grammar.specs.Places.{spot}
use Rattle.grammar.specs.Reads.{Wrong as WrongAt}
use Rattle.letters.specs.declared.places.Place.{Place}
use Rattle.fieldlist.specs.declared.FieldRows.{FieldRows}
use Rattle.fieldlist.specs.declared.names.Span.{Span}
use Rattle.fieldlist.specs.Names.{Spans, words}
use Rattle.fieldlist.specs.Answer.{entries_of}
use Rattle.fieldlist.proofs.SameLaws.{words-front, spans-front}
use Rattle.dues.specs.Stack.{Standing}
use Rattle.judging.specs.declared.judge.Taken.{Taken}
use Rattle.judging.specs.declared.wrong.Wrong.{Wrong}
use Rattle.judging.specs.Wrong.{wrong_no}
use Rattle.building.specs.Built.{Passed}
use Rattle.letters.specs.Upto.{piece_at, Upto, one_more}
use Rattle.judging.specs.Judged.{TakenAs, Noted, Judges, JudgeSays}
use Rattle.reader.specs.Under.{Under, TakeSays, Facing}
use Rattle.reader.proofs.NameLaws.{named_more, spans-more}
use Rattle.reader.proofs.StepLaws.{taken-passed, taken-room, taken-tag, taken-under}

names-long : (text : List ℕ) (spans : List Span) (n : ℕ) → length (words text spans n) ≡ n
unfolding words
names-long text spans n = length-up_to _ n

module _
    {list text : List ℕ} {rows : FieldRows} {p : Place} {at line n depth start m : ℕ} {ws₀ ws img firsts : List ℕ} {spans : List Span}
    (f : Facing list text rows p at line n depth start m spans ws₀ ws img firsts)
  where
    pub stands : Standing depth ws
    stands = record { dues = f.under.dues; stacked = f.under.stacked }

    more : 0 < p.kind → Upto text p.to p.line (f.under.places ++ (spot p.line (piece_at text p) ∷ []))
    more h = one_more f.under.upto f.next h

    pub forward : p.from < p.to
    forward = f.found.not-empty

    pub few : n ≤ length spans
    few = omega (arith, f.under.few, f.under.spans-long)

    -- the names that the judge is shown
    pub shown : length (first_of n spans) ≤ most_names × Spans text (first_of n spans) (length (first_of n spans))
    shown = (rw (length-take-le n spans few) f.under.few, spans-front text spans n few f.under.names)

    module _ (j : Result Taken Wrong) (s : JudgeSays (entries_of list rows) text at line (words text (first_of n spans) (length (first_of n spans))) depth ws p j) where
      judges : Judges (entries_of list rows) text f.under.progress.before f.under.progress.tokens (words text spans n) f.under.dues p j
      judges =
          let front = words-front text spans n few in
          (subst (λ (ns : List (List ℕ)). JudgeSays (entries_of list rows) text at line ns depth ws p j) front s).says f.under.dues f.under.items f.under.progress f.under.stacked

      pub is-taken : {t : Taken} → j ≡ Ok t
          → TakenAs (entries_of list rows) (words text spans n) f.under.dues (piece_at text p) p.kind t.at t.dues t.made
          × Noted (words text spans n) (piece_at text p) (slice p.from p.to text) t.new
      is-taken e = subst (λ (y : Result Taken Wrong). Judges (entries_of list rows) text f.under.progress.before f.under.progress.tokens (words text spans n) f.under.dues p y) e judges

      pub is-wrong : {w : Wrong} → j ≡ Err w → WrongAt (entries_of list rows) f.under.progress.before f.under.progress.tokens (piece_at text p) (wrong_no w)
      is-wrong e = subst (λ (y : Result Taken Wrong). Judges (entries_of list rows) text f.under.progress.before f.under.progress.tokens (words text spans n) f.under.dues p y) e judges

      module _ {t : Taken} (e : j ≡ Ok t) where
        -- what is new, or isn't
        noted-as : (b : Bool) → t.new ≡ b → Noted (words text spans n) (piece_at text p) (slice p.from p.to text) b
        noted-as b h = subst (λ (b : Bool). Noted (words text spans n) (piece_at text p) (slice p.from p.to text) b) h (is-taken e).1

        -- a new name has room
        pub name-room : t.new ≡ true → n < 128
        name-room h = omega (arith, (noted-as true h).1, names-long text spans n)

        -- what the code may do with what is taken
        pub may-pass : Passed ws depth (t.at + 1) p.kind
        may-pass = taken-passed f.under (is-taken e).0

        pub may-put : 0 < p.kind → ForSome t.made (λ m. m.tag < 65536)
        may-put h = taken-tag f.under p f.found h (is-taken e).0

        pub may-pile : t.at + 4 ≤ length ws
        may-pile =
            let inside : at < length text = omega (arith, f.found.not-before, f.found.not-empty, f.found.within) in
            taken-room f.under (is-taken e).0 inside

        -- behind it
        pub told-taken : (h : 0 < p.kind) {depth' m' : ℕ} {ws' img' firsts' : List ℕ}
            → t.new ≡ false
            → TakeSays p.kind t.at depth start m t.dues t.made depth' m' ws img firsts ws' img' firsts'
            → Under list text rows p.to p.line n depth' start m' spans ws₀ ws' img' firsts'
        told-taken h o k =
            taken-under f.under p f.found h (is-taken e).0 (more h) f.lines f.under.few f.under.names f.under.spans-long (noted-as false o) k

        pub told-name : (h : 0 < p.kind) {depth' m' : ℕ} {ws' img' firsts' : List ℕ}
            → t.new ≡ true
            → TakeSays p.kind t.at depth start m t.dues t.made depth' m' ws img firsts ws' img' firsts'
            → Under list text rows p.to p.line (n + 1) depth' start m' (set spans n (record { from = p.from; to = p.to })) ws₀ ws' img' firsts'
        told-name h o k =
            let v : Span = record { from = p.from; to = p.to } in
            let a : n < length spans = omega (arith, name-room o, f.under.spans-long) in
            taken-under f.under p f.found h (is-taken e).0 (more h) f.lines (omega (arith, name-room o))
            (spans-more text spans n v a f.under.names (omega (arith, forward)) f.found.within)
            (length-set spans n v ∙ f.under.spans-long)
            ((noted-as true o).0 ∙ sym (named_more text spans n v a)) k
