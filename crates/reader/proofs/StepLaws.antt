-- A place that is taken: the reader is behind it, with what is due instead on the stack and the nodes in the image. Assumes nothing.
use Prim.Native.Nat.{ℕ, zero, suc, ◌+◌, ◌*◌, ◌-◌, ◌<◌, ◌≤◌}
use mathlib.Core.Path.{◌≡◌, refl, sym, ap, subst, ◌∙◌}
use mathlib.Core.Bool.{Bool, true, false, true≢false, cond}
use mathlib.Core.List.{List, [], ◌∷◌, ◌++◌, map, append_assoc, map-append}
use mathlib.Core.Option.{Option, none, some}
use native.Mathlib.Omega.{arith}
use lib.ListN.{length, get_or, take as first_of, drop, length-append}
use lib.Dec.{eqb}
use borrow.Author.Tests.{eq-eqb}
use lib.Seq.{drop-drop}
use Rattle.grammar.specs.Reads.{words_for}
use Rattle.reading.specs.Items.{Item, put}
use Rattle.reading.specs.Table.{Due, take, does, feed, went}
use Rattle.dues.specs.declared.Dues.{Dues}
use Rattle.dues.specs.declared.Made.{Made}
use Rattle.dues.specs.Words.{due_word, due_words, made_items, NameFits}
use Rattle.dues.specs.Stack.{DueFits, AllFit, Stacked, PassesAll, passed_items, Piled}
use Rattle.dues.proofs.StackLaws.{stack-left, stack-length}
use Rattle.dues.proofs.PassLaws.{feed-above}
use Rattle.dues.proofs.KeepLaws.{ActFits, ItemsFit, does-fit}
use Rattle.rules.specs.Image.{most_names}
use Rattle.grammar.specs.Places.{Piece, spot, variable, field_word, digits, marked, bad_byte, decimal, line_from}
use Rattle.grammar.specs.Tokens.{Tok, name, field_name, number, mark, kind_of, value_of}
use Rattle.grammar.specs.FieldList.{word_of, position_of}
use Rattle.grammar.specs.Names.{noted, by_name, by_field, token_of}
use Rattle.grammar.proofs.Numbering.{position-below}
use Rattle.reading.specs.Progress.{Progress}
use Rattle.reading.proofs.Steps.{goes_on}
use Rattle.reading.proofs.Longer.{token-known}
use Rattle.letters.specs.declared.places.Place.{Place}
use Rattle.letters.specs.Says.{Found, piece_by}
use Rattle.fieldlist.specs.declared.FieldRows.{FieldRows}
use Rattle.std.specs.Prelude.{Option as Answered, Some, None}
use Rattle.std.specs.Option.{ForSome}
use Rattle.fieldlist.specs.declared.names.Span.{Span}
use Rattle.fieldlist.specs.Names.{Spans, words}
use Rattle.fieldlist.specs.Answer.{entries_of}
use Rattle.building.specs.Built.{Passed}
use Rattle.letters.specs.Upto.{piece_at, Upto}
use Rattle.judging.specs.Judged.{TakenAs}
use Rattle.reader.specs.Under.{Lasting, Under, TakeSays}

-- ---- the stack

-- all of the parts of a list fit
fit-left : (above left : List Due) → AllFit (above ++ left) → AllFit left
fit-left [] left h = h
fit-left (d ∷ above) left h = fit-left above left h.1

fit-both : (us vs : List Due) → AllFit us → AllFit vs → AllFit (us ++ vs)
fit-both [] vs h g = g
fit-both (d ∷ us) vs h g = (h.0, fit-both us vs h.1 g)

-- what is due instead stands on what was left
pub piled-stack : (above left instead : List Due) (taker : Due) (depth q m : ℕ) (ws ws' : List ℕ) (d : Dues)
    → Stacked (above ++ (taker ∷ left)) depth ws
    → length left ≡ q
    → AllFit instead
    → due_words d ≡ map due_word instead
    → m ≤ length ws
    → Piled (due_words d) q m ws ws'
    → Stacked (instead ++ left) m ws'
piled-stack above left instead taker depth q m ws ws' d s c f e l p =
    let under = stack-left (above ++ (taker ∷ [])) left depth ws (rw (append_assoc above (taker ∷ []) left) s) in
    record {
      is =
          p.stack
          ∙ rw (e, ← c) (ap (λ (vs : List ℕ). map due_word instead ++ vs) under.is ∙ sym (map-append due_word instead left));
      fit = fit-both instead left f under.fit;
      inside = omega (arith, p.same_length, l);
    }

-- ---- the table's own step

pub fed-there : (above left instead : List Due) (taker : Due) (k v : ℕ) (is nodes : List Item)
    → PassesAll above k
    → does taker k v ≡ take instead nodes
    → feed (above ++ (taker ∷ left)) k v is ≡ went (instead ++ left) (is ++ (passed_items above ++ nodes))
unfolding feed
fed-there above left instead taker k v is nodes p t =
    feed-above above (taker ∷ left) k v is p ∙ rw t (ap (λ (js : List Item). went (instead ++ left) js) (append_assoc is (passed_items above) nodes))

-- the node that comes out has a small tag
none-some : {x : Made} → ◌≡◌ {A = Answered Made} None (Some x) → ⊥
none-some e = cc

same-made : {x y : Made} → Some x ≡ Some y → x ≡ y
same-made e = cc

pub small-tag : (o : Answered Made) (nodes : List Item) → ItemsFit nodes → made_items o ≡ nodes → ForSome o (λ m. m.tag < 65536)
small-tag None nodes f e = λ m h. absurd (none-some h)
small-tag (Some x) nodes f e = λ m h.
    let g : ItemsFit (put x.tag x.value ∷ []) = subst ItemsFit (sym e) f in
    let l : x.tag < 65536 = omega (arith, g.0) in
    subst (λ (y : Made). y.tag < 65536) (same-made h) l

-- ---- the words

pub lasts : (text ws₀ ws ws' : List ℕ) (vs : List ℕ) (q m : ℕ) → Lasting text ws₀ ws → Piled vs q m ws ws' → m ≤ words_for (length text) → Lasting text ws₀ ws'
lasts text ws₀ ws ws' vs q m l p h =
    record {
      enough = l.enough;
      same_length = p.same_length ∙ l.same_length;
      past = later ws' ws m (words_for (length text)) h p.past ∙ l.past;
    }
  where
    later : (us vs : List ℕ) (n k : ℕ) → n ≤ k → drop n us ≡ drop n vs → drop k us ≡ drop k vs
    later us vs n k g e =
        let i : n + (k - n) ≡ k = omega arith in
        ap (λ (j : ℕ). drop j us) (sym i)
        ∙ sym (drop-drop (k - n) n us)
        ∙ ap (λ (l : List ℕ). drop (k - n) l) e
        ∙ drop-drop (k - n) n vs
        ∙ ap (λ (j : ℕ). drop j vs) i

-- ---- what stands at a place is a mark only by a kind of marks

pub marks-above : (k : ℕ) (w : List ℕ) → 0 < k → (j : ℕ) → piece_by k w ≡ marked j → 3 < j
unfolding piece_by
marks-above k w h j = go (eqb k 1) refl (eqb k 2) refl (eqb k 3) refl (eqb k 29) refl
  where
    go : (a : Bool)
        → eqb k 1 ≡ a
        → (b : Bool)
        → eqb k 2 ≡ b
        → (c : Bool)
        → eqb k 3 ≡ c
        → (d : Bool)
        → eqb k 29 ≡ d
        → cond a (variable w) (cond b (field_word w) (cond c (digits (decimal w)) (cond d (bad_byte (get_or w 0 0)) (marked k)))) ≡ marked j
        → 3 < j
    go true p b q c r d s e = absurd (let z : ◌≡◌ {A = ℕ} 1 0 = cc in omega arith)
    go false p true q c r d s e = absurd (let z : ◌≡◌ {A = ℕ} 1 0 = cc in omega arith)
    go false p false q true r d s e = absurd (let z : ◌≡◌ {A = ℕ} 1 0 = cc in omega arith)
    go false p false q false r true s e = absurd (let z : ◌≡◌ {A = ℕ} 1 0 = cc in omega arith)
    go false p false q false r false s e =
        let i : k ≡ j = cc in
        let x = other k 1 p in
        let y = other k 2 q in
        let z = other k 3 r in
        omega arith
      where
        other : (k n : ℕ) → eqb k n ≡ false → k ≡ n → ⊥
        other k n e i = true≢false (sym (eq-eqb k n i) ∙ e)

-- the value of a name is below 128
small-name : (fields ns : List (List ℕ)) (p : Piece) {t : Tok} → token_of fields ns p ≡ some t → kind_of t ≡ 1 → length ns ≤ most_names → value_of t < 128
unfolding token_of kind_of value_of
small-name fields ns (variable w) {t} e k l = go (position_of w ns) refl e
  where
    go : (o : Option ℕ) → position_of w ns ≡ o → by_name o ≡ some t → value_of t < 128
    go none i e = absurd (let z : ◌≡◌ {A = ℕ} 1 0 = cc in omega arith)
    go (some x) i e = let j : name x ≡ t = cc in rw (← j) (omega (arith, position-below w ns i, l))
small-name fields ns (field_word w) {t} e k l = go (position_of w fields) e
  where
    go : (o : Option ℕ) → by_field o ≡ some t → value_of t < 128
    go none e = absurd (let z : ◌≡◌ {A = ℕ} 1 0 = cc in omega arith)
    go (some x) e = let j : field_name (suc x) ≡ t = cc in absurd (let z : ◌≡◌ {A = ℕ} 2 1 = ap kind_of j ∙ k in omega arith)
small-name fields ns (digits n) {t} e k l = let j : number n ≡ t = cc in absurd (let z : ◌≡◌ {A = ℕ} 3 1 = ap kind_of j ∙ k in omega arith)
small-name fields ns (marked m) {t} e k l = let j : mark m ≡ t = cc in rw (← j) (omega arith)
small-name fields ns (bad_byte b) {t} e k l = absurd (let z : ◌≡◌ {A = ℕ} 1 0 = cc in omega arith)

-- four things due at most come instead
four-at-most : (j a b c d : ℕ) → length (first_of j (a ∷ b ∷ c ∷ d ∷ [])) ≤ 4
four-at-most zero a b c d = omega arith
four-at-most (suc zero) a b c d = omega arith
four-at-most (suc (suc zero)) a b c d = omega arith
four-at-most (suc (suc (suc zero))) a b c d = omega arith
four-at-most (suc (suc (suc (suc j)))) a b c d = rw (none j) (omega arith)
  where
    none : (j : ℕ) → first_of {A = ℕ} j [] ≡ []
    none zero = refl
    none (suc j) = refl

-- ---- a token that is taken, where the reader stands

module _
    {list text : List ℕ} {rows : FieldRows} {at line n depth start m : ℕ} {ws₀ ws img firsts : List ℕ} {spans : List Span}
    (u : Under list text rows at line n depth start m spans ws₀ ws img firsts)
  where
    -- what it passes stands above
    pub taken-passed : {p : Piece} {k q : ℕ} {d : Dues} {x : Answered Made} → TakenAs (entries_of list rows) (words text spans n) u.dues p k q d x → Passed ws depth (q + 1) k
    taken-passed t =
        record {
          above = t.above;
          left = t.taker ∷ t.left;
          stacked = rw (← t.split) u.stacked;
          count = omega (arith, t.count);
          passes = t.passes;
        }

    pub taken-depth : {p : Piece} {k q : ℕ} {d : Dues} {x : Answered Made} → TakenAs (entries_of list rows) (words text spans n) u.dues p k q d x → q + 1 ≤ depth
    taken-depth t =
        omega
        (arith, stack-length u.dues depth ws u.stacked, ap length t.split, length-append t.above (t.taker ∷ t.left), t.count)

    -- there is room for what comes instead
    pub taken-room : {p : Piece} {k q : ℕ} {d : Dues} {x : Answered Made} → TakenAs (entries_of list rows) (words text spans n) u.dues p k q d x → at < length text → q + 4 ≤ length ws
    taken-room t h = omega (arith, taken-depth t, u.shallow, u.lasting.enough, u.lasting.same_length)

    module _ (r : Place) (f : Found text at line r) (h : 0 < r.kind) {q : ℕ} {d : Dues} {x : Answered Made} (t : TakenAs (entries_of list rows) (words text spans n) u.dues (piece_at text r) r.kind q d x) where
      taker-fits : DueFits t.taker
      taker-fits = (fit-left t.above (t.taker ∷ t.left) (rw (← t.split) u.stacked.fit)).0

      name-fits : NameFits r.kind t.value
      name-fits e = rw (← t.valid.value) (small-name _ _ (piece_at text r) t.valid.is (t.valid.kind ∙ e) t.valid.few)

      instead-fits : ActFits (take t.instead t.nodes)
      instead-fits = subst ActFits t.takes (does-fit t.taker r.kind t.value taker-fits name-fits)

      pub taken-tag : ForSome x (λ m. m.tag < 65536)
      taken-tag = small-tag x t.nodes instead-fits.1 t.items

      -- how far the text has been read then
      taken-progress : Progress (entries_of list rows) text r.to r.line (noted (words text spans n) (piece_at text r)) (t.instead ++ t.left) (u.items ++ (passed_items t.above ++ t.nodes))
      taken-progress =
          goes_on u.progress (piece_at text r) r.to r.line f.spelled t.valid.is
          (token-known (map word_of (entries_of list rows)) _ (piece_at text r) t.valid.is (marks-above r.kind _ h))
          t.valid.few
          (rw (t.valid.kind, t.valid.value, t.split) (fed-there t.above t.left t.instead t.taker r.kind t.value u.items t.nodes t.passes t.takes))

      -- the reader behind it, with the names that there are then
      pub taken-under : {spans' : List Span} {n' : ℕ} {depth' m' : ℕ} {ws' img' firsts' : List ℕ}
          → Upto text r.to r.line (u.places ++ (spot r.line (piece_at text r) ∷ []))
          → line_from r.line (drop r.to text) ≡ line_from line (drop at text)
          → n' ≤ most_names
          → Spans text spans' n'
          → length spans' ≡ most_names
          → noted (words text spans n) (piece_at text r) ≡ words text spans' n'
          → TakeSays r.kind q depth start m d x depth' m' ws img firsts ws' img' firsts'
          → Under list text rows r.to r.line n' depth' start m' spans' ws₀ ws' img' firsts'
      taken-under {depth' = depth'} {ws' = ws'} o l fw sp sl ns k =
          let four = four-at-most d.count d.a d.b d.c d.d in
          let deep : depth' ≤ 3 * r.to + 1 = omega (arith, k.piled.count, four, taken-depth t, u.shallow, f.not-before, f.not-empty) in
          let fits : depth' ≤ words_for (length text) = omega (arith, deep, f.within) in
          record {
            inside = f.within;
            lines = f.few-lines;
            last = l ∙ u.last;
            few = fw;
            names = sp;
            spans-long = sl;
            shallow = deep;
            lasting = lasts text ws₀ ws ws' (due_words d) q depth' u.lasting k.piled fits;
            places = u.places ++ (spot r.line (piece_at text r) ∷ []);
            upto = o;
            dues = t.instead ++ t.left;
            items = u.items ++ (passed_items t.above ++ t.nodes);
            progress = rw (← ns) taken-progress;
            stacked =
                piled-stack t.above t.left t.instead t.taker depth q depth' ws ws' d (rw (← t.split) u.stacked) t.count instead-fits.0 t.words
                (omega (arith, fits, u.lasting.enough, u.lasting.same_length)) k.piled;
            built = rw (← t.items) ((k.adds t.above (t.taker ∷ t.left) (rw (← t.split) u.stacked) (omega (arith, t.count)) t.passes).adds u.items u.built);
          }
