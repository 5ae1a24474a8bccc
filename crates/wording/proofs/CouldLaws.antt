-- The list of what could have stood, told word by word. The code counts the rows of the table from 0: row i is of kind i + 1, and the last of
-- kind 0. Assumes nothing.
use Prim.Native.Nat.{ℕ, zero, suc, ◌+◌, ◌*◌, ◌%◌, ◌<◌, ◌≤◌}
use mathlib.Core.Path.{◌≡◌, refl, sym, ap, ◌∙◌}
use mathlib.Core.Bool.{Bool, true, false, cond, not, ◌&&◌}
use mathlib.Core.List.{List, [], ◌∷◌, ◌++◌, append_assoc, append-nil}
use native.Mathlib.Omega.{arith}
use native.Mathlib.Nat.{add-zero}
use native.Mathlib.Numerals.{add-one}
use lib.ListN.{length, get_or, length-append}
use Rattle.laws.specs.UpTo.{up_to, up_to-add}
use Rattle.text.specs.Ascii.{ascii}
use Rattle.text.specs.declared.Page.{Page}
use Rattle.text.specs.Written.{HasRoom, Adds}
use Rattle.text.proofs.WroteLaws.{both-adds, adds_as, none-adds, more-adds}
use Rattle.wording.specs.Lines.{Row, row, words_of, kinds, tells, told_of, further, joined, could_be}
use Rattle.wording.specs.Words.{item, piece, count_after, TellSays}

-- ---- one word

pub item-first : (n : ℕ) (w x : List ℕ) (d o : Page) → n ≡ 0 → x ≡ w → length x ≤ 8 → Adds (length x) d x o → Adds 10 d (item n w) o
unfolding item
item-first n w x d o e i l v = rw e (adds_as (length x) 10 d o x w v i (omega arith))

pub item-next : (n : ℕ) (w x : List ℕ) (d e o : Page) → (n ≡ 0 → ⊥) → x ≡ w → length x ≤ 8 → Adds 2 d (ascii ", ") e → Adds (length x) e x o
    → Adds 10 d (item n w) o
unfolding item
item-next zero w x d e o f i l v y = absurd (f refl)
item-next (suc n) w x d e o f i l v y = both-adds 2 8 d e o (ascii ", ") w v (adds_as (length x) 8 e o x w y i l)

module _ (could : List Bool) (k n : ℕ) (b : Bool) (is : b ≡ tells could k) where
  pub told-not : (d : Page) → not b ≡ true → TellSays could k n d n d
  unfolding piece count_after
  told-not d e =
      let f : tells could k ≡ false = sym is ∙ no b e in
      record { wrote = rw f (adds_as 0 10 d d [] [] (none-adds d) refl (omega arith)); many = rw f }
    where
      no : (x : Bool) → not x ≡ true → x ≡ false
      no true h = sym h
      no false h = refl

  pub told-so : (d o : Page) → not b ≡ false → Adds 10 d (item n (words_of k kinds)) o → TellSays could k n d (n + 1) o
  unfolding piece count_after
  told-so d o e w =
      let f : tells could k ≡ true = sym is ∙ yes b e in
      record { wrote = rw f w; many = rw f (add-one n) }
    where
      yes : (x : Bool) → not x ≡ false → x ≡ true
      yes true h = refl
      yes false h = sym h

-- ---- word by word

unfoldable pub row_at : ℕ → Row
row_at i = row ((i + 1) % 28) (words_of ((i + 1) % 28) kinds)

rows_are : kinds ≡ up_to row_at 28
unfolding kinds up_to row_at words_of
rows_are = refl

further-snoc : (ws : List (List ℕ)) (w : List ℕ) → further (ws ++ (w ∷ [])) ≡ further ws ++ (ascii ", " ++ w)
unfolding further
further-snoc [] w = ap (λ (l : List ℕ). ascii ", " ++ l) (append-nil w)
further-snoc (v ∷ ws) w =
    ap (λ (l : List ℕ). ascii ", " ++ l)
    (ap (λ (l : List ℕ). v ++ l) (further-snoc ws w) ∙ sym (append_assoc v (further ws) (ascii ", " ++ w)))

joined_snoc : (ws : List (List ℕ)) (w : List ℕ) → joined (ws ++ (w ∷ [])) ≡ joined ws ++ item (length ws) w
unfolding joined item further
joined_snoc [] w = append-nil w
joined_snoc (v ∷ ws) w = ap (λ (l : List ℕ). v ++ l) (further-snoc ws w) ∙ sym (append_assoc v (further ws) (ascii ", " ++ w))

told_of-append : (could : List Bool) (rs ss : List Row) → told_of could (rs ++ ss) ≡ told_of could rs ++ told_of could ss
unfolding told_of
told_of-append could [] ss = refl
told_of-append could (row k w ∷ rs) ss = go (tells could k) (told_of-append could rs ss)
  where
    go : (b : Bool) → told_of could (rs ++ ss) ≡ told_of could rs ++ told_of could ss
        → cond b (w ∷ told_of could (rs ++ ss)) (told_of could (rs ++ ss)) ≡ cond b (w ∷ told_of could rs) (told_of could rs) ++ told_of could ss
    go true e = ap (λ (l : List (List ℕ)). w ∷ l) e
    go false e = e

unfoldable pub so_far : List Bool → ℕ → List (List ℕ)
so_far could i = told_of could (up_to row_at i)

so_far_more : (could : List Bool) (i : ℕ)
    → so_far could (i + 1) ≡ so_far could i ++ cond (tells could ((i + 1) % 28)) (words_of ((i + 1) % 28) kinds ∷ []) []
unfolding so_far up_to told_of row_at
so_far_more could i =
    ap (told_of could) (up_to-add row_at i 1)
    ∙ told_of-append could (up_to row_at i) (up_to (λ k. row_at (i + k)) 1)
    ∙ rw (add-zero i)

step : (b : Bool) (ws : List (List ℕ)) (w : List ℕ) (n : ℕ) → n ≡ length ws → joined (ws ++ cond b (w ∷ []) []) ≡ joined ws ++ cond b (item n w) []
step true ws w n e = joined_snoc ws w ∙ ap (λ (m : ℕ). joined ws ++ item m w) (sym e)
step false ws w n e = ap joined (append-nil ws) ∙ sym (append-nil (joined ws))

counts : (b : Bool) (ws : List (List ℕ)) (w : List ℕ) (n : ℕ) → n ≡ length ws → cond b (suc n) n ≡ length (ws ++ cond b (w ∷ []) [])
counts true ws w n e = rw (length-append ws (w ∷ [])) (omega (arith, e))
counts false ws w n e = rw (append-nil ws) e

at_most : (b : Bool) (n : ℕ) → cond b (suc n) n ≤ suc n
at_most true n = omega arith
at_most false n = omega arith

-- the words of the first i rows stand
pub record Telling (could : List Bool) (d : Page) (i n : ℕ) (o : Page) : Type 0 where
  pub wrote : Adds (10 * i) d (joined (so_far could i)) o
  pub many : n ≡ length (so_far could i)
  pub few : n ≤ i

pub telling-none : (could : List Bool) (d : Page) → Telling could d 0 0 d
unfolding so_far up_to told_of joined
telling-none could d = record { wrote = none-adds d; many = refl; few = omega arith }

module _ (could : List Bool) (d : Page) (i n : ℕ) (o : Page) (g : Telling could d i n o) where
  pub telling-room : i < 28 → HasRoom 280 d → HasRoom 10 o × (n < 28)
  telling-room h l =
      let few = g.wrote.wrote.few in
      let next = g.wrote.wrote.next in
      let many = g.few in
      let same = g.wrote.long in
      (omega arith, omega arith)

  pub telling-more : (m : ℕ) (o' : Page) → TellSays could ((i + 1) % 28) n o m o' → Telling could d (i + 1) m o'
  unfolding piece count_after
  telling-more m o' s =
      let k = (i + 1) % 28 in
      let e = so_far_more could i in
      let few = g.few in
      let many = s.many in
      let most = at_most (tells could k) n in
      record {
        wrote =
            more-adds (10 * i) 10 (10 * (i + 1)) d o o' (joined (so_far could i)) (piece could n k) (joined (so_far could (i + 1)))
            g.wrote s.wrote
            (ap joined e ∙ step (tells could k) (so_far could i) (words_of k kinds) n g.many)
            (omega arith);
        many = many ∙ counts (tells could k) (so_far could i) (words_of k kinds) n g.many ∙ ap length (sym e);
        few = omega arith;
      }

  pub telling-all : i ≤ 28 → 28 ≤ i → Adds 280 d (could_be could) o
  unfolding could_be so_far
  telling-all l h =
      let e : i ≡ 28 = omega arith in
      adds_as (10 * i) 280 d o (joined (so_far could i)) (could_be could) g.wrote
      (ap (λ (n : ℕ). joined (told_of could (up_to row_at n))) e ∙ ap (λ (rs : List Row). joined (told_of could rs)) (sym rows_are))
      (omega arith)
