-- The loop over the places: how it begins, what a place that is wrong tells, and what the end of the text does. Assumes nothing.
use Prim.Native.Nat.{ℕ, ◌≤◌}
use mathlib.Core.Path.{◌≡◌, refl, sym, ap, subst, ◌∙◌}
use mathlib.Core.List.{List, [], map}
use native.Mathlib.Omega.{arith}
use lib.ListN.{length, get_or, replicate}
use Rattle.laws.specs.UpTo.{up_to, length-up_to}
use Rattle.rules.specs.Image.{most_fields, most_nodes, most_names}
use Rattle.rules.specs.Published.{image}
use Rattle.grammar.specs.Places.{last_line}
use Rattle.grammar.specs.FieldList.{code_of}
use Rattle.grammar.specs.Reads.{ReadsText, Wrong, words_for}
use Rattle.reading.specs.Links.{nodes_in, link}
use Rattle.reading.specs.Table.{start as at_first}
use Rattle.reading.proofs.Steps.{begins, refused-here}
use Rattle.reading.proofs.Ends.{end-refused-on, ends-linked, ends-many}
use Rattle.letters.specs.declared.places.Place.{Place}
use Rattle.letters.specs.Says.{NextSays}
use Rattle.letters.proofs.LineLaws.{next-lines}
use Rattle.fieldlist.specs.declared.FieldRows.{FieldRows}
use Rattle.fieldlist.specs.declared.names.Span.{Span}
use Rattle.fieldlist.specs.Names.{words}
use Rattle.fieldlist.specs.Answer.{entries_of, RightRows}
use Rattle.dues.specs.Words.{due_word}
use Rattle.dues.specs.Stack.{stack_of, Standing}
use Rattle.tables.proofs.Tabling.{tabled-none}
use Rattle.std.specs.Prelude.{Result, Ok, Err}
use Rattle.tables.specs.Tabled.{Tabled}
use Rattle.building.specs.declared.finish.EndError.{EndError}
use Rattle.building.specs.declared.finish.EndError.TheVariants.{Early, TooManyNodes}
use Rattle.reader.specs.declared.ReadError.{ReadError}
use Rattle.reader.specs.declared.text.Reading.{Reading}
use Rattle.building.specs.declared.nodes.Nodes.{Nodes}
use Rattle.reader.specs.Steps.{SameText, at_end}
use Rattle.letters.specs.Upto.{piece_at, none_yet}
use Rattle.building.specs.Finish.{Ended, Ends}
use Rattle.reader.specs.Under.{Under, Facing, Faces}
use Rattle.reader.specs.Says.{LastAs, Stopped, Tells}

-- ---- the beginning

pub begins-under : (list text : List ℕ) (rows : FieldRows) (n : Nodes) (ws : List ℕ) (spans : List Span)
    → words_for (length text) ≤ length ws
    → get_or ws 0 0 ≡ 1
    → n.count ≡ 0
    → n.firsts ≡ replicate most_nodes 0
    → length spans ≡ most_names
    → Under list text rows 0 1 0 1 n.start n.count spans ws ws n.image n.firsts
unfolding words up_to last_line stack_of due_word
begins-under list text rows n ws spans enough top none zeros a =
    record {
      inside = omega arith;
      lines = omega arith;
      last = refl;
      few = omega arith;
      names = record { forward = λ i h. absurd (omega arith); within = λ i h. absurd (omega arith) };
      spans-long = a;
      shallow = omega arith;
      lasting = record { enough = enough; same_length = refl; past = refl };
      places = [];
      upto = none_yet;
      dues = at_first;
      items = [];
      progress = begins (entries_of list rows) text;
      stacked = record { is = rw top; fit = (tt, tt); inside = omega (arith, enough) };
      built =
          record {
            roomy = n.roomy;
            few = n.few;
            counted = λ h. none;
            tabled = λ h. rw zeros (tabled-none n.start most_nodes n.image);
            past = λ h. absurd (omega arith);
          };
    }

-- ---- the same text

pub same-of : (s t : Reading) → t ≡ record s { depth = t.depth; nodes = t.nodes } → t.nodes.start ≡ s.nodes.start → SameText s t
same-of s t f n =
    record { text = ap (λ (y : Reading). y.text) f; list = ap (λ (y : Reading). y.list) f; rows = ap (λ (y : Reading). y.rows) f; start = n }

pub same-on : {s t u : Reading} → SameText s t → SameText t u → SameText s u
same-on a b = record { text = b.text ∙ a.text; list = b.list ∙ a.list; rows = b.rows ∙ a.rows; start = b.start ∙ a.start }

pub right-same : {s x : Reading} → SameText s x → RightRows s.list.now s.rows.now → RightRows x.list.now x.rows.now
right-same e h = rw (e.list, e.rows) h

pub tells-same : (s x : Reading) → SameText s x → (ws₀ : List ℕ) (r : Result Unit ReadError) (t : Reading) (ws : List ℕ)
    → Tells x.list.now x.text.now x.rows.now x.nodes.start ws₀ r t ws → Tells s.list.now s.text.now s.rows.now s.nodes.start ws₀ r t ws
tells-same s x e ws₀ r t ws h = rw (← e.list, ← e.text, ← e.rows, ← e.start) h

-- ---- a place

module _
    {list text : List ℕ} {rows : FieldRows} {at line n depth start m : ℕ} {ws₀ ws img firsts : List ℕ} {spans : List Span}
    (u : Under list text rows at line n depth start m spans ws₀ ws img firsts)
  where
    pub faced : (p : Place) → NextSays text at line p → (p.kind ≡ 0 → ⊥) → Facing list text rows p at line n depth start m spans ws₀ ws img firsts
    faced p s h = record { under = u; next = s; found = s.found h; lines = next-lines text at line p u.inside s h }

    pub faces : (p : Place) → NextSays text at line p → (p.kind ≡ 0 → ⊥) → Faces list text rows p n depth start m spans ws img firsts
    faces p s h = record { at = at; line = line; ws₀ = ws₀; facing = faced p s h }

module _
    {list text : List ℕ} {rows : FieldRows} {p : Place} {at line n depth start m : ℕ} {ws₀ ws img firsts : List ℕ} {spans : List Span}
    (f : Facing list text rows p at line n depth start m spans ws₀ ws img firsts)
    (e : ReadError)
    (t : Reading)
    (w : Wrong (entries_of list rows) f.under.progress.before f.under.progress.tokens (piece_at text p) e.number)
    (l : e.line ≡ p.line)
    (depth-same : t.depth ≡ depth)
    (its-place : t.place ≡ p)
  where
    pub wrong-told : Tells list text rows start ws₀ (Err e) t ws
    wrong-told =
        record {
          finds = rw l (refused-here f.under.progress (piece_at text p) p.to p.line f.found.spelled w);
          lasting = f.under.lasting;
          stopped =
              record {
                at = at;
                line = line;
                places = f.under.places;
                upto = f.under.upto;
                names = words text spans n;
                dues = f.under.dues;
                items = f.under.items;
                progress = f.under.progress;
                stacked = rw depth-same f.under.stacked;
                next = rw its-place f.next;
                wrong = λ _. rw its-place (w, l);
                last = tt;
              };
        }

-- ---- the end

names-long : (text : List ℕ) (spans : List Span) (n : ℕ) → length (words text spans n) ≡ n
unfolding words
names-long text spans n = length-up_to _ n

few-fields : (list : List ℕ) (rows : FieldRows) → RightRows list rows → length (entries_of list rows) ≤ most_fields
unfolding entries_of
few-fields list rows r = rw (length-up_to _ rows.count) r.few

module _
    {list text : List ℕ} {rows : FieldRows} {at line n depth start m : ℕ} {ws₀ ws img firsts : List ℕ} {spans : List Span}
    (right : RightRows list rows)
    (u : Under list text rows at line n depth start m spans ws₀ ws img firsts)
    (p : Place)
    (s : NextSays text at line p)
    (none : p.kind ≡ 0)
    (t : Reading)
    (names : t.names ≡ n)
    (its-place : t.place ≡ p)
    (its-depth : t.depth ≡ depth)
    (first : t.nodes.start ≡ start)
  where
    -- whatever the end's answer is
    stopped : (r : Result Unit ReadError) → LastAs r text p.line → Stopped list text rows r t ws
    stopped r h =
        record {
          at = at;
          line = line;
          places = u.places;
          upto = u.upto;
          names = words text spans n;
          dues = u.dues;
          items = u.items;
          progress = u.progress;
          stacked = rw its-depth u.stacked;
          next = rw its-place s;
          wrong = λ h. absurd (omega (arith, none, rw its-place at h));
          last = rw its-place h;
        }

    is_last : p.line ≡ last_line text
    is_last = (s.at-end none).is-line ∙ u.last

    pub whole-told : Ended u.dues u.items t.nodes.start t.nodes.count t.nodes.image t.nodes.firsts → Tells list text rows start ws₀ (Ok tt) t ws
    whole-told h =
        record {
          finds =
              record {
                items = h.items;
                tabled = subst (λ (i : ℕ). Tabled h.items i t.nodes.image t.nodes.firsts) first h.tabled;
                counted = h.counted;
                few = omega (arith, h.counted, h.few);
                few-names = omega (arith, names, u.few);
                read =
                    subst (λ (i : ℕ). ReadsText (entries_of list rows) text (image (map code_of (entries_of list rows)) (nodes_in (link h.items)) i)) (names-long text spans n ∙ sym names)
                    (ends-linked u.progress (s.at-end none).spelled h.ends (few-fields list rows right) h.few);
              };
          lasting = u.lasting;
          stopped = stopped (Ok tt) is_last;
        }

    pub refused-told : (fault : EndError) → Ends u.dues u.items (Err fault) t.nodes → Tells list text rows start ws₀ (Err (at_end fault p.line)) t ws
    refused-told Early h =
        record {
          finds = end-refused-on u.progress (s.at-end none).spelled u.last (s.at-end none).is-line h;
          lasting = u.lasting;
          stopped = stopped (Err (at_end Early p.line)) tt;
        }
    refused-told TooManyNodes h =
        record {
          finds = ends-many u.progress (s.at-end none).spelled h.ends h.many;
          lasting = u.lasting;
          stopped = stopped (Err (at_end TooManyNodes p.line)) tt;
        }
