-- Completeness: what the grammar writes is read, and brings the nodes of its tree. Behind a command there may stand the end of the text, or
-- any token but a dot and a minus; what is due below it and the nodes before it stay as they are. Assumes nothing.
use mathlib.Core.Path.{◌≡◌, refl, sym, ◌∙◌}
use mathlib.Core.Option.{none, some}
use mathlib.Core.List.{List, [], ◌∷◌, ◌++◌}
use Rattle.rules.specs.Syntax.{Cmd}
use Rattle.grammar.specs.Tokens.{Tok, kind_of, value_of}
use Rattle.reading.specs.Levels.{a_command, Written}
use Rattle.reading.specs.Items.{Item, items_cmd}
use Rattle.reading.specs.Table.{Due, command, Fed, went, stuck, feed, feeds, fed_on, finish, finished, reading}
use Rattle.reading.proofs.Moves.{fed-alike, feeds-append}
use Rattle.reading.proofs.Behind.{on_fed, from, looks, the_end, fed-behind, seen-is}
use Rattle.reading.proofs.ReadParts.{Clear}
use Rattle.reading.proofs.ReadLevels.{reads}

finished-is : (f : Fed) → finished f ≡ on_fed f none finish
unfolding on_fed
finished-is (went ds is) = refl
finished-is stuck = refl

fed-is : (f : Fed) (next : List Due → List Item → Fed) → fed_on f next ≡ on_fed f stuck next
unfolding on_fed
fed-is (went ds is) next = refl
fed-is stuck next = refl

-- a command at the end of a text
pub command-ends : {c : Cmd} {ts : List Tok} → Written (a_command c) ts
    → (ds : List Due) (is : List Item) → finished (feeds ts (command ∷ ds) is) ≡ finish ds (is ++ items_cmd c)
unfolding the_end
command-ends {c} {ts} w ds is =
    finished-is (feeds ts (command ∷ ds) is) ∙ sym (seen-is ts the_end (command ∷ ds) is) ∙ reads _ w ds the_end is (refl, refl, refl)

-- and before other tokens
pub command-read : {c : Cmd} {ts : List Tok} → Written (a_command c) ts
    → (t : Tok) (us : List Tok) → Clear (kind_of t)
    → (ds : List Due) (is : List Item) → feeds (ts ++ (t ∷ us)) (command ∷ ds) is ≡ feeds (t ∷ us) ds (is ++ items_cmd c)
unfolding fed-behind from looks feeds
command-read {c} {ts} w t us k ds is =
    feeds-append ts (t ∷ us) (command ∷ ds) is
    ∙ fed-alike (feeds ts (command ∷ ds) is) (λ es js. fed-is (feed es (kind_of t) (value_of t) js) (feeds us))
    ∙ fed-is (feeds ts (command ∷ ds) is) (λ es js. (fed-behind t us).seen es js)
    ∙ sym (seen-is ts (fed-behind t us) (command ∷ ds) is)
    ∙ reads _ w ds (fed-behind t us) is k
    ∙ sym (fed-is (feed ds (kind_of t) (value_of t) (is ++ items_cmd c)) (feeds us))

pub reads_all : {c : Cmd} {ts : List Tok} → Written (a_command c) ts → reading ts ≡ some (items_cmd c)
unfolding reading finish
reads_all w = command-ends w [] []
