-- How feeding goes on: tokens fed one list after the other are fed as one list. Assumes nothing.
use mathlib.Core.Path.{◌≡◌, refl, ◌∙◌}
use mathlib.Core.List.{List, [], ◌∷◌, ◌++◌}
use Rattle.grammar.specs.Tokens.{Tok, kind_of, value_of}
use Rattle.reading.specs.Items.{Item}
use Rattle.reading.specs.Table.{Due, Fed, went, stuck, feed, feeds, fed_on}

-- one way on after the other is one way on
pub fed-fed : (f : Fed) (h k : List Due → List Item → Fed) → fed_on f (λ es js. fed_on (h es js) k) ≡ fed_on (fed_on f h) k
fed-fed (went es js) h k = refl
fed-fed stuck h k = refl

-- ways on that agree everywhere
pub fed-alike : (f : Fed) {g h : List Due → List Item → Fed} → ((es : List Due) (js : List Item) → g es js ≡ h es js) → fed_on f g ≡ fed_on f h
fed-alike (went es js) e = e es js
fed-alike stuck e = refl

pub feeds-append : (us vs : List Tok) (ds : List Due) (is : List Item) → feeds (us ++ vs) ds is ≡ fed_on (feeds us ds is) (λ es js. feeds vs es js)
unfolding feeds
feeds-append [] vs ds is = refl
feeds-append (t ∷ us) vs ds is =
    let f = feed ds (kind_of t) (value_of t) is in
    fed-alike f (feeds-append us vs) ∙ fed-fed f (λ es js. feeds us es js) (λ es js. feeds vs es js)
