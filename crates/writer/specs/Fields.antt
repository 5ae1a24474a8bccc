-- The words of an image's fields: those of a list, by its rows, or made up, a0, a1, ... Assumes nothing.
use Rattle.std.specs.Prelude.{ℕ, ◌≤◌, List, []}
use Rattle.laws.specs.UpTo.{up_to}
use Rattle.rules.specs.Image.{most_fields, fields_of}
use Rattle.writing.specs.Spell.{made_up_field}
use Rattle.fieldlist.specs.Names.{words, Spans}
use Rattle.fieldlist.specs.declared.names.Span.{Span}
use Rattle.writer.specs.declared.fields.Fields.{Fields}
use Rattle.writer.specs.declared.fields.Fields.TheVariants.{MadeUp, Listed as InList}

abbrev pub words_for : List ℕ → Fields → List (List ℕ)
words_for img MadeUp = up_to made_up_field (fields_of img)
words_for img (InList list rows) = words list.now rows.now.names (fields_of img)

-- a list's bytes, where its words begin and end, and how many there have to be
abbrev pub list_in : Fields → List ℕ
list_in MadeUp = []
list_in (InList list rows) = list.now

abbrev pub names_in : Fields → List Span
names_in MadeUp = []
names_in (InList list rows) = rows.now.names

abbrev pub count_in : List ℕ → Fields → ℕ
count_in img MadeUp = 0
count_in img (InList list rows) = fields_of img

-- there is a word for each field
abbrev pub Stands : List ℕ → Fields → Type 0
Stands img fields = Spans (list_in fields) (names_in fields) (count_in img fields) × (count_in img fields ≤ most_fields)
