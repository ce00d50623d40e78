-- Lines and what becomes of a table by them.
use Rattle.std.specs.Prelude.{◌≡◌, ◌<◌, ◌≤◌, ℕ, List, [], length, map, FitsSigned, Ok}
use Rattle.std.specs.List.{AllByRecursion, flat_map}
use Rattle.std.specs.Int.{w16}
use Rattle.fork_bytes.specs.Rows.{Row}
use Rattle.fork_texts.specs.declared.entry.Entry.{Entry}
use Rattle.fork_texts.specs.declared.kinds.TextType.{TextType}
use Rattle.fork_texts.specs.declared.line.Line.{Line}
use Rattle.fork_texts.specs.declared.place.Place.{Place}
use Rattle.fork_texts.specs.declared.place.Place.TheVariants.{Name, Whole, Title, Short, Long, Numbered}
use Rattle.fork_texts.specs.declared.reading.TheConstants.{MOST}
use Rattle.fork_texts.specs.Lines.{line_text}
use Rattle.fork_texts.specs.Putting.{Puts}
use Rattle.fork_texts.specs.Reading.{lines_at}
use Rattle.fork_texts.specs.Texts.{entries_of}

-- bytes
abbrev pub AreBytes : List ℕ → Type 0
AreBytes bytes = AllByRecursion (λ byte. byte < 256) bytes

-- a number that is read again has eight digits at most
abbrev pub IsShort : Place → Type 0
IsShort (Numbered n) = n ≤ MOST
IsShort other = Unit {0}

-- what each entry is: four bytes of type, an id in range, a place, and bytes
pub record IsEntry (entry : Entry) : Type 0 where
  pub four : length entry.what.kind ≡ 4
  pub kind : AreBytes entry.what.kind
  pub id : FitsSigned w16 entry.what.id
  pub place : IsShort entry.place
  pub text : AreBytes entry.text

-- the texts of lines
abbrev pub texts_of : List Line → List Entry
texts_of lines = map (λ line. line.entry) lines

-- the lines of texts are read as those texts and their places
abbrev pub IsReadAgain : Type 0
IsReadAgain = (entries : List Entry) → AllByRecursion IsEntry entries → (lines : List Line) × (lines_at (flat_map line_text entries) ≡ Ok lines) × (texts_of lines ≡ entries)

-- where the texts of lines are those that rows have, no row changes
abbrev pub IsUnchanged : Type 0
IsUnchanged = (types : List TextType) (rows : List Row) (lines : List Line) (changed : List Row) → texts_of lines ≡ flat_map (entries_of types) rows
    → Puts types rows lines changed → changed ≡ []
