-- Texts that take the place of others.
use Rattle.std.specs.Prelude.{◌≡◌, ◌≢◌, ◌≤◌, ◌⊎◌, ℕ, if◌then◌else◌, List, [], ◌∷◌, ◌++◌, drop, length, Option, None, Some, IfSome, Result, Ok, Err}
use Rattle.fork_bytes.specs.Rows.{Row}
use Rattle.res_types.specs.declared.value.Part.{Part}
use Rattle.res_types.specs.Bits.{byte_bits}
use Rattle.res_types.specs.Meaning.{decode, encode}
use Rattle.fork_texts.specs.declared.entry.Entry.{Entry}
use Rattle.fork_texts.specs.declared.fault.ReadError.{ReadError}
use Rattle.fork_texts.specs.declared.fault.ReadError.TheVariants as errors
use Rattle.fork_texts.specs.declared.kinds.TextType.{TextType}
use Rattle.fork_texts.specs.declared.line.Line.{Line}
use Rattle.fork_texts.specs.Kinds.{type_of}
use Rattle.fork_texts.specs.Places.{start}
use Rattle.fork_texts.specs.Texts.{entries_of, filled, is_at}

-- an entry with another text
abbrev pub with_entry_text : Entry → List ℕ → Entry
with_entry_text entry text = record { what = entry.what; place = entry.place; text = text }

-- texts, and the lines that are left after those in the place of some
pub record Merge : Type 0 where
  pub entries : List Entry
  pub left : List Line

abbrev pub with_first : Entry → Merge → Merge
with_first entry merge = record { entries = entry ∷ merge.entries; left = merge.left }

-- the text of the next line, if this is in an entry's place, and else the entry's own
abbrev pub next_text : Entry → List Line → List ℕ
next_text entry [] = entry.text
next_text entry (line ∷ lines) = if is_at line.entry entry then line.entry.text else entry.text

-- the lines after that
abbrev pub next_lines : Entry → List Line → List Line
next_lines entry [] = []
next_lines entry (line ∷ lines) = if is_at line.entry entry then lines else line ∷ lines

-- each text is that of the next line, if this is in its place
abbrev pub merged : List Entry → List Line → Merge
merged [] lines = record { entries = []; left = lines }
merged (entry ∷ others) lines = with_first (with_entry_text entry (next_text entry lines)) (merged others (next_lines entry lines))

-- what becomes of a name, which is the first of these texts, and the texts after it
abbrev pub put_name : Option (List ℕ) → List Entry → Option (List ℕ)
put_name None texts = None
put_name (Some name) [] = Some name
put_name (Some name) (first ∷ others) = Some first.text

abbrev pub after_name : Option (List ℕ) → List Entry → List Entry
after_name None texts = texts
after_name (Some name) texts = drop 1 texts

-- new bytes are those of the same parts with these texts
abbrev pub PutsParts : TextType → List Entry → List ℕ → List ℕ → Result (List Part) ℕ → Type 0
PutsParts one texts old new (Ok found) = encode one.declaration (filled (start one.naming) found texts) ≡ Ok (byte_bits new)
PutsParts one texts old new (Err left) = new ≡ old

abbrev pub PutsBytes : Option TextType → List Entry → List ℕ → List ℕ → Type 0
PutsBytes None texts old new = new ≡ old
PutsBytes (Some one) texts old new = PutsParts one texts old new (decode one.declaration (byte_bits old))

-- a row with these texts: all else of it is as it was
pub record IsRowPut (types : List TextType) (row : Row) (texts : List Entry) (new : Row) : Type 0 where
  pub kind : new.kind ≡ row.kind
  pub id : new.id ≡ row.id
  pub attributes : new.attributes ≡ row.attributes
  pub name : new.name ≡ put_name row.name texts
  pub short : IfSome new.name (λ name. length name ≤ 255)
  pub bytes : PutsBytes (type_of types row.kind) (after_name row.name texts) row.datum new.datum
  pub shows : entries_of types new ≡ texts

-- what becomes of a row that gets these texts: it stays where they are those that it has
abbrev pub Becomes : List TextType → Row → List Entry → Option Row → Type 0
Becomes types row texts None = texts ≡ entries_of types row
Becomes types row texts (Some new) = (texts ≢ entries_of types row) × IsRowPut types row texts new

-- with a row before others, if there is one
abbrev pub with_new : Option Row → List Row → List Row
with_new None rows = rows
with_new (Some row) rows = row ∷ rows

-- the texts of rows become those of lines, of which none is left: these are the rows that change
abbrev pub Puts : List TextType → List Row → List Line → List Row → Type 0
Puts types [] lines changed = (lines ≡ []) × (changed ≡ [])
Puts types (row ∷ rows) lines changed =
    let m = merged (entries_of types row) lines in
    (new : Option Row) × (others : List Row) × Becomes types row m.entries new × (changed ≡ with_new new others) × Puts types rows m.left others

-- nothing becomes of a row that gets these texts, unless the host has no memory
abbrev pub BecomesNone : List TextType → Row → List Entry → ReadError → Type 0
BecomesNone types row texts errors.HostFull = Unit {0}
BecomesNone types row texts (errors.Refused fault) = (new : Option Row) → ¬ Becomes types row texts new
