-- The rows of a folder's files.
use Rattle.std.specs.Prelude.{◌≡◌, ℕ, ℤ, List, [], ◌∷◌, String, string_bytes, option_map, Option, None, Some, Result, Ok, Err}
use Rattle.std.specs.BTreeMap.{BTreeMap, get_by_text}
use Rattle.std.specs.Global.{Global, Vec}
use Rattle.mac_base.specs.declared.resource.ResAttrs.{ResAttrs}
use Rattle.fork_bytes.specs.Rows.{Row}
use Rattle.fork_folder.specs.declared.rows.Entry.{Entry}
use Rattle.fork_folder.specs.declared.rows.PackFault.{PackFault}
use Rattle.fork_folder.specs.declared.rows.PackFault.TheVariants.{HostFull, NoFile}

-- what a manifest says of a resource: all but its bytes, and the path of the file that has those
pub record Listed : Type 0 where
  pub kind : List ℕ
  pub id : ℤ
  pub name : Option (List ℕ)
  pub attributes : ResAttrs
  pub file : List ℕ

-- the same, of what code has
abbrev pub listed : Entry → Listed
listed entry = record { kind = entry.kind; id = entry.id; name = entry.name; attributes = entry.attributes; file = string_bytes entry.file }

-- the row of an entry, with these bytes
abbrev pub row_with : Listed → List ℕ → Row
row_with entry bytes = record { kind = entry.kind; id = entry.id; name = entry.name; attributes = entry.attributes; datum = bytes }

-- a row before others, unless those lack a file
abbrev pub before : Row → Result (List Row) (List ℕ) → Result (List Row) (List ℕ)
before row (Ok rows) = Ok (row ∷ rows)
before row (Err path) = Err path

-- the row of an entry before others, or the path of its file where the folder has none
abbrev pub with_row : Listed → Option (List ℕ) → Result (List Row) (List ℕ) → Result (List Row) (List ℕ)
with_row entry None others = Err entry.file
with_row entry (Some bytes) others = before (row_with entry bytes) others

-- the rows of a manifest's entries, each with the bytes of its file in a folder, or the first path where there is no
-- file
abbrev pub packed : (List ℕ → Option (List ℕ)) → List Listed → Result (List Row) (List ℕ)
packed folder [] = Ok []
packed folder (entry ∷ entries) = with_row entry (folder entry.file) (packed folder entries)

-- the files that were read: the bytes of each path
abbrev pub folder_of : BTreeMap (String Global) (Vec ℕ) → List ℕ → Option (List ℕ)
folder_of files path = option_map (λ bytes. bytes.items) (get_by_text files path)

-- an answer that is these rows, or the path without a file; another only where the host has no memory
abbrev pub Fails : PackFault → Result (List Row) (List ℕ) → Type 0
Fails (NoFile path) read = read ≡ Err (string_bytes path)
Fails HostFull read = Unit {0}
Fails _ read = ⊥

abbrev pub Answers : Result (List Row) PackFault → Result (List Row) (List ℕ) → Type 0
Answers (Ok rows) read = read ≡ Ok rows
Answers (Err fault) read = Fails fault read
