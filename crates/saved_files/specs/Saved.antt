-- The bytes of resource files that are saved.
use Rattle.std.specs.Prelude.{ℕ, Bool, true, false, List, ◌∷◌, ◌++◌, length, map, unwrap_or}
use Rattle.std.specs.List.{flat_map}
use Rattle.byteorder.specs.Endian.{big_bytes}
use Rattle.fork_bytes.specs.declared.place.Place.{Place}
use Rattle.res_table.specs.declared.chain.OpenFile.{OpenFile}
use Rattle.res_table.specs.OpenFiles.{OpenFiles}
use Rattle.row_image.specs.Infos.{image_text}

-- what is saved: the open files, with where the bytes of their rows are in the forks, whether calls load what they get,
-- and the forks in the order of numbers
pub record Saved : Type 0 where
  pub chain : OpenFiles Place
  pub loads : Bool
  pub disks : List (List ℕ)

-- a block: how many bytes, and the bytes
abbrev pub block_text : List ℕ → List ℕ
block_text bytes = big_bytes 8 (length bytes) ++ bytes

-- an open file but for its number: its rows as a fork
abbrev pub file_text : OpenFile Place → List ℕ
file_text f = block_text (image_text f.table)

-- the byte of a choice
abbrev pub flag : Bool → ℕ
flag true = 1
flag false = 0

-- the number of a file
abbrev pub number_of : OpenFile Place → ℕ
number_of f = f.number

-- the first block: a mark, the version, whether calls load what they get, the current file, or 0, and the open files
abbrev pub head_text : Bool → ℕ → List ℕ → List ℕ
head_text loads current numbers = 77 ∷ 82 ∷ 115 ∷ 116 ∷ 1 ∷ flag loads ∷ current ∷ numbers

-- all of the bytes
abbrev pub saved_text : Saved → List ℕ
saved_text s = block_text (head_text s.loads (unwrap_or s.chain.current 0) (map number_of s.chain.files))
    ++ (flat_map block_text s.disks ++ flat_map file_text s.chain.files)
