-- What the manifest says of files, one after the other.
use Rattle.std.proofs.Common.{◌≡◌, ◌∙◌, ℕ, ◌+◌, ◌<◌, List, [], ◌∷◌, ◌++◌, Fits, Some, Result, Ok, Err, IfOk, arith, w8, length, map, slice_index_or, take, get_or, inl, inr, refl, sym, ap, subst}
use Rattle.std.proofs.lemmas.Bool.{cases_Bool}
use Rattle.serde_json.specs.Read.{read}
use Rattle.hex.specs.Hex.{IsBytes, decode_of, encode_upper}
use Rattle.hex.proofs.HexLemmas.{decode_of-encode_upper}
use Rattle.std.proofs.lemmas.List.{map_push, take_more}
use Rattle.mac_files.specs.declared.kind.FileKind.{FileKind}
use Rattle.mac_files.specs.declared.old_file.FileFault.{FileFault}
use Rattle.mac_files.specs.declared.old_file.OldFile.{OldFile}
use Rattle.mac_files.specs.Kinds.{kind_of}
use Rattle.mac_files.specs.OldFiles.{Said, kind_by, old_file, said_by}
use Rattle.fork_bytes.specs.Rows.{Row}
use Rattle.fork_bytes.specs.declared.table.Table.{Table}
use Rattle.fork_list.specs.Listing.{is_chosen}
use Rattle.fork_folder.specs.Json.{manifest_data}
use Rattle.fork_folder.specs.Manifest.{AllSay, IsHexOf, Says, SaysFork}
use Rattle.fork_folder.specs.Packed.{Listed}
use Rattle.fork_folder.specs.PackedAgain.{entries_from, entry_of, manifest}
use Rattle.fork_folder.specs.Unpacked.{Unpacked, chosen, file_of, file_row, files_from, types_of, unpacked, unpacked_file}
use Rattle.fork_folder.specs.declared.files.File.{File}
use Rattle.fork_folder.specs.declared.manifest.Manifest.{Manifest}
use Rattle.fork_folder.specs.declared.manifest.Origin.{Origin}
use Rattle.fork_folder.specs.declared.manifest.Resource.{Resource}
use Rattle.fork_folder.proofs.Texts.{say_more}
use Rattle.fork_view.specs.Unpacking.{IsManifestText, IsOriginIn, IsOriginOf, no_origin}

-- one more
pub said_at : (files : List File) (at : ℕ) (other : File) (resources : List Resource) (resource : Resource) → at < length files
    → AllSay resources (map (λ (file : File). entry_of (file_row file) (unpacked_file file)) (take at files))
    → Says resource (entry_of (file_row (get_or files at other)) (unpacked_file (get_or files at other)))
    → AllSay (resources ++ resource ∷ []) (map (λ (file : File). entry_of (file_row file) (unpacked_file file)) (take (at + 1) files))
said_at files at other resources resource within are one =
    let listed : File → Listed = λ file. entry_of (file_row file) (unpacked_file file) in
    let P : List Listed → Type 0 = λ all. AllSay (resources ++ resource ∷ []) all in
    let same = ap (λ (some : List File). map listed some) (take_more files at other within) ∙ map_push listed (take at files) (get_or files at other) in
    subst P (sym same) (say_more resources (map listed (take at files)) resource (listed (get_or files at other)) are one)

-- the digits of bytes are read as these bytes
pub digits_again : {T E : Type 0} (text : T → List ℕ) (bytes : List ℕ) → ((i : ℕ) → Fits w8 (slice_index_or bytes i 0)) → (result : Result T E)
    → IfOk result (λ t. text t ≡ encode_upper bytes) → IfOk result (λ t. IsHexOf (text t) bytes)
digits_again text bytes are (Err error) is = tt
digits_again text bytes are (Ok t) is =
    let fit : IsBytes bytes = λ i. let f = are i in omega arith in
    ap decode_of is ∙ decode_of-encode_upper bytes fit

-- each file has its entry
abbrev zipped : List Row → List Unpacked → List Listed
zipped [] files = []
zipped (row ∷ rows) [] = []
zipped (row ∷ rows) (file ∷ files) = entry_of row file ∷ zipped rows files

both : (files : List File) → map (λ (file : File). entry_of (file_row file) (unpacked_file file)) files ≡ zipped (map file_row files) (map unpacked_file files)
both [] = refl
both (file ∷ files) = ap (λ (all : List Listed). entry_of (file_row file) (unpacked_file file) ∷ all) (both files)

entries_zipped : (types kinds : List (List ℕ)) (done rows : List Row) → zipped (chosen kinds rows) (files_from types kinds done rows) ≡ entries_from types kinds done rows
entries_zipped types kinds done [] = refl
entries_zipped types kinds done (row ∷ rows) =
    elim (cases_Bool (is_chosen kinds row.kind)) [
      | inl own ↦ rw own (ap (λ (all : List Listed). entry_of row (file_of types done row) ∷ all) (entries_zipped types kinds (done ++ row ∷ []) rows))
      | inr other ↦ rw other (entries_zipped types kinds (done ++ row ∷ []) rows)
    ]

entries_are : (kinds : List (List ℕ)) (rows : List Row) (files : List File) → map unpacked_file files ≡ unpacked kinds rows → map file_row files ≡ chosen kinds rows
    → map (λ (file : File). entry_of (file_row file) (unpacked_file file)) files ≡ manifest kinds rows
entries_are kinds rows files named own =
    both files ∙ ap (λ (some : List Row). zipped some (map unpacked_file files)) own ∙ ap (λ (all : List Unpacked). zipped (chosen kinds rows) all) named
    ∙ entries_zipped (types_of rows) kinds [] rows

pub says_text : (file : List ℕ) (kinds : List (List ℕ)) (table : Table) (files : List File) (text : List ℕ) → map unpacked_file files ≡ unpacked kinds table.rows
    → map file_row files ≡ chosen kinds table.rows
    → ((origin : Origin) × (all : Manifest) × IsOriginIn (kind_of file) (old_file file) origin × (read text ≡ Some (manifest_data origin all))
    × SaysFork all table.extra table.map_attributes (map (λ (file : File). entry_of (file_row file) (unpacked_file file)) files))
    → IsManifestText file kinds table text
says_text file kinds table files text named own said =
    let P : List Listed → Type 0 = λ ones. SaysFork said.1 table.extra table.map_attributes ones in
    (said.0, said.1, said.2, said.3, subst P (entries_are kinds table.rows files named own) said.4)

-- what is said of a file that is opened, and of one that has a fault
pub origin_found : {E : Type 0} (file : List ℕ) (found : OldFile) (known : FileKind) (it : Said) (result : Result Origin E) → kind_by found ≡ kind_of file
    → old_file file ≡ Ok (said_by found) → known ≡ kind_by found → it ≡ said_by found → IfOk result (IsOriginOf known it)
    → IfOk result (IsOriginIn (kind_of file) (old_file file))
origin_found file found known it (Err error) kind opened same said is = tt
origin_found file found known it (Ok origin) kind opened same said is =
    let P : FileKind → Type 0 = λ k. IsOriginOf k (said_by found) origin in
    let Q : Said → Type 0 = λ s. IsOriginOf known s origin in
    let R : Result Said FileFault → Type 0 = λ r. IsOriginIn (kind_of file) r origin in
    subst R (sym opened) (subst P (same ∙ kind) (subst Q said is))

pub origin_fault : (file : List ℕ) (fault : FileFault) (origin : Origin) → old_file file ≡ Err fault → origin ≡ no_origin → IsOriginIn (kind_of file) (old_file file) origin
origin_fault file fault origin is none = let R : Result Said FileFault → Type 0 = λ r. IsOriginIn (kind_of file) r origin in subst R (sym is) none
