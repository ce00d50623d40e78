-- What is made of the files that resources are unpacked to.
use Rattle.std.specs.Prelude.{◌≡◌, ◌⊎◌, ℕ, true, if◌then◌else◌, List, [], ◌∷◌, codes, bytes_eq, option_map, string_bytes, Option, None, Some, Result, Ok, Err}
use Rattle.serde_json.specs.Read.{read}
use Rattle.mac_files.specs.declared.kind.FileKind.{FileKind}
use Rattle.mac_files.specs.declared.old_file.FileFault.{FileFault}
use Rattle.mac_files.specs.Kinds.{is_known, kind_of, kind_text}
use Rattle.mac_files.specs.OldFiles.{Said, old_file}
use Rattle.fork_bytes.specs.declared.table.Table.{Table}
use Rattle.fork_list.specs.Roman.{roman_text}
use Rattle.fork_folder.specs.declared.manifest.Manifest.{Manifest}
use Rattle.fork_folder.specs.declared.manifest.Origin.{Origin}
use Rattle.fork_folder.specs.Json.{manifest_data}
use Rattle.fork_folder.specs.Manifest.{SaysFork}
use Rattle.fork_folder.specs.PackedAgain.{manifest}
use Rattle.new_folder.specs.declared.calls.FolderCall.TheVariants.{Begin}
use Rattle.new_folder.specs.NewFolder.{Event, StopsIn, event, path_below, with_file, with_folder}
use Rattle.fork_folder.specs.Unpacked.{Unpacked}

-- the folder that is unpacked to is made, or found empty, after these calls; the newest comes first
abbrev pub opened_folder : List ℕ → List Event → List Event
opened_folder name past = event Begin true name ∷ past

-- the folder of a type is made, unless it is the one that was made last
abbrev pub entered : Option (List ℕ) → List ℕ → List Event → List Event
entered None kind past = with_folder kind past
entered (Some last) kind past = if bytes_eq last kind then past else with_folder kind past

-- the file of a resource is made, in the folder of its type
abbrev pub with_unpacked : Option (List ℕ) → Unpacked → List Event → List Event
with_unpacked last file past = with_file (path_below (Some file.folder) file.name) file.bytes (entered last file.folder past)

-- all files are made, in their order
abbrev pub files_calls : Option (List ℕ) → List Unpacked → List Event → List Event
files_calls last [] past = past
files_calls last (file ∷ files) past = files_calls (Some file.folder) files (with_unpacked last file past)

-- first the folder, then the files, and the manifest at last
abbrev pub all_calls : List ℕ → List Unpacked → List ℕ → List Event → List Event
all_calls folder files text past = with_file (codes "resources.json") text (files_calls None files (opened_folder folder past))

-- what a file is called by what is known of it, unless nothing is
abbrev pub container_text : FileKind → Option (List ℕ)
container_text known = if is_known known then Some (kind_text known) else None

-- what the manifest says of a file that is known as this and says this: its container, Finder information and dates
pub record IsOriginOf (known : FileKind) (it : Said) (origin : Origin) : Type 0 where
  pub container : option_map string_bytes origin.container ≡ container_text known
  pub kind : option_map string_bytes origin.kind ≡ option_map (λ finder. roman_text finder.kind) it.finder
  pub creator : option_map string_bytes origin.creator ≡ option_map (λ finder. roman_text finder.creator) it.finder
  pub flags : origin.flags ≡ option_map (λ finder. finder.flags) it.finder
  pub created : origin.created ≡ option_map (λ dates. dates.created) it.dates
  pub modified : origin.modified ≡ option_map (λ dates. dates.modified) it.dates

-- nothing is said of a file
abbrev pub no_origin : Origin
no_origin = record { container = None; kind = None; creator = None; flags = None; created = None; modified = None }

-- what the manifest says of a file; nothing where that has a fault
abbrev pub IsOriginIn : FileKind → Result Said FileFault → Origin → Type 0
IsOriginIn known (Ok it) origin = IsOriginOf known it origin
IsOriginIn known (Err fault) origin = origin ≡ no_origin

-- the manifest of a file with this table: JSON that says what the file is, and all of the fork but the bytes of its
-- resources of these types, with an entry for each of them
abbrev pub IsManifestText : List ℕ → List (List ℕ) → Table → List ℕ → Type 0
IsManifestText file kinds table text = (origin : Origin) × (all : Manifest) × IsOriginIn (kind_of file) (old_file file) origin
    × (read text ≡ Some (manifest_data origin all)) × SaysFork all table.extra table.map_attributes (manifest kinds table.rows)

-- all this is made, with such a text as the manifest; or one of these calls failed, and none was made after it; or none
-- was made
abbrev pub Unpacks : {T E : Type 0} → List ℕ → List Unpacked → (List ℕ → Type 0) → Result T E → List Event → List Event → Type 0
Unpacks folder files says (Ok value) old new = (text : List ℕ) × says text × (new ≡ all_calls folder files text old)
Unpacks folder files says (Err error) old new = (new ≡ old) ⊎ ((text : List ℕ) × says text × StopsIn (all_calls folder files text old) old new)
