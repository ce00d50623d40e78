-- Which volume, folder or file a path names.
use Rattle.std.specs.Prelude.{◌≡◌, ⊤, ◌<◌, ◌≤◌, ℕ, ◌+◌, ◌-◌, ◌*◌, ◌==◌, ◌&&◌, nat_lt, if◌then◌else◌, Bool, true, false, fold, is_some, List, [], ◌∷◌, length, map, take, position, Option, None, Some, Result, Ok, Err}
use Rattle.std.specs.BTreeMap.{BTreeMap}
use Rattle.std.specs.List.{list_all}
use Rattle.hfs_volume.specs.declared.entry.Entry.{Entry}
use Rattle.hfs_volume.specs.Names.{name_bytes as hfs_bytes}
use Rattle.image_paths.specs.declared.path.ImagePath.{ImagePath}
use Rattle.mfs_volume.specs.Directory.{name_bytes as mfs_bytes}
use Rattle.mfs_volume.specs.declared.directory.MfsFile.{MfsFile}
use Rattle.mfs_volume.specs.declared.volume.MfsVolume.{MfsVolume}
use Rattle.volume_names.specs.Letters.{is_same_text}
use Rattle.volume_names.specs.Paths.{HasFolders, items_of}
use Rattle.volume_names.specs.Things.{place_of, place_or}
use Rattle.volume_names.specs.declared.letters.Rule.{Rule}
use Rattle.volume_names.specs.declared.letters.Rule.TheVariants.{Bytes, Letters}
use Rattle.image_files.specs.declared.contents.Contents.{Contents}
use Rattle.image_files.specs.declared.contents.Place.{Place}
use Rattle.image_files.specs.declared.files.Files.{Files}
use Rattle.image_files.specs.declared.files.Files.TheVariants as files
use Rattle.image_files.specs.declared.files.VolumeRefusal.{VolumeRefusal}
use Rattle.image_files.specs.declared.found.Found.{Found}
use Rattle.image_files.specs.declared.found.Found.TheVariants as found
use Rattle.image_files.specs.declared.found.NotFound.{NotFound}
use Rattle.image_files.specs.declared.found.NotFound.TheVariants as why
use Rattle.image_files.specs.declared.item.Info.{Info}
use Rattle.image_files.specs.declared.item.Info.TheVariants as info
use Rattle.image_files.specs.declared.volume.PlacedVolume.{PlacedVolume}
use Rattle.image_files.specs.declared.volume.VolumeFiles.{VolumeFiles}
use Rattle.image_files.specs.FilesRead.{volume_at}
use Rattle.image_files.specs.Looks.{thing_info, volume_name}

-- whether a file of MFS has a name by a rule
abbrev pub is_called : Rule → List ℕ → MfsFile → Bool
is_called rule name file = is_same_text rule (mfs_bytes file) name

-- the file of MFS that a path names: its one name is a file's
abbrev pub file_named : MfsVolume → List (List ℕ) → Option ℕ
file_named volume [] = None
file_named volume (name ∷ []) = place_or (position (is_called Bytes name) volume.files.items) (position (is_called Letters name) volume.files.items)
file_named volume (name ∷ other ∷ rest) = None

-- the folder or the file that a path names in a volume
abbrev pub thing_named : Files → List (List ℕ) → Option ℕ
thing_named (files.Hfs volume things) names = place_of volume.entries.items names things.items
thing_named (files.Mfs volume) names = file_named volume names

-- the folders of a volume
abbrev pub AreFolders : BTreeMap ℕ Entry → Files → Type 0
AreFolders folders (files.Hfs volume things) = HasFolders folders volume.entries.items
AreFolders folders (files.Mfs volume) = ⊤

-- A path names nothing, and this is the first of its names with which it doesn't: how many are before it.
pub record IsMissing (files : Files) (names : List (List ℕ)) (count : ℕ) : Type 0 where
  pub whole : thing_named files names ≡ None
  pub some : count < length names
  pub here : thing_named files (take (count + 1) names) ≡ None
  pub before : (k : ℕ) → 0 < k → k ≤ count → is_some (thing_named files (take k names)) ≡ true

-- what a thing is: a folder, or else a file
abbrev pub found_as : Place → Option Info → Found
found_as place (Some (info.Folder folder)) = found.Folder place
found_as place (Some (info.File file)) = found.File place
found_as place None = found.File place

abbrev pub found_at : ℕ → Files → ℕ → Found
found_at number files thing = found_as (record { volume = number; thing = thing }) (thing_info files thing)

-- what a path names in a volume of this number, and which of its names, of which so many led to the volume, names nothing
abbrev pub FindsIn : ℕ → Files → ℕ → List (List ℕ) → Result Found NotFound → Type 0
FindsIn number files before [] result = result ≡ Ok (found.Volume number)
FindsIn number files before (name ∷ others) (Ok found) = (thing : ℕ) × (thing_named files (name ∷ others) ≡ Some thing) × (found ≡ found_at number files thing)
FindsIn number files before (name ∷ others) (Err why.HostFull) = ⊤
FindsIn number files before (name ∷ others) (Err (why.Missing count)) = (after : ℕ) × IsMissing files (name ∷ others) after × (count ≡ before + after + 1)
FindsIn number files before (name ∷ others) (Err other) = ⊥

-- the same where the volume is read
abbrev pub FindsBelow : ℕ → Option VolumeFiles → ℕ → List (List ℕ) → Result Found NotFound → Type 0
FindsBelow number None before names result = result ≡ Err (why.Refused number)
FindsBelow number (Some volume) before names result = FindsIn number volume.files before names result

-- whether a volume that is read has a name by a rule
abbrev pub has_name : Rule → List ℕ → Result VolumeFiles VolumeRefusal → Bool
has_name rule name (Ok volume) = is_same_text rule (hfs_bytes (volume_name volume.files)) name
has_name rule name (Err refusal) = false

-- the number that digits are, where there are one to five and nothing else
abbrev pub is_digit : ℕ → Bool
is_digit byte = nat_lt 47 byte && nat_lt byte 58

abbrev pub with_digit : ℕ → ℕ → ℕ
with_digit number digit = 10 * number + (digit - 48)

abbrev pub number_of : List ℕ → Option ℕ
number_of text =
    if nat_lt 0 (length text) && nat_lt (length text) 6 && list_all is_digit text then Some (fold with_digit 0 text) else None

-- the number of a partition that a name is, after `#`
abbrev pub part_named : List ℕ → Option ℕ
part_named [] = None
part_named (first ∷ digits) = if first == 35 then number_of digits else None

-- the first volume of a partition of this number
abbrev pub volume_numbered : List PlacedVolume → ℕ → Option ℕ
volume_numbered volumes number = position (λ placed. placed.part == number) volumes

-- the first volume that has a name by a rule
abbrev pub volume_by : Rule → List PlacedVolume → List ℕ → Option ℕ
volume_by rule volumes name = position (λ placed. has_name rule name placed.found) volumes

abbrev pub volume_called : List PlacedVolume → List ℕ → Option ℕ
volume_called volumes name = place_or (volume_by Bytes volumes name) (volume_by Letters volumes name)

-- the volume that a name is of: the number of a partition, or else the name of a volume
abbrev pub volume_by_part : List PlacedVolume → List ℕ → Option ℕ → Option ℕ
volume_by_part volumes name None = volume_called volumes name
volume_by_part volumes name (Some number) = volume_numbered volumes number

abbrev pub volume_named : List PlacedVolume → List ℕ → Option ℕ
volume_named volumes name = volume_by_part volumes name (part_named name)

-- what names lead to after the one that is a volume's
abbrev pub FindsNamed : Contents → Option ℕ → List (List ℕ) → Result Found NotFound → Type 0
FindsNamed contents None others result = result ≡ Err (why.Missing 1)
FindsNamed contents (Some number) others result = FindsBelow number (volume_at contents number) 1 others result

-- the same of an image that has one volume or not: of one with several the first name is a volume's
abbrev pub FindsBy : Bool → Contents → List (List ℕ) → Result Found NotFound → Type 0
FindsBy true contents names result = FindsBelow 0 (volume_at contents 0) 0 names result
FindsBy false contents [] result = result ≡ Ok found.Image
FindsBy false contents (first ∷ others) result = FindsNamed contents (volume_named contents.volumes.items first) others result

abbrev pub FindsNames : Contents → List (List ℕ) → Result Found NotFound → Type 0
FindsNames contents names result = FindsBy (length contents.volumes.items == 1) contents names result

-- a file isn't what is asked for where that is a folder
abbrev pub if_folder : Bool → Result Found NotFound → Result Found NotFound
if_folder true (Ok (found.File place)) = Err why.NotFolder
if_folder is_folder result = result

-- what a path names in an image, or why nothing
pub record Finds (contents : Contents) (path : ImagePath) (result : Result Found NotFound) : Type 0 where
  pub named : Result Found NotFound
  pub names : FindsNames contents (map items_of path.names.items) named
  pub folder : result ≡ if_folder path.is_folder named
