-- What a text names in an image.
use Rattle.std.specs.Prelude.{◌≡◌, ◌⊎◌, ⊤, ℕ, ◌||◌, Bool, true, false, List, [], length, take, Option, None, Some, Result, Ok, Err, MatchResult}
use Rattle.std.specs.Global.{Vec}
use Rattle.disk_image.specs.Opening.{Refuses as RefusesImage}
use Rattle.disk_image.specs.declared.fault.ImageFault.TheVariants.{Refused}
use Rattle.disk_image.specs.declared.fault.OpenFault.TheVariants as open_fault
use Rattle.disk_image.specs.declared.known.Known.TheVariants.{Other}
use Rattle.hfs_tree.specs.declared.fault.ReadFault.{ReadFault}
use Rattle.mac_files.specs.Containers.{is_raw_by}
use Rattle.mac_files.specs.Kinds.{is_known, kind_of}
use Rattle.image_files.specs.Contents.{IsContents}
use Rattle.image_files.specs.FilesRead.{file_at, file_of}
use Rattle.image_files.specs.Finding.{Finds}
use Rattle.image_files.specs.Forks.{StopsFor}
use Rattle.image_files.specs.declared.contents.Place.{Place}
use Rattle.image_files.specs.declared.file.Forks.TheVariants.{Both}
use Rattle.image_files.specs.declared.found.Found.{Found}
use Rattle.image_files.specs.declared.found.Found.TheVariants as found
use Rattle.image_files.specs.declared.found.NotFound.{NotFound}
use Rattle.image_paths.specs.Paths.{IsPath, Refuses as RefusesPath}
use Rattle.image_open.specs.declared.opened.NotOpened.{NotOpened}
use Rattle.image_open.specs.declared.opened.NotOpened.TheVariants.{Path, Image}
use Rattle.image_open.specs.declared.opened.NotRead.{NotRead}
use Rattle.image_open.specs.declared.opened.NotRead.TheVariants as not_read
use Rattle.image_open.specs.declared.opened.Opened.{Opened}

-- the text is this path, the bytes are this image, and the path names this in it
pub record IsOpened (text file : List ℕ) (opened : Opened) : Type 0 where
  pub path : IsPath text opened.path
  pub contents : IsContents file opened.contents
  pub found : Finds opened.contents opened.path opened.found

-- nothing is looked for, for this: the text is no path, or the bytes are no image
abbrev pub StopsAt : List ℕ → List ℕ → NotOpened → Type 0
StopsAt text file (Path fault) = RefusesPath text fault
StopsAt text file (Image fault) = RefusesImage file fault

abbrev pub OpensAt : List ℕ → Result Opened NotOpened → List ℕ → Type 0
OpensAt text result file = MatchResult result (IsOpened text file) (StopsAt text file)

-- it is no file
abbrev pub IsNoFile : Result Found NotFound → Type 0
IsNoFile (Ok (found.File place)) = ⊥
IsNoFile other = ⊤

-- the file that was found, in a container; or why not
abbrev pub StopsHere : Opened → ℕ → List ℕ → NotRead → Type 0
StopsHere opened limit file (not_read.NotOpened why) = ⊥
StopsHere opened limit file (not_read.NoFile other) = (other ≡ opened) × IsNoFile opened.found
StopsHere opened limit file (not_read.Refused refusal) =
    (place : Place) × (opened.found ≡ Ok (found.File place)) × StopsFor (file_of file (file_at opened.contents place) Both limit) refusal

abbrev pub StatesFile : Opened → ℕ → Result (Vec ℕ) NotRead → List ℕ → Type 0
StatesFile opened limit result file = MatchResult result
    (λ bytes. (place : Place) × (opened.found ≡ Ok (found.File place)) × (file_of file (file_at opened.contents place) Both limit ≡ Ok bytes.items))
    (StopsHere opened limit file)

-- the text names the file at a place in the image that has these bytes
pub record NamesFile (text file : List ℕ) (opened : Opened) (place : Place) : Type 0 where
  pub opens : IsOpened text file opened
  pub is : opened.found ≡ Ok (found.File place)

-- The bytes of the file that a text names, in a container; or why there are none: nothing is looked for, it names no file, or
-- this isn't read.
abbrev pub StopsFile : List ℕ → ℕ → List ℕ → NotRead → Type 0
StopsFile text limit file (not_read.NotOpened why) = StopsAt text file why
StopsFile text limit file (not_read.NoFile opened) = IsOpened text file opened × IsNoFile opened.found
StopsFile text limit file (not_read.Refused refusal) =
    (opened : Opened) × (place : Place) × NamesFile text file opened place × StopsFor (file_of file (file_at opened.contents place) Both limit) refusal

abbrev pub ReadsFile : List ℕ → ℕ → Result (Vec ℕ) NotRead → List ℕ → Type 0
ReadsFile text limit result file = MatchResult result
    (λ bytes. (opened : Opened) × (place : Place) × NamesFile text file opened place × (file_of file (file_at opened.contents place) Both limit ≡ Ok bytes.items))
    (StopsFile text limit file)

-- whether a file of so many bytes which begins so is a resource fork or a container
abbrev pub is_other : ℕ → List ℕ → Bool
is_other size front = is_raw_by size front || is_known (kind_of front)

-- the same of a file with these bytes, by its first 4,096
abbrev pub holds_fork : List ℕ → Bool
holds_fork file = is_other (length file) (take 4096 file)

-- what was opened; none where it isn't known as an image
abbrev pub if_image : Result Opened NotOpened → Result (Option Opened) NotOpened
if_image (Ok opened) = Ok (Some opened)
if_image (Err (Path fault)) = Err (Path fault)
if_image (Err (Image (open_fault.Read fault))) = Err (Image (open_fault.Read fault))
if_image (Err (Image (open_fault.Image (Refused Other)))) = Ok None
if_image (Err (Image (open_fault.Image fault))) = Err (Image (open_fault.Image fault))

-- It is no resource fork and no container, and is opened, with an empty path.
pub record IsTried (file : List ℕ) (opened : Result Opened NotOpened) (result : Result (Option Opened) NotOpened) : Type 0 where
  pub other : holds_fork file ≡ false
  pub opens : OpensAt [] opened file
  pub same : result ≡ if_image opened

-- what an image has; none where it is a resource fork or a container, or isn't known as an image; or why it isn't read
abbrev pub OpensImage : Result (Option Opened) NotOpened → List ℕ → Type 0
OpensImage result file = ((holds_fork file ≡ true) × (result ≡ Ok None))
    ⊎ (((opened : Result Opened NotOpened) × IsTried file opened result)
    ⊎ ((fault : ReadFault) × (result ≡ Err (Image (open_fault.Read fault)))))
