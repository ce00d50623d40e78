-- What is reported where nothing is read of an image.
use Rattle.std.specs.Prelude.{◌≡◌, ⊤, ℕ, List, Result, Ok, Err, Vec}
use Rattle.std.specs.IoError.{error_kind}
use Rattle.std.specs.declared.io.Error.{Error}
use Rattle.std.specs.declared.io.ErrorKind.TheVariants.{NotFound as NoSuchFile}
use Rattle.disk_image.specs.declared.fault.ImageFault.TheVariants.{Refused as RefusedAs}
use Rattle.disk_image.specs.declared.fault.OpenFault.TheVariants as open_fault
use Rattle.disk_image.specs.declared.fault.OpenFault.{OpenFault}
use Rattle.disk_image.specs.declared.known.Known.TheVariants.{Other}
use Rattle.hfs_tree.specs.declared.fault.ReadFault.{ReadFault}
use Rattle.hfs_tree.specs.declared.fault.ReadFault.TheVariants as fault
use Rattle.file_acts.specs.declared.input.NotRead.TheVariants as input
use Rattle.file_acts.specs.declared.message.Problem.{Problem}
use Rattle.file_acts.specs.declared.message.Problem.TheVariants as problem
use Rattle.image_files.specs.declared.found.Found.{Found}
use Rattle.image_files.specs.declared.found.NotFound.{NotFound}
use Rattle.image_files.specs.declared.found.NotFound.TheVariants as why
use Rattle.image_files.specs.declared.refusal.FileRefusal.{FileRefusal}
use Rattle.image_files.specs.declared.refusal.FileRefusal.TheVariants as refusal
use Rattle.image_paths.specs.declared.path.PathFault.{PathFault}
use Rattle.image_paths.specs.declared.path.PathFault.TheVariants as path
use Rattle.image_open.specs.declared.opened.NotOpened.{NotOpened}
use Rattle.image_open.specs.declared.opened.NotOpened.TheVariants.{Path, Image}
use Rattle.image_open.specs.declared.opened.NotRead.{NotRead}
use Rattle.image_open.specs.declared.opened.NotRead.TheVariants as not_read

-- that an image has nothing of a path, unless the host has no memory to say so
abbrev pub IsMissing : Problem → Type 0
IsMissing (problem.NotInImage text) = ⊤
IsMissing problem.HostFull = ⊤
IsMissing other = ⊥

-- that an image, or a file in it, isn't read
abbrev pub IsRefused : Problem → Type 0
IsRefused (problem.Image text) = ⊤
IsRefused problem.HostFull = ⊤
IsRefused other = ⊥

-- that a file fails
abbrev pub IsFailed : Problem → Type 0
IsFailed (problem.Read (input.Failed error)) = ⊤
IsFailed other = ⊥

-- that there is no such file
abbrev pub IsNoSuchFile : Problem → Type 0
IsNoSuchFile (problem.Read (input.Failed error)) = error_kind error ≡ NoSuchFile
IsNoSuchFile other = ⊥

abbrev pub TellsRead : ReadFault → Problem → Type 0
TellsRead fault.Device told = IsFailed told
TellsRead fault.Host told = told ≡ problem.HostFull

-- why a text is no path
abbrev pub TellsPath : PathFault → Problem → Type 0
TellsPath path.HostFull told = told ≡ problem.HostFull
TellsPath fault told = IsMissing told

-- why an image isn't read; what isn't known as one is no file that the word could mean
abbrev pub TellsImage : OpenFault → Problem → Type 0
TellsImage (open_fault.Read fault) told = TellsRead fault told
TellsImage (open_fault.Image (RefusedAs Other)) told = IsNoSuchFile told
TellsImage (open_fault.Image fault) told = IsRefused told

abbrev pub TellsOpening : NotOpened → Problem → Type 0
TellsOpening (Path fault) told = TellsPath fault told
TellsOpening (Image fault) told = TellsImage fault told

-- that a path names nothing, or no file
abbrev pub TellsPlace : Result Found NotFound → Problem → Type 0
TellsPlace (Ok found) told = IsMissing told
TellsPlace (Err (why.Missing number)) told = IsMissing told
TellsPlace (Err why.NotFolder) told = IsMissing told
TellsPlace (Err (why.Refused number)) told = IsRefused told
TellsPlace (Err why.HostFull) told = told ≡ problem.HostFull

-- why a file of an image isn't read
abbrev pub TellsFile : FileRefusal → Problem → Type 0
TellsFile (refusal.TooLong length limit) told = told ≡ problem.Read (input.TooLong limit)
TellsFile refusal.Device told = IsFailed told
TellsFile refusal.HostFull told = told ≡ problem.HostFull
TellsFile other told = IsRefused told

-- why the bytes of a path aren't read
abbrev pub Tells : NotRead → Problem → Type 0
Tells (not_read.NotOpened why) told = TellsOpening why told
Tells (not_read.NoFile opened) told = TellsPlace opened.found told
Tells (not_read.Refused why) told = TellsFile why told
