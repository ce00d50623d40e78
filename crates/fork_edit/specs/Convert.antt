-- What comes of a file in another container.
use Rattle.std.specs.Prelude.{◌≡◌, ◌≢◌, ℕ, Bool, true, false, ◌&&◌, not, if◌then◌else◌, ◌⊎◌, List, [], ◌∷◌, ◌++◌, map, Option, None, Some, Result, Ok, Err, ⊤}
use Rattle.mac_files.specs.declared.container.Container.{Container}
use Rattle.mac_files.specs.declared.container.Container.TheVariants.{Raw, AppleSingle, AppleDouble, MacBinary}
use Rattle.mac_files.specs.Containers.{container_of}
use Rattle.mac_write.specs.Parts.{Parts, view}
use Rattle.mac_write.specs.declared.detail.Detail.{Detail}
use Rattle.mac_write.specs.declared.detail.Detail.TheVariants.{Comment, DataFork, Dates, Finder, Name}
use Rattle.mac_write.specs.Lost.{holds, is_lost}
use Rattle.mac_write.specs.Targets.{text_of, unwritten}
use Rattle.mac_write.specs.Written.{held}
use Rattle.fork_edit.specs.Extras.{extras}
use Rattle.fork_edit.specs.declared.convert.Rewritten.{Rewritten}
use Rattle.fork_edit.specs.declared.convert.Loss.{Loss}
use Rattle.fork_edit.specs.declared.convert.Loss.TheVariants as loss
use Rattle.fork_edit.specs.declared.convert.NotConverted.{NotConverted}
use Rattle.fork_edit.specs.declared.convert.NotConverted.TheVariants as unconverted
use Rattle.fork_edit.specs.declared.convert.Transfer.{Transfer}

-- the same file with a name and a data fork
abbrev pub completed : Parts → List ℕ → List ℕ → Parts
completed file name fork = record file { name = name; data_fork = fork }

-- What of a file isn't in its new container.

-- what the new file is to be
abbrev pub new_file : Transfer → Parts
new_file asked = completed (view asked.file) asked.name.now asked.data_fork.now

-- the container can't hold this of the file; a data fork that has a file of its own is there
abbrev pub is_left_out : Transfer → Detail → Bool
is_left_out asked DataFork = is_lost DataFork asked.target (new_file asked) && not asked.is_data_named
is_left_out asked detail = is_lost detail asked.target (new_file asked)

-- so it is reported
abbrev pub told : Transfer → Detail → List Loss
told asked detail = if is_left_out asked detail then loss.Detail detail ∷ [] else []

abbrev pub lost_details : Transfer → List Loss
lost_details asked = told asked Name ++ (told asked Finder ++ (told asked Dates ++ (told asked Comment ++ told asked DataFork)))

-- a file that is known as this has its data fork in another file
abbrev pub is_data_beside : Option Container → Bool
is_data_beside None = false
is_data_beside (Some Raw) = false
is_data_beside (Some AppleSingle) = false
is_data_beside (Some AppleDouble) = true
is_data_beside (Some (MacBinary version)) = false

-- the container is to hold a data fork that is in a file which isn't known
abbrev pub lacks_data : Transfer → Bool
lacks_data asked = is_data_beside (container_of asked.bytes.now) && (holds asked.target DataFork && not asked.is_data_named)

-- all that is lost: details that the container can't hold, a data fork that is elsewhere, and what no container is
-- given
abbrev pub losses : Transfer → List Loss
losses asked = lost_details asked
    ++ ((if lacks_data asked then loss.DataBeside ∷ [] else []) ++ map loss.Extra (extras asked.bytes.now))

-- nothing is lost, or it may be
abbrev pub MayLose : Transfer → Type 0
MayLose asked = (asked.is_lossy ≡ true) ⊎ (losses asked ≡ [])

-- what comes of a file in another container: what is lost is reported, and refused where it may not be; then the
-- container's own refusal comes, and else there is the new file
abbrev pub IsConverted : Transfer → Result Rewritten NotConverted → Type 0
IsConverted asked (Ok new) = MayLose asked × (new.lost.items ≡ losses asked) × (new.file.items ≡ text_of asked.target (new_file asked))
    × (unwritten asked.target (new_file asked) ≡ None)
IsConverted asked (Err (unconverted.NotHeld lost)) = (asked.is_lossy ≡ false) × (lost.items ≡ losses asked) × (losses asked ≢ [])
IsConverted asked (Err (unconverted.Write fault)) = MayLose asked × (unwritten asked.target (new_file asked) ≡ Some fault)
IsConverted asked (Err unconverted.HostFull) = ⊤

-- the new file but for a data fork that has a file of its own
abbrev pub here : Bool → Parts → Parts
here true file = record file { data_fork = [] }
here false file = file

-- the container holds all of the new file
abbrev pub IsHeldWhole : Transfer → Type 0
IsHeldWhole asked = let file = here asked.is_data_named (new_file asked) in held asked.target file ≡ file
