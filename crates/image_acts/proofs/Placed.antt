-- What an image's calls, once they are noted, show of it.
use Rattle.std.proofs.Common.{◌≡◌, ℕ, List, [], ◌∷◌, Option, Result, inr, sym, subst}
use Rattle.std.specs.Global.{Vec}
use Rattle.fork_disk.specs.Files.{IsHonestIn}
use Rattle.fork_disk.specs.Record.{IsHonest}
use Rattle.fork_disk.specs.declared.file_disk.FileDisk.{FileDisk}
use Rattle.fork_disk.specs.declared.world.World.{Ghosts}
use Rattle.file_acts.specs.Acts.{Log}
use Rattle.file_acts.specs.declared.acts.Act.TheVariants as act
use Rattle.file_acts.specs.declared.message.Problem.{Problem}
use Rattle.image_open.specs.Opening.{ReadsFile}
use Rattle.image_open.specs.declared.opened.NotOpened.{NotOpened}
use Rattle.image_open.specs.declared.opened.NotRead.{NotRead}
use Rattle.image_open.specs.declared.opened.Opened.{Opened}
use Rattle.image_acts.specs.Places.{Place}
use Rattle.image_acts.specs.Shown.{AsOpened, AsRead, OpensDisk, OpensWord, ReadsPlace, Shows}

pub shows : {W : Type 0} (world : Ghosts W) (image : List ℕ) (old new : Log) (file : FileDisk W) (P : List ℕ → Type 0) → file.number ≡ 0 → new ≡ act.ReadParts image 0 file.log.events ∷ old
    → (IsHonestIn world file → P (world.held 0 [])) → Shows world image old new P
shows {W} world image old new file P first noted known =
    (file.log.events, noted, λ honest. known (subst (λ (n : ℕ). IsHonest (world.held n) (world.may_leave n) file.log.events) (sym first) honest))

-- a file of an image was read
pub reads_place : {W : Type 0} (world : Ghosts W) (image path : List ℕ) (limit : ℕ) (read : Result (Vec ℕ) NotRead) (result : Result (Vec ℕ) Problem) (old new : Log) (file : FileDisk W) → file.number ≡ 0
    → new ≡ act.ReadParts image 0 file.log.events ∷ old → (IsHonestIn world file → ReadsFile path limit read (world.held 0 [])) → AsRead read result → ReadsPlace world image path limit result old new
reads_place {W} world image path limit read result old new file first noted known told = inr (read, shows world image old new file (ReadsFile path limit read) first noted known, told)

-- an image was opened
pub opens_word : {W : Type 0} (world : Ghosts W) (word : List ℕ) (place : Place) (found : Result (Option Opened) NotOpened) (result : Result (Option Opened) Problem) (old new : Log) (file : FileDisk W) → file.number ≡ 0
    → new ≡ act.ReadParts place.image 0 file.log.events ∷ old → (IsHonestIn world file → OpensDisk word place found (world.held 0 [])) → AsOpened found result → OpensWord world word place result old new
opens_word {W} world word place found result old new file first noted known told = inr (found, shows world place.image old new file (OpensDisk word place found) first noted known, told)
