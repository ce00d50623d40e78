-- What the calls on an image show of its bytes, and what is made of that.
use Rattle.std.specs.Prelude.{◌≡◌, ◌≢◌, ◌⊎◌, ℕ, List, [], ◌∷◌, Option, None, Some, Result, Ok, Err}
use Rattle.std.specs.Global.{Vec}
use Rattle.fork_disk.specs.Record.{Event, IsHonest}
use Rattle.fork_disk.specs.declared.world.World.{Ghosts}
use Rattle.file_acts.specs.Acts.{Log, Reads}
use Rattle.file_acts.specs.declared.acts.Act.TheVariants as act
use Rattle.file_acts.specs.declared.message.Problem.{Problem}
use Rattle.image_open.specs.Opening.{OpensAt, OpensImage, ReadsFile}
use Rattle.image_open.specs.declared.opened.NotOpened.{NotOpened}
use Rattle.image_open.specs.declared.opened.NotRead.{NotRead}
use Rattle.image_open.specs.declared.opened.Opened.{Opened}
use Rattle.image_acts.specs.Places.{NamesImage, NamesPlace, Place}
use Rattle.image_acts.specs.Told.{IsFailed, Tells, TellsOpening}

-- The image of this path was read, by these calls; where their answers are those of a file, this holds of its bytes.
abbrev pub Shows : {W : Type 0} → Ghosts W → List ℕ → Log → Log → (List ℕ → Type 0) → Type 0
Shows world image old new P = (calls : List Event) × (new ≡ act.ReadParts image 0 calls ∷ old) × (IsHonest (world.held 0) (world.may_leave 0) calls → P (world.held 0 []))

-- the file of this path couldn't be opened, and nothing was read
abbrev pub IsUnopened : {T : Type 0} → Result T Problem → Log → Log → Type 0
IsUnopened result old new = (new ≡ old) × ((why : Problem) × (result ≡ Err why) × IsFailed why)

-- what was read, or why not
abbrev pub AsRead : Result (Vec ℕ) NotRead → Result (Vec ℕ) Problem → Type 0
AsRead (Ok bytes) result = result ≡ Ok bytes
AsRead (Err why) result = (told : Problem) × (result ≡ Err told) × Tells why told

-- a file was read that a path names in an image
abbrev pub ReadsPlace : {W : Type 0} → Ghosts W → List ℕ → List ℕ → ℕ → Result (Vec ℕ) Problem → Log → Log → Type 0
ReadsPlace world image path limit result old new =
    IsUnopened result old new ⊎ ((read : Result (Vec ℕ) NotRead) × Shows world image old new (ReadsFile path limit read) × AsRead read result)

-- what was opened, or why not
abbrev pub AsOpened : Result (Option Opened) NotOpened → Result (Option Opened) Problem → Type 0
AsOpened (Ok opened) result = result ≡ Ok opened
AsOpened (Err why) result = (told : Problem) × (result ≡ Err told) × TellsOpening why told

-- it is opened
abbrev pub some_opened : Result Opened NotOpened → Result (Option Opened) NotOpened
some_opened (Ok opened) = Ok (Some opened)
some_opened (Err why) = Err why

-- What a word names in an image with these bytes: what the image has, if the word is just its path; else what is at the place.
abbrev pub OpensDisk : List ℕ → Place → Result (Option Opened) NotOpened → List ℕ → Type 0
OpensDisk word place found file =
    ((word ≡ place.image) × OpensImage found file)
    ⊎ ((word ≢ place.image) × ((opened : Result Opened NotOpened) × (found ≡ some_opened opened) × OpensAt place.path opened file))

-- the image of a place was opened
abbrev pub OpensWord : {W : Type 0} → Ghosts W → List ℕ → Place → Result (Option Opened) Problem → Log → Log → Type 0
OpensWord world word place result old new =
    IsUnopened result old new ⊎ ((found : Result (Option Opened) NotOpened) × Shows world place.image old new (OpensDisk word place found) × AsOpened found result)

-- a word's image was opened, if it names one
abbrev pub OpensIf : {W : Type 0} → Ghosts W → List ℕ → Option Place → Result (Option Opened) Problem → Log → Log → Type 0
OpensIf world word None result old new = (result ≡ Ok None) × (new ≡ old)
OpensIf world word (Some place) result old new = OpensWord world word place result old new

abbrev pub OpensNamed : {W : Type 0} → Ghosts W → List ℕ → Result (Option Opened) Problem → Log → Log → Type 0
OpensNamed world word result old new = (place : Option Place) × (mid : Log) × NamesImage word place old mid × OpensIf world word place result mid new

-- a word is read: the file that it names, or the file of a place in an image
abbrev pub ReadsAt : {W : Type 0} → Ghosts W → Option Place → List ℕ → ℕ → Result (Vec ℕ) Problem → Log → Log → Type 0
ReadsAt world None word limit result old new = Reads word result old new
ReadsAt world (Some place) word limit result old new = ReadsPlace world place.image place.path limit result old new

abbrev pub ReadsNamed : {W : Type 0} → Ghosts W → List ℕ → ℕ → Result (Vec ℕ) Problem → Log → Log → Type 0
ReadsNamed world word limit result old new = (place : Option Place) × (mid : Log) × NamesPlace word place old mid × ReadsAt world place word limit result mid new
