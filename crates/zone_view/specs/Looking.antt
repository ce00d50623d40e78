-- What a look does with its words, the host's files and its output.
use Rattle.std.specs.Prelude.{◌≡◌, ◌⊎◌, ℕ, List, drop, is_none, if◌then◌else◌, Option, Result, Ok, Err}
use Rattle.std.specs.Io.KnownBytes.{Appends}
use Rattle.clap.specs.Words.{Text, IsAmong}
use Rattle.clap.specs.declared.error.kind.ErrorKind.{ErrorKind}
use Rattle.clap.specs.declared.error.kind.ErrorKind.TheVariants.{DisplayHelp}
use Rattle.mac_base.specs.declared.block.Block.{Block}
use Rattle.zone_look.specs.Look.{IsLook}
use Rattle.zone_look.specs.Memory.{Memory}
use Rattle.zone_look.specs.declared.looking.Found.{Found}
use Rattle.zone_view.specs.declared.asked.NotAsked.{NotAsked}
use Rattle.zone_view.specs.declared.asked.NotAsked.TheVariants.{Help, HostFull}
use Rattle.zone_view.specs.declared.asked.Request.{Request}
use Rattle.zone_view.specs.declared.writing.NotWritten.{NotWritten}
use Rattle.zone_view.specs.declared.reading.NotRead.{NotRead}
use Rattle.zone_view.specs.declared.reading.ReadAnswer.TheVariants.{Bytes}
use Rattle.zone_view.specs.Options.{faults}
use Rattle.zone_view.specs.Asking.{AsksForLook, BeginsBefore, GivesNoMode, GivesNoNumber, NamesNoFile}
use Rattle.zone_view.specs.Reading.{Acts, IsReading, WasRead}
use Rattle.zone_view.specs.Shown.{look_text}
use Rattle.zone_view.specs.Writing.{WritesFront}

-- the memory that is looked at: the zone's address, and the bytes of the file from there on
abbrev pub memory_of : Request → List ℕ → Memory
memory_of asked bytes = record { heads = asked.heads; base = asked.base; bytes = drop asked.skipped bytes }

-- the text is what is found in these bytes: all blocks, what is beside them, and the first thing that is wrong
abbrev pub Shows : Request → List ℕ → Found → List ℕ → Type 0
Shows asked bytes found text = (blocks : List Block) × IsLook (memory_of asked bytes) found blocks × (text ≡ look_text asked.is_json blocks found)

-- the exit status after a look: 3 exactly where something is wrong with the zone
abbrev pub status_of : Found → ℕ
status_of found = if is_none found.fault then 0 else 3

-- the words are bad: they don't match the options, or give no file, no number, no mode, or a zone before the file
abbrev pub AreBad : List Text → Type 0
AreBad words = ((fault : ErrorKind) × IsAmong fault (faults words)) ⊎ (NamesNoFile words ⊎ (((option : Text) × GivesNoNumber words option) ⊎ (GivesNoMode words ⊎ BeginsBefore words)))

-- A look at the file that was asked for did so with the host's files, and with an output that held such bytes before it
-- and holds others after it, and gave this status.
pub data Viewed (asked : Request) (acts acts_now : Acts) (old new : Option (List ℕ)) (silent : Type 0) (status : ℕ) : Type 0 where
  -- the file was read, and no other opened, and what is found in it was written, without any message
  looked : (bytes text : List ℕ) (found : Found) → WasRead asked.path.now (Bytes bytes) acts acts_now → Shows asked bytes found text → Appends old new text
      → silent → status ≡ status_of found → Viewed asked acts acts_now old new silent status
  -- or a front of it, since the output takes no more or the host has no memory
  unwritten : (bytes text : List ℕ) (found : Found) → WasRead asked.path.now (Bytes bytes) acts acts_now → Shows asked bytes found text → WritesFront text old new
      → status ≡ 1 → Viewed asked acts acts_now old new silent status
  -- the file isn't read, for this reason, and nothing was written
  unread : (why : NotRead) → IsReading asked.path.now (Err why) acts acts_now → new ≡ old → status ≡ 1 → Viewed asked acts acts_now old new silent status

-- what is found in these bytes was written, with its status, or a front of it
abbrev pub ShowsZone : Request → List ℕ → Option (List ℕ) → Option (List ℕ) → Result ℕ NotWritten → Type 0
ShowsZone asked bytes old new (Ok status) = (text : List ℕ) × (found : Found) × Shows asked bytes found text × Appends old new text × (status ≡ status_of found)
ShowsZone asked bytes old new (Err why) = (text : List ℕ) × (found : Found) × Shows asked bytes found text × WritesFront text old new

-- with status 0 some text was written, or with status 1 a front of it, also none where the host has no memory
pub data HelpEnds (old new : Option (List ℕ)) (silent : Type 0) (status : ℕ) : Type 0 where
  shown : (text : List ℕ) → Appends old new text → silent → status ≡ 0 → HelpEnds old new silent status
  cut : (text : List ℕ) → WritesFront text old new → status ≡ 1 → HelpEnds old new silent status

-- what follows where the words ask for no look: help is written; or nothing, and the status says that the words are bad,
-- or that the host has no memory for them
abbrev pub Refuses : NotAsked → Option (List ℕ) → Option (List ℕ) → Type 0 → ℕ → Type 0
Refuses (Help text) old new silent status = HelpEnds old new silent status
Refuses HostFull old new silent status = (new ≡ old) × (status ≡ 1)
Refuses other old new silent status = (new ≡ old) × (status ≡ 2)

-- With these words a look did so with the host's files, with an output that held such bytes before it and holds others
-- after it, and with its messages, and gave this status.
pub data LookEnds (words : List Text) (acts acts_now : Acts) (old new : Option (List ℕ)) (silent : Type 0) (status : ℕ) : Type 0 where
  viewed : (asked : Request) → AsksForLook words asked → Viewed asked acts acts_now old new silent status → LookEnds words acts acts_now old new silent status
  -- help was written
  helped : IsAmong DisplayHelp (faults words) → acts_now ≡ acts → HelpEnds old new silent status → LookEnds words acts acts_now old new silent status
  -- the words are bad, or the host has no memory for them, and nothing was done
  refused : AreBad words → acts_now ≡ acts → new ≡ old → status ≡ 2 → LookEnds words acts acts_now old new silent status
  full_words : acts_now ≡ acts → new ≡ old → status ≡ 1 → LookEnds words acts acts_now old new silent status
