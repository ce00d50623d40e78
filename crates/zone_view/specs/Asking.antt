-- What the words of the command line ask to be looked at.
use Rattle.std.specs.Prelude.{◌≡◌, ◌≢◌, ℕ, ◌+◌, ◌<◌, List, [], Some, None, Result, Ok, Err, codes, bytes_eq, Bool, ◌||◌, ◌==◌}
use Rattle.std.specs.List.{starts_with}
use Rattle.clap.specs.Words.{Text, IsAmong, kind_of}
use Rattle.clap.specs.declared.error.kind.ErrorKind.{ErrorKind}
use Rattle.clap.specs.declared.error.kind.ErrorKind.TheVariants.{DisplayHelp, OutOfMemory}
use Rattle.zone_view.specs.declared.asked.NotAsked.{NotAsked}
use Rattle.zone_view.specs.declared.asked.NotAsked.TheVariants.{Words, Help, NoFile, NoNumber, Mode, Before, HostFull}
use Rattle.zone_view.specs.declared.asked.Request.{Request}
use Rattle.zone_view.specs.Options.{faults, heads_of, is_set, value_of, HasNoNumber, IsNumberOf}

-- a word is `--look`, alone or with a value
abbrev pub is_look : Text → Bool
is_look word = bytes_eq word (codes "--look") || starts_with (λ a b. a == b) word (codes "--look=")

-- the words match the options, and give these numbers: the zone's address, and that of the file's first byte
pub record GivesNumbers (words : List Text) (base from : ℕ) : Type 0 where
  pub matched : faults words ≡ []
  pub base_given : IsNumberOf (value_of (codes "base") words) base
  pub from_given : IsNumberOf (value_of (codes "from") words) from

-- The words ask for a look at the file of this path, whose first byte has an address, at a zone that begins so many bytes
-- after it and whose blocks are headed as the mode has them; it is shown as JSON where that is asked for.
pub record AsksForLook (words : List Text) (asked : Request) : Type 0 where
  pub from : ℕ
  pub numbers : GivesNumbers words asked.base from
  pub headed : heads_of (value_of (codes "mode") words) ≡ Some asked.heads
  pub begins : from + asked.skipped ≡ asked.base
  pub path : value_of (codes "look") words ≡ Some asked.path.now
  pub json : asked.is_json ≡ is_set (value_of (codes "json") words)

-- the words match the options, and this is the first of `base` and `from` whose value is no number
pub data GivesNoNumber (words : List Text) (option : Text) : Type 0 where
  of_base : option ≡ codes "base" → faults words ≡ [] → HasNoNumber (value_of (codes "base") words) → GivesNoNumber words option
  of_from : option ≡ codes "from" → faults words ≡ [] → (base : ℕ) → IsNumberOf (value_of (codes "base") words) base
      → HasNoNumber (value_of (codes "from") words) → GivesNoNumber words option

-- the words give numbers, and there is no such mode
abbrev pub GivesNoMode : List Text → Type 0
GivesNoMode words = (base : ℕ) × (from : ℕ) × GivesNumbers words base from × (heads_of (value_of (codes "mode") words) ≡ None)

-- the words give numbers and a mode, and the zone begins before the file
abbrev pub BeginsBefore : List Text → Type 0
BeginsBefore words = (base : ℕ) × (from : ℕ) × GivesNumbers words base from × (heads_of (value_of (codes "mode") words) ≢ None) × (base < from)

-- the words match the options, and name no file
abbrev pub NamesNoFile : List Text → Type 0
NamesNoFile words = (faults words ≡ []) × (value_of (codes "look") words ≡ None)

-- What the words ask for, or why they ask for nothing; what is said of it is of that kind. Want of memory may come at any
-- time.
abbrev pub Asks : List Text → Result Request NotAsked → Type 0
Asks words (Ok asked) = AsksForLook words asked
Asks words (Err (Help text)) = IsAmong DisplayHelp (faults words)
Asks words (Err (Words fault)) = IsAmong (kind_of fault) (faults words) × (kind_of fault ≢ DisplayHelp)
Asks words (Err NoFile) = NamesNoFile words
Asks words (Err (NoNumber option)) = GivesNoNumber words option.now
Asks words (Err Mode) = GivesNoMode words
Asks words (Err Before) = BeginsBefore words
Asks words (Err HostFull) = Unit {0}

-- what an error of this kind means: a question for help, want of memory, or words that don't match; the error is handed on
abbrev pub MeansNoLook : ErrorKind → NotAsked → Type 0
MeansNoLook kind (Help text) = kind ≡ DisplayHelp
MeansNoLook kind (Words fault) = (kind ≢ DisplayHelp) × (kind ≢ OutOfMemory) × (kind_of fault ≡ kind)
MeansNoLook kind HostFull = kind ≡ OutOfMemory
MeansNoLook kind other = ⊥

-- the fault of this option's value, which is no number
abbrev pub IsNoNumberFault : Text → NotAsked → Type 0
IsNoNumberFault name (NoNumber option) = option.now ≡ name
IsNoNumberFault name other = ⊥
