-- What the words of the command line ask for.
use Rattle.std.specs.Prelude.{◌≡◌, ◌≢◌, ◌<◌, ◌≤◌, ℕ, Bool, true, false, List, [], length, map, Option, Some, None, Result, Ok, Err, codes, ◌⊎◌}
use Rattle.clap.specs.Words.{Text, IsAmong, kind_of}
use Rattle.clap.specs.declared.error.kind.ErrorKind.{ErrorKind}
use Rattle.clap.specs.declared.error.kind.ErrorKind.TheVariants.{DisplayHelp, DisplayVersion, OutOfMemory}
use Rattle.mac_base.specs.declared.block.HeadKind.{HeadKind}
use Rattle.mac_base.specs.declared.zone_spec.BadSpec.{BadSpec}
use Rattle.mac_base.specs.ZoneSizes.{ZoneSizes, ArePossible, AreUsual, first_fault, first_large_fault}
use Rattle.macheap.specs.declared.asked.Asked.{Asked}
use Rattle.macheap.specs.declared.asked.Asked.TheVariants.{Run, Help}
use Rattle.macheap.specs.declared.asked.NotAsked.{NotAsked}
use Rattle.macheap.specs.declared.asked.NotAsked.TheVariants.{Words, TooManyForks, OtherJournals, NoNumber, Mode, Spec, HostFull}
use Rattle.run_stores.specs.Stores.{most_files}
use Rattle.macheap.specs.Files.{FitForks}
use Rattle.macheap.specs.Options.{faults, allows_large, forks_of, heads_of, journals_of, value_of, IsNumberOf, IsNoNumber}

-- the words match the options, and name no more files than a run may have, with a journal for each or none
abbrev pub Match : List Text → Type 0
Match words = (faults words ≡ []) × (length (forks_of words) ≤ most_files) × FitForks (journals_of words) (forks_of words)

-- the words match the options, and give these numbers: the zone's first address, its size in bytes, the size that it
-- may grow to, which is its own where none is given, and the mode
pub record GivesNumbers (words : List Text) (base size limit mode : ℕ) : Type 0 where
  pub matched : Match words
  pub size_given : IsNumberOf (value_of (codes "zone") words) 4096 size
  pub limit_given : IsNumberOf (value_of (codes "limit") words) size limit
  pub base_given : IsNumberOf (value_of (codes "base") words) 0x10_0000 base
  pub mode_given : IsNumberOf (value_of (codes "mode") words) 24 mode

-- a zone may have these sizes, which are those of a large one only where that is allowed
abbrev pub IsAllowed : Bool → ZoneSizes → Type 0
IsAllowed true = ArePossible
IsAllowed false = AreUsual

-- the fault of the first condition that these sizes don't meet, where a large zone is allowed or not
abbrev pub zone_fault : Bool → HeadKind → ℕ → ℕ → ℕ → Option BadSpec
zone_fault true heads base size limit = first_large_fault heads base size limit
zone_fault false heads base size limit = first_fault base size limit

-- the words ask for a run on a zone of these sizes, of blocks as the mode has them, over the files of these names, with
-- these journals
pub record AsksForRun (words : List Text) (sizes : ZoneSizes) (forks journals : List Text) : Type 0 where
  pub base : ℕ
  pub size : ℕ
  pub limit : ℕ
  pub mode : ℕ
  pub heads : HeadKind
  pub numbers : GivesNumbers words base size limit mode
  pub headed : heads_of mode ≡ Some heads
  pub is : sizes ≡ record { heads = heads; base = base; size = size; limit = limit }
  pub allowed : IsAllowed (allows_large words) sizes
  pub forks_are : forks ≡ forks_of words
  pub journals_are : journals ≡ journals_of words

-- what the words ask to be shown: help, or the version
abbrev pub IsShown : ErrorKind → Type 0
IsShown kind = (kind ≡ DisplayHelp) ⊎ (kind ≡ DisplayVersion)

-- the words don't match the options, and don't ask for help or the version
abbrev pub DontMatch : List Text → Type 0
DontMatch words = (fault : ErrorKind) × IsAmong fault (faults words) × ¬ IsShown fault

-- the words match the options, and name more files than a run may have
abbrev pub NamesTooMany : List Text → Type 0
NamesTooMany words = (faults words ≡ []) × (most_files < length (forks_of words))

-- the words match the options, and name journals, and not one for each file
abbrev pub JournalsDontFit : List Text → Type 0
JournalsDontFit words = (faults words ≡ []) × ¬ FitForks (journals_of words) (forks_of words)

-- the words match the options, and this is the first of `zone`, `limit`, `base` and `mode` whose value is no number
pub data GivesNoNumber (words : List Text) (option : Text) : Type 0 where
  of_zone : option ≡ codes "zone" → Match words → IsNoNumber (value_of (codes "zone") words) → GivesNoNumber words option
  of_limit : option ≡ codes "limit" → Match words → (size : ℕ) → IsNumberOf (value_of (codes "zone") words) 4096 size
      → IsNoNumber (value_of (codes "limit") words) → GivesNoNumber words option
  of_base : option ≡ codes "base" → Match words → (size limit : ℕ) → IsNumberOf (value_of (codes "zone") words) 4096 size
      → IsNumberOf (value_of (codes "limit") words) size limit → IsNoNumber (value_of (codes "base") words) → GivesNoNumber words option
  of_mode : option ≡ codes "mode" → Match words → (size limit base : ℕ) → IsNumberOf (value_of (codes "zone") words) 4096 size
      → IsNumberOf (value_of (codes "limit") words) size limit → IsNumberOf (value_of (codes "base") words) 0x10_0000 base
      → IsNoNumber (value_of (codes "mode") words) → GivesNoNumber words option

-- the words give numbers, and there is no such mode
abbrev pub GivesNoMode : List Text → ℕ → Type 0
GivesNoMode words mode = (base : ℕ) × (size : ℕ) × (limit : ℕ) × GivesNumbers words base size limit mode × (heads_of mode ≡ None)

-- the words give numbers and a mode, and no zone has these sizes for this reason
abbrev pub GivesNoZone : List Text → BadSpec → Type 0
GivesNoZone words fault = (base : ℕ) × (size : ℕ) × (limit : ℕ) × (mode : ℕ) × (heads : HeadKind)
    × GivesNumbers words base size limit mode × (heads_of mode ≡ Some heads) × (zone_fault (allows_large words) heads base size limit ≡ Some fault)

-- What the words ask for, or why they ask for nothing; what is shown or said of it is of that kind. Want of memory may
-- come at any time.
abbrev pub Asks : List Text → Result Asked NotAsked → Type 0
Asks words (Ok (Run sizes files)) = AsksForRun words sizes (map (λ name. name.now) files.forks.items) (map (λ name. name.now) files.journals.items)
Asks words (Ok (Help text)) = IsAmong (kind_of text) (faults words) × IsShown (kind_of text)
Asks words (Err (Words fault)) = IsAmong (kind_of fault) (faults words) × ¬ IsShown (kind_of fault)
Asks words (Err (NoNumber option)) = GivesNoNumber words option.now
Asks words (Err TooManyForks) = NamesTooMany words
Asks words (Err OtherJournals) = JournalsDontFit words
Asks words (Err (Mode mode)) = GivesNoMode words mode
Asks words (Err (Spec fault)) = GivesNoZone words fault
Asks words (Err HostFull) = Unit {0}

-- what an error of this kind means: a question for help or the version, want of memory, or words that don't match; the error is handed
-- on
abbrev pub MeansNoRun : ErrorKind → Result Asked NotAsked → Type 0
MeansNoRun kind (Ok (Run sizes files)) = ⊥
MeansNoRun kind (Ok (Help text)) = IsShown kind × (kind_of text ≡ kind)
MeansNoRun kind (Err (Words fault)) = (¬ IsShown kind) × (kind ≢ OutOfMemory) × (kind_of fault ≡ kind)
MeansNoRun kind (Err HostFull) = kind ≡ OutOfMemory
MeansNoRun kind (Err other) = ⊥

-- the fault of this option's value, which is no number
abbrev pub IsNoNumberFault : Text → NotAsked → Type 0
IsNoNumberFault name (NoNumber option) = option.now ≡ name
IsNoNumberFault name other = ⊥
