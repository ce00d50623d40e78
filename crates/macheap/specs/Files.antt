-- The files that a run is over.
use Rattle.std.specs.Prelude.{◌≡◌, ◌≢◌, ◌<◌, ℕ, List, length, ⊤}
use Rattle.run_stores.specs.Stores.{most_files}
use Rattle.macheap.specs.declared.asked.NotAsked.{NotAsked}
use Rattle.macheap.specs.declared.asked.NotAsked.TheVariants.{TooManyForks, OtherJournals, HostFull}

-- there are no journals, or one for each fork
abbrev pub FitForks : {A B : Type 0} → List A → List B → Type 0
FitForks journals forks = length journals ≢ 0 → length journals ≡ length forks

-- why a run isn't over these files: they are too many, their journals don't fit, or the host has no memory for their
-- names
abbrev pub NotNamed : {A B : Type 0} → List A → List B → NotAsked → Type 0
NotNamed forks journals TooManyForks = most_files < length forks
NotNamed forks journals OtherJournals = ¬ FitForks journals forks
NotNamed forks journals HostFull = ⊤
NotNamed forks journals other = ⊥
