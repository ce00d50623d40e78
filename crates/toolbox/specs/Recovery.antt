-- What is promised of crashes that come anywhere in a run of calls.
use Rattle.std.specs.Prelude.{◌≡◌, ◌≤◌, ◌⊎◌, ℕ, List, [], ◌∷◌, ◌++◌, IsOk, ⊤}
use Rattle.std.specs.Option.{IsSomeAnd}
use Rattle.mac_base.specs.declared.call.Call.{Call}
use Rattle.mac_base.specs.declared.call.Call.TheVariants.{Resource}
use Rattle.fork_bytes.specs.Written.{written}
use Rattle.fork_disk.specs.declared.store.ForkStore.{Ghosts}
use Rattle.fork_disk.specs.Crash.{AlwaysFinds}
use Rattle.res_update.specs.Changes.{saved_table}
use Rattle.res_update.specs.Steps.{Opens, Quiet, Work, update_in, work_of}
use Rattle.res_files.specs.Crash.{history_of}
use Rattle.res_files.specs.FilesOn.{fork_of}
use Rattle.toolbox.specs.Headline.{Stepped, left_by}
use Rattle.toolbox.specs.Steps.{Gives}
use Rattle.toolbox.specs.ToolState.{IsHonest, ToolState, resource_state}

-- where a crash comes at this moment, the next start may find this fork as the file of a number
abbrev pub MayFind : {S : Type 0} → Ghosts S → ToolState S → ℕ → List ℕ → Type 0
MayFind store now number found = store.may_find (history_of store.history number now.resources.stores) found

-- Whenever a crash comes from the one moment to the other, also within a call, each fork that the next start may find
-- as that file has P.
abbrev pub AlwaysFindsFile : {S : Type 0} → Ghosts S → ℕ → (List ℕ → Type 0) → ToolState S → ToolState S → Type 0
AlwaysFindsFile store number P from to = AlwaysFinds store.may_find P
    (history_of store.history number from.resources.stores) (history_of store.history number to.resources.stores)

-- the work that a call does on the resource files
abbrev pub work_by : {S : Type 0} → Ghosts S → ToolState S → Call → Work
work_by store old (Resource call) = work_of (resource_state store old) call
work_by store old call = Quiet

-- the call is an update of the file of this number, which saves its table as this fork, unless it is refused or fails
abbrev pub Saves : {S : Type 0} → Ghosts S → ToolState S → Call → ℕ → List ℕ → Type 0
Saves store old call number fork =
    IsSomeAnd (update_in (work_by store old call)) (λ u. (u.file ≡ number) × (fork ≡ written (saved_table u.table)))

-- one of these calls is
abbrev pub SavedIn : {S : Type 0} → Ghosts S → ToolState S → List (Stepped S) → ℕ → List ℕ → Type 0
SavedIn store old [] number fork = ⊥
SavedIn store old (step ∷ later) number fork = Saves store old step.call number fork ⊎ SavedIn store step.left later number fork

-- the call succeeded, and the file of this number is this fork from then on: the call saved it, or opened the file and
-- read it
abbrev pub Settles : {S : Type 0} → Ghosts S → ToolState S → Stepped S → ℕ → List ℕ → Type 0
Settles store old step number fork = IsOk step.outcome × (Saves store old step.call number fork
    ⊎ ((work_by store old step.call ≡ Opens number) × (fork ≡ fork_of store.fork number step.left.resources.stores)))

-- What is promised of crashes in these calls, of the file of each number whose device is honest, as the calls leave it.
pub record Recovers {S : Type 0} (store : Ghosts S) (start : ToolState S) (steps : List (Stepped S)) : Type 0 where
  -- Whenever a crash comes, the next start finds what it might have found at an earlier moment, or what an update since
  -- then saves.
  pub any_moment : (first part later : List (Stepped S)) (number : ℕ) → steps ≡ first ++ (part ++ later) → 1 ≤ number
      → IsHonest store (left_by start steps) number → (let from = left_by start first in AlwaysFindsFile store number
      (λ found. MayFind store from number found ⊎ SavedIn store from part number found) from (left_by from part))
  -- Once a call settled a file, the next start finds the fork that it settled, or what a later update saves.
  pub settled : (first part later : List (Stepped S)) (step : Stepped S) (number : ℕ) (fork : List ℕ)
      → steps ≡ first ++ (step ∷ (part ++ later)) → 1 ≤ number → IsHonest store (left_by start steps) number → Settles store (left_by start first) step number fork
      → AlwaysFindsFile store number
      (λ found. (found ≡ fork) ⊎ SavedIn store step.left part number found) step.left (left_by step.left part)

-- these calls were made, each of the toolbox that the one before it left
abbrev pub AreGiven : {S : Type 0} → Ghosts S → ToolState S → List (Stepped S) → Type 0
AreGiven store old [] = ⊤
AreGiven store old (step ∷ later) = Gives store old step.call step.asks step.outcome step.left × AreGiven store step.left later

-- This is promised of the calls that are made of a toolbox over stores with journals.
abbrev pub ToolboxRecovers : {S : Type 0} → Ghosts S → Type 0
ToolboxRecovers {S = S} store = (start : ToolState S) (steps : List (Stepped S))
    → store.has_journal → AreGiven store start steps → Recovers store start steps
