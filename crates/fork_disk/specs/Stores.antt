-- What a call does to a store of any kind, where its device is honest after it.
use Rattle.std.specs.Prelude.{◌≡◌, ℕ, ◌+◌, ◌≤◌, List, length, All, Result, OnOk}
use Rattle.fork_disk.specs.declared.store.ForkStore.{Ghosts}
use Rattle.fork_disk.specs.declared.update.Kept.{Kept}
use Rattle.fork_disk.specs.Fork.{gathered}
use Rattle.fork_disk.specs.OnStore.{KeepsFork, ReplacesFork}

-- the call reads at most
abbrev pub OnlyReads : {S : Type 0} → Ghosts S → S → S → Type 0
OnlyReads store old new = KeepsFork store.fork store.is_ready store.is_stable store.is_honest store.history old new

-- this fork takes the place of the old one; one fault reports a failure before the first write, and another a later one
abbrev pub Replaces : {S T E : Type 0} → Ghosts S → S → S → E → E → List ℕ → Result T E → Type 0
Replaces store old new early late this result =
    ReplacesFork store.fork store.is_ready store.is_stable store.is_honest store.history old new store.may_leave store.may_find early late this result

-- it can be read, and has the bytes that a new fork keeps
pub record CanGather {S : Type 0} (store : Ghosts S) (old : S) (kept : List Kept) : Type 0 where
  pub ready : store.is_ready old
  pub there : All (λ k. k.from + k.length ≤ length (store.fork old)) kept

-- a new fork gets the bytes that it keeps
pub record Gathers {S T E : Type 0} (store : Ghosts S) (old new : S) (kept : List Kept) (before after : List ℕ) (result : Result T E) : Type 0 where
  pub keeps : OnlyReads store old new
  pub gathered : OnOk result (after ≡ gathered (store.fork old) kept before)

-- and takes the place of the old one
pub record Updates {S T E : Type 0} (store : Ghosts S) (old new : S) (early late : E) (kept : List Kept) (before after : List ℕ) (result : Result T E) : Type 0 where
  pub replaces : Replaces store old new early late (gathered (store.fork old) kept before) result
  pub gathered : OnOk result (after ≡ gathered (store.fork old) kept before)
