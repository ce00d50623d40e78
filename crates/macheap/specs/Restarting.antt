-- A run that starts on what a crash left on the disk.
use Rattle.std.specs.Prelude.{ℕ, ◌-◌, List, slice_get}
use Rattle.std.specs.Option.{IsSomeAnd}
use Rattle.clap.specs.Words.{Text}
use Rattle.script_run.specs.Seen.{Crash}
use Rattle.macheap.specs.Program.{Parts}
use Rattle.run_stores.specs.Stores.{AreJournalled, Opening}

-- The next run starts on the disk as the crash left it: its stores are those of files that it opened, and what it finds
-- on the disk under the store of this number is a fork that a start may find then.
abbrev pub StartsOnDisk : {F S J : Type 0} (parts : Parts F S J) → Crash parts.with_journal.Event → ℕ → List J → Type 0
StartsOnDisk {F = F} parts crash number stores = (paths : List Text) × (openings : List (Opening F)) × AreJournalled parts.files parts.pairs paths openings stores
    × IsSomeAnd (slice_get stores (number - 1)) (λ s. parts.with_journal.may_find crash.history (parts.with_journal.fork s))
