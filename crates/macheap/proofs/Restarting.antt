-- A run that starts on what a crash left on the disk.
use Rattle.std.proofs.Common.{◌≡◌, ℕ, zero, suc, ◌-◌, List, [], ◌∷◌, slice_get}
use Rattle.std.specs.Option.{IsSomeAnd}
use Rattle.fork_disk.specs.Crash.{Finds}
use Rattle.macheap.specs.Program.{Parts}
use Rattle.script_run.specs.Seen.{Crash, StartsOn}
use Rattle.macheap.specs.Restarting.{StartsOnDisk}
use Rattle.run_stores.specs.Stores.{ArePaired}

module _ {F S J : Type 0} (parts : Parts F S J) where
  abbrev IsFound : List parts.with_journal.Event → J → Type 0
  IsFound history store = parts.with_journal.may_find history (parts.with_journal.fork store)

  -- a start finds the fork of a store and no other
  abbrev FindsNoOther : J → Type 0
  FindsNoOther store = Finds parts.with_journal.may_find (λ found. found ≡ parts.with_journal.fork store) (parts.with_journal.history store)

  abbrev Law : Type 0
  Law = (number : ℕ) (fork journal : F) (store : J) → parts.pairs number fork journal store → FindsNoOther store

  starts_at : Law → (history : List parts.with_journal.Event) (forks journals : List F) (stores : List J) (from at : ℕ) → ArePaired parts.pairs from forks journals stores
      → IsSomeAnd (slice_get stores at) (IsFound history) → IsSomeAnd (slice_get stores at) (λ store. IsFound history store × FindsNoOther store)
  starts_at law history (fork ∷ forks) (journal ∷ journals) (s ∷ stores) from zero are found = (found, law from fork journal s are.0)
  starts_at law history (fork ∷ forks) (journal ∷ journals) (s ∷ stores) from (suc at) are found = starts_at law history forks journals stores (suc from) at are.1 found
  starts_at law history [] [] [] from at are found = absurd found
  starts_at law history [] [] (s ∷ stores) from at are found = absurd are
  starts_at law history [] (journal ∷ journals) stores from at are found = absurd are
  starts_at law history (fork ∷ forks) [] stores from at are found = absurd are
  starts_at law history (fork ∷ forks) (journal ∷ journals) [] from at are found = absurd found

  -- a run that starts on the disk as a crash left it starts on that file so: until something happens to it a start finds
  -- no other fork
  pub starts_on : Law → (crash : Crash parts.with_journal.Event) (number : ℕ) (stores : List J) → StartsOnDisk parts crash number stores → StartsOn parts.with_journal crash number stores
  starts_on law crash number stores (paths, openings, (forks, journals, asked, are, named), found) = starts_at law crash.history forks journals stores 0 (number - 1) are found
