-- The premises of files can be met: in some world those that do what they answer, and answer what they hold, are honest.
use Rattle.std.specs.Prelude.{◌≡◌, ℕ, zero, suc, Bool, true, List, [], ◌∷◌, length, ◌≤◌, ⊤}
use Rattle.fork_disk.proofs.Honest.{after, leaves, stepped, Tells}
use Rattle.fork_disk.specs.Record.{Event, call_of, number_of, is_done}
use Rattle.fork_disk.specs.declared.file_disk.FileDisk.{FileDisk}
use Rattle.fork_disk.specs.declared.store.PlainStore.{PlainStore}
use Rattle.fork_disk.specs.declared.world.Unknown.{Unknown}
use Rattle.fork_disk.specs.declared.world.World as world_of
use Rattle.fork_journal.specs.Crash as crashes
use Rattle.fork_journal.specs.Crash.{Contents, MayLeave, side_of}
use Rattle.fork_journal.specs.Files.{side_in}
use Rattle.fork_journal.specs.Record.{with_side}
use Rattle.fork_journal.specs.declared.file_pair.FilePair.{FilePair}
use Rattle.fork_journal.specs.declared.journal.Journal.{Journal}
use Rattle.fork_journal.specs.declared.pair_world.PairWorld as pair_world
use Rattle.fork_journal.specs.declared.pair_world.UnknownPair.{UnknownPair}
use Rattle.script_run.specs.Seen.{Crash, StartsOn}
use Rattle.script_tests.specs.Files.{file_pair, file_store, journalled_store}

-- The answers of these calls, the newest first, say what a file holds that had these bytes before them and does what
-- it answers.
abbrev pub AreTold : List ℕ → List Event → Type 0
AreTold first [] = ⊤
AreTold first (e ∷ past) = AreTold first past × Tells (call_of e) (number_of e) (is_done e) e.1 (after first past)

-- the world of files that had these bytes at first, and do what they answer
abbrev pub faithful : (ℕ → List ℕ) → world_of.Ghosts Unknown
faithful first = record { held = λ number. after (first number); may_leave = λ number. leaves (first number) }

-- in that world a file is honest after any calls whose answers say what it holds
abbrev pub FilesCanBeHonest : Type 0
FilesCanBeHonest = (first : ℕ → List ℕ) (store : PlainStore (FileDisk Unknown))
    → AreTold (first store.disk.number) store.disk.log.events → (file_store (faithful first)).is_honest store

-- what two files hold after these calls, the newest first, where each does what it answers
abbrev pub both_after : Contents → List Event → Contents
both_after first [] = first
both_after first (e ∷ past) = let old = both_after first past in
    with_side (side_in e) (stepped (call_of e) (number_of e) (is_done e) e.1 (side_of (side_in e) old)) old

-- a call returns a length or bytes, or it is a write that begins within the file, or a cut or a sync
abbrev pub TellsOf : ℕ → ℕ → Bool → List ℕ → List ℕ → Type 0
TellsOf (suc (suc zero)) at ok bytes old = at ≤ length old
TellsOf other n ok bytes old = Tells other n ok bytes old

-- the answers of these calls say what two files hold that had these bytes before them
abbrev pub AreBothTold : Contents → List Event → Type 0
AreBothTold first [] = ⊤
AreBothTold first (e ∷ past) = AreBothTold first past
    × TellsOf (call_of e) (number_of e) (is_done e) e.1 (side_of (side_in e) (both_after first past))

-- the world of pairs of files that had these bytes at first, and do what they answer
abbrev pub faithful_pairs : (ℕ → ℕ → Contents) → pair_world.Ghosts UnknownPair
faithful_pairs first = record { held = λ run number. both_after (first run number) }

-- in that world a fork and its journal that were synced are honest after any calls whose answers say what they hold
abbrev pub PairsCanBeHonest : Type 0
PairsCanBeHonest = (first : ℕ → ℕ → Contents) (files : FilePair UnknownPair (faithful_pairs first))
    → files.fork.was_synced ≡ true → files.journal.was_synced ≡ true → AreBothTold (first files.run files.number) files.log.events → (file_pair (faithful_pairs first)).is_honest files

-- whatever a crash may leave of two files, a run over them starts on it, if they have that when they are opened in it
abbrev pub PairsCanBeLeft : Type 0
PairsCanBeLeft = (first : ℕ → ℕ → Contents) (crash : Crash crashes.Event) (store : Journal (FilePair UnknownPair (faithful_pairs first)) (file_pair (faithful_pairs first)))
    → store.pair.log.events ≡ [] → MayLeave crash.history (first store.pair.run store.pair.number) → StartsOn (journalled_store (faithful_pairs first)) crash 1 (store ∷ [])
