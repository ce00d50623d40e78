-- What a step of an update does to a pair of any kind that is honest after it.
use Rattle.std.specs.Prelude.{◌≡◌, ℕ, ◌≤◌, true, false, List, drop, length, Option, Result, IfOk, OnOk, IsErrOf, MatchOption, Vec}
use Rattle.std.specs.Global.{Global}
use Rattle.fork_disk.specs.declared.faults.RecoverFault.{RecoverFault}
use Rattle.fork_disk.specs.declared.faults.RecoverFault.TheVariants.{Host}
use Rattle.fork_journal.specs.declared.pair.PairDisk.{Ghosts}
use Rattle.fork_journal.specs.declared.pair.Side.{Side}
use Rattle.fork_journal.specs.Crash.{side_of, other, AlwaysLeaves, LeftWith, Settles}
use Rattle.fork_journal.specs.Form.{fork_in, is_usable}
use Rattle.fork_journal.specs.OnPair.{KeepsPair}
use Rattle.fork_journal.specs.Recovery.{copied_length}

-- the call reads at most
abbrev pub OnlyReadsPair : {P : Type 0} → Ghosts P → P → P → Type 0
OnlyReadsPair pair old new = KeepsPair pair.contents pair.history pair.is_honest old new

-- where it is honest, a side of the pair has as many bytes
abbrev pub HasBytes : {P : Type 0} → Ghosts P → Side → ℕ → P → Type 0
HasBytes pair side n now = pair.is_honest now → n ≤ length (side_of side (pair.contents now))

module _ {P : Type 0} (pair : Ghosts P) (old new : P) where
  -- the call only reads, and this is so of its answer
  pub record Answers (said : Type 0) : Type 0 where
    pub keeps : OnlyReadsPair pair old new
    pub value : said

  -- it finds the fork of a usable journal, and asks for memory only where that has bytes
  pub record FindsUsable (result : Result (Option (Vec ℕ Global)) RecoverFault) : Type 0 where
    pub keeps : OnlyReadsPair pair old new
    pub value : IfOk result (λ found. MatchOption found (is_usable (pair.contents old).journal ≡ false)
        (λ fork. (is_usable (pair.contents old).journal ≡ true) × (fork.items ≡ fork_in (drop 1 (pair.contents old).journal))))
    pub memory : IsErrOf result Host → 1 ≤ copied_length (pair.contents old)

  -- The side gets these bytes, and is stable then. Whenever a crash comes, it leaves what it might have left before,
  -- but for steps of this side.
  pub record PutsSide {T E : Type 0} (side : Side) (Step : List ℕ → List ℕ → Type 0) (bytes : List ℕ) (result : Result T E) : Type 0 where
    pub honest : pair.is_honest old
    pub any_moment : AlwaysLeaves (LeftWith side Step (pair.history old)) (pair.history old) (pair.history new)
    pub stable : OnOk result (Settles side bytes (pair.history old) (pair.history new))
    pub put : OnOk result (side_of side (pair.contents new) ≡ bytes)
    pub kept : side_of (other side) (pair.contents new) ≡ side_of (other side) (pair.contents old)
