-- What an update, a recovery and their parts do to a pair of any kind that is honest after them.
use Rattle.std.specs.Prelude.{◌≡◌, ℕ, true, List, ◌∷◌, drop, Result, OnOk, IsErrOf}
use Rattle.fork_disk.specs.declared.faults.RecoverFault.{RecoverFault}
use Rattle.fork_disk.specs.declared.store.ReplaceFault.{ReplaceFault}
use Rattle.fork_disk.specs.declared.store.ReplaceFault.TheVariants.{BeforeFirstWrite, Later}
use Rattle.fork_disk.specs.OnStore.{RecoversFork, ReplacesFork}
use Rattle.fork_journal.specs.declared.pair.PairDisk.{Ghosts}
use Rattle.fork_journal.specs.Crash.{Contents, Leaves, AlwaysLeaves}
use Rattle.fork_journal.specs.Form.{text_of, fork_in, is_usable, must_shut}
use Rattle.fork_journal.specs.Pairs.{OnlyReadsPair}
use Rattle.fork_journal.specs.Recovery.{copied_length, recovered, settled_fork, IsReady, IsRecoverable, IsStable, IsShut, IsBeforeOrAfter, IsSameChoice, IsEither, MayFind}

-- the journal is stable and usable, and has this fork
pub record IsStaged {P : Type 0} (pair : Ghosts P) (now : P) (fork : List ℕ) : Type 0 where
  pub stable : Leaves (λ c. c.journal ≡ (pair.contents now).journal) (pair.history now)
  pub usable : is_usable (pair.contents now).journal ≡ true
  pub text : fork ≡ fork_in (drop 1 (pair.contents now).journal)

module _ {P : Type 0} (pair : Ghosts P) where
  -- the fork of a pair, once it is recovered, and whether it can be read and would be found after a crash
  abbrev pub pair_fork : P → List ℕ
  pair_fork now = settled_fork (pair.contents now)

  abbrev pub IsPairReady : P → Type 0
  IsPairReady now = IsReady (pair.contents now) (pair.history now)

  abbrev pub IsPairStable : P → Type 0
  IsPairStable now = IsStable (pair.contents now) (pair.history now)

  -- where it is honest, the pair can be replaced, it can be recovered, or a crash leaves its fork and a shut gate
  abbrev pub CanReplace : P → Type 0
  CanReplace now = pair.is_honest now → IsPairReady now

  abbrev pub CanRecover : P → Type 0
  CanRecover now = pair.is_honest now → IsRecoverable (pair.contents now) (pair.history now)

  abbrev pub HasShut : P → Type 0
  HasShut now = pair.is_honest now → Leaves (IsShut (pair.contents now).fork) (pair.history now)

  module _ (old new : P) where
    -- whenever a crash comes, it leaves what has Q, and a recovery can make the pair ready
    pub record Passes (Q : Contents → Type 0) : Type 0 where
      pub honest : pair.is_honest old
      pub any_moment : AlwaysLeaves Q (pair.history old) (pair.history new)
      pub recoverable : IsRecoverable (pair.contents new) (pair.history new)

    -- The gate is shut, and the fork stays. A failure before the first write changes nothing, and there is a later one
    -- only where the gate had to be shut.
    pub record Shuts {T : Type 0} (result : Result T ReplaceFault) : Type 0 where
      pub passes : Passes (λ c. settled_fork c ≡ (pair.contents old).fork)
      pub shut : OnOk result (Leaves (IsShut (pair.contents old).fork) (pair.history new))
      pub kept : OnOk result ((pair.contents new).fork ≡ (pair.contents old).fork)
      pub before : IsErrOf result BeforeFirstWrite → OnlyReadsPair pair old new
      pub late : IsErrOf result Later → must_shut (pair.contents old).journal ≡ true

    -- the journal has the text of this fork, and its gate is open; a crash leaves the fork from before or this one
    pub record Stages {T E : Type 0} (fork : List ℕ) (result : Result T E) : Type 0 where
      pub passes : Passes (IsBeforeOrAfter (pair.contents old).fork fork)
      pub stable : OnOk result (Leaves (λ c. c.journal ≡ 1 ∷ text_of fork) (pair.history new))
      pub put : OnOk result ((pair.contents new).journal ≡ 1 ∷ text_of fork)

    -- the pair has this fork, and this text in a journal whose gate is shut, and is ready
    pub record Puts {T E : Type 0} (Q : Contents → Type 0) (fork text : List ℕ) (result : Result T E) : Type 0 where
      pub passes : Passes Q
      pub put : OnOk result ((pair.contents new).fork ≡ fork)
      pub journal : OnOk result ((pair.contents new).journal ≡ 0 ∷ text)
      pub ready : OnOk result (IsPairReady new)

    -- a store's fork is replaced; a crash leaves the fork from before or this one, and so does a fault
    pub record ReplacesPair {T : Type 0} (fork : List ℕ) (result : Result T ReplaceFault) : Type 0 where
      pub puts : Puts (IsBeforeOrAfter (pair_fork old) fork) fork (text_of fork) result
      pub left : IsBeforeOrAfter (pair_fork old) fork (pair.contents new)
      pub before : IsErrOf result BeforeFirstWrite → OnlyReadsPair pair old new
      pub store : ReplacesFork pair_fork IsPairReady IsPairStable pair.is_honest pair.history old new IsEither MayFind BeforeFirstWrite Later fork result

    -- A store is recovered. A crash leaves a choice that was there before, and where that was one fork, it leaves this.
    pub record RecoversPair {T : Type 0} (result : Result T RecoverFault) : Type 0 where
      pub passes : Passes (IsSameChoice (pair.history old))
      pub one_fork : IsPairStable old → AlwaysLeaves (λ c. settled_fork c ≡ pair_fork old) (pair.history old) (pair.history new)
      pub recovered : OnOk result (pair.contents new ≡ recovered (pair.contents old))
      pub store : RecoversFork pair_fork IsPairReady IsPairStable pair.is_honest pair.history old new MayFind (λ now. copied_length (pair.contents now)) result
