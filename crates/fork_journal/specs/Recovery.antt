-- What a recovery makes of a fork and its journal, and what may be said of every outcome of a crash.
use Rattle.std.specs.Prelude.{◌≡◌, ℕ, ◌≤◌, ◌⊎◌, false, if◌then◌else◌, List, ◌∷◌, length, drop}
use Rattle.fork_journal.specs.Crash.{Contents, History, MayLeave, Leaves}
use Rattle.fork_journal.specs.Form.{fork_in, is_open, is_usable}

-- from a usable journal the fork is written, and then the gate is shut
abbrev pub recovered : Contents → Contents
recovered c = if is_usable c.journal then record { fork = fork_in (drop 1 c.journal); journal = 0 ∷ drop 1 c.journal } else c

-- the fork that is there once the pair is recovered
abbrev pub settled_fork : Contents → List ℕ
settled_fork c = if is_usable c.journal then fork_in (drop 1 c.journal) else c.fork

-- how many bytes of a fork a recovery copies from the journal
abbrev pub copied_length : Contents → ℕ
copied_length c = if is_usable c.journal then length (fork_in (drop 1 c.journal)) else 0

-- recovered, it is the fork before an update or the one after it
abbrev pub IsBeforeOrAfter : List ℕ → List ℕ → Contents → Type 0
IsBeforeOrAfter before after c = (settled_fork c ≡ before) ⊎ (settled_fork c ≡ after)

-- recovered, it is a fork that a crash before the recovery might have left
abbrev pub IsSameChoice : History → Contents → Type 0
IsSameChoice history c = (d : Contents) × MayLeave history d × (settled_fork c ≡ settled_fork d)

-- a fork that is there once an outcome of a crash is recovered
abbrev pub MayFind : History → List ℕ → Type 0
MayFind history found = (c : Contents) × MayLeave history c × (found ≡ settled_fork c)

-- nothing waits for a sync, and a recovery has nothing to do
pub record IsReady (contents : Contents) (history : History) : Type 0 where
  pub settled : Leaves (λ c. c ≡ contents) history
  pub unusable : is_usable contents.journal ≡ false

-- A recovery can make the pair ready: where a crash leaves no usable journal, it leaves the fork as it reads.
abbrev pub IsRecoverable : Contents → History → Type 0
IsRecoverable contents history = Leaves (λ c. is_usable c.journal ≡ false → c.fork ≡ contents.fork) history

-- a crash leaves the fork that is there once the pair is recovered
abbrev pub IsStable : Contents → History → Type 0
IsStable contents history = Leaves (λ c. settled_fork c ≡ settled_fork contents) history

-- the gate is there and shut, so that no text makes the journal usable
pub record IsShut (before : List ℕ) (c : Contents) : Type 0 where
  pub has_gate : 1 ≤ length c.journal
  pub shut : is_open c.journal ≡ false
  pub fork : c.fork ≡ before

-- what a replacement may leave that failed: the old fork or the new one
abbrev pub IsEither : List ℕ → List ℕ → List ℕ → Type 0
IsEither new old left = (left ≡ old) ⊎ (left ≡ new)
