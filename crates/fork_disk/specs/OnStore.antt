-- What a call does to a store whose device is honest after it. It was so before.
use Rattle.std.specs.Prelude.{◌≡◌, ℕ, ◌+◌, ◌≤◌, List, length, Result, IfOk, OnOk, IsErrOf}
use Rattle.fork_disk.specs.declared.faults.RecoverFault.{RecoverFault}
use Rattle.fork_disk.specs.declared.faults.RecoverFault.TheVariants.{Host}
use Rattle.fork_disk.specs.Crash.{AlwaysFinds, FoundBeforeOr}
use Rattle.fork_disk.specs.Disk.{bytes_at}

-- it can be read, and has so many bytes at this offset
pub record CanRead {S : Type 0} (fork : S → List ℕ) (is_ready : S → Type 0) (store : S) (at n : ℕ) : Type 0 where
  pub ready : is_ready store
  pub there : at + n ≤ length (fork store)

module _ {S Event : Type 0} (fork : S → List ℕ) (is_ready is_stable is_honest : S → Type 0) (history : S → List Event) (old new : S) where
  -- the fork is the same and can be read, what was stable is so, and nothing happened to the device
  pub record KeepsFork : Type 0 where
    pub honest : is_honest old
    pub same : fork new ≡ fork old
    pub ready : is_ready new
    pub stable : is_stable old → is_stable new
    pub calm : history new ≡ history old

  -- it says how many bytes the fork has
  pub record MeasuresFork {E : Type 0} (result : Result ℕ E) : Type 0 where
    pub keeps : KeepsFork
    pub value : IfOk result (λ n. n ≡ length (fork old))

  -- the buffer gets the fork's bytes at this offset
  pub record ReadsFork {T E : Type 0} (at : ℕ) (before after : List ℕ) (result : Result T E) : Type 0 where
    pub keeps : KeepsFork
    pub read : OnOk result (after ≡ bytes_at (length before) at (fork old))

  -- The fork is this one, ready and stable. A failure before the first write, which one fault reports, changes nothing,
  -- and a later one leaves what it may. Whenever a crash comes, a start finds a fork that it might have found before,
  -- or this one.
  pub record ReplacesFork {T E : Type 0} (may_leave : List ℕ → List ℕ → List ℕ → Type 0) (may_find : List Event → List ℕ → Type 0) (early late : E) (this : List ℕ) (result : Result T E) : Type 0 where
    pub honest : is_honest old
    pub replaced : OnOk result (fork new ≡ this)
    pub ready : OnOk result (is_ready new)
    pub stable : OnOk result (is_stable new)
    pub before : IsErrOf result early → KeepsFork
    pub left : IsErrOf result late → may_leave this (fork old) (fork new)
    pub any_moment : AlwaysFinds may_find (FoundBeforeOr may_find (history old) this) (history old) (history new)

  -- The fork is the same, and ready where nothing fails. Whenever a crash comes, a start finds a fork that it might
  -- have found before. The host's memory is asked for only where a fork is copied.
  pub record RecoversFork {T : Type 0} (may_find : List Event → List ℕ → Type 0) (copied : S → ℕ) (result : Result T RecoverFault) : Type 0 where
    pub honest : is_honest old
    pub same : fork new ≡ fork old
    pub ready : OnOk result (is_ready new)
    pub still : is_ready old → is_ready new
    pub stable : is_stable old → is_stable new
    pub memory : IsErrOf result Host → 1 ≤ copied old
    pub any_moment : AlwaysFinds may_find (may_find (history old)) (history old) (history new)
