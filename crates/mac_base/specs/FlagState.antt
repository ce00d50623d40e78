-- The flags of a handle as a number, and the flags that a number sets.
use Rattle.std.specs.Prelude.{ℕ, ◌+◌, ◌/◌, ◌%◌, ◌==◌, Bool, if◌then◌else◌}
use Rattle.mac_base.specs.declared.block.Flags.{Flags}

-- the bits of a state
abbrev pub bit_if : ℕ → Bool → ℕ
bit_if n b = if b then n else 0

-- the flags as a state: lock 128, purge 64, resource 32
abbrev pub state_of : Flags → ℕ
state_of f = bit_if 128 f.lock + bit_if 64 f.purge + bit_if 32 f.resource

-- whether a state has the lock bit
abbrev pub state_locks : ℕ → Bool
state_locks n = (n / 128) % 2 == 1

-- the flags that a state sets
abbrev pub flags_from : ℕ → Flags
flags_from n = record { lock = state_locks n; purge = (n / 64) % 2 == 1; resource = (n / 32) % 2 == 1 }
