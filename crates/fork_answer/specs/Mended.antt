-- What is written of a fork that may be damaged.
use Rattle.std.specs.Prelude.{◌≡◌, ◌≢◌, ℕ, ◌⊎◌, List, []}
use Rattle.fork_bytes.specs.declared.table.Table.{Table}
use Rattle.fork_bytes.specs.Fork.{IsForkWithin, StandsForWithin, format_limits}
use Rattle.fork_bytes.specs.Written.{IsTooBigWithin, written}
use Rattle.fork_answer.specs.Salvaged.{IsTooMuch, salvaged_table}
use Rattle.fork_answer.specs.Answer.{IsTableOf}

-- the table of the fork, or of what can be read of bytes that are no fork
abbrev pub IsMended : List ℕ → Table → Type 0
IsMended fork table = IsTableOf fork table ⊎ ((fork ≢ []) × (¬ IsForkWithin format_limits fork) × (table ≡ salvaged_table fork))

-- The bytes are the fork of such a table, and are read as it.
pub record IsMendedFork (fork bytes : List ℕ) : Type 0 where
  pub table : Table
  pub mends : IsMended fork table
  pub is : bytes ≡ written table
  pub stands : StandsForWithin format_limits bytes table

-- no fork can say the table, or the bytes that are no fork have too much that can be read
abbrev pub IsTooBig : List ℕ → Type 0
IsTooBig fork = ((table : Table) × IsMended fork table × IsTooBigWithin format_limits table)
    ⊎ ((fork ≢ []) × (¬ IsForkWithin format_limits fork) × IsTooMuch fork)
