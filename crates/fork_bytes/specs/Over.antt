-- Which forks macheap refuses for their size.
use Rattle.std.specs.Prelude.{ℕ, ◌<◌, ◌⊎◌, nat_lt, Bool, true, false, List, length}
use Rattle.fork_bytes.specs.declared.fault.Condition.TheVariants.{Parts, Types, References, RowCount, Names, Places, ByteCount}
use Rattle.fork_bytes.specs.declared.fault.ForkFault.{ForkFault}
use Rattle.fork_bytes.specs.declared.fault.ForkFault.TheVariants.{EndOfFile, BadMap, HostFull}
use Rattle.fork_bytes.specs.Fork.{max_fork, Refuses}

-- The fork has more bytes than macheap reads; or it has more rows, or more bytes of rows, and no condition before fails.
abbrev pub IsOver : List ℕ → Type 0
IsOver fork = (max_fork < length fork) ⊎ Refuses fork (BadMap RowCount) ⊎ Refuses fork (BadMap ByteCount)

-- whether a fault of so many bytes is that of a limit
abbrev pub is_limit : ℕ → ForkFault → Bool
is_limit count EndOfFile = false
is_limit count (BadMap Parts) = nat_lt max_fork count
is_limit count (BadMap Types) = false
is_limit count (BadMap References) = false
is_limit count (BadMap RowCount) = true
is_limit count (BadMap Names) = false
is_limit count (BadMap Places) = false
is_limit count (BadMap ByteCount) = true
is_limit count HostFull = false
