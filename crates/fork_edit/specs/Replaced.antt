-- What a file loses whose place another file takes.
use Rattle.std.specs.Prelude.{◌≡◌, ℕ, ◌<◌, ◌⊎◌, List, Result, Ok, Err, ⊤}
use Rattle.mac_base.specs.declared.error.HostFull.{HostFull}
use Rattle.fork_bytes.specs.Rows.{Row}
use Rattle.fork_bytes.specs.declared.fault.ForkFault.{ForkFault}
use Rattle.fork_bytes.specs.declared.table.Table.{Table}
use Rattle.fork_answer.specs.Answer.{IsReadOf}
use Rattle.fork_answer.specs.declared.source.NoFork.{NoFork}
use Rattle.fork_change.specs.Copies.{lacking}
use Rattle.fork_edit.specs.Changes.{IsTableIn}
use Rattle.fork_edit.specs.Files.{IsNoSourceIn, IsSourceOf}
use Rattle.fork_edit.specs.declared.replaced.Lost.{Lost}
use Rattle.fork_edit.specs.declared.replaced.Lost.TheVariants as lost

-- the file has no table: there is no resource fork, or a damaged one
abbrev pub IsUnread : List ℕ → Type 0
IsUnread file = ((fault : NoFork) × IsNoSourceIn file fault)
    ⊎ ((fork : List ℕ) × (fault : ForkFault) × IsSourceOf file fork × IsReadOf fork (Err fault))

-- what a file loses where these rows are all that takes its place: as many resources as have a type and an id that none
-- of them has
abbrev pub IsLost : List ℕ → List Row → Lost → Type 0
IsLost file rows lost.Nothing = (table : Table) × IsTableIn file table × (lacking rows table.rows ≡ 0)
IsLost file rows (lost.Resources count) = (table : Table) × IsTableIn file table × (lacking rows table.rows ≡ count) × (0 < count)
IsLost file rows lost.Unknown = IsUnread file

-- the same, unless the host has no memory
abbrev pub IsLostOr : List ℕ → List Row → Result Lost HostFull → Type 0
IsLostOr file rows (Ok lost) = IsLost file rows lost
IsLostOr file rows (Err full) = ⊤
