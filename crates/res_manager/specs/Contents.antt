-- Where an update takes the bytes of handles.
use Rattle.std.specs.Prelude.{◌≤◌, ⊤, length}
use Rattle.fork_bytes.specs.Fork.{max_fork}
use Rattle.mac_base.specs.HandleTable.{HandleTable}
use Rattle.res_manager.specs.Patching.{live_alone}
use Rattle.res_manager.specs.declared.contents.Source.{Source}
use Rattle.res_manager.specs.declared.contents.Source.TheVariants.{Zone, Alone}

-- the handle table that a source stands for
abbrev pub table_of : Source → HandleTable
table_of (Zone memory) = memory.now.heap.table
table_of (Alone h bytes) = live_alone h bytes.now

-- where it has one handle alone, that has no more bytes than a fork can hold
abbrev pub is_small : Source → Type 0
is_small (Zone memory) = ⊤
is_small (Alone h bytes) = length bytes.now ≤ max_fork
