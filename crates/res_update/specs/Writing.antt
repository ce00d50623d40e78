-- What a table that is written leaves on a store that is honest after it.
use Rattle.std.specs.Prelude.{All, Result, Vec, OnOk, IfOk}
use Rattle.std.specs.Global.{Global}
use Rattle.fork_bytes.specs.Fork.{StandsFor}
use Rattle.fork_bytes.specs.Laws.{IsGrouped}
use Rattle.fork_bytes.specs.Written.{written}
use Rattle.fork_disk.specs.declared.store.ForkStore.{Ghosts}
use Rattle.fork_disk.specs.declared.store.ReplaceFault.TheVariants.{BeforeFirstWrite, Later}
use Rattle.fork_disk.specs.Stores.{Replaces}
use Rattle.fork_bytes.specs.declared.place.Place.{Place}
use Rattle.res_update.specs.Changes.{FileTable, saved_table}
use Rattle.res_update.specs.declared.fault.UpdateFault.{UpdateFault}
use Rattle.res_update.specs.declared.fault.UpdateFault.TheVariants.{Device}
use Rattle.res_update.specs.Placed.{IsInside}

-- The fork of this table takes the place of the old one. It is read as the table, and the new places lie within it.
pub record Writes {S : Type 0} (store : Ghosts S) (old new : S) (table : FileTable) (result : Result (Vec Place Global) UpdateFault) : Type 0 where
  pub replaces : Replaces store old new (Device BeforeFirstWrite) (Device Later) (written (saved_table table)) result
  pub stands : OnOk result (IsGrouped (saved_table table).rows → StandsFor (store.fork new) (saved_table table))
  pub inside : IfOk result (λ places. All (IsInside (store.fork new)) places.items)
