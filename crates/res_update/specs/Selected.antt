-- Which rows an update writes anew, and what becomes of the table.
use Rattle.std.specs.Prelude.{◌≡◌, ℕ, Bool, false, ◌&&◌, List, slice_get, Result, Ok, Err}
use Rattle.std.specs.List.{list_any}
use Rattle.std.specs.Option.{option_map_or}
use Rattle.fork_disk.specs.Disk.{Rose}
use Rattle.mac_base.specs.HandleTable.{HandleTable}
use Rattle.res_table.specs.declared.row.Row.{Row}
use Rattle.res_table.specs.Rows.{is_changed}
use Rattle.res_update.specs.Changes.{FileTable}
use Rattle.res_update.specs.Tests.{is_lent_row}
use Rattle.res_update.specs.Updates.{updated_table, updated_at}
use Rattle.res_update.specs.declared.selection.Selection.{Selection}
use Rattle.res_update.specs.declared.selection.Selection.TheVariants.{AllChanged, RowAt}
use Rattle.res_update.specs.declared.fault.UpdateFault.{UpdateFault}
use Rattle.res_update.specs.declared.fault.UpdateFault.TheVariants.{TooBig, HostFull, Device}

-- the table once the selected rows are updated
abbrev pub updated : HandleTable → Selection → FileTable → FileTable
updated t AllChanged table = updated_table t table
updated t (RowAt index) table = updated_at t index table

-- whether the handle of a selected row is lent
abbrev pub reads_lent : {D : Type 0} → HandleTable → Selection → List (Row D) → Bool
reads_lent t AllChanged rows = list_any (λ r. is_changed r && is_lent_row t r) rows
reads_lent t (RowAt index) rows = option_map_or (is_lent_row t) (slice_get rows index) false

-- the count of failures rose where the fault is the device's, and stayed otherwise
abbrev pub CountsUpdate : {T : Type 0} → ℕ → ℕ → Result T UpdateFault → Type 0
CountsUpdate before now (Ok done) = now ≡ before
CountsUpdate before now (Err TooBig) = now ≡ before
CountsUpdate before now (Err HostFull) = now ≡ before
CountsUpdate before now (Err (Device fault)) = Rose before now
