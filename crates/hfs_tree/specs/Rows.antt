-- What the records of leaves say, one after another, up to the first fault.
use Rattle.std.specs.Prelude.{ℕ, zero, suc, ◌+◌, List, [], ◌∷◌, ◌++◌, Option, None, Some, Result, Ok, Err}
use Rattle.hfs_tree.specs.declared.fault.TreeFault.{TreeFault}
use Rattle.hfs_tree.specs.declared.leaf.Leaf.{Leaf}
use Rattle.hfs_tree.specs.declared.rows.Rows.{Rows}
use Rattle.hfs_tree.specs.Leaves.{count_of}

-- what records say, and why there are no more
pub record RowsRead (T : Type 0) : Type 0 where
  pub rows : List T
  pub fault : Option TreeFault

abbrev pub read_as : {T : Type 0} → Rows T → RowsRead T
read_as found = record { rows = found.rows.items; fault = found.fault }

-- some before others
abbrev pub rows_before : {T : Type 0} → List T → RowsRead T → RowsRead T
rows_before rows rest = record { rows = rows ++ rest.rows; fault = rest.fault }

-- a fault in place of others
abbrev pub ended : {T : Type 0} → Option TreeFault → RowsRead T → RowsRead T
ended None rest = rest
ended (Some fault) rest = record { rows = []; fault = Some fault }

abbrev pub row_before : {T : Type 0} → Result T TreeFault → RowsRead T → RowsRead T
row_before (Ok row) rest = rows_before (row ∷ []) rest
row_before (Err fault) rest = ended (Some fault) rest

-- so many records of a leaf from one on, before others
unfoldable pub rows_from : {T : Type 0} → (Leaf → ℕ → Result T TreeFault) → Leaf → ℕ → ℕ → RowsRead T → RowsRead T
rows_from row_of leaf row zero rest = rest
rows_from row_of leaf row (suc more) rest = row_before (row_of leaf row) (rows_from row_of leaf (row + 1) more rest)

-- the records of leaves, the last of which ends so
unfoldable pub rows_in : {T : Type 0} → (Leaf → ℕ → Result T TreeFault) → List Leaf → Option TreeFault → RowsRead T
rows_in row_of [] fault = record { rows = []; fault = fault }
rows_in row_of (leaf ∷ leaves) fault = rows_from row_of leaf 0 (count_of leaf.bytes) (rows_in row_of leaves fault)
