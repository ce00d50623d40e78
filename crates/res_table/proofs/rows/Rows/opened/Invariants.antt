use Rattle.std.proofs.Common.{◌≡◌, ◌++◌, map}
use Rattle.std.specs.Vec.Iter.{into_iter_items}
use Rattle.std.specs.Prelude.{All}
use Rattle.res_table.specs.Indexed.{IsKept, kinds_of}
use Rattle.res_table.specs.Rows.{opened_row, names_size, changed_handle}
use Rattle.res_table.specs.Kinds.{expanded}
use Rattle.res_table.proofs.RowPairs.{listed}
use Rattle.res_table.proofs.rows.Rows.opened.Given as goal

-- the rows so far are those of the resources so far, and the types, the keys, the size of the names and the handles of
-- changed rows are theirs; their keys give their types and ids, and their names are short; the other resources are left
abbrev pub invariant-loop-resource : goal.invariant-loop-resource
invariant-loop-resource g l = (l.rows.items ≡ map opened_row l.yielded) × (expanded l.kinds.runs ≡ kinds_of l.rows.items) × (l.keys.items ≡ listed 0 l.rows.items)
    × (l.names ≡ names_size l.rows.items) × (All IsKept l.rows.items) × (l.changed.items ≡ map changed_handle l.rows.items) × (l.yielded ++ into_iter_items l.resource-iterator ≡ into_iter_items l.initial.resource-iterator)
