use Rattle.std.proofs.Common.{◌≤◌, ◌-◌}
use Rattle.res_table.specs.AllFiles.{all_rows}
use Rattle.res_table.specs.Rows.{largest_id, AreTaken}
use Rattle.res_table.proofs.all_files.free_id.Given as goal

-- the ids so far are taken
abbrev pub invariant-loop-next : goal.invariant-loop-next
invariant-loop-next g l = record {
  from : 128 ≤ l.id;
  small : l.id ≤ largest_id;
  taken : AreTaken l.kind 128 l.id (all_rows l.files);
}

abbrev pub decreases-loop-next : goal.decreases-loop-next
decreases-loop-next g l = largest_id - l.id
