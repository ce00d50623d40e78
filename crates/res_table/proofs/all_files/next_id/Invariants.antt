use Rattle.std.proofs.Common.{◌≡◌, ◌≤◌, take}
use Rattle.res_table.specs.AllFiles.{all_rows}
use Rattle.res_table.specs.Rows.{largest_id, AreTaken, IsFree}
use Rattle.res_table.proofs.all_files.next_id.Given as goal

-- the ids before the next one are taken, and where that is the first one, the files so far don't have it
abbrev pub invariant-loop-file : goal.invariant-loop-file
invariant-loop-file g l = record {
  from : l.id ≤ l.next;
  small : l.next ≤ largest_id;
  taken : AreTaken l.kind l.id l.next (all_rows l.files);
  free : l.next ≡ l.id → IsFree l.kind l.id (all_rows (take l.file-index l.files));
}
