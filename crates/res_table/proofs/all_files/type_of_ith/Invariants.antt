use Rattle.std.proofs.Common.{◌≡◌, ◌+◌, ◌≤◌, drop, length}
use Rattle.res_table.specs.AllFiles.{all_types}
use Rattle.res_table.proofs.all_files.type_of_ith.Given as goal

-- the later files have the types up to what is left of the index
abbrev pub invariant-loop-end : goal.invariant-loop-end
invariant-loop-end g l = record {
  within : l.end ≤ length l.files;
  seen : l.left + length (all_types (drop l.end l.files)) ≡ l.fn.i;
  none : l.left ≡ 0 → l.fn.i ≡ 0;
}

abbrev pub decreases-loop-end : goal.decreases-loop-end
decreases-loop-end g l = l.end
