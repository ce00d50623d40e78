use Rattle.std.proofs.Common.{◌≡◌, take, true, false}
use Rattle.std.specs.List.{list_any}
use Rattle.res_files.proofs.AmongHandles.{counts_among}
use Rattle.res_files.proofs.handles.has_changed_row_among.Given as goal

-- no changed row has one of the handles so far
abbrev pub invariant-loop-handle : goal.invariant-loop-handle
invariant-loop-handle l = list_any (counts_among true (take l.handle-index l.handles)) l.rows ≡ false
