use Rattle.std.proofs.Common.{◌≡◌, take, false}
use Rattle.std.specs.List.{list_any}
use Rattle.res_files.specs.Handles.{is_among}
use Rattle.res_files.proofs.handles.has_row_among.Given as goal

-- no row has one of the handles so far
abbrev pub invariant-loop-handle : goal.invariant-loop-handle
invariant-loop-handle l = list_any (is_among (take l.handle-index l.handles)) l.rows ≡ false
