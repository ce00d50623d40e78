use Rattle.fork_change.proofs.Changing.{keeps_tables}
use Rattle.fork_change.proofs.Applied.{is_applied, is_no_difference}
use Rattle.fork_change.proofs.Told.{is_found_put, keeps_others, is_removed_put, is_set_back, is_moved_back}
use Rattle.fork_change.proofs.laws.change_laws.Goals as goal

pub returns : goal.returns
returns c = record { found = is_found_put; others = keeps_others; removed = is_removed_put; back = is_set_back; moved = is_moved_back; same = is_no_difference; applied = is_applied; tables = keeps_tables }
