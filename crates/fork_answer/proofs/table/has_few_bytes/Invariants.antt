use Rattle.std.proofs.Common.{◌≡◌, ◌≤◌, ◌*◌, take}
use Rattle.fork_answer.specs.Salvaged.{byte_count}
use Rattle.fork_answer.proofs.table.has_few_bytes.Given as goal

abbrev pub invariant-loop-row : goal.invariant-loop-row
invariant-loop-row l = (l.total ≡ byte_count (take l.row-index l.rows)) × (l.total ≤ 268435460 * l.row-index)
