use Rattle.std.proofs.Common.{◌≡◌, take}
use Rattle.std.specs.List.{flat_map}
use Rattle.fork_answer.specs.Salvaged.{found_of_type}
use Rattle.fork_answer.proofs.group.grouped.Given as goal

abbrev pub invariant-loop-kind : goal.invariant-loop-kind
invariant-loop-kind l = l.all.items ≡ flat_map (found_of_type l.rows) (take l.kind-index l.kind-items)
