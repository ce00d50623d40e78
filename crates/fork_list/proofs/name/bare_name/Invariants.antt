use Rattle.std.proofs.Common.{length}
use Rattle.fork_list.proofs.Naming.{Reads}
use Rattle.fork_list.proofs.name.bare_name.Given as goal

abbrev pub invariant-loop-rest : goal.invariant-loop-rest
invariant-loop-rest l = Reads l.text l.name.items l.rest

abbrev pub decreases-loop-rest : goal.decreases-loop-rest
decreases-loop-rest l = length l.rest
