use Rattle.fork_list.proofs.Reading.{Reading}
use Rattle.fork_list.proofs.kind.bare_kind.Given as goal

abbrev pub invariant-loop-i : goal.invariant-loop-i
invariant-loop-i l = Reading l.initial.rest l.rest l.kind l.i
