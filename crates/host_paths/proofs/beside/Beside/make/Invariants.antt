use Rattle.host_paths.specs.Left.{RemovesNone}
use Rattle.host_paths.proofs.beside.Beside.make.Given as goal

-- the files that were made so far were made beside the path, and none was removed
abbrev pub invariant-loop-number : goal.invariant-loop-number
invariant-loop-number l = RemovesNone l.initial.log.events l.log.events
