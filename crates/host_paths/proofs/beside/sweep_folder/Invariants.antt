use Rattle.std.proofs.Common.{Some}
use Rattle.host_paths.specs.Left.{KeepsSwept}
use Rattle.host_paths.proofs.beside.sweep_folder.Given as goal

-- each file that was removed so far was one that was left
abbrev pub invariant-loop-entry : goal.invariant-loop-entry
invariant-loop-entry l = KeepsSwept (Some l.users) l.initial.log.events l.log.events
