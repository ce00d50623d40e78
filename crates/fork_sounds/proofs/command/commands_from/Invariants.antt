use Rattle.std.proofs.Common.{◌≡◌, ◌+◌, ◌*◌, map}
use Rattle.std.specs.List.{range_with_len}
use Rattle.fork_sounds.specs.Commands.{command_at}
use Rattle.fork_sounds.proofs.command.commands_from.Given as goal

-- the commands so far
abbrev pub invariant-loop-place : goal.invariant-loop-place
invariant-loop-place l = l.commands.items ≡ map (λ place. command_at l.bytes (l.start + 8 * place)) (range_with_len 0 l.place)
