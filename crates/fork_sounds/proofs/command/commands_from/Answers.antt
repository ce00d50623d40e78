use Rattle.std.proofs.Common.{◌+◌, ◌*◌}
use Rattle.fork_sounds.specs.Commands.{command_at}
use Rattle.fork_sounds.proofs.Steps.{one_more}
use Rattle.fork_sounds.proofs.command.commands_from.Goals as goal

pub loop-place-preserved : goal.loop-place-preserved
loop-place-preserved c =
    one_more (λ place. command_at c.args.bytes.now (c.args.start + 8 * place)) c.loop-place.place c.loop-place.commands.items c.push.new.self.items
    c.command_at.result c.loop-place.invariant c.in_ok-push.ensures.items c.command_at.ensures
