use Rattle.std.proofs.Common.{rules}
use Rattle.fork_journal.proofs.Updating.{open_usable, open_fork, finishes}
use Rattle.fork_journal.proofs.update.put_both.Goals as goal

pub finish-requires : goal.finish-requires
finish-requires g c honest =
    let put = (c.in_ok-stage.ensures.stages honest).put in
    let usable = open_usable _ c.args.fork.now c.requires.short put in
    let text = open_fork _ c.args.fork.now c.requires.short put in search rules

pub returns-in_err-finish-clause-puts : goal.returns-in_err-finish-clause-puts
returns-in_err-finish-clause-puts g c honest =
    let puts = c.in_err-finish.ensures.puts honest in
    let stages = c.in_ok-stage.ensures.stages puts.passes.honest in
    let any_moment = finishes _ c.args.fork.now _ _ _ stages.passes.any_moment puts.passes.any_moment in search rules

pub returns-clause-puts : goal.returns-clause-puts
returns-clause-puts g c honest =
    let puts = c.in_ok-finish.ensures.puts honest in
    let stages = c.in_ok-stage.ensures.stages puts.passes.honest in
    let any_moment = finishes _ c.args.fork.now _ _ _ stages.passes.any_moment puts.passes.any_moment in search rules
