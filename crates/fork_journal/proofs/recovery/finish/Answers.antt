use Rattle.std.proofs.Common.{◌∙◌, rules}
use Rattle.fork_journal.proofs.Updating.{forks, forks_recoverable, shuts, shuts_recoverable}
use Rattle.fork_journal.proofs.recovery.finish.Goals as goal

pub returns-in_err-put_rest-clause-puts : goal.returns-in_err-put_rest-clause-puts
returns-in_err-put_rest-clause-puts g c honest =
    let puts = c.in_err-put_rest.ensures.puts honest in
    let staged = c.requires puts.honest in
    let here = g.P.PairDisk.history c.args.pair.now in
    let any_moment = forks _ _ _ _ here staged.stable staged.text staged.usable puts.any_moment in
    let recoverable = forks_recoverable _ _ _ _ here staged.stable staged.text staged.usable (g.P.PairDisk.contents c.put_rest.new.pair) puts.any_moment in search rules

pub returns-in_err-put_gate-clause-puts : goal.returns-in_err-put_gate-clause-puts
returns-in_err-put_gate-clause-puts g c honest =
    let gate = c.in_err-put_gate.ensures.puts honest in
    let puts = c.in_ok-put_rest.ensures.puts gate.honest in
    let staged = c.requires puts.honest in
    let any_moment = shuts _ _ _ _ _ staged.stable staged.text staged.usable puts.any_moment puts.stable gate.any_moment in
    let recoverable = shuts_recoverable _ _ (g.P.PairDisk.history c.args.pair.now) _ _ staged.stable staged.text (g.P.PairDisk.contents c.put_gate.new.pair) (gate.kept ∙ puts.put) puts.stable gate.any_moment in search rules

pub returns-clause-puts : goal.returns-clause-puts
returns-clause-puts g c honest =
    let gate = c.in_ok-put_gate.ensures.puts honest in
    let puts = c.in_ok-put_rest.ensures.puts gate.honest in
    let staged = c.requires puts.honest in
    let any_moment = shuts _ _ _ _ _ staged.stable staged.text staged.usable puts.any_moment puts.stable gate.any_moment in
    let recoverable = shuts_recoverable _ _ (g.P.PairDisk.history c.args.pair.now) _ _ staged.stable staged.text (g.P.PairDisk.contents c.put_gate.new.pair) (gate.kept ∙ puts.put) puts.stable gate.any_moment in search rules
