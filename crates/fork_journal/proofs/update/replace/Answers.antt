use Rattle.std.proofs.Common.{rules}
use Rattle.fork_journal.proofs.Promising.{replaces_pair}
use Rattle.fork_journal.proofs.Updating.{stays, replaces}
use Rattle.fork_journal.proofs.update.replace.Goals as goal

pub returns-in_err-shut-clause-replaces : goal.returns-in_err-shut-clause-replaces
returns-in_err-shut-clause-replaces g c honest =
    let shuts = c.in_err-shut.ensures.shuts honest in
    let was = shuts.passes.honest in
    let outcome = g.met.P.PairDisk.reads_is_outcome in
    replaces_pair g.P.PairDisk _ _ c.args.fork.now _ was (outcome c.args.pair.now was) (outcome c.shut.new.pair honest) (c.requires.ready was) (stays _ _ _ _ shuts.passes.any_moment) shuts.passes.recoverable
    (search rules) (search rules) (search rules) (search rules)

pub returns-in-Ok-clause-replaces : goal.returns-in-Ok-clause-replaces
returns-in-Ok-clause-replaces g c honest =
    let puts = c.in-Ok.ensures.puts honest in
    let shuts = c.in_ok-shut.ensures.shuts puts.passes.honest in
    let was = shuts.passes.honest in
    let outcome = g.met.P.PairDisk.reads_is_outcome in
    replaces_pair g.P.PairDisk _ _ c.args.fork.now _ was (outcome c.args.pair.now was) (outcome c.put_both.new.pair honest) (c.requires.ready was)
    (replaces _ _ _ _ _ _ shuts.kept shuts.passes.any_moment puts.passes.any_moment) puts.passes.recoverable
    puts.put puts.journal puts.ready (search rules)

pub returns-in-Err-clause-replaces : goal.returns-in-Err-clause-replaces
returns-in-Err-clause-replaces g c honest =
    let puts = c.in-Err.ensures.puts honest in
    let shuts = c.in_ok-shut.ensures.shuts puts.passes.honest in
    let was = shuts.passes.honest in
    let outcome = g.met.P.PairDisk.reads_is_outcome in
    replaces_pair g.P.PairDisk _ _ c.args.fork.now _ was (outcome c.args.pair.now was) (outcome c.put_both.new.pair honest) (c.requires.ready was)
    (replaces _ _ _ _ _ _ shuts.kept shuts.passes.any_moment puts.passes.any_moment) puts.passes.recoverable
    (search rules) (search rules) (search rules) (search rules)
