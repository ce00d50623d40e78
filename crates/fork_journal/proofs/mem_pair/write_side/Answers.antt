use Rattle.std.proofs.Common.{◌≡◌, rules}
use Rattle.fork_journal.proofs.mem_pair.write_side.Goals as goal

pub returns-clause-recorded : goal.returns-clause-recorded
returns-clause-recorded c =
    let same : c.in_ok-copy.copy.items ≡ c.args.bytes.now = search rules in
    (c.in_ok-copy.copy, same, c.in_ok-remember.ensures.ok)
