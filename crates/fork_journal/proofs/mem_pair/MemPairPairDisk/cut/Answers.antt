use Rattle.std.proofs.Common.{rules}
use Rattle.fork_journal.proofs.Recording.{cut_fork, cut_journal, cut_follows}
use Rattle.fork_journal.proofs.mem_pair.MemPairPairDisk.cut.Goals as goal

pub invariant_of-self-in-Fork : goal.invariant_of-self-in-Fork
invariant_of-self-in-Fork c =
    let both = cut_fork _ _ _ c.args.self.now.fork.items c.args.self.now.journal.items c.args.self.now.fork_is c.args.self.now.journal_is _ _ _ c.in-Fork.is c.in-Ok.ensures.ok c.truncate.ensures.items in
    record { fork_is = both.0; journal_is = both.1 }

pub invariant_of-self-in-Journal : goal.invariant_of-self-in-Journal
invariant_of-self-in-Journal c =
    let both = cut_journal _ _ _ c.args.self.now.fork.items c.args.self.now.journal.items c.args.self.now.fork_is c.args.self.now.journal_is _ _ _ c.in-Journal.is c.in-Ok.ensures.ok c.truncate-in-Journal.ensures.items in
    record { fork_is = both.0; journal_is = both.1 }

pub returns-in-Fork-clause-cuts : goal.returns-in-Fork-clause-cuts
returns-in-Fork-clause-cuts c honest =
    let crash = cut_follows _ _ _ c.args.self.now.fork.items c.args.self.now.journal.items c.args.self.now.fork_is c.args.self.now.journal_is _ _ c.in-Ok.ensures.ok in search rules

pub returns-in-Journal-clause-cuts : goal.returns-in-Journal-clause-cuts
returns-in-Journal-clause-cuts c honest =
    let crash = cut_follows _ _ _ c.args.self.now.fork.items c.args.self.now.journal.items c.args.self.now.fork_is c.args.self.now.journal_is _ _ c.in-Ok.ensures.ok in search rules
