use Rattle.std.proofs.Common.{rules}
use Rattle.fork_journal.proofs.Recording.{wrote_fork, wrote_journal, write_follows, within_fork, within_journal}
use Rattle.fork_journal.proofs.mem_pair.MemPairPairDisk.write_at.Goals as goal

pub invariant_of-self : goal.invariant_of-self
invariant_of-self c =
    let within = within_fork c.args.side c.args.self.now.fork.items c.args.self.now.journal.items c.args.at c.in-Fork.is (c.requires tt) in
    let ensures = c.write_side.ensures in
    let both = wrote_fork _ _ _ c.args.self.now.fork.items c.args.self.now.journal.items c.args.self.now.fork_is c.args.self.now.journal_is c.write_side.result c.args.side c.args.at c.args.bytes.now _ c.in-Fork.is within ensures.written ensures.recorded ensures.unwritten ensures.unrecorded in
    record { fork_is = both.0; journal_is = both.1 }

pub invariant_of-self-in-Journal : goal.invariant_of-self-in-Journal
invariant_of-self-in-Journal c =
    let within = within_journal c.args.side c.args.self.now.fork.items c.args.self.now.journal.items c.args.at c.in-Journal.is (c.requires tt) in
    let ensures = c.write_side-in-Journal.ensures in
    let both = wrote_journal _ _ _ c.args.self.now.fork.items c.args.self.now.journal.items c.args.self.now.fork_is c.args.self.now.journal_is c.write_side-in-Journal.result c.args.side c.args.at c.args.bytes.now _ c.in-Journal.is within ensures.written ensures.recorded ensures.unwritten ensures.unrecorded in
    record { fork_is = both.0; journal_is = both.1 }

pub returns-in-Ok-clause-writes : goal.returns-in-Ok-clause-writes
returns-in-Ok-clause-writes c honest =
    let crash = write_follows _ _ _ c.args.self.now.fork.items c.args.self.now.journal.items c.args.self.now.fork_is c.args.self.now.journal_is c.write_side.result c.args.side c.args.at c.args.bytes.now c.write_side.ensures.recorded c.write_side.ensures.unrecorded in search rules

pub returns-in-Ok-write_side-clause-writes : goal.returns-in-Ok-write_side-clause-writes
returns-in-Ok-write_side-clause-writes c honest =
    let crash = write_follows _ _ _ c.args.self.now.fork.items c.args.self.now.journal.items c.args.self.now.fork_is c.args.self.now.journal_is c.write_side-in-Journal.result c.args.side c.args.at c.args.bytes.now c.write_side-in-Journal.ensures.recorded c.write_side-in-Journal.ensures.unrecorded in search rules
