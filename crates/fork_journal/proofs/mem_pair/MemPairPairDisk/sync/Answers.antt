use Rattle.std.proofs.Common.{refl, rules}
use Rattle.fork_journal.specs.Record.{found}
use Rattle.fork_journal.proofs.Recording.{synced_both, sync_follows, never_fails}
use Rattle.fork_journal.proofs.mem_pair.MemPairPairDisk.sync.Goals as goal

pub invariant_of-self : goal.invariant_of-self
invariant_of-self c =
    let both = synced_both _ _ _ c.args.self.now.fork.items c.args.self.now.journal.items c.args.self.now.fork_is c.args.self.now.journal_is c.remember.result c.args.side c.remember.ensures.ok c.remember.ensures.err in
    record { fork_is = both.0; journal_is = both.1 }

pub returns-clause-syncs : goal.returns-clause-syncs
returns-clause-syncs c honest =
    let durable = sync_follows _ _ _ c.args.self.now.fork.items c.args.self.now.journal.items c.args.self.now.fork_is c.args.self.now.journal_is c.args.side c.in-Ok.ensures.ok in
    let trusted = never_fails c.args.side c.args.self.now.calls.items (found c.args.self.now.first_fork.items c.args.self.now.first_journal.items) refl in search rules
