use Rattle.fork_journal.specs.declared.pair.Side.TheVariants.{Fork, Journal}
use Rattle.fork_journal.specs.Crash.{Contents, MayLeave}
use Rattle.fork_journal.specs.Record.{after_calls, found}
use Rattle.fork_journal.proofs.Choosing.{outcome_left, renamed, made_of}
use Rattle.fork_journal.proofs.crash_pair.CrashPair.outcome.Goals as goal

pub returns-clause-left : goal.returns-clause-left
returns-clause-left c =
    let pair = c.args.self.now.pair in
    let P = λ (d : Contents). MayLeave (after_calls pair.calls.items (found pair.first_fork.items pair.first_journal.items)).history d in
    let fork = renamed Fork pair.calls.items _ pair.first_fork.items _ _ c.calls.ensures c.first_fork.ensures c.in_ok-fork.ensures.possible in
    let journal = renamed Journal pair.calls.items _ pair.first_journal.items _ _ c.calls-2.ensures c.first_journal.ensures c.in_ok-journal.ensures.possible in
    made_of c.new.result (λ pair. pair.fork.items) (λ pair. pair.journal.items) P _ _ c.new.ensures.fork c.new.ensures.journal (outcome_left pair.calls.items pair.first_fork.items pair.first_journal.items _ _ fork journal)
