use Rattle.std.proofs.Common.{◌≤◌, sym, ap, ◌∙◌, subst, rules}
use Rattle.std.proofs.lemmas.Result.{err_from_is_err_and}
use Rattle.fork_disk.proofs.Passing.{passed_on}
use Rattle.fork_journal.specs.Crash.{Contents}
use Rattle.fork_journal.specs.Form.{is_usable}
use Rattle.fork_journal.specs.Recovery.{copied_length}
use Rattle.fork_journal.proofs.Along.{leaves_now}
use Rattle.fork_journal.proofs.Promising.{recovers_pair}
use Rattle.fork_journal.proofs.Readying.{leaves_journal, readies, still_recoverable, still_ready}
use Rattle.fork_journal.proofs.Updating.{fails, syncs, recovers, settled_read}
use Rattle.fork_journal.proofs.recovery.recover.Goals as goal

pub returns-in_err-sync-clause-recovers : goal.returns-in_err-sync-clause-recovers
returns-in_err-sync-clause-recovers g c honest =
    let failed = c.in_err-sync.ensures.syncs honest in
    let here = g.P.PairDisk.contents c.args.pair.now in
    let now = g.P.PairDisk.contents c.sync.new.self in
    recovers_pair g.P.PairDisk _ _ _ failed.honest (fails _ _ _ failed.unstable) (still_recoverable here now _ _ _ failed.unstable failed.same (c.requires failed.honest))
    (search rules) (search rules) (search rules) (λ ready. still_ready here now _ _ _ failed.unstable failed.same ready) (search rules)

pub returns-in_err-fork-clause-recovers : goal.returns-in_err-fork-clause-recovers
returns-in_err-fork-clause-recovers g c honest =
    let finds = c.in_err-fork.ensures.finds honest in
    let synced = c.in_ok-sync.ensures.syncs finds.keeps.honest in
    let p = err_from_is_err_and c.from_residual-in_err-fork.result c.from_residual-in_err-fork.ensures.1 in
    recovers_pair g.P.PairDisk _ _ _ synced.honest (syncs _ _ _ _ _ synced.durable finds.keeps.calm) (search rules)
    (search rules) (search rules) (search rules) (search rules)
    (λ full. subst (λ (d : Contents). 1 ≤ copied_length d) synced.same ((c.usable_fork.ensures.finds honest).memory (passed_on _ _ _ _ c.in_err-fork.was p.1 p.2 full)))

pub returns-in_default-clause-recovers : goal.returns-in_default-clause-recovers
returns-in_default-clause-recovers g c honest =
    let finds = c.in_ok-fork.ensures.finds honest in
    let synced = c.in_ok-sync.ensures.syncs finds.keeps.honest in
    let none = rw c.in_default.is at finds.value in
    let ready = readies (g.P.PairDisk.contents c.args.pair.now) (g.P.PairDisk.contents c.usable_fork.new.pair) _ _ synced.trusted
    (finds.keeps.calm ∙ synced.durable) (finds.keeps.same ∙ synced.same) (c.requires synced.honest)
    (ap (λ (d : Contents). is_usable d.journal) finds.keeps.same ∙ none) in
    recovers_pair g.P.PairDisk _ _ _ synced.honest (syncs _ _ _ _ _ synced.durable finds.keeps.calm) (search rules)
    (search rules) (search rules) ready (λ _. ready) (search rules)

pub returns-in_err-finish-clause-recovers : goal.returns-in_err-finish-clause-recovers
returns-in_err-finish-clause-recovers g c honest =
    let puts = c.in_err-finish.ensures.puts honest in
    let finds = c.in_ok-fork.ensures.finds puts.passes.honest in
    let synced = c.in_ok-sync.ensures.syncs finds.keeps.honest in
    let here = g.P.PairDisk.contents c.args.pair.now in
    let outcome = g.met.P.PairDisk.reads_is_outcome in
    let found = rw c.in-Some.is at finds.value in
    let gives = settled_read here (g.P.PairDisk.contents c.sync.new.self) c.deref.result.now synced.same found.0 (c.deref.ensures.value ∙ found.1) in
    recovers_pair g.P.PairDisk _ _ _ synced.honest
    (recovers here c.deref.result.now _ _ _ _ _ _ (outcome c.args.pair.now synced.honest) gives synced.durable finds.keeps.calm puts.passes.any_moment) puts.passes.recoverable
    (leaves_now _ _ _ puts.passes.any_moment _ (outcome c.finish.new.pair honest) ∙ sym gives) (search rules) (search rules) (search rules) (search rules)

pub returns-clause-recovers : goal.returns-clause-recovers
returns-clause-recovers g c honest =
    let puts = c.in_ok-finish.ensures.puts honest in
    let finds = c.in_ok-fork.ensures.finds puts.passes.honest in
    let synced = c.in_ok-sync.ensures.syncs finds.keeps.honest in
    let here = g.P.PairDisk.contents c.args.pair.now in
    let outcome = g.met.P.PairDisk.reads_is_outcome in
    let found = rw c.in-Some.is at finds.value in
    let gives = settled_read here (g.P.PairDisk.contents c.sync.new.self) c.deref.result.now synced.same found.0 (c.deref.ensures.value ∙ found.1) in
    recovers_pair g.P.PairDisk _ _ _ synced.honest
    (recovers here c.deref.result.now _ _ _ _ _ _ (outcome c.args.pair.now synced.honest) gives synced.durable finds.keeps.calm puts.passes.any_moment) puts.passes.recoverable
    (leaves_now _ _ _ puts.passes.any_moment _ (outcome c.finish.new.pair honest) ∙ sym gives) (search rules) puts.ready (λ _. puts.ready) (search rules)

pub finish-requires : goal.finish-requires
finish-requires g c honest =
    let finds = c.in_ok-fork.ensures.finds honest in
    let synced = c.in_ok-sync.ensures.syncs finds.keeps.honest in
    let stable = leaves_journal (g.P.PairDisk.contents c.args.pair.now) (g.P.PairDisk.contents c.usable_fork.new.pair) _ _ synced.trusted
    (finds.keeps.calm ∙ synced.durable) (finds.keeps.same ∙ synced.same) in search rules
