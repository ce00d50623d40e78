use Rattle.std.proofs.Common.{refl, rules}
use Rattle.fork_journal.specs.Form.{IsSameText}
use Rattle.fork_journal.specs.declared.pair.Side.TheVariants.{Journal}
use Rattle.fork_journal.proofs.Along.{begins, writes, along_failed, along_sync, settles}
use Rattle.fork_journal.proofs.Joining.{gate_joins}
use Rattle.fork_journal.proofs.steps.put_gate.Goals as goal

pub returns-in_err-write_at-clause-puts : goal.returns-in_err-write_at-clause-puts
returns-in_err-write_at-clause-puts g c honest =
    let written = writes Journal IsSameText _ 0 1 _ _ gate_joins (begins Journal IsSameText _ (λ x. refl)) (c.write_at.ensures.writes honest).crash in search rules

pub returns-in_err-sync-clause-puts : goal.returns-in_err-sync-clause-puts
returns-in_err-sync-clause-puts g c honest =
    let syncs = c.in_err-sync.ensures.syncs honest in
    let written = writes Journal IsSameText _ 0 1 _ _ gate_joins (begins Journal IsSameText _ (λ x. refl)) (c.write_at.ensures.writes syncs.honest).crash in
    let failed = along_failed _ _ _ _ _ written syncs.unstable in search rules

pub returns-clause-puts : goal.returns-clause-puts
returns-clause-puts g c honest =
    let syncs = c.in_ok-sync.ensures.syncs honest in
    let writes_it = c.in_ok-write_at.ensures.writes syncs.honest in
    let written = writes Journal IsSameText _ 0 1 _ _ gate_joins (begins Journal IsSameText _ (λ x. refl)) writes_it.crash in
    let synced = along_sync _ _ _ _ _ _ written syncs.durable in
    let stable = settles Journal IsSameText _ _ _ _ _ written syncs.trusted syncs.durable writes_it.written.0 in search rules
