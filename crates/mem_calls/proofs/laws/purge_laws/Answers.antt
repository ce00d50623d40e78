use Rattle.mem_calls.proofs.NoPurges.{none_is_purged}
use Rattle.mem_calls.proofs.PurgeSteps.{emptied_is_exact, in_turn_is_exact, ready_is_exact}
use Rattle.mem_calls.proofs.laws.purge_laws.Goals as goal

pub returns-clause-ready_is_exact : goal.returns-clause-ready_is_exact
returns-clause-ready_is_exact c = ready_is_exact

pub returns-clause-emptied_is_exact : goal.returns-clause-emptied_is_exact
returns-clause-emptied_is_exact c = emptied_is_exact

pub returns-clause-in_turn_is_exact : goal.returns-clause-in_turn_is_exact
returns-clause-in_turn_is_exact c = in_turn_is_exact

pub returns-clause-none_is_purged : goal.returns-clause-none_is_purged
returns-clause-none_is_purged c = none_is_purged
