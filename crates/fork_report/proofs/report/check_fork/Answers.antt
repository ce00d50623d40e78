use Rattle.std.proofs.Common.{ℕ, List, subst}
use Rattle.std.specs.Prelude.{IsTrue, not, ◌↔◌}
use Rattle.fork_report.specs.Damage.{IsDamaged}
use Rattle.fork_report.proofs.Refusing.{told_damage}
use Rattle.fork_report.proofs.report.check_fork.Goals as goal

pub returns-clause-damaged : goal.returns-clause-damaged
returns-clause-damaged c =
    subst (λ (f : List ℕ). IsTrue (not c.is_empty.result) ↔ IsDamaged f) c.fork-fork.ensures
    (told_damage _ _ _ _ c.as_slice-2.ensures.value c.is_empty.ensures c.in_ok-faults.ensures.damaged c.in_ok-faults.ensures.whole)
