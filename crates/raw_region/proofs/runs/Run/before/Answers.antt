use Rattle.std.proofs.Common.{ℕ, Option, Some, None, refl, subst, arith}
use Rattle.raw_region.specs.declared.runs.Run.{Run}
use Rattle.raw_region.specs.Runs.{IsNext}
use Rattle.raw_region.proofs.Noted.{next-new, next-same}
use Rattle.raw_region.proofs.runs.Run.before.Goals as goal

pub returns-then-self-start : goal.returns-then-self-start
returns-then-self-start c = λ rs next. next-same rs c.args.self c.args.from c.args.found (λ i low begun below. let most = c.max-start.ensures in let past = c.if-self-start.true in absurd (omega arith)) next

pub returns-then-run-start : goal.returns-then-run-start
returns-then-run-start c = λ rs next.
    next-same rs c.args.self c.args.from (Some c.in-Some.run') (λ i low begun below. let most = c.max-start.ensures in let by = c.if-run-start.true in omega arith)
    (subst (λ (found : Option Run). IsNext rs c.args.from found) c.in-Some.is next)

pub returns-else-run-start : goal.returns-else-run-start
returns-else-run-start c = λ rs next. let most = c.max-start.ensures in let some = c.if-self-start.false in let after = c.if-run-start.false in
    next-new rs c.args.self (record { start = c.max-start.result; end = c.args.self.end }) c.args.from (Some c.in-Some.run') (omega arith) (omega arith) (omega arith) refl
    (λ i low begun. omega arith) (omega arith) (subst (λ (found : Option Run). IsNext rs c.args.from found) c.in-Some.is next)

pub returns-in-None : goal.returns-in-None
returns-in-None c = λ rs next. let most = c.max-start.ensures in let some = c.if-self-start.false in
    next-new rs c.args.self (record { start = c.max-start.result; end = c.args.self.end }) c.args.from None (omega arith) (omega arith) (omega arith) refl
    (λ i low begun. omega arith) tt (subst (λ (found : Option Run). IsNext rs c.args.from found) c.in-None.is next)
