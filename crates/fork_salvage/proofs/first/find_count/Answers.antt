use Rattle.std.proofs.Common.{◌≤◌, subst}
use Rattle.fork_salvage.specs.declared.fault.Excess.{Excess}
use Rattle.fork_salvage.proofs.Faults.{is_excess, too_many, few_enough}
use Rattle.fork_salvage.proofs.first.find_count.Goals as goal

pub returns-then-count-most-clause-some : goal.returns-then-count-most-clause-some
returns-then-count-most-clause-some c =
    (c.if-count-most.true, is_excess c.args.fork.now c.args.plan.now _ _ _ c.requires.told c.of-map.ensures c.told_count-count.ensures.count c.most_rows-most.ensures)

pub returns-then-count-most-clause-count : goal.returns-then-count-most-clause-count
returns-then-count-most-clause-count c =
    too_many _ _ (is_excess c.args.fork.now c.args.plan.now _ _ _ c.requires.told c.of-map.ensures c.told_count-count.ensures.count c.most_rows-most.ensures) c.if-count-most.true

pub returns-else-count-most-clause-count : goal.returns-else-count-most-clause-count
returns-else-count-most-clause-count c =
    few_enough _ _ (is_excess c.args.fork.now c.args.plan.now c.of-map.result.now c.told_count-count.result c.most_rows-most.result c.requires.told c.of-map.ensures c.told_count-count.ensures.count c.most_rows-most.ensures) c.if-count-most.false

pub returns-else-count-most-clause-none : goal.returns-else-count-most-clause-none
returns-else-count-most-clause-none c =
    let P : Excess → Type 0 = λ e. e.count ≤ e.most in
    subst P (is_excess c.args.fork.now c.args.plan.now c.of-map.result.now c.told_count-count.result c.most_rows-most.result c.requires.told c.of-map.ensures c.told_count-count.ensures.count c.most_rows-most.ensures)
    c.if-count-most.false
