use Rattle.std.proofs.Common.{ℕ, List, ap, ◌∙◌, below_more, arith}
use Rattle.fork_bytes.specs.Fork.{map_of}
use Rattle.fork_salvage.specs.declared.plan.Plan.{Plan}
use Rattle.fork_salvage.specs.Salvage.{told_list}
use Rattle.fork_salvage.proofs.Faults.{ends_told, references_end}
use Rattle.fork_salvage.proofs.first.find_list.Goals as goal

pub loop-i-preserved : goal.loop-i-preserved
loop-i-preserved c =
    let told = c.told_list-list.ensures.list ∙ ap (λ (m : List ℕ). told_list m c.args.plan.now.types c.loop-i.i) c.of-map.ensures in
    below_more _ _ c.loop-i.invariant
    (ends_told c.args.fork.now c.args.plan.now c.loop-i.i c.told_list-list.result c.requires told c.in_default.ensures.none)

pub returns-clause-none : goal.returns-clause-none
returns-clause-none c =
    let same = ap (λ (p : Plan). p.types.count) c.requires.told in
    references_end (map_of c.args.fork.now) c.loop-i.i (let past = c.loop-i-test.false in omega arith) c.loop-i.invariant
