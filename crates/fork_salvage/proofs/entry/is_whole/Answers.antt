use Rattle.std.proofs.Common.{◌+◌, ◌*◌, ◌-◌, ap, sym, ◌∙◌, arith}
use Rattle.std.specs.List.{list_all}
use Rattle.fork_bytes.specs.Fork.{Reference}
use Rattle.fork_bytes.proofs.Lists.{references_at, reference_start, reference_step, reference_end}
use Rattle.fork_salvage.specs.Salvage.{has_bytes}
use Rattle.fork_salvage.proofs.Cursors.{fails_all, goes_on, all_asked}
use Rattle.fork_salvage.proofs.entry.is_whole.Goals as goal

pub loop-i-init : goal.loop-i-init
loop-i-init c = let list = c.args.list.now in
    ap (list_all (λ (r : Reference). has_bytes c.args.fork.now c.args.plan.now r.place)) (sym (reference_start list.kind list.count list.start))

pub returns-then-not-has_bytes : goal.returns-then-not-has_bytes
returns-then-not-has_bytes c = let list = c.args.list.now in let i = c.loop-i.i in
    fails_all (λ (r : Reference). has_bytes c.args.fork.now c.args.plan.now r.place) _ _
    (references_at list.kind (list.count - (i + 1)) (list.start + 12 * (i + 1))) _ c.loop-i.invariant
    (reference_step list.kind list.count i list.start c.loop-i-test.true) (sym c.has_bytes.ensures.has ∙ c.if-not-has_bytes.true)

pub loop-i-preserved : goal.loop-i-preserved
loop-i-preserved c = let list = c.args.list.now in let i = c.loop-i.i in
    goes_on (λ (r : Reference). has_bytes c.args.fork.now c.args.plan.now r.place) _ _
    (references_at list.kind (list.count - (i + 1)) (list.start + 12 * (i + 1))) _ c.loop-i.invariant
    (reference_step list.kind list.count i list.start c.loop-i-test.true) (sym c.has_bytes.ensures.has ∙ c.if-not-has_bytes.false)

pub returns : goal.returns
returns c = let list = c.args.list.now in let i = c.loop-i.i in
    all_asked (λ (r : Reference). has_bytes c.args.fork.now c.args.plan.now r.place) _ _ c.loop-i.invariant
    (reference_end list.kind list.count i (list.start + 12 * i) (omega (arith, c.loop-i-test.false)))
