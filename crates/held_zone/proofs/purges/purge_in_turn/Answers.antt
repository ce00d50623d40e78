use Rattle.std.proofs.Common.{◌∙◌, sym, ap}
use Rattle.mac_base.specs.Outcomes.{done_outcome}
use Rattle.held_zone.specs.Purges.{Purges}
use Rattle.held_zone.proofs.InTurns.{all-emptied, fewer-left, held-at, still-more}
use Rattle.held_zone.proofs.purges.purge_in_turn.Goals as goal

pub returns-then-purges : goal.returns-then-purges
returns-then-purges c =
    let before = c.next_purge.ensures in let loop = c.loop-handle in
    held-at c.args.memory.now c.args.purges.now c.args.call.now loop.memory loop.purges loop.invariant before.sound before.fixed c.next_purge.new.self before.zone before.loans
    c.in-Some.handle c.wait_for.new.self (sym c.in-Some.ensures.next) (ap (λ (p : Purges). p.held) (sym c.purges.view_is) ∙ c.if-purges.true) c.wait_for.ensures

pub loop-handle-smaller : goal.loop-handle-smaller
loop-handle-smaller c =
    let before = c.next_purge.ensures in let empties = c.empty_handle-emptied in
    fewer-left c.loop-handle.memory c.next_purge.new.self c.args.call.now before.sound before.fixed before.zone
    c.in-Some.handle (sym c.in-Some.ensures.next) (done_outcome empties.result) empties.new.self empties.ensures.exact

pub loop-handle-preserved : goal.loop-handle-preserved
loop-handle-preserved c =
    let before = c.next_purge.ensures in let loop = c.loop-handle in let empties = c.empty_handle-emptied in
    still-more c.args.memory.now c.args.purges.now c.args.call.now loop.memory loop.purges loop.invariant before.sound before.fixed c.next_purge.new.self before.zone before.loans
    c.in-Some.handle empties.new.self c.note.new.self (done_outcome empties.result) (sym c.in-Some.ensures.next) (ap (λ (p : Purges). p.held) (sym c.purges.view_is) ∙ c.if-purges.false)
    empties.ensures.exact empties.ensures.step empties.ensures.shape empties.ensures.loans c.note.ensures

pub returns : goal.returns
returns c =
    let before = c.next_purge.ensures in let loop = c.loop-handle in
    all-emptied c.args.memory.now c.args.purges.now c.args.call.now loop.memory loop.purges loop.invariant before.sound before.fixed c.next_purge.new.self before.zone before.loans
    (sym c.in_default.ensures.next)
