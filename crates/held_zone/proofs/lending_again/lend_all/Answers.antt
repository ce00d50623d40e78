use Rattle.std.proofs.Common.{List, sym, ap, subst}
use Rattle.core.specs.Result.{is_err}
use Rattle.mac_base.specs.ZoneState.{with_heap}
use Rattle.mac_base.specs.Outcomes.{Outcome}
use Rattle.held_calls.specs.Holding.{Holds, loans_of}
use Rattle.held_calls.specs.declared.loans.Held.{Held}
use Rattle.held_calls.proofs.Holding.{nothing_lent}
use Rattle.held_zone.proofs.LentAgain.{lends-next, lent-none}
use Rattle.held_zone.proofs.lending_again.lend_all.Goals as goal

pub loop-block-init : goal.loop-block-init
loop-block-init c =
    let none = nothing_lent c.args.memory.now (subst (λ (hs : List Held). Holds c.args.memory.now hs) c.requires.none c.requires.holds) in record {
      holds = c.requires.holds;
      zone = ap (λ h. with_heap h c.args.memory.now) (sym (lent-none c.args.memory.now.heap none));
      loans = ap loans_of c.requires.none;
    }

pub unreachable-requires : goal.unreachable-requires
unreachable-requires c =
    let next = lends-next c.args.memory.now c.loop-block.memory c.lend.new.memory c.args.blocks.now c.loop-block.block-index c.loop-block.loans c.lend.new.loans c.lend.result
    c.requires.can c.loop-block-test.true c.loop-block.invariant.zone c.loop-block.invariant.loans c.lend.ensures.step c.lend.ensures.memory in
    let failed = ap (λ (o : Outcome). is_err o) next.made in
    absurd (cc (c.if-is_err.true, c.is_err.ensures.value, failed))

pub loop-block-preserved : goal.loop-block-preserved
loop-block-preserved c =
    let next = lends-next c.args.memory.now c.loop-block.memory c.lend.new.memory c.args.blocks.now c.loop-block.block-index c.loop-block.loans c.lend.new.loans c.lend.result
    c.requires.can c.loop-block-test.true c.loop-block.invariant.zone c.loop-block.invariant.loans c.lend.ensures.step c.lend.ensures.memory in record {
      holds = c.lend.ensures.holds;
      zone = next.zone;
      loans = next.loans;
    }
