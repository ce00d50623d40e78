use Rattle.std.proofs.Common.{None, sym, ◌∙◌}
use Rattle.res_manager.proofs.Placing.{new-then, own-then, given-new, given-own}
use Rattle.res_manager.proofs.load.request_place.Goals as goal
use Rattle.res_manager.proofs.load.request_place.Goals.{in-Some, in-None, in-None-2}

pub returns-clause-loans : goal.returns-clause-loans
returns-clause-loans g c = elim c.match-own.branch [
  | in-Some w ↦ rw w.memory-is w.reallocate_handle.ensures.loans
  | in-None w ↦ rw w.memory-is w.new_handle-made.ensures.loans
  | in-None-2 w ↦ rw w.memory-is w.new_empty_handle-made.ensures.loans
]

pub returns-clause-step : goal.returns-clause-step
returns-clause-step g c = elim c.match-own.branch [
  | in-Some w ↦ rw (w.memory-is, w.procedure-is, w.made-is, w.in-Some.is) (_, (w.reallocate_handle.ensures.step, w.reallocate_handle.ensures.exact), w.and-made.ensures ∙ given-own _ _)
  | in-None w ↦ rw (w.memory-is, w.procedure-is, w.made-is, w.in-None.is, w.if-loads.true) (_, (w.new_handle-made.ensures.step, w.new_handle-made.ensures.exact), given-new None _)
  | in-None-2 w ↦ rw (w.memory-is, w.procedure-is, w.made-is, w.in-None.is, w.if-loads.false) (_, (w.new_empty_handle-made.ensures.step, w.new_empty_handle-made.ensures.exact), given-new None _)
]

pub returns-clause-placed : goal.returns-clause-placed
returns-clause-placed g c loads = elim c.match-own.branch [
  | in-Some w ↦ rw (w.memory-is, w.made-is, w.and-made.ensures) (own-then c.match-own.memory _ w.memory-is c.first_block.ensures.sound c.lent_count.ensures.fixed _ _ _ _ _ _ w.reallocate_handle.ensures.step)
  | in-None w ↦ rw (w.memory-is, w.made-is) (new-then c.match-own.memory _ w.memory-is c.first_block.ensures.sound c.lent_count.ensures.fixed _ _ _ _ _ w.new_handle-made.ensures.step)
  | in-None-2 w ↦ absurd (cc (sym loads ∙ w.if-loads.false))
]
