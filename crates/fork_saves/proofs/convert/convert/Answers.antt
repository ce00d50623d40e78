use Rattle.std.proofs.Common.{inl}
use Rattle.file_acts.specs.Acts.{Then}
use Rattle.fork_saves.proofs.Steps.{then_done, then_not}
use Rattle.fork_saves.proofs.convert.convert.Goals as goal

pub returns-clause-does : goal.returns-clause-does
returns-clause-does c = then_done _ _ c.in_ok-order.order c.order_if.new.acts.events _ _ _ (c.in_ok-order.ensures.does) (c.convert_bytes.ensures.does)

pub returns-in_err-order-clause-does : goal.returns-in_err-order-clause-does
returns-in_err-order-clause-does c = then_not _ _ c.from_residual.result c.in_err-order.field-0.0 _ _ c.from_residual.ensures.1 c.in_err-order.ensures.does
