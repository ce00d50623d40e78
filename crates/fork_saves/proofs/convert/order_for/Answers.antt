use Rattle.std.proofs.Common.{rules, ap, inl, inr, sym, ◌∙◌, refl}
use Rattle.fork_saves.specs.Converting.{OrdersFiles, order_or}
use Rattle.fork_saves.proofs.convert.order_for.Goals as goal

pub returns-then-eq-clause-does : goal.returns-then-eq-clause-does
unfolding OrdersFiles
returns-then-eq-clause-does c = inl (search rules, refl, refl)

pub returns-in-Some-clause-does : goal.returns-in-Some-clause-does
unfolding OrdersFiles
returns-in-Some-clause-does c = inr (
  c.identity_of-input.result,
  c.identity_of-output.result,
  c.identity_of-data.result,
  c.identity_of-input.new.acts.events,
  c.identity_of-output.new.acts.events,
  c.identity_of-input.ensures.asks,
  rw c.written_file-output.ensures at c.identity_of-output.ensures.asks,
  c.identity_of-data.ensures.asks,
  ap order_or (sym c.in-Some.is ∙ c.order_of.ensures.exact),
)

pub returns-clause-does : goal.returns-clause-does
unfolding OrdersFiles
returns-clause-does c = inr (
  c.identity_of-input.result,
  c.identity_of-output.result,
  c.identity_of-data.result,
  c.identity_of-input.new.acts.events,
  c.identity_of-output.new.acts.events,
  c.identity_of-input.ensures.asks,
  rw c.written_file-output.ensures at c.identity_of-output.ensures.asks,
  c.identity_of-data.ensures.asks,
  ap order_or (sym c.in-None.is ∙ c.order_of.ensures.exact),
)
