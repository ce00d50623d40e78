use Rattle.std.proofs.Common.{inl, refl}
use Rattle.file_acts.specs.Acts.{Then}
use Rattle.fork_saves.specs.Converting.{ConvertsOpened}
use Rattle.fork_saves.proofs.Steps.{then_done, then_not}
use Rattle.fork_saves.proofs.convert.convert_bytes.Goals as goal

pub returns-clause-does : goal.returns-clause-does
unfolding ConvertsOpened
returns-clause-does c = then_done _ _ c.in_ok-found.found c.args.acts.now.events _ _ _ ((c.in_ok-found.ensures, refl)) ((c.parts_of.result, c.parts_of.ensures, c.convert_file.ensures.does))

pub returns-in_err-found-clause-does : goal.returns-in_err-found-clause-does
returns-in_err-found-clause-does c = then_not _ _ c.from_residual.result c.in_err-found.field-0.0 _ _ c.from_residual.ensures.1 (c.in_err-found.ensures, refl)
