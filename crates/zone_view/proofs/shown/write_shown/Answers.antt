use Rattle.zone_view.proofs.Written.{shows_nothing}
use Rattle.zone_view.proofs.shown.write_shown.Goals as goal

pub returns-in_err-text : goal.returns-in_err-text
returns-in_err-text g c = shows_nothing (g.D.Display.output c.args.value.now) _ _ _ c.from_residual.ensures.1
