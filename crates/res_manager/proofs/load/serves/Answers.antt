use Rattle.std.proofs.Common.{◌≡◌, Bool, true, false, refl, ◌∙◌}
use Rattle.std.specs.Prelude.{◌||◌}
use Rattle.res_manager.proofs.Placing.{full-answers}
use Rattle.res_manager.proofs.load.serves.Goals as goal

alone : (b : Bool) → b ≡ (b || false)
alone true = refl
alone false = refl

pub returns-else-not-loads : goal.returns-else-not-loads
returns-else-not-loads c = rw c.if-not-loads.false (c.is_ok.ensures.value ∙ full-answers _ _ _ _ c.first_block.ensures.sound c.hget_state.ensures.step ∙ alone _)
