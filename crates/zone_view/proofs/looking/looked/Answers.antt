use Rattle.std.proofs.Common.{map}
use Rattle.zone_view.specs.Looking.{viewed}
use Rattle.zone_view.proofs.Ending.{was_refused}
use Rattle.zone_view.proofs.looking.looked.Goals as goal

pub returns-in-Ok : goal.returns-in-Ok
returns-in-Ok g c = viewed c.in-Ok.request c.in-Ok.ensures c.look_at.ensures

pub returns-in-Err : goal.returns-in-Err
returns-in-Err g c = was_refused (map g.S.AsStr.text c.args.words.now) c.in-Err.error _ _ _ _ _ c.in-Err.ensures c.refuse.ensures
