use Rattle.std.proofs.Common.{◌∙◌, arith}
use Rattle.disk_image.proofs.Views.{view_is}
use Rattle.disk_image.proofs.DevicesFound.{data_is, data_within, data_total}
use Rattle.disk_image.proofs.device.data_view.Goals as goal

pub returns-clause-ranges : goal.returns-clause-ranges
returns-clause-ranges c =
    c.in_ok-vec.ensures.items
    ∙ data_is c.args.file c.args.count c.min.result c.min-size.result c.saturating_sub.result c.min.ensures (omega (arith, c.saturating_sub.ensures)) c.min-size.ensures

pub returns-clause-sound : goal.returns-clause-sound
returns-clause-sound c =
    view_is _ _ (returns-clause-ranges c) (data_within c.args.file c.args.count (omega arith))
    (data_total c.args.file c.args.count c.min-size.result (omega (arith, c.saturating_sub.ensures, c.min-size.ensures)))
