use Rattle.std.proofs.Common.{◌/◌, sym, arith}
use Rattle.disk_image.proofs.Views.{view_is}
use Rattle.disk_image.proofs.Sectors.{sectors_within, sectors_total}
use Rattle.disk_image.proofs.device.sector_view.Goals as goal

pub returns-clause-sound : goal.returns-clause-sound
returns-clause-sound c =
    view_is _ _ c.in_ok-sector_ranges.ensures (sectors_within c.args.file c.args.head (c.args.file / 2352) c.requires (omega arith) (omega arith))
    (sym (sectors_total c.args.head 0 (c.args.file / 2352)))
