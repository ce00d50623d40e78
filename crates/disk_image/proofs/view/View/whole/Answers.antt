use Rattle.std.proofs.Common.{arith}
use Rattle.disk_image.proofs.Views.{view_is, whole_within, whole_total}
use Rattle.disk_image.proofs.view.View.whole.Goals as goal

pub returns-clause-sound : goal.returns-clause-sound
returns-clause-sound c = view_is _ _ c.in_ok-vec.ensures.items (whole_within c.args.size (omega arith)) (whole_total c.args.size)
