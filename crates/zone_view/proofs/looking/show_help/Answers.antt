use Rattle.std.proofs.Common.{[], refl}
use Rattle.zone_view.specs.Looking.{cut, shown}
use Rattle.zone_view.proofs.Written.{none_written}
use Rattle.zone_view.proofs.looking.show_help.Goals as goal

pub returns-in_default : goal.returns-in_default
returns-in_default g c = cut [] (none_written [] _) refl

pub returns-in-Ok-write : goal.returns-in-Ok-write
returns-in-Ok-write g c = shown c.as_bytes.result.now c.in-Ok-write.ensures refl refl

pub returns : goal.returns
returns g c = cut c.as_bytes.result.now c.in-Err.ensures refl
