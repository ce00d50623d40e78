use Rattle.std.proofs.Common.{ap}
use Rattle.file_replace.specs.Memory.{seen}
use Rattle.script_tests.proofs.replacing.prepared.Goals as goal

pub prepare-requires : goal.prepare-requires
prepare-requires g c honest = ap seen c.new-place.ensures.beside
