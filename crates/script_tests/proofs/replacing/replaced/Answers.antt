use Rattle.std.proofs.Common.{ap}
use Rattle.file_replace.specs.Memory.{seen}
use Rattle.script_tests.proofs.replacing.replaced.Goals as goal

pub replace-done-requires : goal.replace-done-requires
replace-done-requires g c honest = ap seen c.requires
