use Rattle.std.proofs.Common.{refl}
use Rattle.mac_files.specs.BinHexLeft.{packed_after}
use Rattle.mac_files.proofs.bin_hex.runs.Runs.new.Goals as goal

pub returns-clause-all : goal.returns-clause-all
unfolding packed_after
returns-clause-all c = refl
