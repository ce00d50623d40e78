use Rattle.std.proofs.Common.{inr, refl}
use Rattle.mac_files.proofs.Known.{single, double}
use Rattle.mac_write.proofs.Held.{nothing_lost}
use Rattle.mac_write.specs.Targets.{double_text, single_text}
use Rattle.mac_write.proofs.laws.written_laws.Goals as goal

pub returns-clause-single : goal.returns-clause-single
returns-clause-single c = λ file. single (single_text file) refl (inr refl)

pub returns-clause-double : goal.returns-clause-double
returns-clause-double c = λ file. double (double_text file) refl (inr refl)

pub returns-clause-lost : goal.returns-clause-lost
returns-clause-lost c = nothing_lost
