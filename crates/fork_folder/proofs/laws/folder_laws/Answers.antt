use Rattle.std.proofs.Common.{[], arith}
use Rattle.fork_folder.specs.Unpacked.{types_of}
use Rattle.fork_folder.proofs.Apart.{all_known, own_paths}
use Rattle.fork_folder.proofs.Safe.{safe_names}
use Rattle.fork_folder.proofs.laws.folder_laws.Goals as goal

pub returns : goal.returns
returns c = record {
  own = λ kinds rows named few. own_paths (types_of rows) kinds [] rows (all_known rows named) (omega arith);
  safe = λ kinds rows named few. safe_names (types_of rows) kinds [] rows named (omega arith);
}
