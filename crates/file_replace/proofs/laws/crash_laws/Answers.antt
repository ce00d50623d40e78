use Rattle.file_replace.proofs.Leaving.{leaves_something}
use Rattle.file_replace.proofs.laws.crash_laws.Goals as goal

pub returns : goal.returns
returns c = leaves_something
