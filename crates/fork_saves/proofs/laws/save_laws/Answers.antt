use Rattle.fork_saves.proofs.Lasting.{put_files_last}
use Rattle.fork_saves.proofs.laws.save_laws.Goals as goal

pub returns : goal.returns
returns c = put_files_last
