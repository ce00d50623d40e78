use Rattle.fork_texts.proofs.Again.{read_again}
use Rattle.fork_texts.proofs.Unchanged.{unchanged}
use Rattle.fork_texts.proofs.laws.line_laws.Goals as goal

pub returns : goal.returns
returns c = record { again = read_again; unchanged = unchanged }
