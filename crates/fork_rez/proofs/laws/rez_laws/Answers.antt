use Rattle.fork_rez.proofs.Rows.{table_again}
use Rattle.fork_rez.proofs.laws.rez_laws.Goals as goal

pub returns : goal.returns
returns c = record { again = λ table is. table_again table is }
