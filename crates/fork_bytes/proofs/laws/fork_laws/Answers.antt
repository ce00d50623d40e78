use Rattle.std.proofs.Common.{arith}
use Rattle.fork_bytes.specs.Fork.{macheap_limits}
use Rattle.fork_bytes.proofs.ReadAgain.{read_again, read_again_within, stands_for_one}
use Rattle.fork_bytes.proofs.Sized.{few_places}
use Rattle.fork_bytes.proofs.Grouped.{read_grouped}
use Rattle.fork_bytes.proofs.ReadWhole.{read_whole}
use Rattle.fork_bytes.proofs.laws.fork_laws.Goals as goal

pub returns : goal.returns
returns c = record {
  read_again = read_again;
  one = stands_for_one;
  grouped = read_grouped macheap_limits;
  whole = read_whole macheap_limits;
  read_again_within = read_again_within;
  places = λ rows few. few_places 0 rows (omega (arith, few));
  grouped_within = read_grouped;
  whole_within = read_whole;
}
