use Rattle.std.proofs.lemmas.List.Sums.{prefix_len-le-length}
use Rattle.type_source.specs.Tokens.{goes_on}
use Rattle.std.proofs.Common.{arith}
use Rattle.type_source.proofs.run.Run.split.Goals as goal

pub split_at-requires : goal.split_at-requires
split_at-requires c = omega (arith, c.count-count.ensures, prefix_len-le-length (goes_on c.args.self) c.args.text.now)
