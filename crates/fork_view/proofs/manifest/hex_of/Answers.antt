use Rattle.std.specs.Prelude.{string_bytes}
use Rattle.fork_view.proofs.Saying.{digits_again}
use Rattle.fork_view.proofs.manifest.hex_of.Goals as goal

pub returns : goal.returns
returns c = digits_again string_bytes c.args.bytes.now c.type_inv.bytes c.encode_upper.result c.encode_upper.ensures
