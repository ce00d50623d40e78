use Rattle.mem_calls.proofs.StateBits.{masked-lock, masked-purge, masked-resource}
use Rattle.mem_calls.proofs.state.flags_from.Goals as goal

pub returns : goal.returns
returns c = rw (masked-lock c.args.state, masked-purge c.args.state, masked-resource c.args.state)
