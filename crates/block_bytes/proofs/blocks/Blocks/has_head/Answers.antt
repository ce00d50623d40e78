use Rattle.block_bytes.proofs.Settled.{header-free}
use Rattle.block_bytes.proofs.blocks.Blocks.has_head.Goals as goal

pub has_zone_head-requires-clause-free : goal.has_zone_head-requires-clause-free
has_zone_head-requires-clause-free c = header-free c.self.inside c.self.invariant.layout
