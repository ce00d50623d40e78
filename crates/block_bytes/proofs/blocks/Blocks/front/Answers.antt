use Rattle.std.proofs.Common.{arith}
use Rattle.raw_region.proofs.Free.{free_within}
use Rattle.block_bytes.specs.ZoneHead.{front_field}
use Rattle.block_bytes.proofs.Settled.{header-free}
use Rattle.block_bytes.proofs.blocks.Blocks.front.Goals as goal

pub front-requires-clause-free : goal.front-requires-clause-free
front-requires-clause-free c = free_within (header-free c.self.inside c.self.invariant.layout) front_field 4 (omega arith) (omega arith)
