use Rattle.std.proofs.Common.{◌∙◌, ap, arith}
use Rattle.raw_region.proofs.Free.{free_within}
use Rattle.block_bytes.specs.Layout.{Layout, free_total}
use Rattle.block_bytes.specs.Reading.{layout_of}
use Rattle.block_bytes.specs.ZoneHead.{free_field}
use Rattle.block_bytes.proofs.Settled.{header-free, free-counted}
use Rattle.block_bytes.proofs.blocks.Blocks.free_bytes.Goals as goal

pub free_bytes-requires-clause-free : goal.free_bytes-requires-clause-free
free_bytes-requires-clause-free c = free_within (header-free c.self.inside c.self.invariant.layout) free_field 4 (omega arith) (omega arith)

pub returns : goal.returns
returns c = let z = c.self.inside in
    c.free_bytes.ensures ∙ free-counted z c.self.invariant.layout c.base-base.ensures.possible z.memory (layout_of z).blocks c.self.invariant.layout.form ∙ ap (λ (l : Layout). free_total l.heads l.blocks) c.self.view_is
