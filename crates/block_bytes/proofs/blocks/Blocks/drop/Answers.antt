use Rattle.std.proofs.Common.{ap, ◌∙◌}
use Rattle.block_bytes.specs.Layout.{Layout, lent_count}
use Rattle.block_bytes.proofs.Settled.{nothing-lent}
use Rattle.block_bytes.proofs.blocks.Blocks.drop.Goals as goal

pub drop-requires : goal.drop-requires
drop-requires c = record { nothing_lent = nothing-lent c.self.inside c.self.invariant.layout (ap (λ (l : Layout). lent_count l.blocks) c.self.view_is ∙ c.requires.nothing_lent) }
