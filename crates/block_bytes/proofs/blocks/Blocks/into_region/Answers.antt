use Rattle.std.proofs.Common.{sym, ap, subst, ◌∙◌}
use Rattle.raw_region.specs.State.{State}
use Rattle.block_bytes.specs.Layout.{NothingLent}
use Rattle.block_bytes.proofs.Settled.{nothing-lent}
use Rattle.block_bytes.proofs.blocks.Blocks.into_region.Goals as goal

pub returns-clause-whole : goal.returns-clause-whole
returns-clause-whole c = ap (λ (m : State). m.lent) c.into_region.ensures ∙ nothing-lent c.self.inside c.self.invariant.layout (subst NothingLent (sym c.self.view_is) c.requires.nothing_lent)
