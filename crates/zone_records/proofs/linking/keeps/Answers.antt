use Rattle.std.proofs.Common.{◌≡◌, ◌∙◌, ℕ, sym, subst}
use Rattle.zone_records.specs.declared.slot.Slot.TheVariants as slot
use Rattle.zone_records.specs.Adopting.{HasBlock}
use Rattle.zone_records.specs.Reading.{records_in}
use Rattle.zone_records.proofs.linking.keeps.Goals as goal

pub returns-in-Full : goal.returns-in-Full
returns-in-Full c = (
  λ yes flags contents is.
      let same : slot.Full c.in-Full.field-0 c.in-Full.contents ≡ slot.Full flags contents = sym c.in-Full.is ∙ is in let place : c.in-Full.contents ≡ contents = cc same in
      subst (λ (n : ℕ). HasBlock (records_in c.args.blocks.now) c.args.handle n) place (c.has_block.ensures.0 yes),
  λ k. c.has_block.ensures.1 (k c.in-Full.field-0 c.in-Full.contents c.in-Full.is),
)
