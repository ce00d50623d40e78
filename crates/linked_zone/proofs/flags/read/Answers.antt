use Rattle.std.proofs.Common.{◌≡◌, ◌∙◌, sym, ap}
use Rattle.mac_base.specs.declared.block.HeadKind.TheVariants.{Bits32}
use Rattle.mac_base.specs.ZoneSizes.{ZoneSizes}
use Rattle.linked_zone.specs.Flags.{flags_there}
use Rattle.linked_zone.proofs.flags.read.Goals as goal

pub returns-in-Bits32 : goal.returns-in-Bits32
returns-in-Bits32 c b =
    let heads : c.args.records.now.shape.heads ≡ Bits32 = sym (c.heads.ensures ∙ ap (λ (s : ZoneSizes). s.heads) c.spec.ensures) ∙ c.in-Bits32.is in
    c.header_flags.ensures b ∙ sym (ap (λ k. flags_there k c.args.slot b.flags) heads)
