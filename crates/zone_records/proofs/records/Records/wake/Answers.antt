use Rattle.std.proofs.Common.{◌≡◌, ◌∙◌, ap, not, sym, subst}
use Rattle.std.specs.List.{list_all}
use Rattle.mac_base.specs.ZoneState.{Memory, woken_in}
use Rattle.block_bytes.specs.Structure as raw
use Rattle.zone_records.specs.Records.{ZoneRecords}
use Rattle.zone_records.specs.Structure.{shown}
use Rattle.zone_records.proofs.Freeing.{none-lent}
use Rattle.zone_records.proofs.Held.{Held, held-now, fields}
use Rattle.zone_records.proofs.Structures.{elsewhere, flags-to, held-shown, structure-parts}
use Rattle.zone_records.proofs.Writing.{all-written}
use Rattle.zone_records.proofs.records.Records.wake.Goals as goal

pub wake-requires : goal.wake-requires
wake-requires c =
    let l = c.self.inside.blocks in
    let bytes = c.args.region.bytes in
    let held = held-now c.self.invariant c.self.view_is in
    let parts = structure-parts l bytes _ held c.requires.same in
    record {
      nothing_lent = none-lent l.heads l.base l.blocks (ap (λ (z : ZoneRecords). list_all (λ b. not b.lent) z.blocks) c.self.view_is ∙ c.requires.nothing_lent);
      asleep = ap (λ (z : ZoneRecords). z.memory.kept) c.self.view_is ∙ c.requires.asleep;
      whole = c.requires.whole;
      same = parts.blocks;
      masters = all-written l held.sound bytes parts.masters (flags-to l bytes _ held c.requires.flags);
    }

-- the zone with the bytes of the region
ends : (c : goal.After-wake) → Held c.wake.new.self (record (shown c.args.self.now c.args.region.bytes) { memory = woken_in c.args.self.now.memory c.args.region.name })
ends c =
    let l = c.self.inside.blocks in
    let z = c.args.self.now in
    let bytes = c.args.region.bytes in
    let memory = woken_in c.args.self.now.memory c.args.region.name in
    let held = held-now c.self.invariant c.self.view_is in
    let parts = structure-parts l bytes z held c.requires.same in
    let same : l.memory ≡ z.memory = ap (λ (z : ZoneRecords). z.memory) c.self.view_is in
    subst (λ l. Held l (record (shown z bytes) { memory = memory })) (sym (c.wake.ensures ∙ ap (λ (m : Memory). record (raw.shown l bytes) { memory = woken_in m c.args.region.name }) same))
    (elsewhere (raw.shown l bytes) (shown z bytes) memory (held-shown l bytes z held parts.blocks.all parts.masters))

pub invariant_of-self : goal.invariant_of-self
invariant_of-self c = fields _ _ (ends c)

pub returns : goal.returns
returns c = (ends c).shows
