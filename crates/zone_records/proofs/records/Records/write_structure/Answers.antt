use Rattle.std.proofs.Common.{◌≡◌, ◌+◌, ◌≤◌, ◌∙◌, length, inl, inr, sym, ap, subst}
use Rattle.std.proofs.lemmas.Bool.{cases_lt}
use Rattle.mac_base.specs.HeadKind.{zone_header}
use Rattle.block_bytes.specs.Layout.{image_of, total_of}
use Rattle.block_bytes.proofs.Structures.{enough, structure-head, structure-headers}
use Rattle.zone_records.specs.declared.structure.Part.TheVariants.{ZoneHeader}
use Rattle.zone_records.specs.Parts.{OthersStay}
use Rattle.zone_records.specs.Records.{ZoneRecords}
use Rattle.zone_records.proofs.Held.{held-now}
use Rattle.zone_records.proofs.Kept.{beside-headers, beside-masters, contents-stay}
use Rattle.zone_records.proofs.MasterBlocks.{image-long}
use Rattle.zone_records.proofs.Structures.{flags-from, structure-made}
use Rattle.zone_records.proofs.Writing.{written-agree, written-same}
use Rattle.zone_records.proofs.records.Records.write_structure.Goals as goal

pub write_own_bytes-requires : goal.write_own_bytes-requires
write_own_bytes-requires c = record { whole = c.requires.whole ∙ sym (image-long c.self.inside.blocks ∙ ap (λ (z : ZoneRecords). z.shape.limit) c.self.view_is) }

pub returns : goal.returns
returns c =
    let l = c.self.inside.blocks in
    let z = c.args.self.now in
    let old = c.args.bytes.now in
    let bytes = c.write_own_bytes.new.bytes in
    let held = held-now c.self.invariant c.self.view_is in
    let same = c.write_own_bytes.ensures.same in
    let masters = c.write_own_bytes.ensures.masters in
    let limit : length old ≡ length (image_of l) = c.requires.whole ∙ sym (image-long l ∙ ap (λ (z : ZoneRecords). z.shape.limit) c.self.view_is) in
    let fits = enough l old limit in
    let stay : OthersStay z old bytes = (λ k none.
    c.write_own_bytes.ensures.others k (elim (cases_lt k zone_header) [ inl below ↦ absurd (none ZoneHeader below) | inr above ↦ above ]) (beside-headers l z held k none) (beside-masters l z held k none)) in
    record {
      same = structure-made l bytes z held (structure-head l bytes same) (record { headers = structure-headers l bytes same; masters = written-agree l held.sound bytes masters });
      flags = flags-from l bytes z held (written-same l held.sound bytes masters);
      others = stay;
      contents = contents-stay l z held old bytes c.requires.whole (same.all ∙ sym limit ∙ c.requires.whole) (subst (λ n. zone_header + total_of l.heads l.blocks ≤ n) c.requires.whole fits) stay;
    }
