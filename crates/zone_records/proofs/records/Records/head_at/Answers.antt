use Rattle.std.proofs.Common.{◌+◌, ◌∙◌, ap, arith}
use Rattle.mac_base.specs.ZoneSizes.{ZoneSizes}
use Rattle.mac_base.specs.HeadKind.{head_size}
use Rattle.block_bytes.specs.Head.{flags_of}
use Rattle.zone_records.proofs.Held.{held-now}
use Rattle.zone_records.proofs.Headers.{mine, range, head-in, kind_in, handle-said, entry-said}
use Rattle.zone_records.proofs.Holding as holding
use Rattle.zone_records.proofs.records.Records.head_at.Goals as goal
use Rattle.zone_records.proofs.records.Records.head_at.Goals.{in-Free, in-Fixed, in-Master, in-Relocatable}

pub entry_at-header-requires : goal.entry_at-header-requires
entry_at-header-requires c = mine _ _ (held-now c.self.invariant c.self.view_is) c.args.at c.requires

pub overflow_add-at : goal.overflow_add-at
overflow_add-at c =
    let held = held-now c.self.invariant c.self.view_is in
    let high = range _ _ held c.args.at c.requires in
    let head = head-in _ _ held c.args.at c.requires in
    let is = c.head_size.ensures in
    omega arith

pub overflow_add-base : goal.overflow_add-base
overflow_add-base c =
    let small = handle-said _ _ (held-now c.self.invariant c.self.view_is) c.args.at c.requires c.entry_at-header.result c.entry_at-header.ensures c.in-Relocatable.offset c.in-Relocatable.field-1 c.in-Relocatable.is in
    let base = c.base.ensures.value ∙ ap (λ (s : ZoneSizes). s.base) c.spec.ensures in
    omega arith

pub returns-clause-entry : goal.returns-clause-entry
returns-clause-entry c r =
    let place = c.args.at + head_size c.args.self.now.shape.heads in
    let said = kind_in c.args.self.now.shape.base place in
    entry-said _ _ (held-now c.self.invariant c.self.view_is) c.args.at r c.entry_at-header.result c.entry_at-header.ensures c.match-header.kind (elim c.match-header.branch [
      | in-Free w ↦ cc (w.kind-is, ap said w.in-Free.is)
      | in-Fixed w ↦ cc (w.kind-is, w.new.ensures, w.head_size.ensures, ap said w.in-Fixed.is)
      | in-Master w ↦ cc (w.kind-is, ap said w.in-Master.is)
      | in-Relocatable w ↦ cc (w.kind-is, w.new-in-Relocatable.ensures, w.base.ensures.value, ap (λ (s : ZoneSizes). s.base) w.spec.ensures, ap said w.in-Relocatable.is)
    ])

pub returns-clause-flags : goal.returns-clause-flags
returns-clause-flags c b = c.flags.ensures ∙ ap flags_of (holding.handle-said _ _ (held-now c.self.invariant c.self.view_is) c.args.at b c.entry_at-header.result c.entry_at-header.ensures).1
