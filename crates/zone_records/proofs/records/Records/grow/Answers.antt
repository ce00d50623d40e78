use Rattle.std.proofs.Common.{◌≡◌, ◌+◌, ◌-◌, ◌∙◌, ap, sym, subst, arith}
use Rattle.mac_base.specs.HeadKind.{head_size}
use Rattle.zone_records.specs.Records.{ZoneRecords}
use Rattle.zone_records.specs.Places.{CanGrow}
use Rattle.zone_records.specs.Fitting.{CanKeep, fitted}
use Rattle.zone_records.proofs.Held.{Held, held-now, fields, heads-is}
use Rattle.zone_records.proofs.Growing.{grow_record, merged_zone, grow-can, grow-merged, grow-keep, grow-all}
use Rattle.zone_records.proofs.Neighbours.{grow_pair, first_at, first-size, second_at, second-size, both-range, both-head}
use Rattle.zone_records.proofs.records.Records.grow.Goals as goal
use Rattle.zone_records.proofs.records.Records.grow.Goals.{After-entry_at-first, After-entry_at-second, After-head_size, After-merge}

pub entry_at-first-requires : goal.entry_at-first-requires
entry_at-first-requires c = first_at _ _ (held-now c.self.invariant c.self.view_is) c.args.at (grow_pair c.requires)

-- the first block is as long as was read
first : (c : After-entry_at-first) (can : CanGrow c.args.self.now c.args.at c.args.size c.args.length) → c.entry_at-first.result.size ≡ can.first
first c can = first-size _ _ (held-now c.self.invariant c.self.view_is) c.args.at (grow_pair can) c.entry_at-first.result c.entry_at-first.ensures

pub overflow_add-at : goal.overflow_add-at
overflow_add-at c = omega (arith, first (goal.at.overflow_add-at c).After-entry_at-first c.requires, both-range _ _ (held-now c.self.invariant c.self.view_is) c.args.at (grow_pair c.requires))

pub entry_at-second-requires : goal.entry_at-second-requires
entry_at-second-requires c = second_at _ _ (held-now c.self.invariant c.self.view_is) c.args.at (grow_pair c.requires) _ (ap (λ n. c.args.at + n) (first (goal.at.entry_at-second-requires c).After-entry_at-first c.requires))

-- so is the second
second : (c : After-entry_at-second) (can : CanGrow c.args.self.now c.args.at c.args.size c.args.length) → c.entry_at-second.result.size ≡ can.second
second c can =
    let there = ap (λ n. c.args.at + n) (first (goal.at.After-entry_at-second c).After-entry_at-first can) in
    second-size _ _ (held-now c.self.invariant c.self.view_is) c.args.at (grow_pair can) _ there c.entry_at-second.result c.entry_at-second.ensures

pub overflow_add-whole : goal.overflow_add-whole
overflow_add-whole c =
    let first = first (goal.at.overflow_add-whole c).After-entry_at-first c.requires in
    omega (arith, first, second (goal.at.overflow_add-whole c).After-entry_at-second c.requires, both-range _ _ (held-now c.self.invariant c.self.view_is) c.args.at (grow_pair c.requires))

pub overflow_sub-whole : goal.overflow_sub-whole
overflow_sub-whole c =
    let first = first (goal.at.overflow_sub-whole c).After-entry_at-first c.requires in
    let second = second (goal.at.overflow_sub-whole c).After-entry_at-second c.requires in
    omega (arith, first, second, both-head _ _ (held-now c.self.invariant c.self.view_is) c.args.at (grow_pair c.requires), c.head_size.ensures)

-- the bytes of both
whole : (c : After-head_size) (can : CanGrow c.args.self.now c.args.at c.args.size c.args.length)
    → c.entry_at-first.result.size + c.entry_at-second.result.size - c.head_size.result ≡ can.first + can.second - head_size c.self.inside.blocks.heads
whole c can =
    let first = first (goal.at.After-head_size c).After-entry_at-first can in
    let second = second (goal.at.After-head_size c).After-entry_at-second can in
    let head = c.head_size.ensures ∙ ap head_size (sym (heads-is _ _ (held-now c.self.invariant c.self.view_is))) in (λ i. first i + second i - head i)

pub merge-requires : goal.merge-requires
merge-requires c = grow-can _ _ (held-now c.self.invariant c.self.view_is) c.args.at c.args.size c.args.length c.requires _ (whole (goal.at.merge-requires c).After-head_size c.requires)

-- both blocks are one
merged : (c : After-merge) → (can : CanGrow c.args.self.now c.args.at c.args.size c.args.length)
    → Held c.merge.new.self (merged_zone _ _ (held-now c.self.invariant c.self.view_is) c.args.at c.args.size c.args.length can)
merged c can = grow-merged _ _ (held-now c.self.invariant c.self.view_is) c.args.at c.args.size c.args.length can _ (whole (goal.at.After-merge c).After-head_size can) c.merge.new.self c.merge.ensures

pub invariant_of-self : goal.invariant_of-self
invariant_of-self c = fields _ _ (merged (goal.at.invariant_of-self c).After-merge c.requires)

pub fit-requires : goal.fit-requires
fit-requires c =
    subst (λ (y : ZoneRecords). CanKeep y c.args.at c.args.size c.args.length c.length_at-kept.result) (sym (merged (goal.at.fit-requires c).After-merge c.requires).shows)
    (grow-keep _ _ (held-now c.self.invariant c.self.view_is) c.args.at c.args.size c.args.length c.requires c.length_at-kept.result (c.length_at-kept.ensures (grow_record _ c.args.at c.args.size c.args.length c.requires)))

pub returns : goal.returns
returns c can =
    let kept = c.length_at-kept.ensures (grow_record _ c.args.at c.args.size c.args.length can) in
    subst (λ (y : ZoneRecords). (keep : CanKeep y c.args.at c.args.size c.args.length c.length_at-kept.result) → c.fit.new.self ≡ fitted c.length_at-kept.result y keep.can) (merged (goal.at.returns c).After-merge can).shows c.fit.ensures
    (grow-keep _ _ (held-now c.self.invariant c.self.view_is) c.args.at c.args.size c.args.length can c.length_at-kept.result kept) ∙ grow-all _ _ (held-now c.self.invariant c.self.view_is) c.args.at c.args.size c.args.length can c.length_at-kept.result kept
