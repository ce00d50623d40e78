use Rattle.std.proofs.Common.{◌≡◌, ◌+◌, ◌-◌, ◌∙◌, ap, sym, arith}
use Rattle.mac_base.specs.HeadKind.{head_size}
use Rattle.zone_records.specs.Places.{FreePair}
use Rattle.zone_records.specs.Changes.{joined_pair}
use Rattle.zone_records.proofs.Held.{Held, held-now, fields, heads-is}
use Rattle.zone_records.proofs.Neighbours.{free_pair, first_at, first-size, second_at, second-size, both-range, both-head}
use Rattle.zone_records.proofs.Freeing.{can-merge, merge-ends}
use Rattle.zone_records.proofs.records.Records.merge.Goals as goal
use Rattle.zone_records.proofs.records.Records.merge.Goals.{After-entry_at-first, After-entry_at-second, After-head_size, After-merge}

pub entry_at-first-requires : goal.entry_at-first-requires
entry_at-first-requires c = first_at _ _ (held-now c.self.invariant c.self.view_is) c.args.at (free_pair c.requires)

-- the first block is as long as was read
first : (c : After-entry_at-first) (pair : FreePair c.args.self.now c.args.at) → c.entry_at-first.result.size ≡ pair.first
first c pair = first-size _ _ (held-now c.self.invariant c.self.view_is) c.args.at (free_pair pair) c.entry_at-first.result c.entry_at-first.ensures

pub overflow_add-at : goal.overflow_add-at
overflow_add-at c = omega (arith, first (goal.at.overflow_add-at c).After-entry_at-first c.requires, both-range _ _ (held-now c.self.invariant c.self.view_is) c.args.at (free_pair c.requires))

pub entry_at-second-requires : goal.entry_at-second-requires
entry_at-second-requires c = second_at _ _ (held-now c.self.invariant c.self.view_is) c.args.at (free_pair c.requires) _ (ap (λ n. c.args.at + n) (first (goal.at.entry_at-second-requires c).After-entry_at-first c.requires))

-- so is the second
second : (c : After-entry_at-second) (pair : FreePair c.args.self.now c.args.at) → c.entry_at-second.result.size ≡ pair.second
second c pair =
    let there = ap (λ n. c.args.at + n) (first (goal.at.After-entry_at-second c).After-entry_at-first pair) in
    second-size _ _ (held-now c.self.invariant c.self.view_is) c.args.at (free_pair pair) _ there c.entry_at-second.result c.entry_at-second.ensures

pub overflow_add-length : goal.overflow_add-length
overflow_add-length c = omega (arith, first (goal.at.overflow_add-length c).After-entry_at-first c.requires, second (goal.at.overflow_add-length c).After-entry_at-second c.requires, both-range _ _ (held-now c.self.invariant c.self.view_is) c.args.at (free_pair c.requires))

pub overflow_sub-length : goal.overflow_sub-length
overflow_sub-length c =
    let first = first (goal.at.overflow_sub-length c).After-entry_at-first c.requires in
    let second = second (goal.at.overflow_sub-length c).After-entry_at-second c.requires in
    omega (arith, first, second, both-head _ _ (held-now c.self.invariant c.self.view_is) c.args.at (free_pair c.requires), c.head_size.ensures)

-- the bytes of both
whole : (c : After-head_size) (pair : FreePair c.args.self.now c.args.at)
    → c.entry_at-first.result.size + c.entry_at-second.result.size - c.head_size.result ≡ pair.first + pair.second - head_size c.self.inside.blocks.heads
whole c pair =
    let first = first (goal.at.After-head_size c).After-entry_at-first pair in
    let second = second (goal.at.After-head_size c).After-entry_at-second pair in
    let head = c.head_size.ensures ∙ ap head_size (sym (heads-is _ _ (held-now c.self.invariant c.self.view_is))) in (λ i. first i + second i - head i)

pub merge-requires : goal.merge-requires
merge-requires c = can-merge _ _ (held-now c.self.invariant c.self.view_is) c.args.at c.requires _ (whole (goal.at.merge-requires c).After-head_size c.requires)

-- how it ends
ends : (c : After-merge) → (pair : FreePair c.args.self.now c.args.at) → Held c.merge.new.self (joined_pair c.args.self.now pair)
ends c pair = merge-ends _ _ (held-now c.self.invariant c.self.view_is) c.args.at pair _ (whole (goal.at.After-merge c).After-head_size pair) c.merge.new.self c.merge.ensures

pub invariant_of-self : goal.invariant_of-self
invariant_of-self c = fields _ _ (ends (goal.at.invariant_of-self c).After-merge c.requires)

pub returns : goal.returns
returns c pair = (ends (goal.at.returns c).After-merge pair).shows
