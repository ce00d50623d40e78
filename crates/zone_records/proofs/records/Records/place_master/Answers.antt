use Rattle.std.proofs.Common.{◌≡◌, ◌+◌, ap, ◌∙◌, arith}
use Rattle.mac_base.specs.HeadKind.{master_length, slot_count, head_size, address_end}
use Rattle.mac_base.specs.ZoneSizes.{ZoneSizes}
use Rattle.zone_records.specs.Records.{Master}
use Rattle.zone_records.specs.Places.{RoomFor}
use Rattle.zone_records.specs.Changes.{chained, filled}
use Rattle.zone_records.specs.Word.{words_of}
use Rattle.zone_records.proofs.Words.{length-chain}
use Rattle.zone_records.proofs.Held.{Held, held-now, fields}
use Rattle.zone_records.proofs.Chaining.{master-end, master-range, master-even, fixed-can, fixed-unlent, fixed-long, fixed-written, turn-can, master-ends}
use Rattle.zone_records.proofs.records.Records.place_master.Goals as goal
use Rattle.zone_records.proofs.records.Records.place_master.Goals.{After-set_role, After-write_chain}

pub overflow_add-first : goal.overflow_add-first
overflow_add-first c =
    let high = master-range _ _ (held-now c.self.invariant c.self.view_is) c.args.at c.requires.room in
    let head = c.head_size.ensures in
    omega arith

pub assign-requires : goal.assign-requires
assign-requires c = fixed-can _ _ (held-now c.self.invariant c.self.view_is) c.args.at c.requires.room

pub contents_mut-requires : goal.contents_mut-requires
contents_mut-requires c =
    record { block = fixed-unlent _ _ (held-now c.self.invariant c.self.view_is) c.args.at c.requires.room c.assign.new.self c.assign.ensures }

pub write_chain-requires-clause-long : goal.write_chain-requires-clause-long
write_chain-requires-clause-long c =
    fixed-long _ _ (held-now c.self.invariant c.self.view_is) c.args.at c.requires.room c.assign.new.self c.assign.ensures c.contents_mut.result.now c.contents_mut.ensures.value

pub write_chain-requires-clause-low : goal.write_chain-requires-clause-low
write_chain-requires-clause-low c =
    let high = master-end _ _ (held-now c.self.invariant c.self.view_is) c.args.at c.requires.room in
    let head = c.head_size.ensures in
    let top = ap address_end (c.heads-heads.ensures ∙ ap (λ (s : ZoneSizes). s.heads) c.spec.ensures) in
    omega arith

pub write_chain-requires-clause-even : goal.write_chain-requires-clause-even
write_chain-requires-clause-even c =
    let even = master-even _ _ (held-now c.self.invariant c.self.view_is) c.args.at c.requires.room in
    let head = c.head_size.ensures in
    omega arith

-- its slots name each other
words : (c : After-write_chain) → c.write_chain.new.words ≡ words_of c.args.self.now.shape.heads (chained slot_count (c.args.at + head_size c.args.self.now.shape.heads) c.args.last)
words c = c.write_chain.ensures ∙ (λ i. words_of ((c.heads-heads.ensures ∙ ap (λ (s : ZoneSizes). s.heads) c.spec.ensures) i) (chained slot_count (c.args.at + c.head_size.ensures i) c.args.last))

pub set_role-requires : goal.set_role-requires
set_role-requires c =
    let held = held-now c.self.invariant c.self.view_is in
    let long = length-chain c.args.self.now.shape.heads c.write_chain.new.words (c.args.at + head_size c.args.self.now.shape.heads) c.args.last (words (goal.at.set_role-requires c).After-write_chain) in
    turn-can _ _ held c.args.at c.requires.room c.write_chain.new.words long _ (fixed-written _ _ held c.args.at c.requires.room c.write_chain.new.words long c.assign.new.self c.assign.ensures)

-- how it ends
ends : (c : After-set_role) (r : RoomFor c.args.self.now c.args.at master_length) → Held c.set_role.new.self (filled (Master (chained slot_count (c.args.at + head_size c.args.self.now.shape.heads) c.args.last)) c.args.self.now r.free)
ends c r =
    let held = held-now c.self.invariant c.self.view_is in
    let words = words (goal.at.After-set_role c).After-write_chain in
    let long = length-chain c.args.self.now.shape.heads c.write_chain.new.words (c.args.at + head_size c.args.self.now.shape.heads) c.args.last words in
    master-ends _ _ held c.args.at r c.write_chain.new.words long _ c.set_role.new.self c.args.last c.requires.sayable words
    (fixed-written _ _ held c.args.at r c.write_chain.new.words long c.assign.new.self c.assign.ensures) c.set_role.ensures

pub invariant_of-self : goal.invariant_of-self
invariant_of-self c = fields _ _ (ends (goal.at.invariant_of-self c).After-set_role c.requires.room)

pub returns : goal.returns
returns c r = (ends (goal.at.returns c).After-set_role r).shows
