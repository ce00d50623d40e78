use Rattle.std.proofs.Common.{◌∙◌, ap}
use Rattle.block_bytes.specs.declared.header.Header.{Header}
use Rattle.zone_records.specs.Places.{HandleBlockAt}
use Rattle.zone_records.specs.Changes.{flagged}
use Rattle.zone_records.proofs.Held.{Held, held-now, fields}
use Rattle.zone_records.proofs.Holding.{handle-block}
use Rattle.zone_records.proofs.Flagging.{flag-said, flag-can, flag-ends}
use Rattle.zone_records.proofs.records.Records.set_header_flags.Goals as goal
use Rattle.zone_records.proofs.records.Records.set_header_flags.Goals.{in-Relocatable, in_default}

pub entry_at-requires : goal.entry_at-requires
entry_at-requires c = let held = held-now c.self.invariant c.self.view_is in
    handle-block c.self.inside.blocks c.args.self.now held c.args.at c.requires.there

pub set_role-requires : goal.set_role-requires
set_role-requires c =
    let held = held-now c.self.invariant c.self.view_is in
    let b = c.requires.there in
    let mine = (flag-said _ _ held c.args.at b c.args.flags c.requires.sayable).1 in
    let header = ap (λ (h : Header). h.role) (c.entry_at.ensures (handle-block _ _ held c.args.at b)) ∙ mine in
    flag-can _ _ held c.args.at b c.args.flags c.requires.sayable c.match-entry_at.role (elim c.match-entry_at.branch [
      | in-Relocatable w ↦ cc (w.role-is, w.in-Relocatable.is, header)
      | in_default w ↦ absurd (w.in_default.not-Relocatable _ _ header)
    ])

-- how it ends
ends : (c : goal.After-set_role) → (b : HandleBlockAt c.args.self.now c.args.at) → Held c.set_role.new.self (flagged c.args.flags c.args.self.now b)
ends c b =
    let held = held-now c.self.invariant c.self.view_is in
    let mine = (flag-said _ _ held c.args.at b c.args.flags c.requires.sayable).1 in
    let header = ap (λ (h : Header). h.role) (c.entry_at.ensures (handle-block _ _ held c.args.at b)) ∙ mine in
    flag-ends _ _ held c.args.at b c.args.flags c.requires.sayable c.match-entry_at.role c.set_role.new.self (elim c.match-entry_at.branch [
      | in-Relocatable w ↦ cc (w.role-is, w.in-Relocatable.is, header)
      | in_default w ↦ absurd (w.in_default.not-Relocatable _ _ header)
    ]) c.set_role.ensures

pub invariant_of-self : goal.invariant_of-self
invariant_of-self c = fields _ _ (ends c c.requires.there)

pub returns : goal.returns
returns c b = (ends c b).shows
