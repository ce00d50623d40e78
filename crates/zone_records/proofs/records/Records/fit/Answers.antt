use Rattle.std.proofs.Common.{◌≡◌, ◌∙◌, ap, arith}
use Rattle.block_bytes.specs.declared.header.Header.{Header}
use Rattle.zone_records.specs.declared.records.Records.TheInside.{Inside}
use Rattle.zone_records.specs.Places.{CanHold}
use Rattle.zone_records.specs.Fitting.{fitted, CanKeep}
use Rattle.zone_records.proofs.Held.{Held, held-now, fields}
use Rattle.zone_records.proofs.Holding.{held-block}
use Rattle.zone_records.proofs.Fitting.{cut_layout, split-can, resize-can, fit-split, fit-resize, fit-clear, fit-cleared, fit-kept}
use Rattle.zone_records.proofs.Fitted.{fit-can, fit-ends}
use Rattle.zone_records.proofs.records.Records.fit.Goals as goal
use Rattle.zone_records.proofs.records.Records.fit.Goals.{After-clear_from, Else-kept-length, Joined-size-entry_at, then-size-entry_at, else-size-entry_at}

pub entry_at-requires : goal.entry_at-requires
entry_at-requires c = (held-block _ _ (held-now c.self.invariant c.self.view_is) c.args.at c.requires.can.held).block

pub split-requires : goal.split-requires
split-requires c =
    let held = held-now c.self.invariant c.self.view_is in
    let said = ap (λ (h : Header). h.size) (c.entry_at.ensures (fit-can _ _ held c.args.at c.args.size c.args.length c.requires.can).block) in
    split-can c.self.inside.blocks c.args.at c.args.size c.args.length (fit-can _ _ held c.args.at c.args.size c.args.length c.requires.can) (omega arith)

pub resize-requires : goal.resize-requires
resize-requires c =
    let held = held-now c.self.invariant c.self.view_is in
    let said = ap (λ (h : Header). h.size) (c.entry_at.ensures (fit-can _ _ held c.args.at c.args.size c.args.length c.requires.can).block) in
    resize-can c.self.inside.blocks c.args.at c.args.size c.args.length (fit-can _ _ held c.args.at c.args.size c.args.length c.requires.can) (λ smaller. omega arith)

-- the blocks once the block is as long as it is to be
cut : (c : Joined-size-entry_at) (can : CanHold c.args.self.now c.args.at c.args.size c.args.length) → c.if-size-entry_at.self-inside.blocks ≡ cut_layout c.self.inside.blocks c.args.at c.args.size c.args.length (fit-can _ _ (held-now c.self.invariant c.self.view_is) c.args.at c.args.size c.args.length can)
cut c can =
    let l = c.self.inside.blocks in
    let fit = fit-can _ _ (held-now c.self.invariant c.self.view_is) c.args.at c.args.size c.args.length can in
    let said = ap (λ (h : Header). h.size) (c.entry_at.ensures fit.block) in elim c.if-size-entry_at.branch [
      | then-size-entry_at w ↦ ap (λ (i : Inside). i.blocks) w.self-inside-is ∙ fit-split l c.args.at c.args.size c.args.length fit w.split.new.self (omega arith) w.split.ensures
      | else-size-entry_at w ↦ ap (λ (i : Inside). i.blocks) w.self-inside-is ∙ fit-resize l c.args.at c.args.size c.args.length fit w.resize.new.self (λ smaller. omega arith) w.resize.ensures
    ]

pub clear_from-requires : goal.clear_from-requires
clear_from-requires c = fit-clear c.self.inside.blocks c.args.at c.args.size c.args.length (fit-can _ _ (held-now c.self.invariant c.self.view_is) c.args.at c.args.size c.args.length c.requires.can) c.if-size-entry_at.self-inside.blocks c.args.kept (cut (goal.at.clear_from-requires c).Joined-size-entry_at c.requires.can) c.if-kept-length.true

-- how it ends where bytes are cleared
cleared : (c : After-clear_from) → (keep : CanKeep c.args.self.now c.args.at c.args.size c.args.length c.args.kept) → Held c.clear_from.new.self (fitted c.args.kept c.args.self.now keep.can)
cleared c keep =
    fit-ends _ _ (held-now c.self.invariant c.self.view_is) c.args.at c.args.size c.args.length keep.can c.clear_from.new.self c.args.kept keep.few
    (fit-cleared c.self.inside.blocks c.args.at c.args.size c.args.length (fit-can _ _ (held-now c.self.invariant c.self.view_is) c.args.at c.args.size c.args.length keep.can) c.if-size-entry_at.self-inside.blocks c.clear_from.new.self c.args.kept (cut (goal.at.After-clear_from c).Joined-size-entry_at keep.can) c.if-kept-length.true c.clear_from.ensures)

-- and where none are
kept : (c : Else-kept-length) → (keep : CanKeep c.args.self.now c.args.at c.args.size c.args.length c.args.kept) → Held c.if-size-entry_at.self-inside.blocks (fitted c.args.kept c.args.self.now keep.can)
kept c keep =
    let fit = fit-can _ _ (held-now c.self.invariant c.self.view_is) c.args.at c.args.size c.args.length keep.can in
    fit-ends _ _ (held-now c.self.invariant c.self.view_is) c.args.at c.args.size c.args.length keep.can c.if-size-entry_at.self-inside.blocks c.args.kept keep.few
    (fit-kept c.self.inside.blocks c.args.at c.args.size c.args.length fit c.if-size-entry_at.self-inside.blocks c.args.kept (cut (goal.at.Else-kept-length c).Joined-size-entry_at keep.can) (omega arith))

pub invariant_of-self : goal.invariant_of-self
invariant_of-self c = fields _ _ (cleared (goal.at.invariant_of-self c).After-clear_from c.requires)

pub invariant_of-self-else-kept-length : goal.invariant_of-self-else-kept-length
invariant_of-self-else-kept-length c = fields _ _ (kept (goal.at.invariant_of-self-else-kept-length c).Else-kept-length c.requires)

pub returns-then-kept-length : goal.returns-then-kept-length
returns-then-kept-length c keep = (cleared (goal.at.returns-then-kept-length c).After-clear_from keep).shows

pub returns-else-kept-length : goal.returns-else-kept-length
returns-else-kept-length c keep = (kept (goal.at.returns-else-kept-length c).Else-kept-length keep).shows
