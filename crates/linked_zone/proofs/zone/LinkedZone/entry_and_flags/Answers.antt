use Rattle.std.proofs.Common.{◌≡◌, ◌+◌, ◌∙◌, ap, subst, sym}
use Rattle.mac_base.specs.HeadKind.{head_size}
use Rattle.mac_base.specs.ZoneMap.{block}
use Rattle.mac_base.specs.declared.block.Entry.{Entry}
use Rattle.zone_records.specs.Records.{ZoneRecords, kind_of}
use Rattle.linked_zone.specs.Places.{EntryAt, HasOwner}
use Rattle.linked_zone.proofs.Found.{handle-block, has-owner, of-handle}
use Rattle.linked_zone.proofs.Located.{entry-read, of-entry}
use Rattle.linked_zone.proofs.Standing.{stands-now}
use Rattle.linked_zone.proofs.zone.LinkedZone.entry_and_flags.Goals as goal
use Rattle.linked_zone.proofs.zone.LinkedZone.entry_and_flags.Goals.{After-head_at-head}

-- what is read is the block's entry
entry : (c : After-head_at-head) (e : EntryAt c.args.self.now c.args.at) → c.head_at-head.result.0 ≡ e.here
entry c e =
    let stands = stands-now c.self.invariant c.self.view_is in
    let mine = of-entry c.self.inside.records c.args.self.now stands.blocks c.args.at e in
    let b = mine.there.here in
    c.head_at-head.ensures.entry mine.there ∙ ap (λ (r : ZoneRecords). block (kind_of (c.args.at + head_size r.shape.heads) b.content) b.size) stands.blocks
    ∙ entry-read c.args.self.now stands.fits stands.rooms c.args.at e b mine.here

pub head_at-head-requires : goal.head_at-head-requires
head_at-head-requires c = (of-entry c.self.inside.records c.args.self.now (stands-now c.self.invariant c.self.view_is).blocks c.args.at c.requires).there

pub flags_of-requires-clause-owner : goal.flags_of-requires-clause-owner
flags_of-requires-clause-owner c =
    let e = c.requires in
    subst (λ (e : Entry). HasOwner c.args.self.now e.kind) (sym (entry (goal.at.flags_of-requires-clause-owner c).After-head_at-head e)) (has-owner _ _ (stands-now c.self.invariant c.self.view_is) c.args.at e)

pub flags_of-requires-clause-header : goal.flags_of-requires-clause-header
flags_of-requires-clause-header c = λ h is.
    let e = c.requires in
    let kind = ap (λ (e : Entry). e.kind) (sym (entry (goal.at.flags_of-requires-clause-header c).After-head_at-head e)) ∙ is in
    let mine = of-handle _ _ (stands-now c.self.invariant c.self.view_is) h c.args.at (handle-block c.args.self.now h c.args.at e kind) in
    c.head_at-head.ensures.flags mine.there ∙ mine.says

pub returns-clause-entry : goal.returns-clause-entry
returns-clause-entry c = λ e. entry (goal.at.returns-clause-entry c).After-head_at-head e
