use Rattle.std.proofs.Common.{◌≡◌, ◌∙◌, ap, refl, sym, subst}
use Rattle.std.specs.Prelude.{is_some}
use Rattle.mac_base.specs.HeadKind.{need}
use Rattle.mac_base.specs.Request.{stays}
use Rattle.mac_base.specs.Serve.{resized_in_gap}
use Rattle.mac_base.specs.ZoneSizes.{ZoneSizes}
use Rattle.mac_base.specs.ZoneState.{ZoneState}
use Rattle.linked_zone.specs.Changes.{with_map}
use Rattle.linked_zone.specs.Loans.{KeepsLoans}
use Rattle.zone_heap.specs.Gaps.{GapBetween, opened_after}
use Rattle.zone_heap.specs.Attempts.{SoundZone}
use Rattle.zone_heap.specs.Resized.{way_made}
use Rattle.zone_heap.proofs.Resizing.{fits-gap, gap-after-at, way-after, way-sound, way-own}
use Rattle.zone_heap.proofs.size.make_way.Goals as goal
use Rattle.zone_heap.proofs.size.make_way.Goals.{After-grows_to, After-stays, After-squeeze_up}

-- whether it fits in its gap
fits : (c : After-grows_to) → is_some (resized_in_gap c.args.zone.now.shape c.args.zone.now.heap.table (need c.args.zone.now.shape.heads c.args.length) c.args.block c.args.zone.now.heap.map) ≡ c.grows_to.result
fits c =
    fits-gap c.args.zone.now c.args.block c.args.length c.need_for-needed.result c.requires.sound.sound c.requires.block
    (c.need_for-needed.ensures ∙ ap (λ heads. need heads c.args.length) (c.heads.ensures ∙ ap (λ (s : ZoneSizes). s.heads) (rw c.linked.ensures at c.spec.ensures.sizes)))
    ∙ sym c.grows_to.ensures.grows

-- whether the block stays
stay : (c : After-stays) → c.stays.result ≡ stays c.args.zone.now.heap.table c.args.block
stay c = (rw c.linked-2.ensures at c.stays.ensures) ∙ ap (λ (z : ZoneState). stays z.heap.table c.args.block) c.grows_to.ensures.zone

pub returns-then-not-grows_to-clause-fits : goal.returns-then-not-grows_to-clause-fits
returns-then-not-grows_to-clause-fits c = sym (fits (goal.at.returns-then-not-grows_to-clause-fits c).After-grows_to ∙ c.if-not-grows_to.true)

pub returns-then-not-grows_to-clause-loans : goal.returns-then-not-grows_to-clause-loans
returns-then-not-grows_to-clause-loans c = subst (KeepsLoans c.args.zone.now) (sym c.grows_to.ensures.zone) (refl, λ x loan is. is)

pub returns-then-not-grows_to-clause-sound : goal.returns-then-not-grows_to-clause-sound
returns-then-not-grows_to-clause-sound c = subst SoundZone (sym c.grows_to.ensures.zone) c.requires.sound

pub squeeze_up-requires-clause-gap : goal.squeeze_up-requires-clause-gap
squeeze_up-requires-clause-gap c =
    let fixed = sym (stay (goal.at.squeeze_up-requires-clause-gap c).After-stays) ∙ c.if-stays.true in
    subst (λ z. GapBetween z c.gap_to_grow-gap.result.start c.gap_to_grow-gap.result.end) (sym c.grows_to.ensures.zone) (gap-after-at c.args.zone.now c.args.block c.gap_to_grow-gap.result fixed c.gap_to_grow-gap.ensures)

pub returns-then-stays-clause-fits : goal.returns-then-stays-clause-fits
returns-then-stays-clause-fits c = sym (fits (goal.at.returns-then-stays-clause-fits c).After-grows_to ∙ c.if-not-grows_to.false)

-- the other blocks have made way above a block that stays
way : (c : After-squeeze_up) → c.squeeze_up.new.zone ≡ with_map (way_made c.args.zone.now.heap.table c.args.block c.args.zone.now.heap.map) c.args.zone.now
way c =
    let fixed = sym (stay (goal.at.After-squeeze_up c).After-stays) ∙ c.if-stays.true in
    (rw c.grows_to.ensures.zone at c.squeeze_up.ensures.zone) (gap-after-at c.args.zone.now c.args.block c.gap_to_grow-gap.result fixed c.gap_to_grow-gap.ensures)
    ∙ ap (λ m. with_map m c.args.zone.now) (way-after c.args.zone.now c.args.block c.gap_to_grow-gap.result fixed c.gap_to_grow-gap.ensures)

pub returns-then-stays-clause-loans : goal.returns-then-stays-clause-loans
returns-then-stays-clause-loans c = subst (λ v. KeepsLoans v c.squeeze_up.new.zone) c.grows_to.ensures.zone c.squeeze_up.ensures.loans

pub returns-then-stays-clause-zone : goal.returns-then-stays-clause-zone
returns-then-stays-clause-zone c = way (goal.at.returns-then-stays-clause-zone c).After-squeeze_up

pub returns-then-stays-clause-sound : goal.returns-then-stays-clause-sound
returns-then-stays-clause-sound c = way-sound c.args.zone.now c.squeeze_up.new.zone c.args.block c.requires.sound (way (goal.at.returns-then-stays-clause-sound c).After-squeeze_up)

pub returns-else-stays-clause-fits : goal.returns-else-stays-clause-fits
returns-else-stays-clause-fits c = sym (fits (goal.at.returns-else-stays-clause-fits c).After-grows_to ∙ c.if-not-grows_to.false)

pub returns-else-stays-clause-sound : goal.returns-else-stays-clause-sound
returns-else-stays-clause-sound c =
    let z = c.args.zone.now in
    way-sound z c.open_after.new.zone c.args.block c.requires.sound
    ((rw c.grows_to.ensures.zone at c.open_after.ensures.zone) ∙ ap (λ h. with_map (opened_after z.heap.table h z.heap.map) z) c.new.ensures
    ∙ ap (λ m. with_map m z) (way-own z.heap.table c.args.block z.heap.map (sym (stay (goal.at.returns-else-stays-clause-sound c).After-stays) ∙ c.if-stays.false)))
