use Rattle.std.proofs.Common.{◌∙◌, ap, sym, subst}
use Rattle.mac_base.specs.Request.{stays}
use Rattle.mac_base.specs.ZoneState.{ZoneState}
use Rattle.linked_zone.specs.Loans.{KeepsLoans}
use Rattle.zone_heap.specs.Placed.{resized_there}
use Rattle.zone_heap.proofs.Loans.{keeps-both}
use Rattle.zone_heap.proofs.Resizes.{Leaves, served-there, served-gap, refused-stays, attempt-away}
use Rattle.zone_heap.proofs.size.resize_block.Goals as goal
use Rattle.zone_heap.proofs.size.resize_block.Goals.{then-fits_there-via-then-fits_there, then-fits_there-via-else-fits_there+then-make_way}

pub returns-then-fits_there-clause-attempt : goal.returns-then-fits_there-clause-attempt
returns-then-fits_there-clause-attempt c =
    let z = c.args.zone.now in
    let new = c.resize_there.new.zone in
    elim c.then-fits_there.branch [
      | then-fits_there-via-then-fits_there w ↦ served-there z new c.args.block c.args.length
          (ap (λ (v : ZoneState). resized_there v.shape c.args.block c.args.length v.heap) (sym w.zone-is) ∙ c.resize_there.ensures.heap) (c.resize_there.ensures.shape ∙ ap (λ (v : ZoneState). v.shape) w.zone-is)
      | then-fits_there-via-else-fits_there+then-make_way w ↦ served-gap z c.then-fits_there.zone new c.args.block c.args.length (sym (rw c.linked.ensures at c.fits_there.ensures) ∙ w.if-fits_there.false) (sym w.make_way.ensures.fits ∙ w.if-make_way.true)
          (w.zone-is ∙ w.if-make_way.ensures.zone) c.resize_there.ensures.heap c.resize_there.ensures.shape
    ]

pub returns-then-fits_there-clause-loans : goal.returns-then-fits_there-clause-loans
returns-then-fits_there-clause-loans c =
    let z = c.args.zone.now in
    let new = c.resize_there.new.zone in
    elim c.then-fits_there.branch [
      | then-fits_there-via-then-fits_there w ↦ subst (λ v. KeepsLoans v new) w.zone-is c.resize_there.ensures.loans
      | then-fits_there-via-else-fits_there+then-make_way w ↦ keeps-both z c.then-fits_there.zone new (subst (KeepsLoans z) (sym w.zone-is) w.make_way.ensures.loans) c.resize_there.ensures.loans
    ]

pub returns-then-stays-clause-attempt : goal.returns-then-stays-clause-attempt
returns-then-stays-clause-attempt c =
    let same = c.if-make_way.ensures.zone in
    refused-stays c.args.zone.now c.make_way.new.zone c.args.block c.args.length c.requires.sound c.requires.ready (sym (rw c.linked.ensures at c.fits_there.ensures) ∙ c.if-fits_there.false) (sym c.make_way.ensures.fits ∙ c.if-make_way.false)
    (ap (λ (v : ZoneState). stays v.heap.table c.args.block) (sym same) ∙ sym (rw c.linked-2.ensures at c.stays.ensures) ∙ c.if-stays.true) same

pub returns-clause-attempt : goal.returns-clause-attempt
returns-clause-attempt c =
    let z = c.args.zone.now in
    let new = c.resize_elsewhere.new.zone in
    let left = subst (λ v. Leaves v c.args.block c.args.length c.resize_elsewhere.result new) c.if-make_way.ensures.zone
    (subst (λ x. Leaves c.make_way.new.zone x c.args.length c.resize_elsewhere.result new) c.new.ensures c.resize_elsewhere.ensures.resized) in
    attempt-away z new c.args.block c.args.length c.resize_elsewhere.result c.requires.sound c.requires.ready (sym (rw c.linked.ensures at c.fits_there.ensures) ∙ c.if-fits_there.false) (sym c.make_way.ensures.fits ∙ c.if-make_way.false) left

pub returns-clause-loans : goal.returns-clause-loans
returns-clause-loans c = keeps-both c.args.zone.now c.make_way.new.zone c.resize_elsewhere.new.zone c.make_way.ensures.loans c.resize_elsewhere.ensures.loans
