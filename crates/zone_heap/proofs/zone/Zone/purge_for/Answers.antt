use Rattle.std.proofs.Common.{◌≡◌, ◌∙◌, ◌∷◌, ℕ, List, sym, subst}
use Rattle.mac_base.specs.Request.{candidates}
use Rattle.linked_zone.specs.Loans.{KeepsLoans}
use Rattle.zone_heap.proofs.Emptying.{emptied_zone}
use Rattle.zone_heap.proofs.Purging.{ask-step, candidate-here, fewer-step, first-candidate, head-none, head-some, purged-fits, purged-none, purged_zone, purged_zone-step, still-step}
use Rattle.zone_heap.proofs.zone.Zone.purge_for.Goals as goal
use Rattle.zone_heap.proofs.zone.Zone.purge_for.Goals.{In-Some, After-empty}

-- the first of the handles that may be purged
first : (c : In-Some) → (hs : List ℕ) × (let z = c.loop-request.self-inside.pointers in candidates z.heap.table c.args.protected.now c.args.request z.heap.map ≡ c.in-Some.handle ∷ hs)
first c = let z = c.loop-request.self-inside.pointers in head-some (candidates z.heap.table c.args.protected.now c.args.request z.heap.map) c.in-Some.handle (rw c.fits.ensures.zone at c.in-Some.ensures)

-- it is empty then
after : (c : After-empty) → c.empty.new.pointers ≡ emptied_zone c.in-Some.handle c.loop-request.self-inside.pointers
after c = rw c.fits.ensures.zone at c.empty.ensures.zone

pub returns-in_default-clause-zone : goal.returns-in_default-clause-zone
returns-in_default-clause-zone c =
    let z = c.loop-request.self-inside.pointers in
    c.fits.ensures.zone ∙ purged-none c.args.protected.now c.args.request z (head-none (candidates z.heap.table c.args.protected.now c.args.request z.heap.map) (rw c.fits.ensures.zone at c.in_default.ensures)) ∙ c.loop-request.invariant.0.same

pub returns-in_default-clause-loans : goal.returns-in_default-clause-loans
returns-in_default-clause-loans c = subst (KeepsLoans c.args.self.now) (sym c.fits.ensures.zone) c.loop-request.invariant.0.loans

pub empty-requires-clause-live : goal.empty-requires-clause-live
empty-requires-clause-live c =
    let z = c.loop-request.self-inside.pointers in
    let f = first (goal.at.empty-requires-clause-live c).In-Some in
    rw c.fits.ensures.zone (first-candidate z.shape c.args.protected.now c.args.request z.heap c.in-Some.handle f.0 c.loop-request.invariant.0.sound.sound f.1).may.handle

pub empty-requires-clause-here : goal.empty-requires-clause-here
empty-requires-clause-here c =
    let z = c.loop-request.self-inside.pointers in
    let f = first (goal.at.empty-requires-clause-here c).In-Some in
    let s = c.loop-request.invariant.0.sound in
    rw c.fits.ensures.zone (candidate-here z.heap c.args.protected.now c.in-Some.handle s.fixed (first-candidate z.shape c.args.protected.now c.args.request z.heap c.in-Some.handle f.0 s.sound f.1))

pub loop-request-smaller : goal.loop-request-smaller
loop-request-smaller c =
    let w = goal.at.loop-request-smaller c in
    let f = first w.In-Some in
    fewer-step c.args.protected.now c.args.request c.args.self.now c.loop-request.self-inside.pointers c.empty.new.pointers c.in-Some.handle f.0 f.1 (after w.After-empty) c.loop-request.invariant.0.sound

pub loop-request-preserved : goal.loop-request-preserved
loop-request-preserved c =
    let w = goal.at.loop-request-preserved c in
    let p = c.args.protected.now in
    let r = c.args.request in
    let start = c.args.self.now in
    let z = c.loop-request.self-inside.pointers in
    let h = c.in-Some.handle in
    let f = first w.In-Some in
    let still = c.loop-request.invariant.0 in
    let is = after w.After-empty in (
      still-step (purged_zone p r) start z c.empty.new.pointers h still is (subst (λ v. KeepsLoans v c.empty.new.pointers) c.fits.ensures.zone c.empty.ensures.loans) c.empty.ensures.sound
          (purged_zone-step p r start z c.empty.new.pointers h f.0 f.1 is still.sound (sym c.fits.ensures.fits ∙ c.loop-request-test.true)),
      ask-step p r start z c.empty.new.pointers h f.0 f.1 is still.sound c.requires.protects c.loop-request.invariant.1,
    )

pub returns-clause-zone : goal.returns-clause-zone
returns-clause-zone c =
    c.fits.ensures.zone ∙ purged-fits c.args.protected.now c.args.request c.loop-request.self-inside.pointers (sym c.fits.ensures.fits ∙ c.loop-request-test.false) ∙ c.loop-request.invariant.0.same

pub returns-clause-loans : goal.returns-clause-loans
returns-clause-loans c = subst (KeepsLoans c.args.self.now) (sym c.fits.ensures.zone) c.loop-request.invariant.0.loans
