use Rattle.std.proofs.Common.{◌≡◌, ◌∙◌, ◌∷◌, [], ℕ, List}
use Rattle.mac_base.specs.Request.{candidates_in}
use Rattle.mac_base.specs.declared.request.Request.TheVariants.{NewEmpty}
use Rattle.zone_heap.proofs.Purging.{all_purged-none, all_purged-step, all_purged_zone, candidate-here, fewer-step, first-candidate, head-none, head-some, still-step}
use Rattle.zone_heap.proofs.zone.Zone.purge_all.Goals as goal
use Rattle.zone_heap.proofs.zone.Zone.purge_all.Goals.{In-Some}

-- the first of the handles that may be purged
first : (c : In-Some) → (hs : List ℕ) × (let z = c.loop-handle.self-inside.pointers in candidates_in z.heap.table [] z.heap.map ≡ c.in-Some.handle ∷ hs)
first c = let z = c.loop-handle.self-inside.pointers in head-some (candidates_in z.heap.table [] z.heap.map) c.in-Some.handle c.in-Some.ensures

pub empty-requires-clause-live : goal.empty-requires-clause-live
empty-requires-clause-live c =
    let z = c.loop-handle.self-inside.pointers in
    let f = first (goal.at.empty-requires-clause-live c).In-Some in
    (first-candidate z.shape [] NewEmpty z.heap c.in-Some.handle f.0 c.loop-handle.invariant.sound.sound f.1).may.handle

pub empty-requires-clause-here : goal.empty-requires-clause-here
empty-requires-clause-here c =
    let z = c.loop-handle.self-inside.pointers in
    let f = first (goal.at.empty-requires-clause-here c).In-Some in
    let s = c.loop-handle.invariant.sound in
    candidate-here z.heap [] c.in-Some.handle s.fixed (first-candidate z.shape [] NewEmpty z.heap c.in-Some.handle f.0 s.sound f.1)

pub loop-handle-smaller : goal.loop-handle-smaller
loop-handle-smaller c =
    let f = first (goal.at.loop-handle-smaller c).In-Some in
    fewer-step [] NewEmpty c.args.self.now c.loop-handle.self-inside.pointers c.empty.new.pointers c.in-Some.handle f.0 f.1 c.empty.ensures.zone c.loop-handle.invariant.sound

pub loop-handle-preserved : goal.loop-handle-preserved
loop-handle-preserved c =
    let z = c.loop-handle.self-inside.pointers in
    let h = c.in-Some.handle in
    let f = first (goal.at.loop-handle-preserved c).In-Some in
    let still = c.loop-handle.invariant in
    still-step all_purged_zone c.args.self.now z c.empty.new.pointers h still c.empty.ensures.zone c.empty.ensures.loans c.empty.ensures.sound (all_purged-step z h f.0 f.1 still.sound)

pub returns-clause-zone : goal.returns-clause-zone
returns-clause-zone c =
    let z = c.loop-handle.self-inside.pointers in
    all_purged-none z (head-none (candidates_in z.heap.table [] z.heap.map) c.in_default.ensures) ∙ c.loop-handle.invariant.same
