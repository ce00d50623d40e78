use Rattle.std.proofs.Common.{◌≡◌, ◌∙◌, ◌∷◌, [], ℕ, List, sym, subst, arith}
use Rattle.std.proofs.lemmas.Bool.{le-leb, lt-leb}
use Rattle.mac_base.specs.Request.{candidates_in}
use Rattle.mac_base.specs.declared.request.Request.TheVariants.{NewEmpty}
use Rattle.mac_base.specs.ZoneMap.{largest_free}
use Rattle.linked_zone.specs.Loans.{KeepsLoans}
use Rattle.zone_heap.proofs.Emptying.{emptied_zone}
use Rattle.zone_heap.proofs.Purging.{candidate-here, fewer-step, first-candidate, head-none, head-some, purged_to-enough, purged_to-none, purged_to-step, purged_to_zone, still-step}
use Rattle.zone_heap.proofs.zone.Zone.purge_to.Goals as goal
use Rattle.zone_heap.proofs.zone.Zone.purge_to.Goals.{In-Some, After-empty}

-- the first of the handles that may be purged
first : (c : In-Some) → (hs : List ℕ) × (let z = c.loop-self.self-inside.pointers in candidates_in z.heap.table [] z.heap.map ≡ c.in-Some.handle ∷ hs)
first c = let z = c.loop-self.self-inside.pointers in head-some (candidates_in z.heap.table [] z.heap.map) c.in-Some.handle (rw c.largest_free.ensures.zone at c.in-Some.ensures)

-- it is empty then
after : (c : After-empty) → c.empty.new.pointers ≡ emptied_zone c.in-Some.handle c.loop-self.self-inside.pointers
after c = rw c.largest_free.ensures.zone at c.empty.ensures.zone

pub returns-in_default-clause-zone : goal.returns-in_default-clause-zone
returns-in_default-clause-zone c =
    let z = c.loop-self.self-inside.pointers in
    c.largest_free.ensures.zone ∙ purged_to-none c.args.needed z (head-none (candidates_in z.heap.table [] z.heap.map) (rw c.largest_free.ensures.zone at c.in_default.ensures)) ∙ c.loop-self.invariant.same

pub returns-in_default-clause-enough : goal.returns-in_default-clause-enough
returns-in_default-clause-enough c =
    rw c.largest_free.ensures.zone (sym (lt-leb c.args.needed (largest_free c.loop-self.self-inside.pointers.heap.map) (omega (arith, c.largest_free.ensures.largest, c.loop-self-test.true))))

pub returns-in_default-clause-loans : goal.returns-in_default-clause-loans
returns-in_default-clause-loans c = subst (KeepsLoans c.args.self.now) (sym c.largest_free.ensures.zone) c.loop-self.invariant.loans

pub empty-requires-clause-live : goal.empty-requires-clause-live
empty-requires-clause-live c =
    let z = c.loop-self.self-inside.pointers in
    let f = first (goal.at.empty-requires-clause-live c).In-Some in
    rw c.largest_free.ensures.zone (first-candidate z.shape [] NewEmpty z.heap c.in-Some.handle f.0 c.loop-self.invariant.sound.sound f.1).may.handle

pub empty-requires-clause-here : goal.empty-requires-clause-here
empty-requires-clause-here c =
    let z = c.loop-self.self-inside.pointers in
    let f = first (goal.at.empty-requires-clause-here c).In-Some in
    let s = c.loop-self.invariant.sound in
    rw c.largest_free.ensures.zone (candidate-here z.heap [] c.in-Some.handle s.fixed (first-candidate z.shape [] NewEmpty z.heap c.in-Some.handle f.0 s.sound f.1))

pub loop-self-smaller : goal.loop-self-smaller
loop-self-smaller c =
    let w = goal.at.loop-self-smaller c in
    let f = first w.In-Some in
    fewer-step [] NewEmpty c.args.self.now c.loop-self.self-inside.pointers c.empty.new.pointers c.in-Some.handle f.0 f.1 (after w.After-empty) c.loop-self.invariant.sound

pub loop-self-preserved : goal.loop-self-preserved
loop-self-preserved c =
    let w = goal.at.loop-self-preserved c in
    let z = c.loop-self.self-inside.pointers in
    let h = c.in-Some.handle in
    let f = first w.In-Some in
    let still = c.loop-self.invariant in
    still-step (purged_to_zone c.args.needed) c.args.self.now z c.empty.new.pointers h still (after w.After-empty) (subst (λ v. KeepsLoans v c.empty.new.pointers) c.largest_free.ensures.zone c.empty.ensures.loans) c.empty.ensures.sound
    (purged_to-step z h f.0 f.1 still.sound c.args.needed (lt-leb c.args.needed (largest_free z.heap.map) (omega (arith, c.largest_free.ensures.largest, c.loop-self-test.true))))

pub returns-clause-zone : goal.returns-clause-zone
returns-clause-zone c =
    let z = c.loop-self.self-inside.pointers in
    c.largest_free.ensures.zone ∙ purged_to-enough c.args.needed z (le-leb c.args.needed (largest_free z.heap.map) (omega (arith, c.largest_free.ensures.largest, c.loop-self-test.false))) ∙ c.loop-self.invariant.same

pub returns-clause-enough : goal.returns-clause-enough
returns-clause-enough c =
    rw c.largest_free.ensures.zone (sym (le-leb c.args.needed (largest_free c.loop-self.self-inside.pointers.heap.map) (omega (arith, c.largest_free.ensures.largest, c.loop-self-test.false))))

pub returns-clause-loans : goal.returns-clause-loans
returns-clause-loans c = subst (KeepsLoans c.args.self.now) (sym c.largest_free.ensures.zone) c.loop-self.invariant.loans
