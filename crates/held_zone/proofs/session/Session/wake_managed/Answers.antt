use Rattle.std.proofs.Common.{◌≡◌, ◌∙◌, ℕ, List, [], sym, ap, subst, IsTrue}
use Rattle.mac_base.specs.ZoneState.{ZoneState, with_heap, woken_in}
use Rattle.linked_zone.specs.Structure.{HasStructure, SameFlags, shown}
use Rattle.mem_calls.proofs.FlagsTaken.{part-all}
use Rattle.held_calls.specs.Holding.{Holds, loans_of}
use Rattle.held_calls.specs.declared.loans.Held.{Held}
use Rattle.held_zone.specs.Asleep.{CanBeLent, all_lendable, awake_as, new_loans, with_these_lent}
use Rattle.held_zone.specs.State.{State}
use Rattle.held_zone.proofs.Made.{state}
use Rattle.held_zone.proofs.Sleeping.{nothing_held}
use Rattle.held_zone.proofs.Written.{Holds-none}
use Rattle.held_zone.proofs.session.Session.wake_managed.Goals as goal

pub wake_in-requires-clause-same : goal.wake_in-requires-clause-same
wake_in-requires-clause-same c = λ yes.
    let bytes : c.bytes-bytes.result.now ≡ c.args.region.bytes = c.bytes-bytes.ensures.value ∙ part-all c.args.region.bytes c.len.result c.len.ensures in
    subst (λ (s : State). HasStructure s.zone c.args.region.bytes × SameFlags s.zone c.args.region.bytes) (sym c.self.view_is)
    (subst (λ (bs : List ℕ). HasStructure c.args.self.now.zone bs × SameFlags c.args.self.now.zone bs) bytes (c.in-Ok.ensures.same yes))

pub returns-in-Err-wake_in-clause-asleep : goal.returns-in-Err-wake_in-clause-asleep
returns-in-Err-wake_in-clause-asleep c =
    let damaged = c.in-Err-wake_in.ensures.damaged in (
      subst (λ (s : State). HasStructure s.zone c.args.region.bytes → ⊥) c.self.view_is damaged.0,
      damaged.1,
      ap (λ (z : ZoneState). state z (loans_of c.self.inside.loans) c.self.inside.answers.left c.self.inside.answers.asks c.self.inside.waiting.items c.self.inside.guest c.self.inside.purges) damaged.2 ∙ c.self.view_is,
    )

pub lend_all-requires-clause-holds : goal.lend_all-requires-clause-holds
lend_all-requires-clause-holds c =
    let none : c.self.inside.memory.heap.table.lent ≡ [] = ap (λ (s : State). s.zone.heap.table.lent) c.self.view_is ∙ c.requires.asleep.nothing_lent in
    let held = nothing_held c.self.inside.memory c.self.inside.loans none c.self.invariant.0 in
    let now : c.wake_in.new.memory.heap.table.lent ≡ [] = ap (λ (z : ZoneState). z.heap.table.lent) c.in_default.ensures.awake.1 ∙ none in
    subst (λ (hs : List Held). Holds c.wake_in.new.memory hs) (sym held) (Holds-none c.wake_in.new.memory now)

pub lend_all-requires-clause-none : goal.lend_all-requires-clause-none
lend_all-requires-clause-none c =
    let none : c.self.inside.memory.heap.table.lent ≡ [] = ap (λ (s : State). s.zone.heap.table.lent) c.self.view_is ∙ c.requires.asleep.nothing_lent in
    nothing_held c.self.inside.memory c.self.inside.loans none c.self.invariant.0

pub lend_all-requires-clause-can : goal.lend_all-requires-clause-can
lend_all-requires-clause-can c =
    let region = c.args.region in
    let bytes : c.bytes-bytes.result.now ≡ region.bytes = c.bytes-bytes.ensures.value ∙ part-all region.bytes c.len.result c.len.ensures in
    let lendable : HasStructure c.self.inside.memory region.bytes → CanBeLent (shown c.self.inside.memory region.bytes) c.self.inside.waiting.items =
    subst (λ (s : State). HasStructure s.zone region.bytes → CanBeLent (shown s.zone region.bytes) s.waiting) (sym c.self.view_is)
    (subst (λ (bs : List ℕ). HasStructure c.args.self.now.zone bs → CanBeLent (shown c.args.self.now.zone bs) c.args.self.now.waiting) bytes c.in-Ok.ensures.lendable) in
    let can = lendable c.in_default.ensures.awake.0 in
    let woken : ZoneState = record (shown c.self.inside.memory region.bytes) { memory = woken_in c.self.inside.memory.memory region.name } in
    let here : CanBeLent woken c.self.inside.waiting.items = record { each = can.each; blocks = can.blocks; once = can.once; few = can.few } in
    subst (λ (xs : List ℕ). CanBeLent c.wake_in.new.memory xs) (sym c.as_slice.ensures.value)
    (subst (λ (z : ZoneState). CanBeLent z c.self.inside.waiting.items) (sym c.in_default.ensures.awake.1) here)

pub returns-clause-awake : goal.returns-clause-awake
returns-clause-awake c =
    let region = c.args.region in let inside = c.self.inside in let left = inside.answers.left in let asks = inside.answers.asks in
    let bytes : c.bytes-bytes.result.now ≡ region.bytes = c.bytes-bytes.ensures.value ∙ part-all region.bytes c.len.result c.len.ensures in
    let lendable : HasStructure inside.memory region.bytes → CanBeLent (shown inside.memory region.bytes) inside.waiting.items =
    subst (λ (s : State). HasStructure s.zone region.bytes → CanBeLent (shown s.zone region.bytes) s.waiting) (sym c.self.view_is)
    (subst (λ (bs : List ℕ). HasStructure c.args.self.now.zone bs → CanBeLent (shown c.args.self.now.zone bs) c.args.self.now.waiting) bytes c.in-Ok.ensures.lendable) in
    let woken = c.in_default.ensures.awake in
    let zone : c.lend_all.new.memory ≡ with_heap (with_these_lent inside.waiting.items (shown inside.memory region.bytes).heap) (record (shown inside.memory region.bytes) { memory = woken_in inside.memory.memory region.name }) =
    c.lend_all.ensures.zone ∙ (λ i. with_heap (with_these_lent (c.as_slice.ensures.value i) (woken.1 i).heap) (woken.1 i)) in
    let loans : loans_of c.lend_all.new.loans ≡ new_loans (shown inside.memory region.bytes).heap.table inside.waiting.items =
    c.lend_all.ensures.loans ∙ (λ i. new_loans (woken.1 i).heap.table (c.as_slice.ensures.value i)) in
    let new : State = state c.lend_all.new.memory (loans_of c.lend_all.new.loans) left asks c.clear.new.self.items inside.guest inside.purges in
    subst (λ (s : State). HasStructure s.zone region.bytes × IsTrue (all_lendable s region.bytes) × (new ≡ awake_as region s)) c.self.view_is
    (woken.0, (lendable woken.0).each, λ i. state (zone i) (loans i) left asks (c.clear.ensures i) inside.guest inside.purges)
