use Rattle.std.proofs.Common.{◌≡◌, ◌≤◌, ◌<◌, ◌+◌, ◌∙◌, sym, ap, subst, arith}
use Rattle.mac_base.specs.declared.block.Entry.{Entry}
use Rattle.mac_base.specs.Serve.{cut}
use Rattle.mac_base.specs.ZoneState.{ZoneState}
use Rattle.mac_base.specs.ZoneSizes.{ZoneSizes}
use Rattle.linked_zone.specs.Places.{CanHold}
use Rattle.zone_heap.specs.Joins.{NewlyFree, all_joined}
use Rattle.zone_heap.proofs.Sizing.{Standing, entry_named, size-there, resized_zone, end-there}
use Rattle.zone_heap.proofs.Shrinking.{cut_blocks, can-hold, held-done, rest-free, all-joined, all-kept, cut-there}
use Rattle.zone_heap.proofs.Taking.{front_size}
use Rattle.zone_heap.proofs.zone.shrink.Goals as goal
use Rattle.zone_heap.proofs.zone.shrink.Goals.{After-entry_at-whole, After-front-taken, After-hold, After-join, Else-taken-whole}

-- the block
abbrev standing : (c : After-entry_at-whole) → Standing c.args.pointers.now c.args.block c.args.length c.args.needed c.address_of-at.result
standing c = record { sound = c.requires.sound; block = c.requires.block; named = (rw c.linked-linked.ensures at c.address_of-at.ensures); size = c.requires.needed }

-- is as large as needed
fits : (c : After-entry_at-whole) → c.args.needed ≤ (rw c.linked-linked.ensures at c.address_of-at.ensures).here.size
fits c = subst (λ m. c.args.needed ≤ m) (sym (size-there c.args.pointers.now c.args.block c.args.length c.args.needed c.address_of-at.result (standing c))) c.requires.fits

-- and the one that was read
read : (c : After-entry_at-whole) → c.entry_at-whole.result ≡ (rw c.linked-linked.ensures at c.address_of-at.ensures).here
read c = (rw c.linked-linked.ensures at c.entry_at-whole.ensures) (entry_named (rw c.linked-linked.ensures at c.address_of-at.ensures))

pub front-taken-requires : goal.front-taken-requires
front-taken-requires c = subst (λ (e : Entry). c.args.needed ≤ e.size) (sym (read c)) (fits c)

-- so many bytes of it stay
taken : (c : After-front-taken) → c.front-taken.result ≡ front_size c.args.pointers.now.shape c.args.needed (rw c.linked-linked.ensures at c.address_of-at.ensures).here.size
taken c = (rw c.linked-linked.ensures at c.front-taken.ensures) ∙ ap (λ (e : Entry). front_size c.args.pointers.now.shape c.args.needed e.size) ((rw c.linked-linked.ensures at c.entry_at-whole.ensures) (entry_named (rw c.linked-linked.ensures at c.address_of-at.ensures)))

pub hold-requires-clause-room : goal.hold-requires-clause-room
hold-requires-clause-room c =
    let w = (goal.at.hold-requires-clause-room c).After-entry_at-whole in
    subst (λ size. CanHold c.args.pointers.now c.args.block size c.args.length) (sym (taken (goal.at.hold-requires-clause-room c).After-front-taken))
    (can-hold c.args.pointers.now c.args.block c.args.length c.args.needed c.address_of-at.result (standing w) (fits w))

pub overflow_add-at : goal.overflow_add-at
overflow_add-at c =
    let w = (goal.at.overflow_add-at c).After-entry_at-whole in
    let less = subst (λ (e : Entry). c.front-taken.result < e.size) (read w) c.if-taken-whole.true in
    let base = c.base.ensures.value ∙ ap (λ (s : ZoneSizes). s.base) (rw c.linked-linked.ensures at c.spec-spec.ensures.sizes) in
    let limit = c.limit.ensures.value ∙ ap (λ (s : ZoneSizes). s.limit) (rw c.linked-linked.ensures at c.spec-spec.ensures.sizes) in
    omega (arith, end-there c.args.pointers.now c.args.block c.args.length c.args.needed c.address_of-at.result (standing w), c.if-prove.false)

-- the zone in which the front is held
abbrev front_zone : (c : After-entry_at-whole) → ZoneState
front_zone c = let z = c.args.pointers.now in let x = c.args.block in let n = c.args.length in let k = c.args.needed in let at = c.address_of-at.result in
    resized_zone z x n k at (standing c) (cut_blocks z x n k at (standing c) (fits c))

-- and the one in which what is over is joined too
abbrev cut_zone : (c : After-entry_at-whole) → ZoneState
cut_zone c = let z = c.args.pointers.now in
    resized_zone z c.args.block c.args.length c.args.needed c.address_of-at.result (standing c) (cut z.shape c.args.needed (rw c.linked-linked.ensures at c.address_of-at.ensures).here (rw c.linked-linked.ensures at c.address_of-at.ensures).after)

-- hold makes it the first
held : (c : After-hold) → c.hold.new.self ≡ front_zone (goal.at.After-hold c).After-entry_at-whole
held c =
    let w = (goal.at.After-hold c).After-entry_at-whole in
    held-done c.args.pointers.now c.args.block c.args.length c.args.needed c.address_of-at.result (standing w) (fits w) c.front-taken.result c.hold.new.self (taken (goal.at.After-hold c).After-front-taken) c.hold.ensures

pub join-requires : goal.join-requires
join-requires c =
    let w = (goal.at.join-requires c).After-entry_at-whole in
    let size = taken (goal.at.join-requires c).After-front-taken in
    let less = subst (λ (e : Entry). c.front-taken.result < e.size) (read w) c.if-taken-whole.true in
    subst (λ z. NewlyFree z (c.address_of-at.result + c.front-taken.result)) (sym (held (goal.at.join-requires c).After-hold))
    (subst (λ size. NewlyFree (front_zone w) (c.address_of-at.result + size)) (sym size)
    (rest-free c.args.pointers.now c.args.block c.args.length c.args.needed c.address_of-at.result (standing w) (fits w) (subst (λ size. size < (rw c.linked-linked.ensures at c.address_of-at.ensures).here.size) size less)))

-- the zone once what is over is joined
joined : (c : After-join) → c.join.new.pointers ≡ cut_zone (goal.at.After-join c).After-entry_at-whole
joined c =
    let w = (goal.at.After-join c).After-entry_at-whole in
    c.join.ensures ∙ ap all_joined (held (goal.at.After-join c).After-hold) ∙ all-joined c.args.pointers.now c.args.block c.args.length c.args.needed c.address_of-at.result (standing w) (fits w)

pub returns-then-taken-whole-clause-heap : goal.returns-then-taken-whole-clause-heap
returns-then-taken-whole-clause-heap c =
    let w = (goal.at.returns-then-taken-whole-clause-heap c).After-entry_at-whole in
    cut-there c.args.pointers.now c.args.block c.args.length c.args.needed c.address_of-at.result (standing w) (fits w) c.join.new.pointers (joined c)

pub returns-then-taken-whole-clause-shape : goal.returns-then-taken-whole-clause-shape
returns-then-taken-whole-clause-shape c = ap (λ (z : ZoneState). z.shape) (joined c)

pub returns-then-taken-whole-clause-memory : goal.returns-then-taken-whole-clause-memory
returns-then-taken-whole-clause-memory c = ap (λ (z : ZoneState). z.memory) (joined c)

-- and the zone where nothing is over
whole : (c : Else-taken-whole) → c.hold.new.self ≡ cut_zone (goal.at.Else-taken-whole c).After-entry_at-whole
whole c =
    let w = (goal.at.Else-taken-whole c).After-entry_at-whole in
    let most = subst (λ (e : Entry). e.size ≤ c.front-taken.result) (read w) c.if-taken-whole.false in
    held (goal.at.Else-taken-whole c).After-hold
    ∙ all-kept c.args.pointers.now c.args.block c.args.length c.args.needed c.address_of-at.result (standing w) (fits w) (subst (λ size. (rw c.linked-linked.ensures at c.address_of-at.ensures).here.size ≤ size) (taken (goal.at.Else-taken-whole c).After-front-taken) most)

pub returns-else-taken-whole-clause-heap : goal.returns-else-taken-whole-clause-heap
returns-else-taken-whole-clause-heap c =
    let w = (goal.at.returns-else-taken-whole-clause-heap c).After-entry_at-whole in
    cut-there c.args.pointers.now c.args.block c.args.length c.args.needed c.address_of-at.result (standing w) (fits w) c.hold.new.self (whole c)

pub returns-else-taken-whole-clause-shape : goal.returns-else-taken-whole-clause-shape
returns-else-taken-whole-clause-shape c = ap (λ (z : ZoneState). z.shape) (whole c)

pub returns-else-taken-whole-clause-memory : goal.returns-else-taken-whole-clause-memory
returns-else-taken-whole-clause-memory c = ap (λ (z : ZoneState). z.memory) (whole c)
