use Rattle.std.proofs.Common.{◌≡◌, ◌+◌, ◌≤◌, ◌<◌, ◌∙◌, Some, sym, ap, subst, arith}
use Rattle.std.proofs.lemmas.Bool.{leb-true}
use Rattle.mac_base.specs.declared.block.Entry.{Entry}
use Rattle.mac_base.specs.HeadKind.{need}
use Rattle.mac_base.specs.Serve.{free_in_front}
use Rattle.mac_base.specs.ZoneSizes.{ZoneSizes}
use Rattle.mac_base.specs.ZoneState.{ZoneState}
use Rattle.linked_zone.specs.Places.{CanGrow}
use Rattle.zone_heap.specs.Placed.{resized_there}
use Rattle.zone_heap.proofs.Growing.{whole, grown_blocks, can-grow, grown-done, grown-there, free-within}
use Rattle.zone_heap.proofs.Resizing.{fits-there, there-sound, there-loans}
use Rattle.zone_heap.proofs.Sizing.{Standing, entry_named, size-there, resized_zone, end-there}
use Rattle.zone_heap.proofs.Taking.{front_size}
use Rattle.zone_heap.proofs.size.resize_there.Goals as goal
use Rattle.zone_heap.proofs.size.resize_there.Goals.{After-entry_at-size, After-free_after, After-front-taken, After-grow}

-- the block
abbrev standing : (c : After-entry_at-size) → Standing c.args.zone.now c.args.block c.args.length c.need_for-needed.result c.address_of-at.result
standing c = record {
  sound = c.requires.sound.sound;
  block = c.requires.block;
  named = (rw c.linked-linked.ensures at c.address_of-at.ensures);
  size = c.need_for-needed.ensures ∙ ap (λ heads. need heads c.args.length) (c.heads.ensures ∙ ap (λ (s : ZoneSizes). s.heads) (rw c.linked-linked.ensures at c.spec.ensures.sizes));
}

-- is the one that was read
read : (c : After-entry_at-size) → c.entry_at-size.result ≡ (rw c.linked-linked.ensures at c.address_of-at.ensures).here
read c = (rw c.linked-linked.ensures at c.entry_at-size.ensures) (entry_named (rw c.linked-linked.ensures at c.address_of-at.ensures))

pub shrink-requires-clause-fits : goal.shrink-requires-clause-fits
shrink-requires-clause-fits c =
    let w = (goal.at.shrink-requires-clause-fits c).After-entry_at-size in
    subst (λ m. c.need_for-needed.result ≤ m) (size-there c.args.zone.now c.args.block c.args.length c.need_for-needed.result c.address_of-at.result (standing w)) (subst (λ (e : Entry). c.need_for-needed.result ≤ e.size) (read w) c.if-needed-size.true)

pub returns-then-needed-size-clause-loans : goal.returns-then-needed-size-clause-loans
returns-then-needed-size-clause-loans c = there-loans c.args.zone.now c.shrink.new.pointers c.args.block c.args.length c.requires.sound c.requires.here c.shrink.ensures.heap c.shrink.ensures.shape c.shrink.ensures.memory

pub returns-then-needed-size-clause-sound : goal.returns-then-needed-size-clause-sound
returns-then-needed-size-clause-sound c = there-sound c.args.zone.now c.shrink.new.pointers c.args.block c.args.length c.requires.sound c.requires.block c.requires.here c.shrink.ensures.heap c.shrink.ensures.shape

-- it is smaller than needed
more : (c : After-free_after) → (rw c.linked-linked.ensures at c.address_of-at.ensures).here.size < c.need_for-needed.result
more c = subst (λ (e : Entry). e.size < c.need_for-needed.result) (read (goal.at.After-free_after c).After-entry_at-size) c.if-needed-size.false

-- with these free bytes after it
free : (c : After-free_after) → c.free_after.result ≡ free_in_front (rw c.linked-linked.ensures at c.address_of-at.ensures).after
free c = (rw c.linked-linked.ensures at c.free_after.ensures) (entry_named (rw c.linked-linked.ensures at c.address_of-at.ensures))

-- which are so many in all
both : (c : After-free_after) → c.entry_at-size.result.size + c.free_after.result ≡ whole c.args.zone.now c.args.block c.args.length c.need_for-needed.result c.address_of-at.result (standing (goal.at.After-free_after c).After-entry_at-size) (more c)
both c = ap (λ (e : Entry). e.size + c.free_after.result) (read (goal.at.After-free_after c).After-entry_at-size) ∙ ap (λ m. (rw c.linked-linked.ensures at c.address_of-at.ensures).here.size + m) (free c)

pub overflow_add-whole : goal.overflow_add-whole
overflow_add-whole c =
    let w = (goal.at.overflow_add-whole c).After-entry_at-size in
    let b = (goal.at.overflow_add-whole c).After-free_after in
    let limit = c.limit.ensures.value ∙ ap (λ (s : ZoneSizes). s.limit) (rw c.linked-linked.ensures at c.spec-spec.ensures.sizes) in
    omega (arith, both b, free-within (rw c.linked-linked.ensures at c.address_of-at.ensures).after, end-there c.args.zone.now c.args.block c.args.length c.need_for-needed.result c.address_of-at.result (standing w), (rw c.linked-linked.ensures at c.address_of-at.ensures).place, c.if-prove.false)

-- they are enough
enough : (c : After-free_after) → let w = (goal.at.After-free_after c).After-entry_at-size in
    c.need_for-needed.result ≤ whole c.args.zone.now c.args.block c.args.length c.need_for-needed.result c.address_of-at.result (standing w) (more c)
enough c =
    let w = (goal.at.After-free_after c).After-entry_at-size in
    leb-true _ _ (sym (fits-there c.args.zone.now c.args.block c.args.length c.need_for-needed.result c.address_of-at.result (standing w)) ∙ c.requires.fits)

pub front-taken-requires : goal.front-taken-requires
front-taken-requires c =
    let b = (goal.at.front-taken-requires c).After-free_after in
    subst (λ m. c.need_for-needed.result ≤ m) (sym (both b)) (enough b)

-- and so many are taken
taken : (c : After-front-taken) → c.front-taken.result ≡ front_size c.args.zone.now.shape c.need_for-needed.result ((rw c.linked-linked.ensures at c.address_of-at.ensures).here.size + free_in_front (rw c.linked-linked.ensures at c.address_of-at.ensures).after)
taken c = (rw c.linked-linked.ensures at c.front-taken.ensures) ∙ ap (front_size c.args.zone.now.shape c.need_for-needed.result) (both (goal.at.After-front-taken c).After-free_after)

pub grow-requires-clause-room : goal.grow-requires-clause-room
grow-requires-clause-room c =
    let w = (goal.at.grow-requires-clause-room c).After-entry_at-size in
    let b = (goal.at.grow-requires-clause-room c).After-free_after in
    let f = (goal.at.grow-requires-clause-room c).After-front-taken in
    subst (λ size. CanGrow c.args.zone.now c.args.block size c.args.length) (sym (taken f))
    (can-grow c.args.zone.now c.args.block c.args.length c.need_for-needed.result c.address_of-at.result (standing w) (more b) (enough b))

-- the zone then
abbrev grown_zone : (c : After-front-taken) → ZoneState
grown_zone c =
    let w = (goal.at.After-front-taken c).After-entry_at-size in
    let b = (goal.at.After-front-taken c).After-free_after in
    resized_zone c.args.zone.now c.args.block c.args.length c.need_for-needed.result c.address_of-at.result (standing w)
    (grown_blocks c.args.zone.now c.args.block c.args.length c.need_for-needed.result c.address_of-at.result (standing w) (more b) (enough b))

-- grow makes it that
grown : (c : After-grow) → c.grow.new.self ≡ grown_zone (goal.at.After-grow c).After-front-taken
grown c =
    let w = (goal.at.After-grow c).After-entry_at-size in
    let b = (goal.at.After-grow c).After-free_after in
    let f = (goal.at.After-grow c).After-front-taken in
    grown-done c.args.zone.now c.args.block c.args.length c.need_for-needed.result c.address_of-at.result (standing w) (more b) (enough b) c.front-taken.result c.grow.new.self (taken f) c.grow.ensures

-- so the block is as long as it is to be
grown_there : (c : After-grow) → resized_there c.args.zone.now.shape c.args.block c.args.length c.args.zone.now.heap ≡ Some c.grow.new.self.heap
grown_there c =
    let w = (goal.at.After-grow c).After-entry_at-size in
    let b = (goal.at.After-grow c).After-free_after in
    grown-there c.args.zone.now c.args.block c.args.length c.need_for-needed.result c.address_of-at.result (standing w) (more b) (enough b) c.grow.new.self (grown c)

pub returns-else-needed-size-clause-heap : goal.returns-else-needed-size-clause-heap
returns-else-needed-size-clause-heap c = grown_there (goal.at.returns-else-needed-size-clause-heap c).After-grow

pub returns-else-needed-size-clause-shape : goal.returns-else-needed-size-clause-shape
returns-else-needed-size-clause-shape c = ap (λ (z : ZoneState). z.shape) (grown (goal.at.returns-else-needed-size-clause-shape c).After-grow)

pub returns-else-needed-size-clause-loans : goal.returns-else-needed-size-clause-loans
returns-else-needed-size-clause-loans c =
    let g = (goal.at.returns-else-needed-size-clause-loans c).After-grow in
    there-loans c.args.zone.now c.grow.new.self c.args.block c.args.length c.requires.sound c.requires.here (grown_there g) (ap (λ (z : ZoneState). z.shape) (grown g)) (ap (λ (z : ZoneState). z.memory) (grown g))

pub returns-else-needed-size-clause-sound : goal.returns-else-needed-size-clause-sound
returns-else-needed-size-clause-sound c =
    let g = (goal.at.returns-else-needed-size-clause-sound c).After-grow in
    there-sound c.args.zone.now c.grow.new.self c.args.block c.args.length c.requires.sound c.requires.block c.requires.here (grown_there g) (ap (λ (z : ZoneState). z.shape) (grown g))
