use Rattle.std.proofs.Common.{◌≡◌, ◌+◌, ◌*◌, ◌≤◌, ◌∙◌, ap, sym, subst, arith}
use Rattle.sum_tree.specs.declared.largest.Largest.{Largest}
use Rattle.mac_base.specs.ZoneSizes.{ZoneSizes}
use Rattle.linked_zone.specs.Places.{FirstFree}
use Rattle.zone_index.proofs.FreeWalk.{Counted, counted_free, counted_split, counted-above, counted-after, counted-last, counted-on, free-some, free-within, none_counted, none_there}
use Rattle.zone_index.proofs.Known.{size-known}
use Rattle.zone_index.proofs.free.measure.Goals as goal
use Rattle.zone_index.proofs.free.measure.Goals.{In-Some, In-Some-next_free}

-- the leaf begins there
begins : (c : In-Some) → c.base.result + c.args.leaf * 256 ≡ c.args.zone.now.shape.base + 256 * c.args.leaf
begins c = let base = c.base.ensures.value ∙ ap (λ (s : ZoneSizes). s.base) c.spec-spec.ensures.sizes in omega arith

-- the next free block
next : (c : In-Some-next_free) → FirstFree c.loop-at.invariant.after c.loop-at.from c.in-Some-next_free.at
next c = c.in-Some-next_free.ensures.next (counted_split c.args.zone.now (256 * c.args.leaf) (256 * c.args.leaf + 256) c.loop-at.from c.loop-at.largest c.loop-at.invariant)

-- begins in the leaf or after it
above : (c : In-Some-next_free) → c.base.result + c.args.leaf * 256 ≤ c.in-Some-next_free.at
above c =
    let start = begins (goal.at.In-Some-next_free c).In-Some in
    let low = counted-above c.args.zone.now (256 * c.args.leaf) (256 * c.args.leaf + 256) c.loop-at.from c.loop-at.largest c.loop-at.invariant c.in-Some-next_free.at (next c) in
    omega arith

pub returns-in_default : goal.returns-in_default
returns-in_default c =
    let base = c.base.ensures.value ∙ ap (λ (s : ZoneSizes). s.base) c.spec-spec.ensures.sizes in
    c.none-largest.ensures ∙ sym (none_there c.args.zone.now c.spec-spec.ensures.possible (256 * c.args.leaf) (256 * c.args.leaf + 256) (c.base.result + c.args.leaf * 256) (omega arith) c.in_default.ensures.none)

pub loop-at-init : goal.loop-at-init
loop-at-init c =
    subst (λ (x : Largest). Counted c.args.zone.now (256 * c.args.leaf) (256 * c.args.leaf + 256) c.in-Some.from x) (sym c.none-largest.ensures)
    (none_counted c.args.zone.now c.spec-spec.ensures.possible (256 * c.args.leaf) (256 * c.args.leaf + 256) (c.base.result + c.args.leaf * 256) c.in-Some.from (begins (goal.at.loop-at-init c).In-Some) c.in-Some.ensures.first)

pub overflow_sub-at : goal.overflow_sub-at
overflow_sub-at c = above (goal.at.overflow_sub-at c).In-Some-next_free

pub returns-then-at-start-ge-LEAF_SIZE : goal.returns-then-at-start-ge-LEAF_SIZE
returns-then-at-start-ge-LEAF_SIZE c =
    let at = (goal.at.returns-then-at-start-ge-LEAF_SIZE c).In-Some-next_free in
    let start = begins (goal.at.returns-then-at-start-ge-LEAF_SIZE c).In-Some in
    let low = above at in
    counted-after c.args.zone.now (256 * c.args.leaf) (256 * c.args.leaf + 256) c.loop-at.from c.loop-at.largest c.loop-at.invariant c.in-Some-next_free.at (next at) (omega (arith, start, low, c.if-at-start-ge-LEAF_SIZE.true))

pub free_size-bytes-requires : goal.free_size-bytes-requires
free_size-bytes-requires c = counted_free c.args.zone.now (256 * c.args.leaf) (256 * c.args.leaf + 256) c.loop-at.from c.loop-at.largest c.loop-at.invariant c.in-Some-next_free.at (next (goal.at.free_size-bytes-requires c).In-Some-next_free)

pub overflow_add-from : goal.overflow_add-from
overflow_add-from c =
    let z = c.args.zone.now in
    let free = counted_free z (256 * c.args.leaf) (256 * c.args.leaf + 256) c.loop-at.from c.loop-at.largest c.loop-at.invariant c.in-Some-next_free.at (next (goal.at.overflow_add-from c).In-Some-next_free) in
    omega (arith, c.free_size-bytes.ensures free, free-within z c.in-Some-next_free.at free, size-known z c.spec-spec.result c.spec-spec.ensures.sizes, c.base.ensures.possible.within, c.base.ensures.reach)

pub loop-at-smaller : goal.loop-at-smaller
loop-at-smaller c =
    let z = c.args.zone.now in
    let f = next (goal.at.loop-at-smaller c).In-Some-next_free in
    let free = counted_free z (256 * c.args.leaf) (256 * c.args.leaf + 256) c.loop-at.from c.loop-at.largest c.loop-at.invariant c.in-Some-next_free.at f in
    omega (arith, c.free_size-bytes.ensures free, free-within z c.in-Some-next_free.at free, free-some z c.in-Some-next_free.at free c.spec-spec.ensures.possible, f.place)

pub loop-at-preserved : goal.loop-at-preserved
loop-at-preserved c =
    let z = c.args.zone.now in
    let at = (goal.at.loop-at-preserved c).In-Some-next_free in
    let f = next at in
    let start = begins (goal.at.loop-at-preserved c).In-Some in
    let low = above at in
    let free = counted_free z (256 * c.args.leaf) (256 * c.args.leaf + 256) c.loop-at.from c.loop-at.largest c.loop-at.invariant c.in-Some-next_free.at f in
    subst (Counted z (256 * c.args.leaf) (256 * c.args.leaf + 256) (c.in-Some-next_free.at + c.free_size-bytes.result)) (sym c.join-largest.ensures)
    (counted-on z (256 * c.args.leaf) (256 * c.args.leaf + 256) c.loop-at.from c.loop-at.largest c.loop-at.invariant c.in-Some-next_free.at f c.free_size-bytes.result (c.free_size-bytes.ensures free) (omega (arith, start, low, c.if-at-start-ge-LEAF_SIZE.false)))

pub returns : goal.returns
returns c =
    counted-last c.args.zone.now (256 * c.args.leaf) (256 * c.args.leaf + 256) c.loop-at.from c.loop-at.largest c.loop-at.invariant
    (c.in_default-next_free.ensures.none (counted_split c.args.zone.now (256 * c.args.leaf) (256 * c.args.leaf + 256) c.loop-at.from c.loop-at.largest c.loop-at.invariant))
