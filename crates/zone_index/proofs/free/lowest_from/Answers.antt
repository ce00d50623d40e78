use Rattle.std.proofs.Common.{arith}
use Rattle.linked_zone.specs.Places.{FirstFree}
use Rattle.zone_index.proofs.FreeWalk.{free-some, free-within, large_free, large-found, large-none, large-on, none_at_all, none_below}
use Rattle.zone_index.proofs.Known.{size-known}
use Rattle.zone_index.proofs.free.lowest_from.Goals as goal
use Rattle.zone_index.proofs.free.lowest_from.Goals.{In-Some}

-- the next free block
next : (c : In-Some) → FirstFree c.loop-at.invariant.split.after c.loop-at.from c.in-Some.at
next c = c.in-Some.ensures.next c.loop-at.invariant.split

pub returns-in_err-from-clause-none : goal.returns-in_err-from-clause-none
returns-in_err-from-clause-none c = rw c.from_residual.ensures (none_at_all c.args.zone.now c.spec-spec.ensures.possible c.args.start c.args.needed c.requires c.in_err-from.ensures.none)

pub loop-at-init : goal.loop-at-init
loop-at-init c = none_below c.args.zone.now c.spec-spec.ensures.possible c.args.start c.args.needed c.requires c.in_ok-from.from c.in_ok-from.ensures.first

pub free_size-size-requires : goal.free_size-size-requires
free_size-size-requires c = large_free c.args.zone.now c.args.needed c.loop-at.from c.loop-at.invariant c.in-Some.at (next (goal.at.free_size-size-requires c).In-Some)

pub returns-then-needed-size-clause-lowest : goal.returns-then-needed-size-clause-lowest
returns-then-needed-size-clause-lowest c =
    let z = c.args.zone.now in
    let f = next (goal.at.returns-then-needed-size-clause-lowest c).In-Some in
    let size = c.free_size-size.ensures (large_free z c.args.needed c.loop-at.from c.loop-at.invariant c.in-Some.at f) in
    large-found z c.args.needed c.loop-at.from c.loop-at.invariant c.in-Some.at f (omega (arith, size, c.if-needed-size.true))

pub overflow_add-from : goal.overflow_add-from
overflow_add-from c =
    let z = c.args.zone.now in
    let free = large_free z c.args.needed c.loop-at.from c.loop-at.invariant c.in-Some.at (next (goal.at.overflow_add-from c).In-Some) in
    omega (arith, c.free_size-size.ensures free, free-within z c.in-Some.at free, size-known z c.spec-spec.result c.spec-spec.ensures.sizes, c.limit-limit.ensures.possible.within, c.limit-limit.ensures.reach)

pub loop-at-smaller : goal.loop-at-smaller
loop-at-smaller c =
    let z = c.args.zone.now in
    let f = next (goal.at.loop-at-smaller c).In-Some in
    let free = large_free z c.args.needed c.loop-at.from c.loop-at.invariant c.in-Some.at f in
    omega (arith, c.free_size-size.ensures free, free-within z c.in-Some.at free, free-some z c.in-Some.at free c.spec-spec.ensures.possible, f.place)

pub loop-at-preserved : goal.loop-at-preserved
loop-at-preserved c =
    let z = c.args.zone.now in
    let f = next (goal.at.loop-at-preserved c).In-Some in
    let size = c.free_size-size.ensures (large_free z c.args.needed c.loop-at.from c.loop-at.invariant c.in-Some.at f) in
    large-on z c.args.needed c.loop-at.from c.loop-at.invariant c.in-Some.at f c.free_size-size.result size (omega (arith, c.if-needed-size.false))

pub returns-clause-none : goal.returns-clause-none
returns-clause-none c = large-none c.args.zone.now c.args.needed c.loop-at.from c.loop-at.invariant (c.in_default.ensures.none c.loop-at.invariant.split)
