use Rattle.std.proofs.Common.{◌+◌, ◌<◌, ◌≤◌, arith}
use Rattle.mac_base.specs.ZoneMap.{total_size}
use Rattle.zone_index.proofs.GapWalk.{free_summed, next-some, next-summed, next-within, room-within, split_summed, summed-after, summed-last, summed-most}
use Rattle.zone_index.proofs.gap.room_up_to.Goals as goal
use Rattle.zone_index.proofs.gap.room_up_to.Goals.{After-free_size-size}

pub next_free-requires : goal.next_free-requires
next_free-requires c = split_summed c.args.zone.now c.args.start c.requires.rest c.loop-room.from c.loop-room.room (c.loop-room.invariant c.requires.rest)

pub returns-in_default-clause-most : goal.returns-in_default-clause-most
returns-in_default-clause-most c rest = summed-most c.args.zone.now c.args.start rest c.loop-room.from c.loop-room.room (c.loop-room.invariant rest)

pub returns-in_default-clause-all : goal.returns-in_default-clause-all
returns-in_default-clause-all c rest few =
    summed-last c.args.zone.now c.args.start rest c.loop-room.from c.loop-room.room (c.loop-room.invariant rest)
    (c.in_default.ensures.none (split_summed c.args.zone.now c.args.start rest c.loop-room.from c.loop-room.room (c.loop-room.invariant rest)))

pub returns-then-end-at-clause-most : goal.returns-then-end-at-clause-most
returns-then-end-at-clause-most c rest = summed-most c.args.zone.now c.args.start rest c.loop-room.from c.loop-room.room (c.loop-room.invariant rest)

pub returns-then-end-at-clause-all : goal.returns-then-end-at-clause-all
returns-then-end-at-clause-all c rest few =
    let s = c.loop-room.invariant rest in
    let next = c.in-Some.ensures.next (split_summed c.args.zone.now c.args.start rest c.loop-room.from c.loop-room.room s) in
    summed-after c.args.zone.now c.args.start rest c.loop-room.from c.loop-room.room s c.in-Some.at next (omega (arith, c.requires.end rest, c.if-end-at.true))

pub free_size-size-requires : goal.free_size-size-requires
free_size-size-requires c =
    let rest = c.requires.rest in
    let s = c.loop-room.invariant rest in
    free_summed c.args.zone.now c.args.start rest c.loop-room.from c.loop-room.room s c.in-Some.at (c.in-Some.ensures.next (split_summed c.args.zone.now c.args.start rest c.loop-room.from c.loop-room.room s))

-- the next free block ends within the gap's end, and so many bytes are no more than those up to there
within : (c : After-free_size-size) → (c.loop-room.room + c.free_size-size.result ≤ c.args.end) × (c.in-Some.at + c.free_size-size.result ≤ c.args.end)
within c =
    let z = c.args.zone.now in
    let rest = c.requires.rest in
    let s = c.loop-room.invariant rest in
    let next = c.in-Some.ensures.next (split_summed z c.args.start rest c.loop-room.from c.loop-room.room s) in
    let end = c.requires.end rest in
    let size = c.free_size-size.ensures (free_summed z c.args.start rest c.loop-room.from c.loop-room.room s c.in-Some.at next) in
    let low : c.in-Some.at < c.args.start + total_size rest.blocks = omega (arith, end, c.if-end-at.false) in
    (omega (arith, end, size, room-within z c.args.start rest c.loop-room.from c.loop-room.room s c.in-Some.at next low), omega (arith, end, size, next-within z c.args.start rest c.loop-room.from c.loop-room.room s c.in-Some.at next low))

pub overflow_add-room : goal.overflow_add-room
overflow_add-room c = omega (arith, (within (goal.at.overflow_add-room c).After-free_size-size).0, c.ranges.end.fits)

pub overflow_add-from : goal.overflow_add-from
overflow_add-from c = omega (arith, (within (goal.at.overflow_add-from c).After-free_size-size).1, c.ranges.end.fits)

pub loop-room-smaller : goal.loop-room-smaller
loop-room-smaller c =
    let rest = c.requires.rest in
    let s = c.loop-room.invariant rest in
    let next = c.in-Some.ensures.next (split_summed c.args.zone.now c.args.start rest c.loop-room.from c.loop-room.room s) in
    let size = c.free_size-size.ensures (free_summed c.args.zone.now c.args.start rest c.loop-room.from c.loop-room.room s c.in-Some.at next) in
    let some = next-some c.args.zone.now c.args.start rest c.loop-room.from c.loop-room.room s c.in-Some.at next c.spec-spec.ensures.possible in
    omega (arith, size, some, c.loop-room-test.true)

pub loop-room-preserved : goal.loop-room-preserved
loop-room-preserved c rest =
    let s = c.loop-room.invariant rest in
    let next = c.in-Some.ensures.next (split_summed c.args.zone.now c.args.start rest c.loop-room.from c.loop-room.room s) in
    let size = c.free_size-size.ensures (free_summed c.args.zone.now c.args.start rest c.loop-room.from c.loop-room.room s c.in-Some.at next) in
    next-summed c.args.zone.now c.args.start rest c.loop-room.from c.loop-room.room s c.in-Some.at next (omega (arith, c.requires.end rest, c.if-end-at.false)) c.free_size-size.result size

pub returns-clause-most : goal.returns-clause-most
returns-clause-most c rest = summed-most c.args.zone.now c.args.start rest c.loop-room.from c.loop-room.room (c.loop-room.invariant rest)
