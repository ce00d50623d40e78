use Rattle.std.proofs.Common.{◌≡◌, ◌+◌, ◌<◌, ◌++◌, ◌∙◌, sym, ap, subst, arith, refl}
use Rattle.std.specs.List.{slice_get}
use Rattle.mac_base.specs.declared.block.Entry.{Entry}
use Rattle.mac_base.specs.declared.block.Kind.TheVariants.{Rel}
use Rattle.mac_base.specs.ZoneMap.{block}
use Rattle.zone_index.specs.Purging.{FirstPurgeable}
use Rattle.zone_index.proofs.Entries.{entry_size}
use Rattle.zone_heap.specs.Purge.{BlocksAt, unprotected}
use Rattle.zone_heap.proofs.Candidates.{Left, entry_next, first_next, left_next, none_below, none_left, others_next, split_left, within_next}
use Rattle.zone_heap.proofs.purge.next_between.Goals as goal
use Rattle.zone_heap.proofs.purge.next_between.Goals.{In-Some, After-entry_at-here}

-- the next one that may be purged, protected or not
abbrev found : (c : In-Some) (b : BlocksAt c.args.zone.now c.args.start c.args.end) → FirstPurgeable c.args.zone.now.heap.table ((c.loop-next.invariant b).blocks.blocks ++ (c.loop-next.invariant b).blocks.after) c.loop-next.at c.in-Some.next
found c b = c.in-Some.ensures.next (split_left c.args.zone.now c.args.protected.now (c.loop-next.invariant b).blocks)

low : (c : After-entry_at-here) → c.in-Some.next < c.args.end
low c = omega (arith, c.if-end-next.false)

-- it is the one that is read
read : (c : After-entry_at-here) (b : BlocksAt c.args.zone.now c.args.start c.args.end)
    → c.entry_at-here.result ≡ (let f = found (goal.at.After-entry_at-here c).In-Some b in block (Rel f.handle) f.size)
read c b =
    let z = c.args.zone.now in
    let f = found (goal.at.After-entry_at-here c).In-Some b in
    (rw c.linked-linked.ensures at c.entry_at-here.ensures) (entry_next z c.args.protected.now (c.loop-next.invariant b).blocks c.in-Some.next f (low c))

pub loop-next-init : goal.loop-next-init
loop-next-init c blocks = record { blocks = blocks; same = refl }

pub next_purgeable-requires : goal.next_purgeable-requires
next_purgeable-requires c = split_left c.args.zone.now c.args.protected.now (c.loop-next.invariant c.requires.blocks).blocks

pub returns-then-end-next : goal.returns-then-end-next
returns-then-end-next c b =
    let z = c.args.zone.now in
    let s = c.loop-next.invariant b in
    let none = none_below z c.args.protected.now s.blocks c.in-Some.next (found (goal.at.returns-then-end-next c).In-Some b) (rw c.linked-linked.ensures at c.spec-spec.ensures.possible) c.if-end-next.true in
    sym (ap (λ hs. slice_get hs 0) (sym s.same ∙ none))

pub entry_at-here-requires : goal.entry_at-here-requires
entry_at-here-requires c =
    let z = c.args.zone.now in
    let b = c.requires.blocks in
    let below : c.in-Some.next < c.args.end = omega (arith, c.if-end-next.false) in
    rw c.linked-linked.ensures (entry_next z c.args.protected.now (c.loop-next.invariant b).blocks c.in-Some.next (found (goal.at.entry_at-here-requires c).In-Some b) below)

pub overflow_add-at : goal.overflow_add-at
overflow_add-at c =
    let b = c.requires.blocks in
    let w = goal.at.overflow_add-at c in
    let within = within_next c.args.zone.now c.args.protected.now (c.loop-next.invariant b).blocks c.in-Some.next (found w.In-Some b) (low w.After-entry_at-here) in
    omega (arith, within, ap (λ (e : Entry). e.size) (read w.After-entry_at-here b), c.ranges.end.fits)

pub loop-next-smaller : goal.loop-next-smaller
loop-next-smaller c =
    let z = c.args.zone.now in
    let b = c.requires.blocks in
    let w = goal.at.loop-next-smaller c in
    let f = found w.In-Some b in
    let place = f.place in
    let bytes = entry_size z c.in-Some.next (entry_next z c.args.protected.now (c.loop-next.invariant b).blocks c.in-Some.next f (low w.After-entry_at-here)) (rw c.linked-linked.ensures at c.spec-spec.ensures.possible) in
    omega (arith, bytes, ap (λ (e : Entry). e.size) (read w.After-entry_at-here b), low w.After-entry_at-here, place)

pub returns-in-Some-unprotected : goal.returns-in-Some-unprotected
returns-in-Some-unprotected c b =
    let z = c.args.zone.now in
    let p = c.args.protected.now in
    let w = goal.at.returns-in-Some-unprotected c in
    let s = c.loop-next.invariant b in
    let is = sym (c.in-Some-unprotected.ensures ∙ ap (λ (e : Entry). unprotected p e.kind) (read w.After-entry_at-here b)) in
    first_next z p s.blocks c.in-Some.next (found w.In-Some b) (low w.After-entry_at-here) c.in-Some-unprotected.handle is ∙ ap (λ hs. slice_get hs 0) s.same

pub loop-next-preserved : goal.loop-next-preserved
loop-next-preserved c b =
    let z = c.args.zone.now in
    let p = c.args.protected.now in
    let w = goal.at.loop-next-preserved c in
    let s = c.loop-next.invariant b in
    let is = sym (c.in_default-unprotected.ensures ∙ ap (λ (e : Entry). unprotected p e.kind) (read w.After-entry_at-here b)) in
    let next : Left z p b (c.in-Some.next + (found w.In-Some b).size) = record {
      blocks = left_next z p s.blocks c.in-Some.next (found w.In-Some b) (low w.After-entry_at-here);
      same = others_next z p s.blocks c.in-Some.next (found w.In-Some b) (low w.After-entry_at-here) is ∙ s.same;
    } in
    subst (λ (e : Entry). Left z p b (c.in-Some.next + e.size)) (sym (read w.After-entry_at-here b)) next

pub returns : goal.returns
returns c b =
    let z = c.args.zone.now in
    let s = c.loop-next.invariant b in
    sym (ap (λ hs. slice_get hs 0) (sym s.same ∙ none_left z c.args.protected.now s.blocks (c.in_default.ensures.none (split_left z c.args.protected.now s.blocks))))
