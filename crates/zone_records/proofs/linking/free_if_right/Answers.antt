use Rattle.std.proofs.Common.{◌≡◌, ◌+◌, ◌*◌, ◌≤◌, ◌∙◌, ℕ, true, length, ap, sym, subst, arith}
use Rattle.std.specs.Option.{IfNone}
use Rattle.block_bytes.specs.declared.header.Header.{Header}
use Rattle.block_bytes.specs.Layout.{BlockAt, header_of, size_of}
use Rattle.block_bytes.proofs.Walking.{size_of-pos}
use Rattle.zone_records.specs.Linking.{AreRight, free_of, one_handle, said_of}
use Rattle.zone_records.specs.Reading.{content_in}
use Rattle.zone_records.specs.Slots.{slots_of}
use Rattle.zone_records.proofs.Adopted.{NextHere, next-here, block-here}
use Rattle.zone_records.proofs.Held.{sound-one}
use Rattle.zone_records.proofs.SaidPlaces.{handle-few, said-room}
use Rattle.zone_records.proofs.ZoneSlots.{counted-none, counted-more, counted-all, free-room, none-left}
use Rattle.zone_records.proofs.Paired.{kept-right, paired-right, right-few, paired-none, paired-more, paired-kept, paired-said, paired-blocks}
use Rattle.zone_records.proofs.linking.free_if_right.Goals as goal
use Rattle.zone_records.proofs.linking.free_if_right.Goals.{In-loop-at}

-- the block that is next
next : (c : In-loop-at) → NextHere c.args.blocks.now c.loop-at.at c.loop-at.invariant.paired.split
next c = let below = c.loop-at-test.true in let end = c.end-end.ensures in next-here c.args.blocks.now c.loop-at.at c.loop-at.invariant.paired.split (omega arith)

block : (c : In-loop-at) → BlockAt c.args.blocks.now c.loop-at.at
block c = block-here c.args.blocks.now c.loop-at.at c.loop-at.invariant.paired.split (next c)

size : (c : In-loop-at) (h : Header) → ((b : BlockAt c.args.blocks.now c.loop-at.at) → h ≡ header_of c.args.blocks.now.heads b.here) → h.size ≡ size_of c.args.blocks.now.heads (next c).here
unfolding next block
size c h says = ap (λ (h : Header). h.size) (says (block c))

-- its slots have room in it
room : (c : In-loop-at) (n : ℕ) → ((b : BlockAt c.args.blocks.now c.loop-at.at) (x : ℕ) → n ≡ length (said_of (slots_of x (content_in c.args.blocks.now.heads c.args.blocks.now.base b.here.role b.here.contents)))) → 4 * n ≤ size_of c.args.blocks.now.heads (next c).here
unfolding next block
room c n counts =
    let l = c.args.blocks.now in let b = block c in let few = said-room l.heads l.base 0 (next c).here (sound-one l b.before (next c).here b.after c.requires b.blocks) in let same = counts b 0 in omega arith

-- it is a handle's block, or not
handle : (c : In-loop-at) (h : Header) → ((b : BlockAt c.args.blocks.now c.loop-at.at) → h ≡ header_of c.args.blocks.now.heads b.here) → one_handle h.role ≡ one_handle (next c).here.role
unfolding next block
handle c h says = ap (λ (h : Header). one_handle h.role) (says (block c))

-- the same block, and how many of its slots are free
other : (c : In-loop-at) → NextHere c.args.blocks.now c.loop-at.at c.loop-at.invariant.counted.split
other c = let below = c.loop-at-test.true in let end = c.end-end.ensures in next-here c.args.blocks.now c.loop-at.at c.loop-at.invariant.counted.split (omega arith)

other_block : (c : In-loop-at) → BlockAt c.args.blocks.now c.loop-at.at
other_block c = block-here c.args.blocks.now c.loop-at.at c.loop-at.invariant.counted.split (other c)

other_size : (c : In-loop-at) (h : Header) → ((b : BlockAt c.args.blocks.now c.loop-at.at) → h ≡ header_of c.args.blocks.now.heads b.here) → h.size ≡ size_of c.args.blocks.now.heads (other c).here
unfolding other other_block
other_size c h says = ap (λ (h : Header). h.size) (says (other_block c))

free_room : (c : In-loop-at) (n : ℕ) → ((b : BlockAt c.args.blocks.now c.loop-at.at) (x : ℕ) → n ≡ length (free_of (slots_of x (content_in c.args.blocks.now.heads c.args.blocks.now.base b.here.role b.here.contents)))) → 4 * n ≤ size_of c.args.blocks.now.heads (other c).here
unfolding other other_block
free_room c n counts =
    let l = c.args.blocks.now in let b = other_block c in let few = free-room l.heads l.base 0 (other c).here (sound-one l b.before (other c).here b.after c.requires b.blocks) in let same = counts b 0 in omega arith

pub loop-at-init : goal.loop-at-init
loop-at-init c = let base = c.base-at.ensures.value ∙ c.spec.ensures.base in record {
  paired = paired-none c.args.blocks.now (c.base-at.result + 52) (omega arith);
  counted = counted-none c.args.blocks.now (c.base-at.result + 52) (omega arith);
}

pub entry_at-header-requires : goal.entry_at-header-requires
entry_at-header-requires c = block (goal.at.entry_at-header-requires c).In-loop-at

pub kept_at-requires : goal.kept_at-requires
kept_at-requires c = record { sound = c.requires; block = block (goal.at.kept_at-requires c).In-loop-at; role = λ b. ap (λ (h : Header). h.role) (c.entry_at-header.ensures b) }

pub returns-in_err-counts-clause-none : goal.returns-in_err-counts-clause-none
returns-in_err-counts-clause-none c =
    let i = (goal.at.returns-in_err-counts-clause-none c).In-loop-at in
    subst (λ r. IfNone r (AreRight c.args.blocks.now → ⊥)) (sym c.from_residual.ensures)
    (λ all. c.in_err-counts.ensures.none (block i) (kept-right c.args.blocks.now c.loop-at.at (block i).here (all c.loop-at.at (block i))).kept)

pub is_tight-requires : goal.is_tight-requires
is_tight-requires c = record { sound = c.requires; block = block (goal.at.is_tight-requires c).In-loop-at; header = c.entry_at-header.ensures }

pub returns-then-not-is_tight-clause-none : goal.returns-then-not-is_tight-clause-none
returns-then-not-is_tight-clause-none c = λ all.
    let i = (goal.at.returns-then-not-is_tight-clause-none c).In-loop-at in
    let yes : c.is_tight.result ≡ true = (c.is_tight.ensures (block i)).1 (all c.loop-at.at (block i)).tight in let no = c.if-not-is_tight.true in absurd (cc (yes, no))

pub overflow_add-full : goal.overflow_add-full
overflow_add-full c =
    let i = (goal.at.overflow_add-full c).In-loop-at in let some = room i c.in_ok-counts.counts.full c.in_ok-counts.ensures.full in let within = (next i).within in let few = c.loop-at.invariant.paired.few in
    let end = c.end-end.ensures in let small = c.end-end.type_inv in omega arith

pub overflow_add-free : goal.overflow_add-free
overflow_add-free c =
    let i = (goal.at.overflow_add-free c).In-loop-at in let some = free_room i c.in_ok-counts.counts.free c.in_ok-counts.ensures.free in let within = (other i).within in let few = c.loop-at.invariant.counted.few in
    let end = c.end-end.ensures in let small = c.end-end.type_inv in omega arith

pub overflow_add-handles : goal.overflow_add-handles
overflow_add-handles c =
    let i = (goal.at.overflow_add-handles c).In-loop-at in let few = c.loop-at.invariant.paired.few_handles in let one = handle-few c.entry_at-header.result.role in let is = c.one_handle-handles.ensures in
    let below = c.loop-at-test.true in let small = c.end-end.type_inv in omega arith

pub overflow_add-at-in-loop-at : goal.overflow_add-at-in-loop-at
overflow_add-at-in-loop-at c =
    let i = (goal.at.overflow_add-at-in-loop-at c).In-loop-at in let within = (next i).within in let end = c.end-end.ensures in let small = c.end-end.type_inv in let long = size i c.entry_at-header.result c.entry_at-header.ensures in omega arith

pub loop-at-smaller : goal.loop-at-smaller
loop-at-smaller c =
    let i = (goal.at.loop-at-smaller c).In-loop-at in let some = size_of-pos c.args.blocks.now.heads (next i).here in let below = c.loop-at-test.true in let long = size i c.entry_at-header.result c.entry_at-header.ensures in omega arith

pub loop-at-preserved : goal.loop-at-preserved
unfolding next block other other_block
loop-at-preserved c =
    let l = c.args.blocks.now in let i = (goal.at.loop-at-preserved c).In-loop-at in let b = block i in
    record {
      paired = paired-more l c.loop-at.at c.loop-at.full c.loop-at.handles c.loop-at.invariant.paired (next i)
          (record { kept = c.in_ok-counts.ensures.kept b; tight = (c.is_tight.ensures b).0 c.if-not-is_tight.false })
          c.in_ok-counts.counts.full c.one_handle-handles.result (c.loop-at.at + c.entry_at-header.result.size)
          (c.in_ok-counts.ensures.full b) (c.one_handle-handles.ensures ∙ handle i c.entry_at-header.result c.entry_at-header.ensures)
          (ap (λ (n : ℕ). c.loop-at.at + n) (size i c.entry_at-header.result c.entry_at-header.ensures)) (room i c.in_ok-counts.counts.full c.in_ok-counts.ensures.full);
      counted = counted-more l c.loop-at.at c.loop-at.free c.loop-at.invariant.counted (other i) c.in_ok-counts.counts.free (c.loop-at.at + c.entry_at-header.result.size)
          (c.in_ok-counts.ensures.free (other_block i)) (ap (λ (n : ℕ). c.loop-at.at + n) (other_size i c.entry_at-header.result c.entry_at-header.ensures)) (free_room i c.in_ok-counts.counts.free c.in_ok-counts.ensures.free);
    }

pub returns-then-full-handles-clause-none : goal.returns-then-full-handles-clause-none
returns-then-full-handles-clause-none c = λ all.
    let l = c.args.blocks.now in let end = c.end-end.ensures in let above = c.loop-at-test.false in
    let p = c.loop-at.invariant.paired in let none = none-left l c.loop-at.at p.split (omega arith) in
    let full = paired-said l c.loop-at.at c.loop-at.full c.loop-at.handles p none in
    let handles = paired-blocks l c.loop-at.at c.loop-at.full c.loop-at.handles p none in
    let few = right-few l c.requires all in let more = c.if-full-handles.true in absurd (omega arith)

pub returns-clause-right : goal.returns-clause-right
returns-clause-right c =
    let l = c.args.blocks.now in let end = c.end-end.ensures in let above = c.loop-at-test.false in
    let p = c.loop-at.invariant.paired in let none = none-left l c.loop-at.at p.split (omega arith) in
    let full = paired-said l c.loop-at.at c.loop-at.full c.loop-at.handles p none in
    let handles = paired-blocks l c.loop-at.at c.loop-at.full c.loop-at.handles p none in
    let kept = paired-kept l c.loop-at.at c.loop-at.full c.loop-at.handles p (omega arith) in
    let few = c.if-full-handles.false in paired-right l c.requires kept (omega arith)

pub returns-clause-free : goal.returns-clause-free
returns-clause-free c =
    let l = c.args.blocks.now in let end = c.end-end.ensures in let above = c.loop-at-test.false in
    counted-all l c.loop-at.at c.loop-at.free c.loop-at.invariant.counted (none-left l c.loop-at.at c.loop-at.invariant.counted.split (omega arith))
