use Rattle.std.proofs.Common.{Option, ◌≡◌, ℕ, ◌+◌, ◌-◌, ◌/◌, ◌<◌, ◌≤◌, List, [], ◌∷◌, ◌++◌, length, take, drop, replicate, slice_index, refl, ap, sym, ◌∙◌, subst, arith, append_assoc, length-set, IsTrue, IsFalse}
use Rattle.std.proofs.Math.ListN.{set}
use Rattle.mac_base.specs.declared.block.HeadKind.{HeadKind}
use Rattle.mac_base.specs.HeadKind.{address_end, head_size}
use Rattle.mac_base.specs.ZoneSizes.{ArePossible}
use Rattle.place_numbers.specs.Shifted.{shifted_down}
use Rattle.raw_region.specs.Bytes.{part}
use Rattle.raw_region.specs.State.{State, with_bytes}
use Rattle.raw_region.proofs.Places.{by_case}
use Rattle.block_bytes.specs.ZoneHead.{CanCount}
use Rattle.block_bytes.specs.declared.header.Header.{Header}
use Rattle.block_bytes.specs.declared.blocks.Blocks.TheInside.{Inside}
use Rattle.block_bytes.specs.Head.{most_over, head_bytes}
use Rattle.block_bytes.specs.Layout.{RawBlock, Layout, BlockAt, ParcelAt, Carried, is_free, size_of, total_of, header_of, with_blocks}
use Rattle.block_bytes.specs.Starts.{mark_in, first_marked}
use Rattle.block_bytes.specs.Reading.{layout_of, IsLayout, IsWhole}
use Rattle.block_bytes.proofs.Heads.{head-free}
use Rattle.block_bytes.proofs.Parts.{IsRead}
use Rattle.block_bytes.proofs.Settled.{counted}
use Rattle.block_bytes.proofs.Changes.{mark-unlent}
use Rattle.block_bytes.proofs.Counting.{IsKept, can-count, none-lower, set-after}
use Rattle.block_bytes.proofs.Carrying.{HasMoved, AreUnlent, LiesFrom, with-last, unlent-first, lies-from, carried-used, carried-free, carried-marks, carried-read}
use Rattle.block_bytes.proofs.Rotated.{length-shifted_down, shifted-before}
use Rattle.block_bytes.proofs.Owned.{IsOff}
use Rattle.block_bytes.proofs.Recorded.{counted-stay, slide-stay, span-whole, turn-stay}
use Rattle.block_bytes.specs.declared.record.Record.{Record}
use Rattle.block_bytes.specs.Record.{Notes}
use Rattle.block_bytes.proofs.blocks.Blocks.carry.Goals as goal
use Rattle.block_bytes.proofs.blocks.Blocks.carry.Goals.{After-set}

-- the block that is carried
abbrev carried_block : (l : Layout) (at end : ℕ) → ParcelAt l at end → BlockAt l at
carried_block l at end parcel = record { before = parcel.before; here = parcel.here; after = parcel.others ++ parcel.after; blocks = parcel.blocks; place = parcel.place }

-- where the blocks lie
record Lies (z : Inside) (at end : ℕ) (header : Header) : Type 0 where
  long : at + header.size ≤ end
  from : LiesFrom z at header (end - at - header.size)

-- none of the blocks is lent
are_unlent : (z : Inside) → IsLayout z → (at end : ℕ) (parcel : ParcelAt (layout_of z) at end) → AreUnlent z parcel.before parcel.others parcel.here
are_unlent z whole at end parcel = unlent-first z whole parcel.before parcel.others parcel.after parcel.here parcel.blocks parcel.unlent

lies : (z : Inside) → IsLayout z → (l : Layout) → layout_of z ≡ l → (at end : ℕ) (header : Header) → ParcelAt l at end → ((b : BlockAt l at) → header ≡ header_of l.heads b.here) → Lies z at end header
lies z whole l is at end header = subst (λ (m : Layout). ParcelAt m at end → ((b : BlockAt m at) → header ≡ header_of m.heads b.here) → Lies z at end header) is
    (λ parcel entry. let said = entry (carried_block (layout_of z) at end parcel) in let long = parcel.long in let place = parcel.place in
    let size : header.size ≡ size_of z.spec.heads parcel.here = ap (λ (h : Header). h.size) said in let a = are_unlent z whole at end parcel in
    record {
      long = omega arith;
      from = lies-from z whole parcel.before parcel.others parcel.after parcel.here a (parcel.here ∷ parcel.others) parcel.blocks (a.here_unlent, a.others_unlent) refl at header (end - at - header.size) (omega arith) said (omega arith);
    })

pub overflow_sub-count-2 : goal.overflow_sub-count-2
overflow_sub-count-2 c = let lie = lies c.self.inside c.self.invariant.layout c.args.self.now c.self.view_is c.args.at c.args.end c.entry_at-header.result c.requires c.entry_at-header.ensures in
    let long = lie.long in let f = lie.from in let above = f.above in let below = f.below in let within = f.within in let small = c.base-base.ensures.possible in let base_is = c.base-base.ensures.value in omega arith

pub carry-requires-clause-inside : goal.carry-requires-clause-inside
carry-requires-clause-inside c = let lie = lies c.self.inside c.self.invariant.layout c.args.self.now c.self.view_is c.args.at c.args.end c.entry_at-header.result c.requires c.entry_at-header.ensures in
    let long = lie.long in let f = lie.from in let above = f.above in let below = f.below in let within = f.within in let small = c.base-base.ensures.possible in let base_is = c.base-base.ensures.value in let all = f.all_bytes in omega arith

pub carry-requires-clause-free : goal.carry-requires-clause-free
carry-requires-clause-free c = let lie = lies c.self.inside c.self.invariant.layout c.args.self.now c.self.view_is c.args.at c.args.end c.entry_at-header.result c.requires c.entry_at-header.ensures in
    let long = lie.long in let f = lie.from in let above = f.above in let below = f.below in let within = f.within in let small = c.base-base.ensures.possible in let base_is = c.base-base.ensures.value in
    f.free (c.args.at - c.base-base.result) (c.entry_at-header.result.size + (c.args.end - c.args.at - c.entry_at-header.result.size)) (omega arith) (omega arith)

pub carry-requires-clause-size : goal.carry-requires-clause-size
carry-requires-clause-size c = let lie = lies c.self.inside c.self.invariant.layout c.args.self.now c.self.view_is c.args.at c.args.end c.entry_at-header.result c.requires c.entry_at-header.ensures in
    let long = lie.long in let f = lie.from in let above = f.above in let below = f.below in let within = f.within in let small = c.base-base.ensures.possible in let base_is = c.base-base.ensures.value in
    let limit = small.small_enough in let headed = f.headed in let e = ap head_size c.heads-heads.ensures in let end = ap address_end c.heads-heads.ensures in let low = small.base_high_enough in let high = small.end_low_enough in (omega arith, omega arith)

pub carry-requires-clause-correction : goal.carry-requires-clause-correction
carry-requires-clause-correction c = let lie = lies c.self.inside c.self.invariant.layout c.args.self.now c.self.view_is c.args.at c.args.end c.entry_at-header.result c.requires c.entry_at-header.ensures in
    let long = lie.long in let f = lie.from in let above = f.above in let below = f.below in let within = f.within in let small = c.base-base.ensures.possible in let base_is = c.base-base.ensures.value in let few = f.few in let e = ap most_over c.heads-heads.ensures in omega arith

pub shift_down-requires-clause-inside : goal.shift_down-requires-clause-inside
shift_down-requires-clause-inside c = let lie = lies c.self.inside c.self.invariant.layout c.args.self.now c.self.view_is c.args.at c.args.end c.entry_at-header.result c.requires c.entry_at-header.ensures in
    let long = lie.long in let f = lie.from in let above = f.above in let below = f.below in let within = f.within in let small = c.base-base.ensures.possible in let base_is = c.base-base.ensures.value in
    let marks = f.marks in let even = f.even in let even_size = f.even_size in let even_count = f.even_count in omega arith

-- the index is as long as before
as_long : (z : Inside) (start : ℕ) (header : Header) (count base : ℕ) → LiesFrom z start header count → base ≡ z.spec.base
    → length (shifted_down ((start - base + header.size) / 4) ((start - base) / 4) (count / 4) z.index) ≡ length z.index
as_long z start header count base f base_is =
    let even = f.even in let even_size = f.even_size in let even_count = f.even_count in let marks = f.marks in let above = f.above in let below = f.below in
    length-shifted_down ((start - base + header.size) / 4) ((start - base) / 4) (count / 4) z.index (omega arith) (omega arith)

pub set-requires-clause-inside : goal.set-requires-clause-inside
set-requires-clause-inside c = let lie = lies c.self.inside c.self.invariant.layout c.args.self.now c.self.view_is c.args.at c.args.end c.entry_at-header.result c.requires c.entry_at-header.ensures in
    let long = lie.long in let f = lie.from in let above = f.above in let below = f.below in let within = f.within in let small = c.base-base.ensures.possible in let base_is = c.base-base.ensures.value in
    let even = f.even in let marks = f.marks in let some = f.large in let same = as_long c.self.inside c.args.at c.entry_at-header.result (c.args.end - c.args.at - c.entry_at-header.result.size) c.base-base.result f base_is in let shifted = ap length c.shift_down.ensures in omega arith

-- what the call that moved it says of the memory
record HasCarried (z : Inside) (at end : ℕ) (heads : HeadKind) (base : ℕ) (header : Header) (m : State) : Type 0 where
  heads_is : heads ≡ z.spec.heads
  base_is : base ≡ z.spec.base
  free : IsTrue (is_free header.role)
      → m ≡ with_bytes (with_bytes z.memory (at - base) (part z.memory.bytes (at - base + header.size) (end - at - header.size))) (at - base + (end - at - header.size)) (head_bytes heads 0 header)
  used : IsFalse (is_free header.role) → m ≡ with_bytes z.memory (at - base) (part z.memory.bytes (at - base + header.size) (end - at - header.size) ++ part z.memory.bytes (at - base) header.size)

module _ (z : Inside) (whole : IsLayout z) (small : ArePossible z.spec) (at end : ℕ) (heads : HeadKind) (base : ℕ) (header : Header) (m : State) (t : HasCarried z at end heads base header m) where
  -- the block is after the others in the memory
  has_moved : (parcel : ParcelAt (layout_of z) at end) → header ≡ header_of z.spec.heads parcel.here → HasMoved z parcel.here (with-last parcel.before parcel.others parcel.after) m
  has_moved parcel said = let place = parcel.place in let long = parcel.long in let is = t.base_is in
      let size : header.size ≡ size_of z.spec.heads parcel.here = ap (λ (h : Header). h.size) said in let a = are_unlent z whole at end parcel in
      let p = at - base in let c = end - at - header.size in
      by_case (is_free header.role)
      (λ free. carried-free z whole small parcel.before parcel.others parcel.after parcel.here a parcel.blocks p header.size c (omega arith) size (omega arith) m (sym (ap (λ (h : Header). is_free h.role) said) ∙ free)
      (t.free free ∙ ap (with_bytes (with_bytes z.memory p (part z.memory.bytes (p + header.size) c)) (p + c)) (head-free heads 0 base header free ∙ (λ i. head_bytes (t.heads_is i) (t.base_is i) (said i)))))
      (λ used. carried-used z whole small parcel.before parcel.others parcel.after parcel.here a parcel.blocks p header.size c (omega arith) size (omega arith) m (t.used used))

  -- the zone's header is as it was
  is_kept : (l : Layout) → layout_of z ≡ l → ParcelAt l at end → ((b : BlockAt l at) → header ≡ header_of l.heads b.here) → IsKept z m
  is_kept l is = subst (λ (l : Layout). ParcelAt l at end → ((b : BlockAt l at) → header ≡ header_of l.heads b.here) → IsKept z m) is
      (λ parcel entry. (has_moved parcel (entry (carried_block (layout_of z) at end parcel))).kept)

  -- no other bytes change
  stays : at + header.size ≤ end → head_size heads ≤ header.size → (i : ℕ) → IsOff (at - base) (end - at) i → slice_index m.bytes i ≡ slice_index z.memory.bytes i
  stays long headed i = let p = at - base in let c = end - at - header.size in by_case (is_free header.role)
      (λ free. slide-stay z.memory (with_bytes z.memory p (part z.memory.bytes (p + header.size) c)) m p (end - at) (p + header.size) p c (p + c) heads 0 header refl (t.free free) (omega arith) (omega arith) (omega arith) (omega arith) i)
      (λ used off. turn-stay z.memory m p c header.size (p + header.size) p (t.used used) i (let e : end - at ≡ c + header.size = omega arith in subst (λ (n : ℕ). IsOff p n i) e off))

  -- what the fields stand for then
  record IsDone (l : Layout) (parcel : ParcelAt l at end) (n : State) (index : List ℕ) (kept : Option Record) : Type 0 where
    carried : Carried l parcel (layout_of (record z { memory = n; index = index; kept = kept }))
    possible : IsWhole (record z { memory = n; index = index; kept = kept })

  is_done : (l : Layout) → layout_of z ≡ l → (n : State) (index : List ℕ) (kept : Option Record) → IsWhole z → Notes z.kept kept (at - base) (end - at)
      → index ≡ set (shifted_down ((at - base + header.size) / 4) ((at - base) / 4) ((end - at - header.size) / 4) z.index) ((at - base) / 4 + (end - at - header.size) / 4) (mark_in header)
      → n ≡ counted m base 0 0 (first_marked base index)
      → (parcel : ParcelAt l at end) → ((b : BlockAt l at) → header ≡ header_of l.heads b.here) → IsDone l parcel n index kept
  is_done l is n index kept recorded notes marks settles =
      subst (λ (l : Layout). (parcel : ParcelAt l at end) → ((b : BlockAt l at) → header ≡ header_of l.heads b.here) → IsDone l parcel n index kept) is
      (λ parcel entry. let said = entry (carried_block (layout_of z) at end parcel) in let place = parcel.place in let long = parcel.long in let base_is = t.base_is in
      let size : header.size ≡ size_of z.spec.heads parcel.here = ap (λ (h : Header). h.size) said in let a = are_unlent z whole at end parcel in
      done parcel (has_moved parcel said) size (carried-read z whole small parcel.before parcel.others parcel.after parcel.here a parcel.blocks (at - base) header.size (end - at - header.size) (omega arith) size (omega arith) m n index base
      (has_moved parcel said) (marks ∙ carried-marks z whole small parcel.before parcel.others parcel.after parcel.here a parcel.blocks (at - base) header.size (end - at - header.size) (omega arith) size (omega arith)
      (has_moved parcel said).moved (has_moved parcel said).same (mark_in header) (ap mark_in said ∙ sym (mark-unlent z.spec.heads parcel.here a.here_unlent))) base_is settles))
    where
      done : (parcel : ParcelAt (layout_of z) at end) → (e : HasMoved z parcel.here (with-last parcel.before parcel.others parcel.after) m) → header.size ≡ size_of z.spec.heads parcel.here
          → IsRead (record z { memory = n; index = index }) (with_blocks (with-last parcel.before parcel.others parcel.after e.moved) (layout_of z)) → IsDone (layout_of z) parcel n index kept
      done parcel e size read =
          let p = parcel in let place = p.place in let long = p.long in let base_is = t.base_is in let head_is = ap head_size t.heads_is in
          let joined : (p.others ++ e.moved ∷ []) ++ p.after ≡ p.others ++ e.moved ∷ p.after = append_assoc p.others (e.moved ∷ []) p.after in
          let total : total_of z.spec.heads (p.here ∷ p.others) ≡ size_of z.spec.heads p.here + total_of z.spec.heads p.others = refl in
          let all = span-whole z recorded p.before (p.here ∷ p.others) (p.others ++ e.moved ∷ []) p.after p.blocks
          (subst (λ (bs : List RawBlock). IsRead (record z { memory = n; index = index }) (with_blocks (p.before ++ bs) (layout_of z))) (sym joined) read)
          kept (at - base) (end - at) (omega arith) (omega arith) notes
          (λ i above off. counted-stay m n base 0 0 (first_marked base index) settles i above ∙ stays (omega arith) (omega arith) i off) in record {
            carried = record { moved = e.moved; blocks = all.view ∙ ap (λ (bs : List RawBlock). with_blocks (p.before ++ bs) (layout_of z)) joined; same = e.same };
            possible = all.whole;
          }

-- what counting the free bytes asks for
counts : (c : After-set) → CanCount c.carry.new.self c.set.new.self c.base-base.result 0 0
counts c = let lie = lies c.self.inside c.self.invariant.layout c.args.self.now c.self.view_is c.args.at c.args.end c.entry_at-header.result c.requires c.entry_at-header.ensures in
    let long = lie.long in let f = lie.from in let above = f.above in let below = f.below in let within = f.within in let small = c.base-base.ensures.possible in let base_is = c.base-base.ensures.value in
    let even = f.even in let marks = f.marks in let some = f.large in let same = as_long c.self.inside c.args.at c.entry_at-header.result (c.args.end - c.args.at - c.entry_at-header.result.size) c.base-base.result f base_is in let shifted = ap length c.shift_down.ensures in
    can-count c.self.inside c.self.invariant.layout small c.carry.new.self c.set.new.self c.base-base.result 0 0
    (is_kept c.self.inside c.self.invariant.layout small c.args.at c.args.end c.heads-heads.result c.base-base.result c.entry_at-header.result c.carry.new.self
    (record { heads_is = c.heads-heads.ensures; base_is = base_is; free = c.carry.ensures.free; used = c.carry.ensures.used }) c.args.self.now c.self.view_is c.requires c.entry_at-header.ensures)
    (ap length c.set.ensures ∙ length-set c.shift_down.new.self _ _ ∙ shifted ∙ same) base_is (omega arith) (omega arith)

pub count_free-requires-clause-count : goal.count_free-requires-clause-count
count_free-requires-clause-count c = counts (goal.at.count_free-requires-clause-count c).After-set

-- the index is as before up to the block's place
same_before : (z : Inside) (start : ℕ) (header : Header) (count base : ℕ) (index : List ℕ) → LiesFrom z start header count → base ≡ z.spec.base
    → index ≡ shifted_down ((start - base + header.size) / 4) ((start - base) / 4) (count / 4) z.index → (j : ℕ) → j < (start - base) / 4 → slice_index index j ≡ slice_index z.index j
same_before z start header count base index f base_is is j before = let marks = f.marks in let above = f.above in let below = f.below in
    ap (λ (l : List ℕ). slice_index l j) is
    ∙ shifted-before ((start - base) / 4) z.index (take (count / 4) (drop ((start - base + header.size) / 4) z.index)) (replicate ((start - base + header.size) / 4 - (start - base) / 4) 0)
    (drop ((start - base + header.size) / 4 + count / 4) z.index) (omega arith) j before

pub count_free-requires-clause-low : goal.count_free-requires-clause-low
count_free-requires-clause-low c = let lie = lies c.self.inside c.self.invariant.layout c.args.self.now c.self.view_is c.args.at c.args.end c.entry_at-header.result c.requires c.entry_at-header.ensures in
    let place = (c.args.at - c.base-base.result) / 4 in
    none-lower c.self.inside c.carry.new.self c.set.new.self c.base-base.result place
    (is_kept c.self.inside c.self.invariant.layout c.base-base.ensures.possible c.args.at c.args.end c.heads-heads.result c.base-base.result c.entry_at-header.result c.carry.new.self
    (record { heads_is = c.heads-heads.ensures; base_is = c.base-base.ensures.value; free = c.carry.ensures.free; used = c.carry.ensures.used }) c.args.self.now c.self.view_is c.requires c.entry_at-header.ensures)
    c.base-base.ensures.value (λ j before. set-after c.shift_down.new.self c.set.new.self _ _ place c.set.ensures (omega arith) j before
    ∙ same_before c.self.inside c.args.at c.entry_at-header.result (c.args.end - c.args.at - c.entry_at-header.result.size) c.base-base.result c.shift_down.new.self lie.from c.base-base.ensures.value c.shift_down.ensures j before)

-- so the call is done
done : (c : goal.After-count_free) (parcel : ParcelAt c.args.self.now c.args.at c.args.end)
    → IsDone c.self.inside c.self.invariant.layout c.base-base.ensures.possible c.args.at c.args.end c.heads-heads.result c.base-base.result c.entry_at-header.result c.carry.new.self
    (record { heads_is = c.heads-heads.ensures; base_is = c.base-base.ensures.value; free = c.carry.ensures.free; used = c.carry.ensures.used }) c.args.self.now parcel c.count_free.new.memory c.set.new.self c.note.new.kept
done c parcel = is_done c.self.inside c.self.invariant.layout c.base-base.ensures.possible c.args.at c.args.end c.heads-heads.result c.base-base.result c.entry_at-header.result c.carry.new.self
    (record { heads_is = c.heads-heads.ensures; base_is = c.base-base.ensures.value; free = c.carry.ensures.free; used = c.carry.ensures.used }) c.args.self.now c.self.view_is c.count_free.new.memory c.set.new.self c.note.new.kept c.self.invariant c.note.ensures
    (c.set.ensures ∙ (λ i. set (c.shift_down.ensures i) ((c.args.at - c.base-base.result) / 4 + (c.args.end - c.args.at - c.entry_at-header.result.size) / 4) (c.mark.ensures.value i)))
    c.count_free.ensures parcel c.entry_at-header.ensures

pub invariant_of-self : goal.invariant_of-self
invariant_of-self c = (done c c.requires).possible

pub returns : goal.returns
returns c = λ parcel. (done c parcel).carried
