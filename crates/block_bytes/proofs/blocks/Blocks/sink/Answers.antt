use Rattle.std.proofs.Common.{◌≤◌, Option, refl, ◌≡◌, ℕ, ◌+◌, ◌-◌, ◌/◌, ◌<◌, List, [], ◌∷◌, ◌++◌, length, take, drop, replicate, slice_index, ap, sym, ◌∙◌, subst, arith, append_assoc, length-set, IsTrue, IsFalse}
use Rattle.std.proofs.Math.ListN.{set}
use Rattle.mac_base.specs.declared.block.HeadKind.{HeadKind}
use Rattle.mac_base.specs.HeadKind.{address_end, head_size}
use Rattle.mac_base.specs.ZoneSizes.{ArePossible}
use Rattle.place_numbers.specs.Shifted.{shifted_up}
use Rattle.raw_region.specs.Bytes.{part}
use Rattle.raw_region.specs.State.{State, with_bytes}
use Rattle.raw_region.proofs.Places.{by_case}
use Rattle.block_bytes.specs.ZoneHead.{CanCount}
use Rattle.block_bytes.specs.declared.header.Header.{Header}
use Rattle.block_bytes.specs.declared.blocks.Blocks.TheInside.{Inside}
use Rattle.block_bytes.specs.Head.{most_over, head_bytes}
use Rattle.block_bytes.specs.Layout.{RawBlock, Layout, BlockAt, ParcelUpTo, Sunk, is_free, size_of, header_of, with_blocks}
use Rattle.block_bytes.specs.Starts.{mark_in, first_marked}
use Rattle.block_bytes.specs.Reading.{layout_of, IsLayout, IsWhole}
use Rattle.block_bytes.proofs.Heads.{head-free}
use Rattle.block_bytes.proofs.Rendered.{total_of-append}
use Rattle.block_bytes.proofs.Parts.{IsRead}
use Rattle.block_bytes.proofs.Settled.{counted}
use Rattle.block_bytes.proofs.Changes.{mark-unlent}
use Rattle.block_bytes.proofs.Counting.{IsKept, can-count, none-lower, set-after}
use Rattle.block_bytes.proofs.Carrying.{HasMoved, AreUnlent, LiesFrom, with-first, more-unlent, unlent-last, lies-from, sunk-used, sunk-free, sunk-marks, sunk-read}
use Rattle.block_bytes.proofs.Rotated.{length-shifted_up, shifted-before}
use Rattle.block_bytes.proofs.Owned.{IsOff}
use Rattle.block_bytes.proofs.Recorded.{counted-stay, slide-stay, span-whole, turn-stay}
use Rattle.block_bytes.specs.declared.record.Record.{Record}
use Rattle.block_bytes.specs.Record.{Notes}
use Rattle.block_bytes.proofs.blocks.Blocks.sink.Goals as goal
use Rattle.block_bytes.proofs.blocks.Blocks.sink.Goals.{After-set}

-- the block that sinks
abbrev sunk_block : (l : Layout) (start at : ℕ) → ParcelUpTo l start at → BlockAt l at
sunk_block l start at parcel = let sum = total_of-append l.heads parcel.before parcel.others in let place = parcel.place in let long = parcel.long in record {
  before = parcel.before ++ parcel.others;
  here = parcel.here;
  after = parcel.after;
  blocks = parcel.blocks ∙ sym (append_assoc parcel.before parcel.others (parcel.here ∷ parcel.after));
  place = omega arith;
}

-- none of the blocks is lent
are_unlent : (z : Inside) → IsLayout z → (start at : ℕ) (parcel : ParcelUpTo (layout_of z) start at) → AreUnlent z parcel.before parcel.others parcel.here
are_unlent z whole start at parcel = unlent-last z whole parcel.before parcel.others parcel.after parcel.here parcel.blocks parcel.unlent

-- where they lie
lies : (z : Inside) → IsLayout z → (l : Layout) → layout_of z ≡ l → (start at : ℕ) (header : Header) → ParcelUpTo l start at → ((b : BlockAt l at) → header ≡ header_of l.heads b.here) → LiesFrom z start header (at - start)
lies z whole l is start at header = subst (λ (m : Layout). ParcelUpTo m start at → ((b : BlockAt m at) → header ≡ header_of m.heads b.here) → LiesFrom z start header (at - start)) is
    (λ parcel entry. let said = entry (sunk_block (layout_of z) start at parcel) in let long = parcel.long in
    let a = are_unlent z whole start at parcel in let sum = total_of-append z.spec.heads parcel.others (parcel.here ∷ []) in
    lies-from z whole parcel.before parcel.others parcel.after parcel.here a (parcel.others ++ parcel.here ∷ [])
    (parcel.blocks ∙ ap (λ (bs : List RawBlock). parcel.before ++ bs) (sym (append_assoc parcel.others (parcel.here ∷ []) parcel.after)))
    (more-unlent parcel.others parcel.here a.others_unlent a.here_unlent) (omega arith) start header (at - start) parcel.place said (omega arith))

pub entry_at-header-requires : goal.entry_at-header-requires
entry_at-header-requires c = sunk_block c.args.self.now c.args.start c.args.at c.requires

pub sink-requires-clause-inside : goal.sink-requires-clause-inside
sink-requires-clause-inside c = let f = lies c.self.inside c.self.invariant.layout c.args.self.now c.self.view_is c.args.start c.args.at c.entry_at-header.result c.requires c.entry_at-header.ensures in
    let order = c.requires.long in let above = f.above in let below = f.below in let within = f.within in let small = c.base-base.ensures.possible in let base_is = c.base-base.ensures.value in let all = f.all_bytes in omega arith

pub sink-requires-clause-free : goal.sink-requires-clause-free
sink-requires-clause-free c = let f = lies c.self.inside c.self.invariant.layout c.args.self.now c.self.view_is c.args.start c.args.at c.entry_at-header.result c.requires c.entry_at-header.ensures in
    let order = c.requires.long in let above = f.above in let below = f.below in let within = f.within in let small = c.base-base.ensures.possible in let base_is = c.base-base.ensures.value in
    f.free (c.args.start - c.base-base.result) (c.args.at - c.args.start + c.entry_at-header.result.size) (omega arith) (omega arith)

pub sink-requires-clause-size : goal.sink-requires-clause-size
sink-requires-clause-size c = let f = lies c.self.inside c.self.invariant.layout c.args.self.now c.self.view_is c.args.start c.args.at c.entry_at-header.result c.requires c.entry_at-header.ensures in
    let order = c.requires.long in let above = f.above in let below = f.below in let within = f.within in let small = c.base-base.ensures.possible in let base_is = c.base-base.ensures.value in
    let limit = small.small_enough in let headed = f.headed in let e = ap head_size c.heads-heads.ensures in let end = ap address_end c.heads-heads.ensures in let low = small.base_high_enough in let high = small.end_low_enough in (omega arith, omega arith)

pub sink-requires-clause-correction : goal.sink-requires-clause-correction
sink-requires-clause-correction c = let f = lies c.self.inside c.self.invariant.layout c.args.self.now c.self.view_is c.args.start c.args.at c.entry_at-header.result c.requires c.entry_at-header.ensures in
    let order = c.requires.long in let above = f.above in let below = f.below in let within = f.within in let small = c.base-base.ensures.possible in let base_is = c.base-base.ensures.value in let few = f.few in let e = ap most_over c.heads-heads.ensures in omega arith

pub shift_up-requires-clause-inside : goal.shift_up-requires-clause-inside
shift_up-requires-clause-inside c = let f = lies c.self.inside c.self.invariant.layout c.args.self.now c.self.view_is c.args.start c.args.at c.entry_at-header.result c.requires c.entry_at-header.ensures in
    let order = c.requires.long in let above = f.above in let below = f.below in let within = f.within in let small = c.base-base.ensures.possible in let base_is = c.base-base.ensures.value in
    let marks = f.marks in let even = f.even in let even_size = f.even_size in let even_count = f.even_count in omega arith

-- the index is as long as before
as_long : (z : Inside) (start : ℕ) (header : Header) (count base : ℕ) → LiesFrom z start header count → base ≡ z.spec.base
    → length (shifted_up ((start - base) / 4) ((start - base + header.size) / 4) (count / 4) z.index) ≡ length z.index
as_long z start header count base f base_is =
    let even = f.even in let even_size = f.even_size in let even_count = f.even_count in let marks = f.marks in let above = f.above in let below = f.below in
    length-shifted_up ((start - base) / 4) ((start - base + header.size) / 4) (count / 4) z.index (omega arith) (omega arith)

pub overflow_add-at : goal.overflow_add-at
overflow_add-at c = let f = lies c.self.inside c.self.invariant.layout c.args.self.now c.self.view_is c.args.start c.args.at c.entry_at-header.result c.requires c.entry_at-header.ensures in
    let order = c.requires.long in let above = f.above in let below = f.below in let within = f.within in let small = c.base-base.ensures.possible.small_enough in let base_is = c.base-base.ensures.value in omega arith

pub set-requires-clause-inside : goal.set-requires-clause-inside
set-requires-clause-inside c = let f = lies c.self.inside c.self.invariant.layout c.args.self.now c.self.view_is c.args.start c.args.at c.entry_at-header.result c.requires c.entry_at-header.ensures in
    let order = c.requires.long in let above = f.above in let below = f.below in let within = f.within in let small = c.base-base.ensures.possible in let base_is = c.base-base.ensures.value in
    let even = f.even in let marks = f.marks in let some = f.large in let same = as_long c.self.inside c.args.start c.entry_at-header.result (c.args.at - c.args.start) c.base-base.result f base_is in let shifted = ap length c.shift_up.ensures in omega arith

-- what the call that moved it says of the memory
record HasSunk (z : Inside) (start at : ℕ) (heads : HeadKind) (base : ℕ) (header : Header) (m : State) : Type 0 where
  heads_is : heads ≡ z.spec.heads
  base_is : base ≡ z.spec.base
  free : IsTrue (is_free header.role)
      → m ≡ with_bytes (with_bytes z.memory (start - base + header.size) (part z.memory.bytes (start - base) (at - start))) (start - base) (head_bytes heads 0 header)
  used : IsFalse (is_free header.role) → m ≡ with_bytes z.memory (start - base) (part z.memory.bytes (start - base + (at - start)) header.size ++ part z.memory.bytes (start - base) (at - start))

module _ (z : Inside) (whole : IsLayout z) (small : ArePossible z.spec) (start at : ℕ) (heads : HeadKind) (base : ℕ) (header : Header) (m : State) (t : HasSunk z start at heads base header m) where
  -- the block is before the others in the memory
  has_moved : (parcel : ParcelUpTo (layout_of z) start at) → header ≡ header_of z.spec.heads parcel.here → HasMoved z parcel.here (with-first parcel.before parcel.others parcel.after) m
  has_moved parcel said = let place = parcel.place in let long = parcel.long in let is = t.base_is in
      let size : header.size ≡ size_of z.spec.heads parcel.here = ap (λ (h : Header). h.size) said in let a = are_unlent z whole start at parcel in
      let p = start - base in let c = at - start in
      by_case (is_free header.role)
      (λ free. sunk-free z whole small parcel.before parcel.others parcel.after parcel.here a parcel.blocks p header.size c (omega arith) size (omega arith) m (sym (ap (λ (h : Header). is_free h.role) said) ∙ free)
      (t.free free ∙ ap (with_bytes (with_bytes z.memory (p + header.size) (part z.memory.bytes p c)) p) (head-free heads 0 base header free ∙ (λ i. head_bytes (t.heads_is i) (t.base_is i) (said i)))))
      (λ used. sunk-used z whole small parcel.before parcel.others parcel.after parcel.here a parcel.blocks p header.size c (omega arith) size (omega arith) m (t.used used))

  -- the zone's header is as it was
  is_kept : (l : Layout) → layout_of z ≡ l → ParcelUpTo l start at → ((b : BlockAt l at) → header ≡ header_of l.heads b.here) → IsKept z m
  is_kept l is = subst (λ (l : Layout). ParcelUpTo l start at → ((b : BlockAt l at) → header ≡ header_of l.heads b.here) → IsKept z m) is
      (λ parcel entry. (has_moved parcel (entry (sunk_block (layout_of z) start at parcel))).kept)

  -- no other bytes change
  stays : start ≤ at → head_size heads ≤ header.size → (i : ℕ) → IsOff (start - base) (at - start + header.size) i → slice_index m.bytes i ≡ slice_index z.memory.bytes i
  stays long headed i = let p = start - base in let c = at - start in by_case (is_free header.role)
      (λ free. slide-stay z.memory (with_bytes z.memory (p + header.size) (part z.memory.bytes p c)) m p (c + header.size) p (p + header.size) c p heads 0 header refl (t.free free) (omega arith) (omega arith) (omega arith) (omega arith) i)
      (λ used off. turn-stay z.memory m p header.size c (p + c) p (t.used used) i (let e : c + header.size ≡ header.size + c = omega arith in subst (λ (n : ℕ). IsOff p n i) e off))

  -- what the fields stand for then
  record IsDone (l : Layout) (parcel : ParcelUpTo l start at) (n : State) (index : List ℕ) (kept : Option Record) : Type 0 where
    sunk : Sunk l parcel (layout_of (record z { memory = n; index = index; kept = kept }))
    possible : IsWhole (record z { memory = n; index = index; kept = kept })

  is_done : (l : Layout) → layout_of z ≡ l → (n : State) (index : List ℕ) (kept : Option Record) → IsWhole z → Notes z.kept kept (start - base) (at - start + header.size)
      → index ≡ set (shifted_up ((start - base) / 4) ((start - base + header.size) / 4) ((at - start) / 4) z.index) ((start - base) / 4) (mark_in header)
      → n ≡ counted m base 0 0 (first_marked base index)
      → (parcel : ParcelUpTo l start at) → ((b : BlockAt l at) → header ≡ header_of l.heads b.here) → IsDone l parcel n index kept
  is_done l is n index kept recorded notes marks settles =
      subst (λ (l : Layout). (parcel : ParcelUpTo l start at) → ((b : BlockAt l at) → header ≡ header_of l.heads b.here) → IsDone l parcel n index kept) is
      (λ parcel entry. let said = entry (sunk_block (layout_of z) start at parcel) in let place = parcel.place in let long = parcel.long in let base_is = t.base_is in
      let size : header.size ≡ size_of z.spec.heads parcel.here = ap (λ (h : Header). h.size) said in let a = are_unlent z whole start at parcel in
      done parcel (has_moved parcel said) size (sunk-read z whole small parcel.before parcel.others parcel.after parcel.here a parcel.blocks (start - base) header.size (at - start) (omega arith) size (omega arith) m n index base
      (has_moved parcel said) (marks ∙ sunk-marks z whole small parcel.before parcel.others parcel.after parcel.here a parcel.blocks (start - base) header.size (at - start) (omega arith) size (omega arith)
      (has_moved parcel said).moved (has_moved parcel said).same (mark_in header) (ap mark_in said ∙ sym (mark-unlent z.spec.heads parcel.here a.here_unlent))) base_is settles))
    where
      done : (parcel : ParcelUpTo (layout_of z) start at) → (e : HasMoved z parcel.here (with-first parcel.before parcel.others parcel.after) m) → header.size ≡ size_of z.spec.heads parcel.here
          → IsRead (record z { memory = n; index = index }) (with_blocks (with-first parcel.before parcel.others parcel.after e.moved) (layout_of z)) → IsDone (layout_of z) parcel n index kept
      done parcel e size read =
          let p = parcel in let place = p.place in let long = p.long in let base_is = t.base_is in let head_is = ap head_size t.heads_is in
          let joined : (p.others ++ p.here ∷ []) ++ p.after ≡ p.others ++ p.here ∷ p.after = append_assoc p.others (p.here ∷ []) p.after in
          let total = total_of-append z.spec.heads p.others (p.here ∷ []) in
          let all = span-whole z recorded p.before (p.others ++ p.here ∷ []) (e.moved ∷ p.others) p.after (p.blocks ∙ ap (λ (bs : List RawBlock). p.before ++ bs) (sym joined)) read
          kept (start - base) (at - start + header.size) (omega arith) (omega arith) notes
          (λ i above off. counted-stay m n base 0 0 (first_marked base index) settles i above ∙ stays (omega arith) (omega arith) i off) in record {
            sunk = record { moved = e.moved; blocks = all.view; same = e.same };
            possible = all.whole;
          }

-- what counting the free bytes asks for
counts : (c : After-set) → CanCount c.sink.new.self c.set.new.self c.base-base.result 0 0
counts c = let f = lies c.self.inside c.self.invariant.layout c.args.self.now c.self.view_is c.args.start c.args.at c.entry_at-header.result c.requires c.entry_at-header.ensures in
    let order = c.requires.long in let above = f.above in let below = f.below in let within = f.within in let small = c.base-base.ensures.possible in let base_is = c.base-base.ensures.value in
    let even = f.even in let marks = f.marks in let some = f.large in let same = as_long c.self.inside c.args.start c.entry_at-header.result (c.args.at - c.args.start) c.base-base.result f base_is in let shifted = ap length c.shift_up.ensures in
    can-count c.self.inside c.self.invariant.layout small c.sink.new.self c.set.new.self c.base-base.result 0 0
    (is_kept c.self.inside c.self.invariant.layout small c.args.start c.args.at c.heads-heads.result c.base-base.result c.entry_at-header.result c.sink.new.self
    (record { heads_is = c.heads-heads.ensures; base_is = base_is; free = c.sink.ensures.free; used = c.sink.ensures.used }) c.args.self.now c.self.view_is c.requires c.entry_at-header.ensures)
    (ap length c.set.ensures ∙ length-set c.shift_up.new.self _ _ ∙ shifted ∙ same) base_is (omega arith) (omega arith)

pub count_free-requires-clause-count : goal.count_free-requires-clause-count
count_free-requires-clause-count c = counts (goal.at.count_free-requires-clause-count c).After-set

-- the index is as before up to the place where they begin
same_before : (z : Inside) (start : ℕ) (header : Header) (count base : ℕ) (index : List ℕ) → LiesFrom z start header count → base ≡ z.spec.base
    → index ≡ shifted_up ((start - base) / 4) ((start - base + header.size) / 4) (count / 4) z.index → (j : ℕ) → j < (start - base) / 4 → slice_index index j ≡ slice_index z.index j
same_before z start header count base index f base_is is j before = let marks = f.marks in let above = f.above in let below = f.below in
    ap (λ (l : List ℕ). slice_index l j) is
    ∙ shifted-before ((start - base) / 4) z.index (replicate ((start - base + header.size) / 4 - (start - base) / 4) 0) (take (count / 4) (drop ((start - base) / 4) z.index))
    (drop ((start - base + header.size) / 4 + count / 4) z.index) (omega arith) j before

pub count_free-requires-clause-low : goal.count_free-requires-clause-low
count_free-requires-clause-low c = let f = lies c.self.inside c.self.invariant.layout c.args.self.now c.self.view_is c.args.start c.args.at c.entry_at-header.result c.requires c.entry_at-header.ensures in
    let place = (c.args.start - c.base-base.result) / 4 in
    none-lower c.self.inside c.sink.new.self c.set.new.self c.base-base.result place
    (is_kept c.self.inside c.self.invariant.layout c.base-base.ensures.possible c.args.start c.args.at c.heads-heads.result c.base-base.result c.entry_at-header.result c.sink.new.self
    (record { heads_is = c.heads-heads.ensures; base_is = c.base-base.ensures.value; free = c.sink.ensures.free; used = c.sink.ensures.used }) c.args.self.now c.self.view_is c.requires c.entry_at-header.ensures)
    c.base-base.ensures.value (λ j before. set-after c.shift_up.new.self c.set.new.self _ _ place c.set.ensures (omega arith) j before
    ∙ same_before c.self.inside c.args.start c.entry_at-header.result (c.args.at - c.args.start) c.base-base.result c.shift_up.new.self f c.base-base.ensures.value c.shift_up.ensures j before)

-- so the call is done
done : (c : goal.After-count_free) (parcel : ParcelUpTo c.args.self.now c.args.start c.args.at)
    → IsDone c.self.inside c.self.invariant.layout c.base-base.ensures.possible c.args.start c.args.at c.heads-heads.result c.base-base.result c.entry_at-header.result c.sink.new.self
    (record { heads_is = c.heads-heads.ensures; base_is = c.base-base.ensures.value; free = c.sink.ensures.free; used = c.sink.ensures.used }) c.args.self.now parcel c.count_free.new.memory c.set.new.self c.note.new.kept
done c parcel = is_done c.self.inside c.self.invariant.layout c.base-base.ensures.possible c.args.start c.args.at c.heads-heads.result c.base-base.result c.entry_at-header.result c.sink.new.self
    (record { heads_is = c.heads-heads.ensures; base_is = c.base-base.ensures.value; free = c.sink.ensures.free; used = c.sink.ensures.used }) c.args.self.now c.self.view_is c.count_free.new.memory c.set.new.self c.note.new.kept c.self.invariant c.note.ensures
    (c.set.ensures ∙ (λ i. set (c.shift_up.ensures i) ((c.args.start - c.base-base.result) / 4) (c.mark.ensures.value i)))
    c.count_free.ensures parcel c.entry_at-header.ensures

pub invariant_of-self : goal.invariant_of-self
invariant_of-self c = (done c c.requires).possible

pub returns : goal.returns
returns c = λ parcel. (done c parcel).sunk
