-- Where a block lies, by its header.
use Rattle.std.proofs.Common.{◌≡◌, ℕ, ◌+◌, ◌-◌, ◌*◌, ◌≤◌, false, [], ◌∷◌, ◌++◌, length, sym, ap, ◌∙◌, subst, arith, append_assoc, length-append, length-drop}
use Rattle.mac_base.specs.HeadKind.{head_size, zone_header}
use Rattle.raw_region.specs.Span.{IsFree}
use Rattle.block_bytes.specs.Head.{most_over, head_bytes}
use Rattle.block_bytes.specs.declared.header.Header.{Header}
use Rattle.block_bytes.specs.declared.blocks.Blocks.TheInside.{Inside}
use Rattle.block_bytes.specs.Layout.{RawBlock, Layout, BlockAt, PairAt, CanMerge, raw_block, body, size_of, free_total, header_of, joint_body}
use Rattle.block_bytes.specs.Starts.{free_in}
use Rattle.block_bytes.specs.Reading.{layout_of, IsLayout}
use Rattle.block_bytes.proofs.Heads.{length-head_bytes}
use Rattle.block_bytes.proofs.Rendered.{total_of-append}
use Rattle.block_bytes.proofs.ReadBlocks.{IsPossible-from}
use Rattle.block_bytes.proofs.Parts.{length-starts, IsIn-from}
use Rattle.block_bytes.proofs.Settled.{head-free, unlent-free}
use Rattle.block_bytes.proofs.Counting.{free-among}
use Rattle.block_bytes.proofs.Changes.{size-body}

-- a block with this header lies at this address, below the zone's end, and its header isn't lent
pub record IsHere (z : Inside) (at : ℕ) (h : Header) : Type 0 where
  pub above : z.spec.base + zone_header ≤ at
  pub below : at + h.size ≤ z.spec.base + z.spec.size
  pub headed : head_size z.spec.heads + h.correction ≤ h.size
  pub few : h.correction ≤ most_over z.spec.heads
  pub within : z.spec.size ≤ z.spec.limit
  pub all_bytes : length z.memory.bytes ≡ z.spec.limit
  pub marks : z.spec.size ≤ 4 * length z.index
  pub unlent : (p n : ℕ) → p ≡ at - z.spec.base → n ≡ head_size z.spec.heads → IsFree z.memory.lent p n
  pub counted : free_in h ≤ free_total z.spec.heads (layout_of z).blocks

-- a block of the list that the fields stand for
here_itself : (z : Inside) → IsLayout z → (at : ℕ) (h : Header) (b : BlockAt (layout_of z) at) → h ≡ header_of z.spec.heads b.here → IsHere z at h
here_itself z whole at h b is =
    let i = IsIn-from z whole b.before b.here b.after b.blocks in let place = b.place in
    let size : h.size ≡ size_of z.spec.heads b.here = ap (λ (h : Header). h.size) is in let slack : h.correction ≡ length b.here.slack = ap (λ (h : Header). h.correction) is in
    let free : free_in h ≡ free_in (header_of z.spec.heads b.here) = ap free_in is in let among = free-among z b.before (b.here ∷ []) b.after b.blocks in let few = i.here_possible.few in
    record {
      above = omega arith;
      below = omega arith;
      headed = omega arith;
      few = omega arith;
      within = whole.high;
      all_bytes = whole.all_bytes;
      marks = length-starts z whole;
      unlent = λ p n there long. subst (λ (k : ℕ). IsFree z.memory.lent p k) (sym long) (head-free z whole b.before b.here b.after b.blocks p (omega arith));
      counted = omega arith;
    }

-- a block of the value that the fields stand for
pub IsHere-from : (z : Inside) → IsLayout z → (l : Layout) → layout_of z ≡ l → (at : ℕ) (h : Header) (b : BlockAt l at) → h ≡ header_of l.heads b.here → IsHere z at h
IsHere-from z whole l is at h = subst (λ (m : Layout). (b : BlockAt m at) → h ≡ header_of m.heads b.here → IsHere z at h) is (here_itself z whole at h)

-- no byte of a block that isn't lent is
pub unlent-here : (z : Inside) → IsLayout z → (l : Layout) → layout_of z ≡ l → (at : ℕ) (h : Header) (b : BlockAt l at) → h ≡ header_of l.heads b.here → b.here.lent ≡ false
    → (p n : ℕ) → at ≤ z.spec.base + p → z.spec.base + p + n ≤ at + h.size → IsFree z.memory.lent p n
unlent-here z whole l is at h = subst (λ (m : Layout). (b : BlockAt m at) → h ≡ header_of m.heads b.here → b.here.lent ≡ false → (p n : ℕ) → at ≤ z.spec.base + p → z.spec.base + p + n ≤ at + h.size → IsFree z.memory.lent p n) is
    (λ b said unlent p n low high. let place = b.place in let size : h.size ≡ size_of z.spec.heads b.here = ap (λ (h : Header). h.size) said in
    unlent-free z whole b.before (b.here ∷ []) b.after b.blocks (unlent, tt) p n (omega arith) (omega arith))

-- the block after the first of two neighbours
abbrev pub next-block : (l : Layout) (at next : ℕ) (pair : PairAt l at) → next ≡ at + size_of l.heads pair.here → BlockAt l next
next-block l at next pair is = let sum = total_of-append l.heads pair.before (pair.here ∷ []) in let place = pair.place in record {
  before = pair.before ++ pair.here ∷ [];
  here = pair.next;
  after = pair.after;
  blocks = pair.blocks ∙ sym (append_assoc pair.before (pair.here ∷ []) (pair.next ∷ pair.after));
  place = omega arith;
}

-- the first of two neighbours
abbrev pub first-block : (l : Layout) (at : ℕ) → PairAt l at → BlockAt l at
first-block l at pair = record { before = pair.before; here = pair.here; after = pair.next ∷ pair.after; blocks = pair.blocks; place = pair.place }

-- what is known of two neighbours with these headers, neither of which is lent
pub record ArePair (z : Inside) (at : ℕ) (first second : Header) : Type 0 where
  pub counted : free_in first + free_in second ≤ free_total z.spec.heads (layout_of z).blocks
  pub unlent : (p n : ℕ) → at ≤ z.spec.base + p → z.spec.base + p + n ≤ at + first.size + second.size → IsFree z.memory.lent p n

-- they are such
pub ArePair-from : (z : Inside) → IsLayout z → (l : Layout) → layout_of z ≡ l → (at : ℕ) (first second : Header) (pair : PairAt l at) → first ≡ header_of l.heads pair.here → second ≡ header_of l.heads pair.next → ArePair z at first second
ArePair-from z whole l is at first second = subst (λ (m : Layout). (pair : PairAt m at) → first ≡ header_of m.heads pair.here → second ≡ header_of m.heads pair.next → ArePair z at first second) is
    (λ pair one two. let place = pair.place in
    let size : first.size ≡ size_of z.spec.heads pair.here = ap (λ (h : Header). h.size) one in let size' : second.size ≡ size_of z.spec.heads pair.next = ap (λ (h : Header). h.size) two in
    let free : free_in first ≡ free_in (header_of z.spec.heads pair.here) = ap free_in one in let free' : free_in second ≡ free_in (header_of z.spec.heads pair.next) = ap free_in two in
    let among = free-among z pair.before (pair.here ∷ pair.next ∷ []) pair.after pair.blocks in
    record {
      counted = omega arith;
      unlent = λ p n low high. unlent-free z whole pair.before (pair.here ∷ pair.next ∷ []) pair.after pair.blocks (pair.unlent_here, (pair.unlent_next, tt)) p n (omega arith) (omega arith);
    })

-- the size of a block with the bodies of two neighbours
pub size-joint : (l : Layout) (b c : RawBlock) → head_size l.heads + length (joint_body l b c) ≡ size_of l.heads b + size_of l.heads c
size-joint l b c =
    let head = length-head_bytes l.heads l.base (header_of l.heads c) in let first = size-body l.heads b in let second = size-body l.heads c in
    let sum = length-append (body b) (head_bytes l.heads l.base (header_of l.heads c) ++ body c) in let sum' = length-append (head_bytes l.heads l.base (header_of l.heads c)) (body c) in omega arith

-- two neighbours with these headers can be one block with n bytes of contents
pub record IsMerge (l : Layout) (n : ℕ) (first second : Header) : Type 0 where
  pub long : head_size l.heads + n ≤ first.size + second.size
  pub few : first.size + second.size - head_size l.heads - n ≤ most_over l.heads

-- what the call requires says so
pub IsMerge-from : (l : Layout) (at n : ℕ) (can : CanMerge l at n) (first second : Header) → first ≡ header_of l.heads can.pair.here → second ≡ header_of l.heads can.pair.next → IsMerge l n first second
IsMerge-from l at n can first second is is' = let pair = can.pair in
    let size : first.size ≡ size_of l.heads pair.here = ap (λ (h : Header). h.size) is in let size' : second.size ≡ size_of l.heads pair.next = ap (λ (h : Header). h.size) is' in
    let joint = size-joint l pair.here pair.next in let p = IsPossible-from l.heads (raw_block pair.here.role n (joint_body l pair.here pair.next)) can.possible in
    let e = length-drop n (joint_body l pair.here pair.next) in let q = p.few in let within = can.within in
    record { long = omega arith; few = omega arith }
