-- What a zone's bytes are once it has grown to its limit.
use Rattle.std.proofs.Common.{◌≡◌, ◌+◌, ◌-◌, ◌/◌, ◌<◌, ◌≤◌, true, ℕ, suc, List, [], ◌∷◌, ◌++◌, length, take, drop, refl, sym, ap, subst, ◌∙◌, arith, append_assoc, append-nil, length-append, length-drop, length-set, length-take-le, take-append-drop, IsTrue}
use Rattle.std.specs.Prelude.{◌&&◌}
use Rattle.std.specs.List.{list_all}
use Rattle.std.proofs.Math.ListN.{set}
use Rattle.std.proofs.lemmas.List.{nil_from_length, set_at}
use Rattle.byteorder.specs.Endian.{big_bytes, big_number}
use Rattle.mac_base.specs.declared.block.HeadKind.{HeadKind}
use Rattle.mac_base.specs.declared.block.HeadKind.TheVariants.{Bits24, Bits32}
use Rattle.mac_base.specs.HeadKind.{head_size, smallest_block, zone_header}
use Rattle.mac_base.specs.ZoneSizes.{ZoneSizes, ArePossible}
use Rattle.mac_base.proofs.Reach.{end-small}
use Rattle.raw_region.specs.Bytes.{part, written, length-written}
use Rattle.raw_region.specs.Span.{Span, IsFree}
use Rattle.raw_region.specs.State.{State, with_bytes}
use Rattle.block_bytes.specs.declared.header.Role.TheVariants.{Free}
use Rattle.block_bytes.specs.declared.blocks.Blocks.TheInside.{Inside}
use Rattle.block_bytes.specs.Head.{head_bytes}
use Rattle.block_bytes.specs.ZoneHead.{end_field, free_field, lowest_field, zone_head, CanCount}
use Rattle.block_bytes.specs.Layout.{RawBlock, Layout, free_raw_block, free_block_of, extended, size_of, total_of, free_total, first_free, is_possible, rendered, header_bytes, image_of, address_after}
use Rattle.block_bytes.specs.Starts.{free_mark, marks_of, starts_of, first_marked, NoneLower}
use Rattle.block_bytes.specs.Reading.{layout_of, IsLayout, lent_spans, times}
use Rattle.block_bytes.proofs.Heads.{length-head_bytes}
use Rattle.block_bytes.proofs.Rendered.{total_of-append, length-rendered, rendered-append, written-middle}
use Rattle.block_bytes.proofs.ZoneHeads.{end-written, free-written, lowest-written}
use Rattle.block_bytes.proofs.Starts.{unmarked, length-unmarked, length-marks_of, marks_of-append, first_marked-starts}
use Rattle.block_bytes.proofs.Spans.{apart-above, apart-below, free-same, spans-append, count-append}
use Rattle.block_bytes.proofs.Parts.{IsRead, image-read, length-header, total-ends, possible-with}
use Rattle.block_bytes.proofs.Settled.{counted, free-append, front-fits}
use Rattle.block_bytes.proofs.Counting.{kept-first, kept-written, can-count_more, none-lower, set-after}
use Rattle.block_bytes.proofs.Walking.{is_possible-from}

-- no header has more than 12 bytes, and no smallest block more than 16
pub sizes-few : (heads : HeadKind) → (head_size heads ≤ 12) × (smallest_block heads ≤ 16)
sizes-few Bits24 = (omega arith, omega arith)
sizes-few Bits32 = (omega arith, omega arith)

-- some bytes are one block
free_block_of-some : (heads : HeadKind) (bytes : List ℕ) → 0 < length bytes → free_block_of heads bytes ≡ free_raw_block (drop (head_size heads) bytes) ∷ []
free_block_of-some heads [] some = absurd (omega arith)
free_block_of-some heads (x ∷ xs) some = refl

-- a zone without bytes up to its limit is as large as that
extended-nil : (l : Layout) → l.spare ≡ [] → l ≡ extended l
extended-nil l none =
    sym ((λ i. record l { blocks = l.blocks ++ free_block_of l.heads (none i); spare = [] }) ∙ (λ i. record l { blocks = append-nil l.blocks i; spare = sym none i }))

-- the zone's numbers, as they are read
pub record AreRead (z : Inside) (heads : HeadKind) (base size limit : ℕ) : Type 0 where
  pub heads_is : heads ≡ z.spec.heads
  pub base_is : base ≡ z.spec.base
  pub size_is : size ≡ z.spec.size
  pub limit_is : limit ≡ z.spec.limit
  pub possible : ArePossible z.spec
  pub other : size ≡ limit → ⊥

module _ (z : Inside) (heads : HeadKind) (base size limit : ℕ) (are : AreRead z heads base size limit) where
  -- the zone is below its limit
  pub below : z.spec.size < z.spec.limit
  below = let size_is = are.size_is in let limit_is = are.limit_is in let within = are.possible.within in let other = are.other in omega arith

  -- the memory with the header of the new block
  pub headed-read : (m : State) → m ≡ with_bytes z.memory size (head_bytes heads base (record { size = limit - size; role = Free; correction = 0 }))
      → m ≡ with_bytes z.memory z.spec.size (head_bytes z.spec.heads z.spec.base (record { size = z.spec.limit - z.spec.size; role = Free; correction = 0 }))
  headed-read m is = is ∙ (λ i. with_bytes z.memory (are.size_is i) (head_bytes (are.heads_is i) (are.base_is i) (record { size = are.limit_is i - are.size_is i; role = Free; correction = 0 })))

  -- the index with its number
  pub marked-read : (index : List ℕ) → index ≡ set z.index (size / 4) free_mark → index ≡ set z.index (z.spec.size / 4) free_mark
  marked-read index is = is ∙ ap (λ (n : ℕ). set z.index (n / 4) free_mark) are.size_is

  -- what counting its bytes asks for
  pub can-extend : IsLayout z → (m : State) (index : List ℕ) → m ≡ with_bytes z.memory size (head_bytes heads base (record { size = limit - size; role = Free; correction = 0 }))
      → index ≡ set z.index (size / 4) free_mark → CanCount m index base (limit - size) 0
  can-extend whole m index headed marked = let size_is = are.size_is in let limit_is = are.limit_is in
      can-count_more z whole are.possible m index base (limit - size) 0
      (kept-written z z.memory m z.spec.size _ (kept-first z whole are.possible) (headed-read m headed) whole.low)
      (ap length marked ∙ length-set z.index _ _) are.base_is (omega arith) (omega arith)

  -- no free block lies below the lowest one before
  pub low-extend : IsLayout z → (m : State) (index : List ℕ) → m ≡ with_bytes z.memory size (head_bytes heads base (record { size = limit - size; role = Free; correction = 0 }))
      → index ≡ set z.index (size / 4) free_mark → NoneLower base (big_number 4 (part m.bytes lowest_field 4)) (size / 4) index
  low-extend whole m index headed marked = none-lower z m index base (size / 4)
      (kept-written z z.memory m z.spec.size _ (kept-first z whole are.possible) (headed-read m headed) whole.low)
      are.base_is (set-after z.index index (size / 4) free_mark (size / 4) marked (omega arith))

module _ (z : Inside) (whole : IsLayout z) where
  -- how many bytes there are up to the limit
  pub length-spare : length (layout_of z).spare ≡ z.spec.limit - z.spec.size
  length-spare = length-drop z.spec.size z.memory.bytes ∙ ap (λ (n : ℕ). n - z.spec.size) whole.all_bytes

  -- a zone at its limit does not grow
  pub extended-same : z.spec.size ≡ z.spec.limit → layout_of z ≡ extended (layout_of z)
  extended-same full = let long = length-spare in extended-nil (layout_of z) (nil_from_length (layout_of z).spare (omega arith))

  -- none of the bytes after the last block is lent
  pub spare-free : (p n : ℕ) → p ≡ z.spec.size → IsFree z.memory.lent p n
  spare-free p n there = let ends = total-ends z whole in
      free-same z.memory.lent (lent_spans z.spec.heads zone_header (layout_of z).blocks) p n whole.lent (apart-below z.spec.heads zone_header p n (layout_of z).blocks (omega arith))

  -- nor is where the zone's header has its end
  pub end-free : (ss : List Span) → ss ≡ z.memory.lent → IsFree ss end_field 4
  end-free ss same = subst (λ (ss : List Span). IsFree ss end_field 4) (sym same)
      (free-same z.memory.lent (lent_spans z.spec.heads zone_header (layout_of z).blocks) end_field 4 whole.lent (apart-above z.spec.heads zone_header end_field 4 (layout_of z).blocks (omega arith)))

module _ (z : Inside) (whole : IsLayout z) (small : ArePossible z.spec) (more : z.spec.size < z.spec.limit) where
  -- the index has a number for the first bytes after the last block
  pub room-marked : z.spec.size / 4 < length z.index
  room-marked = let l = layout_of z in let is : length z.index ≡ length (starts_of l) = ap length whole.marked in let spare = length-spare z whole in let ends = total-ends z whole in
      let long = length-marks_of l.heads l.blocks whole.possible in let enough = small.growth more in
      let a = length-append (unmarked (zone_header / 4)) (marks_of l.heads l.blocks ++ unmarked (length l.spare / 4)) in
      let b = length-append (marks_of l.heads l.blocks) (unmarked (length l.spare / 4)) in let c = length-unmarked (zone_header / 4) in let d = length-unmarked (length l.spare / 4) in omega arith

  -- the bytes that come to it
  abbrev left : ℕ
  left = z.spec.limit - z.spec.size

  -- the free block that they are
  abbrev added : RawBlock
  added = free_raw_block (drop (head_size z.spec.heads) (layout_of z).spare)

  -- the blocks then
  abbrev blocks : List RawBlock
  blocks = (layout_of z).blocks ++ added ∷ []

  -- the zone then
  abbrev after : Layout
  after = record (layout_of z) { blocks = blocks; spare = [] }

  after-is : after ≡ extended (layout_of z)
  after-is = let long = length-spare z whole in
      ap (λ (bs : List RawBlock). record (layout_of z) { blocks = (layout_of z).blocks ++ bs; spare = [] }) (sym (free_block_of-some z.spec.heads (layout_of z).spare (omega arith)))

  size-added : size_of z.spec.heads added ≡ left
  size-added = let long = length-spare z whole in let rest = length-drop (head_size z.spec.heads) (layout_of z).spare in let few = sizes-few z.spec.heads in
      let few' = few.0 in let enough = small.growth more in omega arith

  added-possible : IsTrue (is_possible z.spec.heads added)
  added-possible = let size = size-added in let enough = small.growth more in let few = sizes-few z.spec.heads in let few' = few.1 in
      let even = small.even_size in let even' = small.even_limit in
      is_possible-from z.spec.heads added (record { even = omega arith; large = omega arith; few = omega arith; told = refl; lendable = refl })

  all-possible : IsTrue (list_all (is_possible z.spec.heads) blocks)
  all-possible = possible-with z.spec.heads (layout_of z).blocks (added ∷ []) whole.possible (ap (λ b. b && true) added-possible)

  total-after : zone_header + total_of z.spec.heads blocks ≡ z.spec.limit
  total-after = let sum = total_of-append z.spec.heads (layout_of z).blocks (added ∷ []) in let ends = total-ends z whole in let size = size-added in omega arith

  -- its header, as it is written
  abbrev head : List ℕ
  head = head_bytes z.spec.heads z.spec.base (record { size = left; role = Free; correction = 0 })

  -- the bytes after the zone's header
  abbrev following : List ℕ
  following = rendered z.spec.heads z.spec.base blocks ++ []

  -- its header makes the bytes up to the limit a block
  headed : written z.memory.bytes z.spec.size head ≡ header_bytes (layout_of z) ++ following
  headed = let l = layout_of z in let k = head_size z.spec.heads in let old = rendered z.spec.heads z.spec.base l.blocks in
      let few = sizes-few z.spec.heads in let few' = few.0 in let enough = small.growth more in let long = length-spare z whole in
      let a = length-append (header_bytes l) old in let b = length-header l in let c = length-rendered z.spec.heads z.spec.base l.blocks in let d = total-ends z whole in
      let e = length-take-le k l.spare (omega arith) in let f = length-head_bytes z.spec.heads z.spec.base (record { size = left; role = Free; correction = 0 }) in
      let apart : z.memory.bytes ≡ (header_bytes l ++ old) ++ (take k l.spare ++ drop k l.spare) =
      whole.form ∙ sym (append_assoc (header_bytes l) old l.spare) ∙ ap (λ (xs : List ℕ). (header_bytes l ++ old) ++ xs) (sym (take-append-drop k l.spare)) in
      let one : rendered z.spec.heads z.spec.base (added ∷ []) ≡ head ++ drop k l.spare =
      ap (λ (n : ℕ). head_bytes z.spec.heads z.spec.base (record { size = n; role = Free; correction = 0 }) ++ (drop k l.spare ++ [])) size-added
      ∙ ap (λ (xs : List ℕ). head ++ xs) (append-nil (drop k l.spare)) in
      ap (λ (xs : List ℕ). written xs z.spec.size head) apart
      ∙ written-middle (header_bytes l ++ old) (take k l.spare) (drop k l.spare) head z.spec.size (omega arith) (omega arith)
      ∙ append_assoc (header_bytes l) old (head ++ drop k l.spare)
      ∙ ap (λ (xs : List ℕ). header_bytes l ++ xs)
      (ap (λ (xs : List ℕ). old ++ xs) (sym one) ∙ sym (rendered-append z.spec.heads z.spec.base l.blocks (added ∷ [])) ∙ sym (append-nil (rendered z.spec.heads z.spec.base blocks)))

  -- its number in the index
  marked : set z.index (z.spec.size / 4) free_mark ≡ starts_of after
  marked = let l = layout_of z in let heads = z.spec.heads in let first = unmarked (zone_header / 4) ++ marks_of heads l.blocks in
      let long = length-spare z whole in let enough = small.growth more in let even = small.even_size in let even' = small.even_limit in
      let a = length-append (unmarked (zone_header / 4)) (marks_of heads l.blocks) in let b = length-unmarked (zone_header / 4) in
      let c = length-marks_of heads l.blocks whole.possible in let d = total-ends z whole in
      let rest : unmarked (length l.spare / 4) ≡ 0 ∷ unmarked (left / 4 - 1) = ap (λ (n : ℕ). unmarked n) (let e : length l.spare / 4 ≡ suc (left / 4 - 1) = omega arith in e) in
      let old : z.index ≡ first ++ 0 ∷ unmarked (left / 4 - 1) =
      whole.marked ∙ sym (append_assoc (unmarked (zone_header / 4)) (marks_of heads l.blocks) (unmarked (length l.spare / 4))) ∙ ap (λ (ms : List ℕ). first ++ ms) rest in
      let new : starts_of after ≡ first ++ free_mark ∷ unmarked (left / 4 - 1) =
      ap (λ (ms : List ℕ). unmarked (zone_header / 4) ++ (ms ++ [])) (marks_of-append heads l.blocks (added ∷ []) ∙ ap (λ (n : ℕ). marks_of heads l.blocks ++ free_mark ∷ (unmarked (n / 4 - 1) ++ [])) size-added)
      ∙ simp (append_assoc, append-nil) in
      ap (λ (ms : List ℕ). set ms (z.spec.size / 4) free_mark) old ∙ set_at first 0 (unmarked (left / 4 - 1)) free_mark (z.spec.size / 4) (omega arith) ∙ sym new

  -- the zone's header says so, and the zone has grown
  pub extends : (m n : State) (spec : ZoneSizes) (index : List ℕ) → m ≡ with_bytes z.memory z.spec.size head → index ≡ set z.index (z.spec.size / 4) free_mark
      → n ≡ with_bytes (counted m z.spec.base left 0 (first_marked z.spec.base index)) end_field (big_bytes 4 (z.spec.base + z.spec.limit))
      → spec ≡ record { heads = z.spec.heads; base = z.spec.base; size = z.spec.limit; limit = z.spec.limit }
      → IsRead (record { spec = spec; memory = n; index = index; loans = z.loans; kept = z.kept }) (extended (layout_of z))
  extends m n spec index is set_is settles grown =
      let l = layout_of z in let heads = z.spec.heads in let limit = small.small_enough in let end = small.end_low_enough in let top = end-small z.spec.heads in let bottom = small.base_high_enough in let low = whole.low in
      let kept = kept-written z z.memory m z.spec.size head (kept-first z whole small) is low in
      let bytes : m.bytes ≡ header_bytes l ++ following = ap (λ (s : State). s.bytes) is ∙ headed in
      let free : big_number 4 (part m.bytes free_field 4) + left - 0 ≡ free_total heads blocks =
      let a = free-append heads l.blocks (added ∷ []) in let b = size-added in let c = kept.free in omega arith in
      let marks : index ≡ starts_of after = set_is ∙ marked in
      let lowest : first_marked z.spec.base index ≡ first_free heads (z.spec.base + zone_header) blocks = ap (first_marked z.spec.base) marks ∙ first_marked-starts after all-possible in
      let start : z.spec.base + zone_header ≡ address_after l [] = omega arith in let first = first_free heads (address_after l []) l.blocks in
      let total = total-after in
      let stop : z.spec.base + z.spec.limit ≡ address_after after blocks = omega arith in
      let image : n.bytes ≡ image_of after =
      ap (λ (s : State). s.bytes) settles
      ∙ (λ i. written (written (written (bytes i) free_field (big_bytes 4 (free i))) lowest_field (big_bytes 4 (lowest i))) end_field (big_bytes 4 (stop i)))
      ∙ ap (λ (xs : List ℕ). written (written xs lowest_field (big_bytes 4 (first_free heads (z.spec.base + zone_header) blocks))) end_field (big_bytes 4 (address_after after blocks)))
      (free-written (address_after l l.blocks) l.front (free_total heads l.blocks) first following (free_total heads blocks))
      ∙ ap (λ (xs : List ℕ). written xs end_field (big_bytes 4 (address_after after blocks)))
      (lowest-written (address_after l l.blocks) l.front (free_total heads blocks) first following (first_free heads (z.spec.base + zone_header) blocks))
      ∙ end-written (address_after l l.blocks) l.front (free_total heads blocks) (first_free heads (z.spec.base + zone_header) blocks) following (address_after after blocks)
      ∙ ap (λ (k : ℕ). zone_head (address_after after blocks) l.front (free_total heads blocks) (first_free heads k blocks) ++ following) start in
      let long : length n.bytes ≡ z.spec.limit = ap (λ (s : State). length s.bytes) settles ∙ length-written _ end_field _ ∙ length-written _ lowest_field _ ∙ length-written m.bytes free_field _ ∙ kept.long in
      let lent : n.lent ≡ z.memory.lent = ap (λ (s : State). s.lent) settles ∙ kept.lent in
      let name : n.name ≡ z.memory.name = ap (λ (s : State). s.name) settles ∙ kept.name in
      let counts = count-append l.blocks (added ∷ []) in let loans = whole.loans in
      let read = image-read (record { spec = record { heads = heads; base = z.spec.base; size = z.spec.limit; limit = z.spec.limit }; memory = n; index = index; loans = z.loans; kept = z.kept })
      z.memory.name l.front blocks [] name (front-fits z whole) total all-possible (omega arith) (omega arith) (omega arith) long image marks
      (λ s. ap (times s) lent ∙ whole.lent s ∙ ap (times s) (sym (spans-append heads zone_header l.blocks (added ∷ []) ∙ append-nil (lent_spans heads zone_header l.blocks))))
      (omega arith) whole.few in
      subst (λ (s : ZoneSizes). IsRead (record { spec = s; memory = n; index = index; loans = z.loans; kept = z.kept }) (extended l)) (sym grown)
      (subst (IsRead (record { spec = record { heads = heads; base = z.spec.base; size = z.spec.limit; limit = z.spec.limit }; memory = n; index = index; loans = z.loans; kept = z.kept })) after-is read)
