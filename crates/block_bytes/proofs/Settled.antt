-- What a change of blocks is, once the zone's header says how many bytes are free and where the lowest free block is.
use Rattle.std.proofs.Common.{◌≡◌, ℕ, ◌+◌, ◌-◌, ◌<◌, ◌≤◌, ◌^◌, Bool, true, false, List, [], ◌∷◌, ◌++◌, refl, sym, ap, subst, ◌∙◌, arith, IsTrue}
use Rattle.std.specs.Prelude.{if◌then◌else◌}
use Rattle.std.specs.List.{list_all}
use Rattle.std.proofs.lemmas.List.Folds.{list_all-append}
use Rattle.byteorder.specs.Endian.{big_bytes, big_number}
use Rattle.mac_base.specs.declared.block.HeadKind.{HeadKind}
use Rattle.mac_base.specs.HeadKind.{head_size, zone_header}
use Rattle.mac_base.specs.ZoneSizes.{ArePossible}
use Rattle.mac_base.proofs.Reach.{end-small}
use Rattle.raw_region.specs.Bytes.{part, written, length-written}
use Rattle.raw_region.specs.Span.{IsFree}
use Rattle.raw_region.specs.State.{State, with_bytes}
use Rattle.block_bytes.specs.declared.blocks.Blocks.TheInside.{Inside}
use Rattle.block_bytes.specs.ZoneHead.{front_field, free_field, lowest_field, zone_head}
use Rattle.block_bytes.specs.Layout.{RawBlock, is_free, size_of, total_of, free_total, first_free, lent_count, is_possible, rendered, image_of, with_blocks, with_front, address_after}
use Rattle.block_bytes.specs.Starts.{first_marked, starts_of}
use Rattle.block_bytes.specs.Reading.{layout_of, IsLayout, lent_spans, times}
use Rattle.block_bytes.proofs.Rendered.{total_of-append}
use Rattle.block_bytes.proofs.ReadBlocks.{and-true}
use Rattle.block_bytes.proofs.ZoneHeads.{front-small, front-written, free-read, free-written, lowest-written}
use Rattle.block_bytes.proofs.Starts.{first_marked-starts}
use Rattle.block_bytes.proofs.Spans.{apart-above, apart-head, apart-middle, free-same, none-same, spans-none, AllUnlent, spans-all_unlent, count-replaced, spans-replaced}
use Rattle.block_bytes.proofs.Parts.{IsRead, image-read, stale_image, total-ends, possible-with, changed}

-- no more bytes are free than there are
pub free-within : (heads : HeadKind) (bs : List RawBlock) → free_total heads bs ≤ total_of heads bs
free-within heads [] = omega arith
free-within heads (b ∷ bs) = either (is_free b.role) (size_of heads b) (free-within heads bs)
  where
    either : (free : Bool) (n : ℕ) → free_total heads bs ≤ total_of heads bs → (if free then n else 0) + free_total heads bs ≤ n + total_of heads bs
    either true n more = omega arith
    either false n more = omega arith

-- how many bytes are free in two lists of blocks
pub free-append : (heads : HeadKind) (xs ys : List RawBlock) → free_total heads (xs ++ ys) ≡ free_total heads xs + free_total heads ys
free-append heads [] ys = omega arith
free-append heads (b ∷ bs) ys = let more = free-append heads bs ys in omega arith

-- the number of the free slots fits four bytes
pub front-fits : (z : Inside) → IsLayout z → (layout_of z).front < 2 ^ 32
front-fits z whole = let l = layout_of z in subst (λ (m : List ℕ). big_number 4 (part m front_field 4) < 2 ^ 32) (sym whole.form)
    (front-small (address_after l l.blocks) l.front (free_total l.heads l.blocks) (first_free l.heads (address_after l []) l.blocks) (rendered l.heads l.base l.blocks ++ l.spare))

-- the memory after the header says so
abbrev pub counted : State → ℕ → ℕ → ℕ → ℕ → State
counted m base gained lost lowest = with_bytes (with_bytes m free_field (big_bytes 4 (big_number 4 (part m.bytes free_field 4) + gained - lost))) lowest_field (big_bytes 4 lowest)

module _ (z : Inside) (whole : IsLayout z) where
  -- the free bytes are few
  pub free-few : free_total z.spec.heads (layout_of z).blocks ≤ z.spec.size
  free-few = let ends = total-ends z whole in let within = free-within z.spec.heads (layout_of z).blocks in omega arith

  -- the zone's header isn't lent
  pub header-free : IsFree z.memory.lent 0 zone_header
  header-free = free-same z.memory.lent (lent_spans z.spec.heads zone_header (layout_of z).blocks) 0 zone_header whole.lent
      (apart-above z.spec.heads zone_header 0 zone_header (layout_of z).blocks (omega arith))

  -- nor is the header of a block
  pub head-free : (before : List RawBlock) (here : RawBlock) (after : List RawBlock) → (layout_of z).blocks ≡ before ++ here ∷ after → (p : ℕ) → p ≡ zone_header + total_of z.spec.heads before
      → IsFree z.memory.lent p (head_size z.spec.heads)
  head-free before here after is p there = free-same z.memory.lent (lent_spans z.spec.heads zone_header (before ++ here ∷ after)) p (head_size z.spec.heads)
      (λ s. whole.lent s ∙ ap (λ (bs : List RawBlock). times s (lent_spans z.spec.heads zone_header bs)) is) (apart-head z.spec.heads zone_header p before here after there)

  -- nor any byte of blocks that aren't lent
  pub unlent-free : (before mid after : List RawBlock) → (layout_of z).blocks ≡ before ++ (mid ++ after) → AllUnlent mid → (p n : ℕ) → zone_header + total_of z.spec.heads before ≤ p
      → p + n ≤ zone_header + total_of z.spec.heads before + total_of z.spec.heads mid → IsFree z.memory.lent p n
  unlent-free before mid after is unlent p n low high = free-same z.memory.lent (lent_spans z.spec.heads zone_header (before ++ (mid ++ after))) p n
      (λ s. whole.lent s ∙ ap (λ (bs : List RawBlock). times s (lent_spans z.spec.heads zone_header bs)) is)
      (apart-middle z.spec.heads zone_header p n before mid after (spans-all_unlent z.spec.heads (zone_header + total_of z.spec.heads before) mid after unlent) low high)

module _ (z : Inside) (whole : IsLayout z) (small : ArePossible z.spec) where
  -- the free bytes are read where the header is as it was
  pub free-counted : (m : State) (bs : List RawBlock) → m.bytes ≡ stale_image (layout_of z) bs → big_number 4 (part m.bytes free_field 4) ≡ free_total z.spec.heads (layout_of z).blocks
  free-counted m bs is = let l = layout_of z in let ends = total-ends z whole in let within = free-within l.heads l.blocks in let limit = small.small_enough in let high = whole.high in
      ap (λ (m : List ℕ). big_number 4 (part m free_field 4)) is
      ∙ free-read (address_after l l.blocks) l.front (free_total l.heads l.blocks) (first_free l.heads (address_after l []) l.blocks) (rendered l.heads l.base bs ++ l.spare) (omega arith)

  -- blocks stand for others, none of them lent; then the header is written
  pub replaced : (before old new after : List RawBlock) → (layout_of z).blocks ≡ before ++ (old ++ after) → AllUnlent old → AllUnlent new
      → total_of z.spec.heads new ≡ total_of z.spec.heads old → IsTrue (list_all (is_possible z.spec.heads) new)
      → (m n : State) (index : List ℕ) (base gained lost : ℕ) → m.name ≡ z.memory.name → m.lent ≡ z.memory.lent → m.bytes ≡ stale_image (layout_of z) (before ++ (new ++ after))
      → index ≡ starts_of (with_blocks (before ++ (new ++ after)) (layout_of z)) → base ≡ z.spec.base → free_total z.spec.heads new + lost ≡ free_total z.spec.heads old + gained
      → n ≡ counted m base gained lost (first_marked base index)
      → IsRead (record z { memory = n; index = index }) (with_blocks (before ++ (new ++ after)) (layout_of z))
  replaced before old new after is unlent unlent' same possible m n index base gained lost named lent bytes marks base_is balance settles =
      let l = layout_of z in let heads = z.spec.heads in let bs = before ++ (new ++ after) in let rest = rendered heads l.base bs ++ l.spare in
      let parts = and-true (list_all (is_possible heads) before) (list_all (is_possible heads) (old ++ after))
      (sym (list_all-append (is_possible heads) before (old ++ after)) ∙ sym (ap (list_all (is_possible heads)) is) ∙ whole.possible) in
      let parts' = and-true (list_all (is_possible heads) old) (list_all (is_possible heads) after) (sym (list_all-append (is_possible heads) old after) ∙ parts.1) in
      let all : IsTrue (list_all (is_possible heads) bs) = possible-with heads before (new ++ after) parts.0 (possible-with heads new after possible parts'.1) in
      let total : total_of heads bs ≡ total_of heads l.blocks =
      let a = total_of-append heads before (new ++ after) in let b = total_of-append heads new after in let c = total_of-append heads before (old ++ after) in let d = total_of-append heads old after in
      let e = ap (total_of heads) is in omega arith in
      let free : big_number 4 (part m.bytes free_field 4) + gained - lost ≡ free_total heads bs =
      let a = free-append heads before (new ++ after) in let b = free-append heads new after in let c = free-append heads before (old ++ after) in let d = free-append heads old after in
      let e = ap (free_total heads) is in let f = free-counted m bs bytes in omega arith in
      let lowest : first_marked base index ≡ first_free heads (l.base + zone_header) bs = (λ i. first_marked (base_is i) (marks i)) ∙ first_marked-starts (with_blocks bs l) all in
      let end : address_after l l.blocks ≡ address_after l bs = omega arith in
      let start : l.base + zone_header ≡ address_after l [] = omega arith in let low = first_free heads (address_after l []) l.blocks in
      let head : n.bytes ≡ image_of (with_blocks bs l) =
      ap (λ (s : State). s.bytes) settles
      ∙ (λ i. written (written (bytes i) free_field (big_bytes 4 (free i))) lowest_field (big_bytes 4 (lowest i)))
      ∙ ap (λ (xs : List ℕ). written xs lowest_field (big_bytes 4 (first_free heads (l.base + zone_header) bs))) (free-written (address_after l l.blocks) l.front (free_total heads l.blocks) low rest (free_total heads bs))
      ∙ lowest-written (address_after l l.blocks) l.front (free_total heads bs) low rest (first_free heads (l.base + zone_header) bs)
      ∙ (λ i. zone_head (end i) l.front (free_total heads bs) (first_free heads (start i) bs) ++ rest) in
      changed z whole small bs n index z.loans (ap (λ (s : State). s.name) settles ∙ named) head total all marks
      (λ s. ap (times s) (ap (λ (s : State). s.lent) settles ∙ lent) ∙ whole.lent s
      ∙ ap (λ (cs : List RawBlock). times s (lent_spans heads zone_header cs)) is ∙ ap (times s) (sym (spans-replaced before old new after unlent unlent' heads zone_header same)))
      (whole.loans ∙ ap lent_count is ∙ sym (count-replaced before old new after unlent unlent')) whole.few (front-fits z whole)

-- where no block is lent, nothing of the memory is
pub nothing-lent : (z : Inside) → IsLayout z → lent_count (layout_of z).blocks ≡ 0 → z.memory.lent ≡ []
nothing-lent z whole none = none-same z.memory.lent (λ s. whole.lent s ∙ ap (times s) (spans-none z.spec.heads zone_header (layout_of z).blocks none))

-- the number of the free slots is written
pub front-changed : (z : Inside) → IsLayout z → ArePossible z.spec → (n : ℕ) → n < 2 ^ 32 → IsRead (record z { memory = with_bytes z.memory front_field (big_bytes 4 n) }) (with_front n (layout_of z))
front-changed z whole small n told = let l = layout_of z in let limit = small.small_enough in let end = small.end_low_enough in let top = end-small z.spec.heads in let bottom = small.base_high_enough in
    image-read (record z { memory = with_bytes z.memory front_field (big_bytes 4 n) }) z.memory.name n l.blocks l.spare refl told (total-ends z whole) whole.possible (omega arith) (omega arith) whole.high
    (length-written z.memory.bytes front_field (big_bytes 4 n) ∙ whole.all_bytes)
    (ap (λ (m : List ℕ). written m front_field (big_bytes 4 n)) whole.form
    ∙ front-written (address_after l l.blocks) l.front (free_total l.heads l.blocks) (first_free l.heads (address_after l []) l.blocks) (rendered l.heads l.base l.blocks ++ l.spare) n)
    whole.marked whole.lent whole.loans whole.few
