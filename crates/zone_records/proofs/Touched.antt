-- Bytes that differ only in ranges from bytes with a zone's structure and flags.
use Rattle.std.proofs.Common.{◌≡◌, ℕ, ◌+◌, ◌-◌, ◌*◌, ◌<◌, ◌≤◌, ◌⊎◌, inl, inr, List, [], ◌∷◌, ◌++◌, length, slice_index, refl, ap, sym, ◌∙◌, subst, arith}
use Rattle.std.specs.List.{AllByRecursion}
use Rattle.std.proofs.lemmas.Bool.{cases_lt}
use Rattle.std.proofs.lemmas.Grind.{same_number_lists}
use Rattle.mac_base.specs.HeadKind.{head_size, slot_count, zone_header}
use Rattle.raw_region.specs.Bytes.{part}
use Rattle.raw_region.proofs.Indexes.{index-part}
use Rattle.raw_region.proofs.Laws.{length-part}
use Rattle.block_bytes.specs.Finding.{HoldsByte}
use Rattle.block_bytes.specs.Layout.{RawBlock, Layout, BlockAt, image_of, size_of, total_of, address_after}
use Rattle.block_bytes.specs.Structure.{HasHead}
use Rattle.block_bytes.proofs.Structures.{headers-rest}
use Rattle.block_bytes.proofs.Walking.{size_of-pos}
use Rattle.zone_records.specs.declared.structure.Agreement.{Agreement}
use Rattle.zone_records.specs.declared.structure.Written.{Written}
use Rattle.zone_records.specs.Masters.{SlotsAgree, SlotsSame, BlocksAgree, BlocksSame, slot_of}
use Rattle.zone_records.specs.Reading.{AreSound}
use Rattle.zone_records.specs.Records.{ZoneRecords}
use Rattle.zone_records.specs.Structure.{Means, Agrees}
use Rattle.zone_records.specs.Written.{DifferIn, HasByte, IsIn, RangeAgrees, RangeSame}
use Rattle.zone_records.proofs.Held.{Held}
use Rattle.zone_records.proofs.MasterBlocks.{block-end, contents-long, each-made, each-rest, image-long}
use Rattle.zone_records.proofs.Meaning.{means-same}
use Rattle.zone_records.proofs.Structures.{flags-from, flags-to, structure-agrees, structure-head_is, structure-made}
use Rattle.zone_records.proofs.WrongBytes.{headers-made, shown-same, slot-kept}

-- ---- blocks one by one

module _ (l : Layout) (bytes : List ℕ) where
  -- bytes agree with blocks exactly where they do with each
  pub agree-one : (at : ℕ) (xs : List RawBlock) (b : RawBlock) (ys : List RawBlock) → BlocksAgree l bytes at (xs ++ b ∷ ys) → BlocksAgree l bytes (at + total_of l.heads xs) (b ∷ [])
  agree-one at xs b ys all = record { headers = ((headers-rest l bytes at xs (b ∷ ys) all.headers).0, tt); masters = ((each-rest (SlotsAgree l.heads bytes slot_count) l.heads at xs (b ∷ ys) all.masters).0, tt) }

  pub agree-made : (at : ℕ) (bs : List RawBlock) → ((xs : List RawBlock) (b : RawBlock) (ys : List RawBlock) → bs ≡ xs ++ b ∷ ys → BlocksAgree l bytes (at + total_of l.heads xs) (b ∷ [])) → BlocksAgree l bytes at bs
  agree-made at bs each = record {
    headers = headers-made l bytes at bs (λ xs b ys is. (each xs b ys is).headers.0);
    masters = each-made (SlotsAgree l.heads bytes slot_count) l.heads at bs (λ xs b ys is. (each xs b ys is).masters.0);
  }

  -- so they say the same flags
  pub same-one : (at : ℕ) (xs : List RawBlock) (b : RawBlock) (ys : List RawBlock) → BlocksSame l bytes at (xs ++ b ∷ ys) → BlocksSame l bytes (at + total_of l.heads xs) (b ∷ [])
  same-one at xs b ys all = ((each-rest (SlotsSame l.heads bytes slot_count) l.heads at xs (b ∷ ys) all).0, tt)

  pub same-made : (at : ℕ) (bs : List RawBlock) → ((xs : List RawBlock) (b : RawBlock) (ys : List RawBlock) → bs ≡ xs ++ b ∷ ys → BlocksSame l bytes (at + total_of l.heads xs) (b ∷ [])) → BlocksSame l bytes at bs
  same-made at bs each = each-made (SlotsSame l.heads bytes slot_count) l.heads at bs (λ xs b ys is. (each xs b ys is).0)

-- the block at a place of the list
abbrev pub block_there : (l : Layout) (xs : List RawBlock) (b : RawBlock) (ys : List RawBlock) → l.blocks ≡ xs ++ b ∷ ys → BlockAt l (address_after l xs)
block_there l xs b ys is = record { before = xs; here = b; after = ys; blocks = is; place = refl }

-- ---- ranges

-- a range has a byte between two offsets, or none
record Meets (w : Written) (low high : ℕ) : Type 0 where
  at : ℕ
  has : HasByte w at
  above : low ≤ at
  below : at < high

meets : (w : Written) (low high : ℕ) → low < high → Meets w low high ⊎ ((at : ℕ) → low ≤ at → at < high → HasByte w at → ⊥)
meets w low high some = elim (cases_lt low (w.from + w.count)) [
  | inr ends ↦ inr (λ at above below has. let a = has.1 in omega arith)
  | inl starts ↦ elim (cases_lt low w.from) [
    | inr from ↦ inl (record { at = low; has = (from, starts); above = omega arith; below = some })
    | inl after ↦ elim (cases_lt w.from high) [
      | inr following ↦ inr (λ at above below has. let a = has.0 in omega arith)
      | inl inside ↦ elim (cases_lt 0 w.count) [
        | inr none ↦ inr (λ at above below has. let a = has.0 in let b = has.1 in omega arith)
        | inl any ↦ inl (record { at = w.from; has = (omega arith, omega arith); above = omega arith; below = inside })
      ]
    ]
  ]
]

-- what follows from a range with a byte there holds, or no range has one
pick : (P : Type 0) (R : Written → Type 0) (low high : ℕ) → low < high → ((w : Written) (at : ℕ) → HasByte w at → low ≤ at → at < high → R w → P) → (ws : List Written) → AllByRecursion R ws
    → P ⊎ ((at : ℕ) → low ≤ at → at < high → IsIn ws at → ⊥)
pick P R low high some from [] all = inr (λ at above below is. is)
pick P R low high some from (w ∷ ws) all = elim (meets w low high some) [
  | inl m ↦ inl (from w m.at m.has m.above m.below all.0)
  | inr none ↦ elim (pick P R low high some from ws all.1) [
    | inl holds ↦ inl holds
    | inr others ↦ inr (λ at above below is. elim is [ inl own ↦ none at above below own | inr more ↦ others at above below more ])
  ]
]

-- ---- bytes that are alike somewhere

-- two lists are as long, and have the same bytes between two offsets
record AreAlike (bytes before : List ℕ) (low high : ℕ) : Type 0 where
  long : length bytes ≡ length before
  fits : high ≤ length before
  same : (at : ℕ) → low ≤ at → at < high → slice_index bytes at ≡ slice_index before at

part-alike : (bytes before : List ℕ) (low high at n : ℕ) → AreAlike bytes before low high → low ≤ at → at + n ≤ high → part bytes at n ≡ part before at n
part-alike bytes before low high at n alike above below =
    let long = alike.long in
    let fits = alike.fits in
    let own = length-part bytes at n (omega arith) in
    let theirs = length-part before at n (omega arith) in
    same_number_lists (part bytes at n) (part before at n) (own ∙ sym theirs) (λ k few.
    let is : at + k - at ≡ k = omega arith in
    ap (slice_index (part bytes at n)) (sym is) ∙ index-part bytes at n (at + k) (omega arith) (omega arith) ∙ alike.same (at + k) (omega arith) (omega arith)
    ∙ sym (index-part before at n (at + k) (omega arith) (omega arith)) ∙ ap (slice_index (part before at n)) is)

module _ (l : Layout) (sound : AreSound l) (bytes before : List ℕ) (start : ℕ) (b : BlockAt l start) (alike : AreAlike bytes before (start - l.base) (start - l.base + size_of l.heads b.here)) where
  -- where bytes are alike, they agree with the block as others do
  agree-alike : BlocksAgree l before (start - l.base) (b.here ∷ []) → BlocksAgree l bytes (start - l.base) (b.here ∷ [])
  agree-alike was = record {
    headers = (part-alike bytes before _ _ (start - l.base) (head_size l.heads) alike (omega arith) (omega arith) ∙ was.headers.0, tt);
    masters = (
      λ master k few.
          let at = start - l.base + head_size l.heads + 4 * k in
          let long = contents-long l sound start b master in
          slot-kept l.heads before bytes at (slot_of l.heads b.here.contents k) (part-alike bytes before _ _ at 4 alike (omega arith) (omega arith)) (alike.same at (omega arith) (omega arith)) (was.masters.0 master k few),
      tt,
    );
  }

  same-alike : BlocksSame l before (start - l.base) (b.here ∷ []) → BlocksSame l bytes (start - l.base) (b.here ∷ [])
  same-alike was = (
    λ master k few.
        let at = start - l.base + head_size l.heads + 4 * k in
        let long = contents-long l sound start b master in
        shown-same l.heads before bytes at (slot_of l.heads b.here.contents k) (alike.same at (omega arith) (omega arith)) ∙ was.0 master k few,
    tt,
  )

-- the blocks that ranges touch agree where all do
module _ (l : Layout) (bytes : List ℕ) where
  at-block : (P : ℕ → List RawBlock → Type 0) → ((at : ℕ) (xs : List RawBlock) (b : RawBlock) (ys : List RawBlock) → P at (xs ++ b ∷ ys) → P (at + total_of l.heads xs) (b ∷ []))
      → P zone_header l.blocks → (start : ℕ) (b : BlockAt l start) → P (start - l.base) (b.here ∷ [])
  at-block P one all start b =
      let place = b.place in
      subst (λ n. P n (b.here ∷ [])) (let e : zone_header + total_of l.heads b.before ≡ start - l.base = omega arith in e) (one zone_header b.before b.here b.after (subst (P zone_header) b.blocks all))

  ranges-agree : HasHead l bytes → BlocksAgree l bytes zone_header l.blocks → (ws : List Written) → AllByRecursion (RangeAgrees l bytes) ws
  ranges-agree head all [] = tt
  ranges-agree head all (w ∷ ws) = (record { head = λ at has low. head; blocks = λ at start has h. at-block (BlocksAgree l bytes) (agree-one l bytes) all start h.block }, ranges-agree head all ws)

  ranges-same : BlocksSame l bytes zone_header l.blocks → (ws : List Written) → AllByRecursion (RangeSame l bytes) ws
  ranges-same all [] = tt
  ranges-same all (w ∷ ws) = (λ at start has h. at-block (BlocksSame l bytes) (same-one l bytes) all start h.block, ranges-same all ws)

-- ---- a zone

module _ (l : Layout) (z : ZoneRecords) (held : Held l z) (bytes : List ℕ) (ws : List Written) (told : DifferIn z bytes ws) where
  was-head : HasHead l told.before
  was-head = structure-head_is l told.before z held told.structure

  -- there are as many bytes as the zone's
  pub whole : length bytes ≡ length (image_of l)
  whole = told.long ∙ was-head.all

  -- the zone's header is there where ranges that have a byte of it say so
  told-head : AllByRecursion (RangeAgrees l bytes) ws → HasHead l bytes
  told-head all =
      let long = image-long l in
      let many = was-head.all in
      elim (pick (HasHead l bytes) (RangeAgrees l bytes) 0 zone_header (omega arith) (λ w at has above below r. r.head at has below) ws all) [
        | inl head ↦ head
        | inr none ↦ record {
          all = whole;
          head = part-alike bytes told.before 0 zone_header 0 zone_header (record { long = told.long; fits = omega arith; same = λ at above below. told.same at (none at above below) }) (omega arith) (omega arith) ∙ was-head.head;
        }
      ]

  -- where no range has a byte of a block, all are as before
  block-alike : (start : ℕ) (b : BlockAt l start) → ((at : ℕ) → start - l.base ≤ at → at < start - l.base + size_of l.heads b.here → IsIn ws at → ⊥)
      → AreAlike bytes told.before (start - l.base) (start - l.base + size_of l.heads b.here)
  block-alike start b none = let end = (block-end l held.sound start b).1 in let many = was-head.all in record { long = told.long; fits = omega arith; same = λ at above below. told.same at (none at above below) }

  -- so what holds of a block where a range has a byte of it, and where no range has, holds of each
  each-told : (P : ℕ → RawBlock → Type 0) (R : Written → Type 0) → ((w : Written) (at start : ℕ) → R w → HasByte w at → (h : HoldsByte l (l.base + at) start) → P (start - l.base) h.block.here)
      → ((start : ℕ) (b : BlockAt l start) → AreAlike bytes told.before (start - l.base) (start - l.base + size_of l.heads b.here) → P (start - l.base) b.here)
      → AllByRecursion R ws → (xs : List RawBlock) (b : RawBlock) (ys : List RawBlock) → l.blocks ≡ xs ++ b ∷ ys → P (zone_header + total_of l.heads xs) b
  each-told P R own as_before all xs b ys is =
      let start = address_after l xs in
      let block = block_there l xs b ys is in
      let some : 0 < size_of l.heads b = size_of-pos l.heads b in
      let place : start - l.base ≡ zone_header + total_of l.heads xs = omega arith in
      subst (λ n. P n b) place
      (elim (pick (P (start - l.base) b) R (start - l.base) (start - l.base + size_of l.heads b) (omega arith) (λ w at has above below r. own w at start r has (record { block = block; low = omega arith; high = omega arith })) ws all) [
        | inl holds ↦ holds
        | inr none ↦ as_before start block (block-alike start block none)
      ])

  told-blocks : AllByRecursion (RangeAgrees l bytes) ws → BlocksAgree l bytes zone_header l.blocks
  told-blocks all =
      agree-made l bytes zone_header l.blocks (each-told (λ at b. BlocksAgree l bytes at (b ∷ [])) (RangeAgrees l bytes) (λ w at start r has h. r.blocks at start has h)
      (λ start b alike. agree-alike l held.sound bytes told.before start b alike (at-block l told.before (BlocksAgree l told.before) (agree-one l told.before) (structure-agrees l told.before z held told.structure) start b)) all)

  told-flags : AllByRecursion (RangeSame l bytes) ws → BlocksSame l bytes zone_header l.blocks
  told-flags all =
      same-made l bytes zone_header l.blocks (each-told (λ at b. BlocksSame l bytes at (b ∷ [])) (RangeSame l bytes) (λ w at start r has h. r at start has h)
      (λ start b alike. same-alike l held.sound bytes told.before start b alike (at-block l told.before (BlocksSame l told.before) (same-one l told.before) (flags-to l told.before z held told.flags) start b)) all)

  -- bytes agree with the zone as they do with what ranges touch
  pub agrees-in : (a : Agreement) → Means a (AllByRecursion (RangeAgrees l bytes) ws) (AllByRecursion (RangeSame l bytes) ws) → Agrees z bytes a
  agrees-in a means =
      means-same _ _ _ _ a
      (λ all. structure-made l bytes z held (told-head all) (told-blocks all))
      (λ has. ranges-agree l bytes (structure-head_is l bytes z held has) (structure-agrees l bytes z held has) ws)
      (λ _ same. flags-from l bytes z held (told-flags same))
      (λ _ same. ranges-same l bytes (flags-to l bytes z held same) ws)
      means
