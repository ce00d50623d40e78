-- The blocks that have a byte of a range.
use Rattle.std.proofs.Common.{◌≡◌, ℕ, ◌+◌, ◌-◌, ◌<◌, ◌≤◌, ◌⊎◌, inl, inr, List, [], ◌∷◌, ◌++◌, refl, ap, sym, ◌∙◌, subst, arith, append_assoc}
use Rattle.std.proofs.lemmas.Bool.{cases_lt}
use Rattle.mac_base.specs.declared.block.HeadKind.{HeadKind}
use Rattle.mac_base.specs.HeadKind.{zone_header}
use Rattle.block_bytes.specs.Finding.{HoldsByte, SplitAt}
use Rattle.block_bytes.specs.Layout.{RawBlock, Layout, BlockAt, size_of, total_of, address_after}
use Rattle.block_bytes.specs.Structure.{HasHead, begun_before}
use Rattle.block_bytes.proofs.Begun.{begun-one, one-begun}
use Rattle.block_bytes.proofs.Walking.{size_of-pos}
use Rattle.zone_records.specs.declared.structure.Agreement.{Agreement}
use Rattle.zone_records.specs.declared.structure.Written.{Written}
use Rattle.zone_records.specs.Masters.{BlocksAgree, BlocksSame}
use Rattle.zone_records.specs.Reading.{AreSound}
use Rattle.zone_records.specs.Structure.{Means}
use Rattle.zone_records.specs.Written.{HasByte, RangeAgrees, RangeSame}
use Rattle.zone_records.proofs.Apart.{total-append}
use Rattle.zone_records.proofs.Between.{Tells}
use Rattle.zone_records.proofs.MasterBlocks.{block-end}
use Rattle.zone_records.proofs.Meaning.{means-same}
use Rattle.zone_records.proofs.Ranked.{rank, within}
use Rattle.zone_records.proofs.Touched.{agree-one, agree-made, same-one, same-made}

-- a block of a list split elsewhere that begins no lower is among those after the split
record Later (before following xs : List RawBlock) (b : RawBlock) (ys : List RawBlock) : Type 0 where
  passed : List RawBlock
  first : xs ≡ before ++ passed
  rest : following ≡ passed ++ b ∷ ys

later : (heads : HeadKind) (before following xs : List RawBlock) (b : RawBlock) (ys : List RawBlock) → before ++ following ≡ xs ++ b ∷ ys → total_of heads before ≤ total_of heads xs → Later before following xs b ys
later heads [] following xs b ys is low = record { passed = xs; first = refl; rest = is }
later heads (a ∷ before) following [] b ys is low = let some = size_of-pos heads a in absurd (omega arith)
later heads (a ∷ before) following (x ∷ xs) b ys is low =
    let first : a ≡ x = cc is in
    let rest : before ++ following ≡ xs ++ b ∷ ys = cc is in
    let size = ap (size_of heads) first in
    let more = later heads before following xs b ys rest (omega arith) in
    record { passed = more.passed; first = λ i. sym first i ∷ more.first i; rest = more.rest }

-- the blocks of a range: the first begins at an address, and all begin before another
pub record HasBlocks (l : Layout) (w : Written) (start end : ℕ) : Type 0 where
  pub first : BlockAt l start
  pub any : 0 < w.count
  pub low : (at : ℕ) → w.from ≤ at → zone_header ≤ at → start ≤ l.base + at
  pub high : l.base + w.from < start + size_of l.heads first.here
  pub ends : end ≤ l.base + w.from + w.count
  pub all : (l.base + w.from + w.count ≤ end) ⊎ (0xFFFF_FFFF ≤ end)

module _ (l : Layout) (sound : AreSound l) (bytes : List ℕ) (w : Written) where
  module _ (start end : ℕ) (has : HasBlocks l w start end) (s : SplitAt l start) where
    abbrev blocks : List RawBlock
    blocks = begun_before l.heads start end s.after

    -- a block is among these
    record Among (begins : ℕ) (b : RawBlock) : Type 0 where
      passed : List RawBlock
      more : List RawBlock
      is : blocks ≡ passed ++ b ∷ more
      place : start - l.base + total_of l.heads passed ≡ begins - l.base

    among-later : (begins : ℕ) (b : BlockAt l begins) → start ≤ begins → begins < end → Later s.before s.after b.before b.here b.after → Among begins b.here
    among-later begins b after begun o =
        let place = b.place in
        let there = s.place in
        let total = ap (total_of l.heads) o.first ∙ total-append l.heads s.before o.passed in
        record {
          passed = o.passed;
          more = begun_before l.heads (start + total_of l.heads o.passed + size_of l.heads b.here) end b.after;
          is = ap (begun_before l.heads start end) o.rest ∙ begun-one l.heads end start o.passed b.here b.after (omega arith);
          place = omega arith;
        }

    -- so is one that has a byte of the range
    among : (at begins : ℕ) → HasByte w at → (h : HoldsByte l (l.base + at) begins) → Among begins h.block.here
    among at begins byte h =
        let b = h.block in
        let place = b.place in
        let there = s.place in
        let low = h.low in
        let high = h.high in
        let reached = has.low at byte.0 (omega arith) in
        let below = byte.1 in
        let some = size_of-pos l.heads b.here in
        let inside = (block-end l sound begins b).0 in
        let after : start ≤ begins = elim (rank l start begins has.first b) [
          | inl before ↦ omega arith
          | inr (inl following) ↦ absurd (omega arith)
          | inr (inr same) ↦ (let e = same.0 in omega arith)
        ] in
        let begun : begins < end = elim has.all [ inl exact ↦ omega arith | inr highest ↦ omega arith ] in
        among-later begins b after begun (later l.heads s.before s.after b.before b.here b.after (sym s.blocks ∙ b.blocks) (omega arith))

    -- one of these has a byte of the range
    record Touched (begins : ℕ) (b : RawBlock) : Type 0 where
      at : ℕ
      byte : HasByte w at
      holds : HoldsByte l (l.base + at) begins
      same : holds.block.here ≡ b

    touched-there : (begins : ℕ) (b : BlockAt l begins) → start ≤ begins → begins < end → Touched begins b.here
    touched-there begins b after begun =
        let place = b.place in
        let some = size_of-pos l.heads b.here in
        let ends = has.ends in
        let high = has.high in
        let any = has.any in
        let meets : l.base + w.from < begins + size_of l.heads b.here = elim (rank l start begins has.first b) [
          | inl before ↦ omega arith
          | inr (inl following) ↦ absurd (omega arith)
          | inr (inr same) ↦ (let e = same.0 in let size = ap (size_of l.heads) same.1 in omega arith)
        ] in
        elim (cases_lt (begins - l.base) w.from) [
          | inl inside ↦ record { at = w.from; byte = (omega arith, omega arith); holds = record { block = b; low = omega arith; high = meets }; same = refl }
          | inr following ↦ record { at = begins - l.base; byte = (following, omega arith); holds = record { block = b; low = omega arith; high = omega arith }; same = refl }
        ]

    touched : (xs : List RawBlock) (b : RawBlock) (ys : List RawBlock) → blocks ≡ xs ++ b ∷ ys → Touched (start + total_of l.heads xs) b
    touched xs b ys is =
        let o = one-begun l.heads end start s.after xs b ys is in
        let there = s.place in
        let total = total-append l.heads s.before xs in
        touched-there (start + total_of l.heads xs)
        (record {
          before = s.before ++ xs;
          here = b;
          after = o.rest;
          blocks = s.blocks ∙ ap (λ (bs : List RawBlock). s.before ++ bs) o.blocks ∙ sym (append_assoc s.before xs (b ∷ o.rest));
          place = omega arith;
        })
        (omega arith) o.low

    module _ (P : ℕ → List RawBlock → Type 0) where
      -- what holds of these blocks, and so of each, holds of each that has a byte of the range
      from-blocks : ((at : ℕ) (xs : List RawBlock) (b : RawBlock) (ys : List RawBlock) → P at (xs ++ b ∷ ys) → P (at + total_of l.heads xs) (b ∷ [])) → P (start - l.base) blocks
          → (at begins : ℕ) → HasByte w at → (h : HoldsByte l (l.base + at) begins) → P (begins - l.base) (h.block.here ∷ [])
      from-blocks one holds at begins byte h =
          let a = among at begins byte h in
          subst (λ n. P n (h.block.here ∷ [])) a.place (one (start - l.base) a.passed h.block.here a.more (subst (P (start - l.base)) a.is holds))

      -- and what holds of each of these, and so of them all, does
      to-blocks : ((at : ℕ) (bs : List RawBlock) → ((xs : List RawBlock) (b : RawBlock) (ys : List RawBlock) → bs ≡ xs ++ b ∷ ys → P (at + total_of l.heads xs) (b ∷ [])) → P at bs)
          → ((at begins : ℕ) → HasByte w at → (h : HoldsByte l (l.base + at) begins) → P (begins - l.base) (h.block.here ∷ [])) → P (start - l.base) blocks
      to-blocks made each = made (start - l.base) blocks (λ xs b ys is.
          let begins = start + total_of l.heads xs in
          let there = s.place in
          let place : begins - l.base ≡ start - l.base + total_of l.heads xs = omega arith in
          let t = touched xs b ys is in
          subst (λ n. P n (b ∷ [])) place (subst (λ (c : RawBlock). P (begins - l.base) (c ∷ [])) t.same (each t.at begins t.byte t.holds)))

    -- bytes agree with what the range touches as they do with these blocks
    pub range-tells : (w.from < zone_header → HasHead l bytes) → (a : Agreement) → Tells l bytes a (start - l.base) blocks → Means a (RangeAgrees l bytes w) (RangeSame l bytes w)
    range-tells head a told =
        means-same _ _ _ _ a
        (λ agrees. record { head = λ at byte low. head (let from = byte.0 in omega arith); blocks = from-blocks (BlocksAgree l bytes) (agree-one l bytes) agrees })
        (λ range. to-blocks (BlocksAgree l bytes) (agree-made l bytes) range.blocks)
        (λ _ same. from-blocks (BlocksSame l bytes) (same-one l bytes) same)
        (λ _ same. to-blocks (BlocksSame l bytes) (same-made l bytes) same)
        told

  -- a range whose bytes lie after all blocks touches none
  pub range-outside : (w.from < zone_header → HasHead l bytes) → ((at : ℕ) → w.from ≤ at → zone_header ≤ at → address_after l l.blocks ≤ l.base + at) → RangeAgrees l bytes w × RangeSame l bytes w
  range-outside head above = (record { head = λ at byte low. head (let from = byte.0 in omega arith); blocks = λ at begins byte h. absurd (none at begins byte h) }, λ at begins byte h. absurd (none at begins byte h))
    where
      none : (at begins : ℕ) → HasByte w at → HoldsByte l (l.base + at) begins → ⊥
      none at begins byte h =
          let place = h.block.place in
          let low = h.low in
          let high = h.high in
          let ends = within l begins h.block in
          let reached = above at byte.0 (omega arith) in
          absurd (omega (arith, ends.1))
