-- What is noted of a zone's bytes that changed.
use Rattle.std.proofs.Common.{◌≡◌, ℕ, zero, suc, get_or, ◌+◌, ◌-◌, ◌≤◌, ◌<◌, ◌⊎◌, inl, inr, List, [], ◌∷◌, ◌++◌, length, slice_index, take, sym, ap, subst, ◌∙◌, arith}
use Rattle.std.proofs.lemmas.Bool.{cases_lt}
use Rattle.raw_region.specs.Bytes.{length-written, part, written}
use Rattle.raw_region.proofs.Indexes.{index-part, index-written-apart}
use Rattle.raw_region.proofs.Laws.{length-part, part-written}
use Rattle.block_bytes.specs.declared.record.Range.{Range}
use Rattle.block_bytes.specs.declared.record.Changed.{Changed}
use Rattle.block_bytes.specs.Record.{Adds, AreWithin, IsIn, noted_ranges}

-- a byte that is in one of some ranges is in one of more
in-first : (rs : List Range) (r : Range) (i : ℕ) → IsIn rs i → IsIn (rs ++ r ∷ []) i
in-first [] r i is = absurd is
in-first (q ∷ rs) r i (inl here) = inl here
in-first (q ∷ rs) r i (inr there) = inr (in-first rs r i there)

in-last : (rs : List Range) (r : Range) (i : ℕ) → r.start ≤ i → i < r.start + r.count → IsIn (rs ++ r ∷ []) i
in-last [] r i low high = inl (low, high)
in-last (q ∷ rs) r i low high = inr (in-last rs r i low high)

within-more : (rs : List Range) (r : Range) (most : ℕ) → AreWithin rs most → r.start + r.count ≤ most → AreWithin (rs ++ r ∷ []) most
within-more [] r most all last = (last, tt)
within-more (q ∷ rs) r most all last = (all.0, within-more rs r most all.1 last)

-- one more range is noted
pub adds-range : (old new : Changed) (start n : ℕ) → new.all ≡ old.all → noted_ranges new ≡ noted_ranges old ++ record { start = start; count = n } ∷ [] → Adds old new start n
adds-range old new start n all ranges = let r : Range = record { start = start; count = n } in record {
  stay = λ i noted. elim noted [
    | inl any ↦ inl (all ∙ any)
    | inr is ↦ inr (subst (λ (rs : List Range). IsIn rs i) (sym ranges) (in-first (noted_ranges old) r i is))
  ];
  now = λ i low high. inr (subst (λ (rs : List Range). IsIn rs i) (sym ranges) (in-last (noted_ranges old) r i low high));
  within = λ most fits before. subst (λ (rs : List Range). AreWithin rs most) (sym ranges) (within-more (noted_ranges old) r most before fits);
}

-- the bytes of these ranges are as in the memory, and so are those that were so before
pub record IsCopied (rs : List Range) (bytes old new : List ℕ) : Type 0 where
  pub long : length new ≡ length old
  pub copied : (i : ℕ) → IsIn rs i → slice_index new i ≡ slice_index bytes i
  pub same : (i : ℕ) → slice_index old i ≡ slice_index bytes i → slice_index new i ≡ slice_index bytes i

-- a byte of what was written
index-written-in : (xs : List ℕ) (at : ℕ) (ws : List ℕ) (i : ℕ) → at + length ws ≤ length xs → at ≤ i → i < at + length ws → slice_index (written xs at ws) i ≡ slice_index ws (i - at)
index-written-in xs at ws i fits low high = sym (index-part (written xs at ws) at (length ws) i low high) ∙ ap (λ (ys : List ℕ). slice_index ys (i - at)) (part-written xs at ws fits)

-- each of the ranges is among the bytes
pub within-at : (rs : List Range) (len n i : ℕ) (d : Range) → AreWithin (take len rs) n → i < len → i < length rs → (get_or rs i d).start + (get_or rs i d).count ≤ n
within-at [] len n i d all below inside = absurd (omega arith)
within-at (r ∷ rs) zero n i d all below inside = absurd (omega arith)
within-at (r ∷ rs) (suc len) n zero d all below inside = all.0
within-at (r ∷ rs) (suc len) n (suc i) d all below inside = within-at rs len n i d all.1 (omega arith) (omega arith)

-- a byte in one of some ranges and one more is in one of them or in that one
in-either : (rs : List Range) (r : Range) (i : ℕ) → IsIn (rs ++ r ∷ []) i → IsIn rs i ⊎ ((r.start ≤ i) × (i < r.start + r.count))
in-either [] r i (inl here) = inr here
in-either [] r i (inr there) = absurd there
in-either (q ∷ rs) r i (inl here) = inl (inl here)
in-either (q ∷ rs) r i (inr there) = elim (in-either rs r i there) [ inl first ↦ inl (inr first) | inr last ↦ inr last ]

module _ (rs : List Range) (r : Range) (bytes old now new : List ℕ) (before : IsCopied rs bytes old now) (fits : r.start + r.count ≤ length bytes) (long : length old ≡ length bytes)
    (is : new ≡ written now r.start (part bytes r.start r.count)) where
  -- the bytes of one more range are copied
  one : (i : ℕ) → r.start ≤ i → i < r.start + r.count → slice_index new i ≡ slice_index bytes i
  one i low high =
      let count = length-part bytes r.start r.count fits in let same = before.long in
      ap (λ (xs : List ℕ). slice_index xs i) is ∙ index-written-in now r.start (part bytes r.start r.count) i (omega arith) low (omega arith) ∙ index-part bytes r.start r.count i low high

  others : (i : ℕ) → (i < r.start) ⊎ (r.start + r.count ≤ i) → slice_index new i ≡ slice_index now i
  others i off = ap (λ (xs : List ℕ). slice_index xs i) is ∙ index-written-apart now r.start (part bytes r.start r.count) i
      (subst (λ (n : ℕ). (i < r.start) ⊎ (r.start + n ≤ i)) (sym (length-part bytes r.start r.count fits)) off)

  as_there : (i : ℕ) → slice_index now i ≡ slice_index bytes i → slice_index new i ≡ slice_index bytes i
  as_there i same = elim (cases_lt i r.start) [
    | inl below ↦ others i (inl below) ∙ same
    | inr above ↦ elim (cases_lt i (r.start + r.count)) [ inl within ↦ one i above within | inr beyond ↦ others i (inr beyond) ∙ same ]
  ]

  pub copied-more : IsCopied (rs ++ r ∷ []) bytes old new
  copied-more = record {
    long = ap length is ∙ length-written now r.start (part bytes r.start r.count) ∙ before.long;
    copied = λ i among. elim (in-either rs r i among) [ inl first ↦ as_there i (before.copied i first) | inr last ↦ one i last.0 last.1 ];
    same = λ i same. as_there i (before.same i same);
  }

-- a byte in one of the first ranges
pub in-at : (rs : List Range) (len i : ℕ) (d : Range) (j : ℕ) → i < len → i < length rs → (get_or rs i d).start ≤ j → j < (get_or rs i d).start + (get_or rs i d).count → IsIn (take len rs) j
in-at [] len i d j below inside low high = absurd (omega arith)
in-at (r ∷ rs) zero i d j below inside low high = absurd (omega arith)
in-at (r ∷ rs) (suc len) zero d j below inside low high = inl (low, high)
in-at (r ∷ rs) (suc len) (suc i) d j below inside low high = inr (in-at rs len i d j (omega arith) (omega arith) low high)
