-- Two blocks of bytes of one list, by their addresses.
use Rattle.std.proofs.Common.{◌≡◌, ℕ, ◌+◌, ◌≤◌, ◌<◌, List, [], ◌∷◌, ◌++◌, refl, ap, sym, ◌∙◌, arith, ◌⊎◌, inl, inr}
use Rattle.mac_base.specs.declared.block.HeadKind.{HeadKind}
use Rattle.block_bytes.specs.Layout.{RawBlock, Layout, BlockAt, size_of, total_of, address_after}
use Rattle.block_bytes.proofs.ReadBlocks.{head_size-positive}
use Rattle.zone_records.proofs.Apart.{total-append}

-- of two places of a list, the first block ends at or below the second, or the second at or below the first, or they
-- are one
ranked : (heads : HeadKind) (xs : List RawBlock) (a : RawBlock) (bs cs : List RawBlock) (c : RawBlock) (ds : List RawBlock) → xs ++ a ∷ bs ≡ cs ++ c ∷ ds
    → (total_of heads xs + size_of heads a ≤ total_of heads cs) ⊎ ((total_of heads cs + size_of heads c ≤ total_of heads xs) ⊎ ((total_of heads xs ≡ total_of heads cs) × (a ≡ c)))
ranked heads [] a bs [] c ds same = inr (inr (refl, cc same))
ranked heads [] a bs (y ∷ cs) c ds same = let is : a ≡ y = cc same in let size = ap (size_of heads) is in inl (omega arith)
ranked heads (x ∷ xs) a bs [] c ds same = let is : x ≡ c = cc same in let size = ap (size_of heads) is in inr (inl (omega arith))
ranked heads (x ∷ xs) a bs (y ∷ cs) c ds same =
    let is : x ≡ y = cc same in
    let size = ap (size_of heads) is in
    elim (ranked heads xs a bs cs c ds (let rest : xs ++ a ∷ bs ≡ cs ++ c ∷ ds = cc same in rest)) [
      | inl below ↦ inl (omega arith)
      | inr (inl above) ↦ inr (inl (omega arith))
      | inr (inr one) ↦ (let total = one.0 in inr (inr (omega arith, one.1)))
    ]

-- so of two blocks
pub rank : (l : Layout) (x y : ℕ) (b : BlockAt l x) (c : BlockAt l y) → (x + size_of l.heads b.here ≤ y) ⊎ ((y + size_of l.heads c.here ≤ x) ⊎ ((x ≡ y) × (b.here ≡ c.here)))
rank l x y b c =
    let here = b.place in
    let there = c.place in
    elim (ranked l.heads b.before b.here b.after c.before c.here c.after (sym b.blocks ∙ c.blocks)) [
      | inl below ↦ inl (omega arith)
      | inr (inl above) ↦ inr (inl (omega arith))
      | inr (inr one) ↦ (let total = one.0 in inr (inr (omega arith, one.1)))
    ]

-- two blocks that have one byte are one
pub one-block : (l : Layout) (x y at : ℕ) (b : BlockAt l x) (c : BlockAt l y) → x ≤ at → at < x + size_of l.heads b.here → y ≤ at → at < y + size_of l.heads c.here → (x ≡ y) × (b.here ≡ c.here)
one-block l x y at b c low high low_too high_too = elim (rank l x y b c) [
  | inl below ↦ absurd (omega arith)
  | inr (inl above) ↦ absurd (omega arith)
  | inr (inr one) ↦ one
]

-- the block at an address is among the blocks, and ends with them or below
pub within : (l : Layout) (at : ℕ) (b : BlockAt l at) → (address_after l [] ≤ at) × (at + size_of l.heads b.here ≤ address_after l l.blocks)
within l at b =
    let place = b.place in
    let total = ap (total_of l.heads) b.blocks ∙ total-append l.heads b.before (b.here ∷ b.after) in
    (omega arith, omega arith)

-- no block before the first has a byte
pub none_before : (l : Layout) (bs : List RawBlock) → total_of l.heads bs ≡ 0 → bs ≡ []
none_before l [] none = refl
none_before l (b ∷ bs) none = let some = head_size-positive l.heads in absurd (omega arith)
