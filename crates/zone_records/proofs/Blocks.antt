-- When a block of bytes that is made of others is sound, and how large it is.
use Rattle.std.proofs.Common.{◌≡◌, ℕ, ◌+◌, ◌-◌, ◌<◌, ◌≤◌, ◌%◌, Bool, true, not, ◌&&◌, ◌||◌, nat_le, List, length, take, drop, refl, ap, sym, ◌∙◌, arith, length-take-le, length-drop}
use Rattle.std.specs.Prelude.{◌==◌}
use Rattle.std.proofs.lemmas.Bool.Decides.{nat_tests}
use Rattle.std.proofs.lemmas.Bool.{and_parts, and_from}
use Rattle.mac_base.specs.declared.block.HeadKind.{HeadKind}
use Rattle.mac_base.specs.declared.block.HeadKind.TheVariants.{Bits24, Bits32}
use Rattle.mac_base.specs.HeadKind.{Shape, head_size, smallest_block}
use Rattle.mac_base.specs.Suits.{is_block_size}
use Rattle.block_bytes.specs.declared.header.Role.{Role}
use Rattle.block_bytes.specs.declared.header.Role.TheVariants as role
use Rattle.block_bytes.specs.Head as head
use Rattle.block_bytes.specs.Layout.{RawBlock, raw_block, free_raw_block, size_of, can_be_told, has_owner, is_possible}
use Rattle.zone_records.specs.Places.{most_over, can_have}
use Rattle.zone_records.specs.Reading.{has_use, is_sound}

-- a header can say so many bytes over
most_same : (heads : HeadKind) → most_over heads ≡ head.most_over heads
most_same Bits24 = refl
most_same Bits32 = refl

-- a size that is that of a block
abbrev pub sized : HeadKind → ℕ → Bool
sized heads size = (size % 4 == 0) && nat_le (smallest_block heads) size

-- it has room for a header and more
pub sized-head : (heads : HeadKind) (size : ℕ) → sized heads size ≡ true → head_size heads < size
sized-head Bits24 size h = grind (arith, nat_tests)
sized-head Bits32 size h = grind (arith, nat_tests)

-- two such sizes make another
pub sized-sum : (heads : HeadKind) (m n : ℕ) → sized heads m ≡ true → sized heads n ≡ true → sized heads (m + n) ≡ true
sized-sum heads m n first second = and_from _ _ (even m n (and_parts _ _ first).0 (and_parts _ _ second).0) (large m n (smallest_block heads) (and_parts _ _ first).1)
  where
    even : (m n : ℕ) → (m % 4 == 0) ≡ true → (n % 4 == 0) ≡ true → ((m + n) % 4 == 0) ≡ true
    even m n p q = grind (arith, nat_tests)

    large : (m n k : ℕ) → nat_le k m ≡ true → nat_le k (m + n) ≡ true
    large m n k p = grind (arith, nat_tests)

-- what a size that can have n bytes is known to be
pub have-parts : (s : Shape) (size n : ℕ) → can_have s size n ≡ true → (sized s.heads size ≡ true) × (head_size s.heads + n ≤ size) × (size ≤ head_size s.heads + n + head.most_over s.heads)
have-parts s size n h =
    let a = and_parts (is_block_size s size) (nat_le (head_size s.heads + n) size && nat_le size (head_size s.heads + n + most_over s.heads)) h in
    let b = and_parts (nat_le (head_size s.heads + n) size) (nat_le size (head_size s.heads + n + most_over s.heads)) a.1 in
    let most = most_same s.heads in
    (a.0, low (head_size s.heads + n) size b.0, low size _ (ap (λ k. nat_le size (head_size s.heads + n + k)) (sym most) ∙ b.1))
  where
    low : (m n : ℕ) → nat_le m n ≡ true → m ≤ n
    low m n h = grind (arith, nat_tests)

-- the parts of a block with this body
pub raw-parts : (heads : HeadKind) (r : Role) (n : ℕ) (bytes : List ℕ) → n ≤ length bytes
    → (length (take n bytes) ≡ n) × (length (drop n bytes) ≡ length bytes - n) × (size_of heads (raw_block r n bytes) ≡ head_size heads + length bytes)
raw-parts heads r n bytes few =
    let front = length-take-le n bytes few in
    let rest = length-drop n bytes in
    (front, rest, omega arith)

-- a block is sound by its parts
pub sound-made : (heads : HeadKind) (base : ℕ) (b : RawBlock) (size : ℕ) → size_of heads b ≡ size → sized heads size ≡ true → length b.slack ≤ head.most_over heads → can_be_told heads b.role (length b.slack) ≡ true → (not b.lent || has_owner b.role) ≡ true
    → has_use base b.role (length b.contents) ≡ true → is_sound heads base b ≡ true
sound-made heads base b size is possible few told owned use_is =
    let parts = and_parts (size % 4 == 0) (nat_le (smallest_block heads) size) possible in
    and_from _ _ (and_from _ _ (ap (λ k. k % 4 == 0) is ∙ parts.0) (and_from _ _ (ap (λ k. nat_le (smallest_block heads) k) is ∙ parts.1)
    (and_from _ _ (le (length b.slack) (head.most_over heads) few) (and_from _ _ told owned)))) use_is
  where
    le : (m n : ℕ) → m ≤ n → nat_le m n ≡ true
    le m n h = grind (arith, nat_tests)

-- so it is possible
pub sound-possible : (heads : HeadKind) (base : ℕ) (b : RawBlock) → is_sound heads base b ≡ true → is_possible heads b ≡ true
sound-possible heads base b h = (and_parts (is_possible heads b) (has_use base b.role (length b.contents)) h).0

-- a block of this body with so many bytes of contents
pub sound-raw : (heads : HeadKind) (base : ℕ) (r : Role) (n : ℕ) (bytes : List ℕ) (size : ℕ) → n ≤ length bytes → head_size heads + length bytes ≡ size → sized heads size ≡ true → size ≤ head_size heads + n + head.most_over heads
    → ((k : ℕ) → k ≡ length bytes - n → can_be_told heads r k ≡ true) → has_use base r n ≡ true → is_sound heads base (raw_block r n bytes) ≡ true
sound-raw heads base r n bytes size few is possible over told use_is =
    let p = raw-parts heads r n bytes few in
    let all = p.2 in
    let rest = p.1 in
    sound-made heads base (raw_block r n bytes) size (omega arith) possible (omega arith) (told (length (drop n bytes)) rest) refl (ap (has_use base r) p.0 ∙ use_is)

-- a free block of this body
pub sound-free : (heads : HeadKind) (base : ℕ) (bytes : List ℕ) (size : ℕ) → head_size heads + length bytes ≡ size → sized heads size ≡ true → is_sound heads base (free_raw_block bytes) ≡ true
sound-free heads base bytes size is possible = sound-made heads base (free_raw_block bytes) size (omega arith) possible (omega arith) refl refl refl

-- a free block has nothing over
pub free-told : (heads : HeadKind) (k : ℕ) → k ≡ 0 → can_be_told heads role.Free k ≡ true
free-told heads k none = ap (λ k. k == 0) none
