-- The blocks that are read off the bytes and the index of a list of blocks are that list.
use Rattle.std.proofs.Common.{◌≡◌, ℕ, zero, suc, ◌-◌, ◌/◌, ◌^◌, ◌<◌, ◌≤◌, Bool, true, false, List, [], ◌∷◌, ◌++◌, length, drop, slice_index, replicate, refl, sym, ap, ◌∙◌, arith, append_assoc, length-append, take_at, drop_at, IsTrue}
use Rattle.std.specs.Prelude.{◌&&◌, ◌||◌, ◌==◌, ◌%◌, not, nat_le, if◌then◌else◌}
use Rattle.std.specs.List.{list_all}
use Rattle.std.proofs.lemmas.Bool.Decides.{nat_tests}
use Rattle.std.proofs.lemmas.List.{length-replicate}
use Rattle.mac_base.specs.declared.block.HeadKind.{HeadKind}
use Rattle.mac_base.specs.declared.block.HeadKind.TheVariants.{Bits24, Bits32}
use Rattle.mac_base.specs.HeadKind.{head_size, smallest_block, address_end}
use Rattle.raw_region.specs.Bytes.{part}
use Rattle.block_bytes.specs.declared.header.Header.{Header}
use Rattle.block_bytes.specs.Head.{most_over, head_bytes, header_in}
use Rattle.block_bytes.specs.Layout.{RawBlock, raw_block, body, is_free, has_owner, size_of, total_of, header_of, can_be_told, is_possible, rendered}
use Rattle.block_bytes.specs.Starts.{lent_mark, mark_of, marks_of}
use Rattle.block_bytes.specs.Reading.{raw_block_in, blocks_in}
use Rattle.block_bytes.proofs.Heads.{length-head_bytes, header_in-head_bytes}
use Rattle.block_bytes.proofs.Rendered.{length-rendered, part-middle}

-- both of two tests hold
pub and-true : (a b : Bool) → IsTrue (a && b) → IsTrue a × IsTrue b
and-true true b both = (refl, both)
and-true false b both = let no : false ≡ true = both in cc

-- what a possible block is
pub record IsPossible (heads : HeadKind) (b : RawBlock) : Type 0 where
  pub even : size_of heads b % 4 ≡ 0
  pub large : smallest_block heads ≤ size_of heads b
  pub few : length b.slack ≤ most_over heads
  pub told : IsTrue (can_be_told heads b.role (length b.slack))
  pub lendable : IsTrue (not b.lent || has_owner b.role)

-- the tests say so
pub IsPossible-from : (heads : HeadKind) (b : RawBlock) → IsTrue (is_possible heads b) → IsPossible heads b
IsPossible-from heads b possible = let size = size_of heads b in let slack = length b.slack in
    let told = can_be_told heads b.role slack in let lendable = not b.lent || has_owner b.role in
    let p = and-true (size % 4 == 0) (nat_le (smallest_block heads) size && (nat_le slack (most_over heads) && (told && lendable))) possible in
    let q = and-true (nat_le (smallest_block heads) size) (nat_le slack (most_over heads) && (told && lendable)) p.1 in
    let r = and-true (nat_le slack (most_over heads)) (told && lendable) q.1 in
    let s = and-true told lendable r.1 in
    record { even = grind (arith, nat_tests, p.0); large = grind (arith, nat_tests, q.0); few = grind (arith, nat_tests, r.0); told = s.0; lendable = s.1 }

-- every block has a header
pub head_size-positive : (heads : HeadKind) → 0 < head_size heads
head_size-positive Bits24 = omega arith
head_size-positive Bits32 = omega arith

-- the smallest block has 12 bytes or more
pub smallest-block : (heads : HeadKind) → 12 ≤ smallest_block heads
smallest-block Bits24 = omega arith
smallest-block Bits32 = omega arith

-- the number of a block says whether it is lent
pub lent-marked : (heads : HeadKind) (b : RawBlock) → (mark_of heads b == lent_mark) ≡ b.lent
lent-marked heads b = by_mark b.lent (is_free b.role)
  where
    by_mark : (lent free : Bool) → ((if lent then 2 else (if free then 3 else 1)) == 2) ≡ lent
    by_mark true free = refl
    by_mark false true = refl
    by_mark false false = refl

-- one block is read, and then the others
blocks_in-more : (n : ℕ) (heads : HeadKind) (marks xs : List ℕ) (h : Header) → 0 < length xs → header_in heads xs ≡ h
    → blocks_in (suc n) heads marks xs ≡ raw_block_in heads h (slice_index marks 0 == lent_mark) xs ∷ blocks_in n heads (drop (h.size / 4) marks) (drop h.size xs)
blocks_in-more n heads marks [] h some is = absurd (omega arith)
blocks_in-more n heads marks (x ∷ xs) h some is =
    ap (λ (h : Header). raw_block_in heads h (slice_index marks 0 == lent_mark) (x ∷ xs) ∷ blocks_in n heads (drop (h.size / 4) marks) (drop h.size (x ∷ xs))) is

-- the contents and the bytes over of a body
held-body : (heads : HeadKind) (b : RawBlock) (lent : Bool) (bytes : List ℕ) (n : ℕ) → lent ≡ b.lent → bytes ≡ body b → n ≡ length b.contents → record (raw_block b.role n bytes) { lent = lent } ≡ b
held-body heads b lent bytes n said is long =
    (λ i. record (raw_block b.role n (is i)) { lent = said i })
    ∙ (λ i. record { role = b.role; contents = take_at b.contents b.slack n (sym long) i; slack = drop_at b.contents b.slack n (sym long) i; lent = b.lent })

-- the block at the front of its bytes is read
held_in-rendered : (heads : HeadKind) (base : ℕ) (b : RawBlock) (lent : Bool) (rest : List ℕ) → lent ≡ b.lent
    → raw_block_in heads (header_of heads b) lent (head_bytes heads base (header_of heads b) ++ (body b ++ rest)) ≡ b
held_in-rendered heads base b lent rest said =
    let head = head_bytes heads base (header_of heads b) in
    let long = length-head_bytes heads base (header_of heads b) in let sum = length-append b.contents b.slack in
    held-body heads b lent (part (head ++ (body b ++ rest)) (head_size heads) (size_of heads b - head_size heads)) (size_of heads b - head_size heads - length b.slack) said
    (part-middle head (body b) rest (head_size heads) (size_of heads b - head_size heads) (omega arith) (omega arith)) (omega arith)

-- the bytes after it are those of the others
pub drop-rendered : (heads : HeadKind) (base : ℕ) (b : RawBlock) (rest : List ℕ)
    → drop (size_of heads b) (head_bytes heads base (header_of heads b) ++ (body b ++ rest)) ≡ rest
drop-rendered heads base b rest =
    let head = head_bytes heads base (header_of heads b) in
    let long = length-head_bytes heads base (header_of heads b) in let sum = length-append b.contents b.slack in let sum' = length-append head (body b) in
    ap (drop (size_of heads b)) (sym (append_assoc head (body b) rest)) ∙ drop_at (head ++ body b) rest (size_of heads b) (omega arith)

-- the numbers after its own are those of the others
drop-marks : (m k n : ℕ) (rest : List ℕ) → n ≡ suc k → drop n (m ∷ (replicate k 0 ++ rest)) ≡ rest
drop-marks m k n rest is = ap (λ (j : ℕ). drop j (m ∷ (replicate k 0 ++ rest))) is ∙ drop_at (replicate k 0) rest k (length-replicate {A = ℕ} k 0)

-- the bytes of a block and of those after it
pub rendered-more : (heads : HeadKind) (base : ℕ) (b : RawBlock) (bs : List RawBlock)
    → rendered heads base (b ∷ bs) ≡ head_bytes heads base (header_of heads b) ++ (body b ++ rendered heads base bs)
rendered-more heads base b bs = ap (λ (l : List ℕ). head_bytes heads base (header_of heads b) ++ l) (sym (append_assoc b.contents b.slack (rendered heads base bs)))

-- what is rendered is read
pub blocks_in-rendered : (heads : HeadKind) (base n : ℕ) (bs : List RawBlock) (others : List ℕ) → IsTrue (list_all (is_possible heads) bs) → total_of heads bs < address_end heads → base < 2 ^ 32
    → total_of heads bs ≤ n → blocks_in n heads (marks_of heads bs ++ others) (rendered heads base bs) ≡ bs
blocks_in-rendered heads base zero [] others possible small low fuel = refl
blocks_in-rendered heads base (suc n) [] others possible small low fuel = refl
blocks_in-rendered heads base zero (b ∷ bs) others possible small low fuel = let head = head_size-positive heads in absurd (omega arith)
blocks_in-rendered heads base (suc n) (b ∷ bs) others possible small low fuel =
    let both = and-true (is_possible heads b) (list_all (is_possible heads) bs) possible in
    let here = IsPossible-from heads b both.0 in
    let positive = head_size-positive heads in let some = smallest-block heads in let large = here.large in
    let bytes = head_bytes heads base (header_of heads b) ++ (body b ++ rendered heads base bs) in
    let marks = mark_of heads b ∷ (replicate (size_of heads b / 4 - 1) 0 ++ (marks_of heads bs ++ others)) in
    let marks-is : marks_of heads (b ∷ bs) ++ others ≡ marks = ap (λ (l : List ℕ). mark_of heads b ∷ l) (append_assoc (replicate (size_of heads b / 4 - 1) 0) (marks_of heads bs) others) in
    let long : length bytes ≡ total_of heads (b ∷ bs) = ap length (sym (rendered-more heads base b bs)) ∙ length-rendered heads base (b ∷ bs) in
    let head : header_in heads bytes ≡ header_of heads b =
    header_in-head_bytes heads base (header_of heads b) (body b ++ rendered heads base bs) (omega arith) here.few here.told low in
    let rest : blocks_in n heads (marks_of heads bs ++ others) (rendered heads base bs) ≡ bs = blocks_in-rendered heads base n bs others both.1 (omega arith) low (omega arith) in
    (λ i. blocks_in (suc n) heads (marks-is i) (rendered-more heads base b bs i))
    ∙ blocks_in-more n heads marks bytes (header_of heads b) (omega arith) head
    ∙ (λ i. held_in-rendered heads base b (mark_of heads b == lent_mark) (rendered heads base bs) (lent-marked heads b) i
    ∷ blocks_in n heads (drop-marks (mark_of heads b) (size_of heads b / 4 - 1) (size_of heads b / 4) (marks_of heads bs ++ others) (omega arith) i) (drop-rendered heads base b (rendered heads base bs) i))
    ∙ ap (λ (l : List RawBlock). b ∷ l) rest
