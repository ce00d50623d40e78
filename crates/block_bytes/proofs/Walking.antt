-- A walk over the blocks of a zone, from one to the one after it.
use Rattle.std.proofs.Common.{◌≡◌, ℕ, ◌+◌, ◌-◌, ◌<◌, ◌≤◌, Bool, true, false, List, [], ◌∷◌, ◌++◌, length, refl, ap, sym, ◌∙◌, arith, append_assoc, length-append, IsTrue}
use Rattle.std.specs.Prelude.{◌&&◌, ◌||◌, ◌==◌, ◌%◌, not, nat_le}
use Rattle.std.specs.List.{list_all}
use Rattle.std.proofs.lemmas.List.Folds.{list_all-append}
use Rattle.std.proofs.Math.Seq.{take-length, drop-length}
use Rattle.std.proofs.lemmas.Bool.Decides.{nat_tests}
use Rattle.mac_base.specs.declared.block.HeadKind.{HeadKind}
use Rattle.mac_base.specs.declared.block.HeadKind.TheVariants.{Bits24, Bits32}
use Rattle.mac_base.specs.HeadKind.{head_size, smallest_block}
use Rattle.block_bytes.specs.Head.{most_over}
use Rattle.block_bytes.specs.declared.header.Header.{Header}
use Rattle.block_bytes.specs.declared.header.Role.TheVariants.{Free}
use Rattle.block_bytes.specs.Layout.{RawBlock, Layout, BlockAt, body, raw_block, free_raw_block, size_of, header_of, total_of, has_owner, can_be_told, is_possible, address_after}
use Rattle.block_bytes.proofs.ReadBlocks.{IsPossible, IsPossible-from}
use Rattle.block_bytes.proofs.Rendered.{total_of-append}

-- no block is empty
pub size_of-pos : (heads : HeadKind) (b : RawBlock) → 0 < size_of heads b
size_of-pos Bits24 b = omega arith
size_of-pos Bits32 b = omega arith

-- a walk has come to this address: the blocks before it, which all pass a test, and the others
pub record Reached (l : Layout) (at : ℕ) (p : RawBlock → Bool) : Type 0 where
  pub before : List RawBlock
  pub rest : List RawBlock
  pub blocks : l.blocks ≡ before ++ rest
  pub place : at ≡ address_after l before
  pub passed : IsTrue (list_all p before)

-- a block after blocks that all pass a test
pub record BlockAfter (l : Layout) (at : ℕ) (p : RawBlock → Bool) : Type 0 where
  pub block : BlockAt l at
  pub passed : IsTrue (list_all p block.before)

-- where the blocks of two runs end
ends : (l : Layout) (bs cs : List RawBlock) → l.blocks ≡ bs ++ cs → address_after l l.blocks ≡ address_after l bs + total_of l.heads cs
ends l bs cs e = let total = ap (total_of l.heads) e in let sum = total_of-append l.heads bs cs in omega arith

-- below the end, there is a block
pub block-reached : (l : Layout) (at : ℕ) (p : RawBlock → Bool) → Reached l at p → at < address_after l l.blocks → BlockAfter l at p
block-reached l at p r below = from r.before r.rest r.blocks r.place r.passed
  where
    from : (bs cs : List RawBlock) → l.blocks ≡ bs ++ cs → at ≡ address_after l bs → IsTrue (list_all p bs) → BlockAfter l at p
    from bs [] e place passed = let end = ends l bs [] e in absurd (omega arith)
    from bs (b ∷ cs) e place passed = record { block = record { before = bs; here = b; after = cs; blocks = e; place = place }; passed = passed }

-- a block ends where the blocks do, or before
pub block-below : (l : Layout) (at : ℕ) (b : BlockAt l at) → at + size_of l.heads b.here ≤ address_after l l.blocks
block-below l at b = let end = ends l b.before (b.here ∷ b.after) b.blocks in let place = b.place in omega arith

-- the walk goes on after a block that passes the test
pub reached-next : (l : Layout) (at next : ℕ) (p : RawBlock → Bool) (b : BlockAfter l at p) → next ≡ at + size_of l.heads b.block.here → p b.block.here ≡ true → Reached l next p
reached-next l at next p b e pass = record {
  before = b.block.before ++ b.block.here ∷ [];
  rest = b.block.after;
  blocks = b.block.blocks ∙ sym (append_assoc b.block.before (b.block.here ∷ []) b.block.after);
  place = let sum = total_of-append l.heads b.block.before (b.block.here ∷ []) in let place = b.block.place in omega arith;
  passed = let sum = list_all-append p b.block.before (b.block.here ∷ []) in let passed = b.passed in grind (arith, nat_tests);
}

-- the block after a block, where that isn't the last
pub block-next : (l : Layout) (at next : ℕ) (b : BlockAt l at) → next ≡ at + size_of l.heads b.here → next < address_after l l.blocks → BlockAt l next
block-next l at next b e below = (block-reached l next (λ b. true) (reached-next l at next (λ b. true) (record { block = b; passed = all b.before }) e refl) below).block
  where
    all : (bs : List RawBlock) → IsTrue (list_all (λ b. true) bs)
    all [] = refl
    all (b ∷ bs) = all bs

-- a block that ends where the blocks do is the last
pub block-last : (l : Layout) (at : ℕ) (b : BlockAt l at) → address_after l l.blocks ≤ at + size_of l.heads b.here → b.after ≡ []
block-last l at b after = from b.after b.blocks
  where
    from : (cs : List RawBlock) → l.blocks ≡ b.before ++ b.here ∷ cs → cs ≡ []
    from [] e = refl
    from (c ∷ cs) e = let end = ends l b.before (b.here ∷ c ∷ cs) e in let place = b.place in let size = size_of-pos l.heads c in absurd (omega arith)

-- what all blocks pass, the one at an address does
pub block-passes : (l : Layout) (at : ℕ) (p : RawBlock → Bool) (b : BlockAt l at) → IsTrue (list_all p l.blocks) → p b.here ≡ true
block-passes l at p b all = let sum = list_all-append p b.before (b.here ∷ b.after) in let all' : list_all p (b.before ++ b.here ∷ b.after) ≡ true = ap (list_all p) (sym b.blocks) ∙ all in grind (arith, nat_tests)

-- all bytes of a free block are its contents
pub held-free : (bytes : List ℕ) → raw_block Free (length bytes) bytes ≡ free_raw_block bytes
held-free bytes = λ i. record { role = Free; contents = take-length bytes i; slack = drop-length bytes i; lent = false }

-- a block that is one by its parts passes the tests
pub is_possible-from : (heads : HeadKind) (b : RawBlock) → IsPossible heads b → IsTrue (is_possible heads b)
is_possible-from heads b p = let size = size_of heads b in let slack = length b.slack in
    let told = can_be_told heads b.role slack in let lendable = not b.lent || has_owner b.role in
    let even : (size % 4 == 0) ≡ true = grind (arith, nat_tests, p.even) in
    let large : nat_le (smallest_block heads) size ≡ true = grind (arith, nat_tests, p.large) in
    let few : nat_le slack (most_over heads) ≡ true = grind (arith, nat_tests, p.few) in
    ap (λ (t : Bool). t && (nat_le (smallest_block heads) size && (nat_le slack (most_over heads) && (told && lendable)))) even
    ∙ ap (λ (t : Bool). t && (nat_le slack (most_over heads) && (told && lendable))) large ∙ ap (λ (t : Bool). t && (told && lendable)) few ∙ ap (λ (t : Bool). t && lendable) p.told ∙ p.lendable

-- a block that is possible is so if it is free
pub possible-free : (heads : HeadKind) (b : RawBlock) (n : ℕ) → n ≡ length (body b) → IsTrue (is_possible heads b) → IsTrue (is_possible heads (raw_block Free n (body b)))
possible-free heads b n long possible = let p = IsPossible-from heads b possible in let even = p.even in let large = p.large in
    let same : size_of heads (free_raw_block (body b)) ≡ size_of heads b = let sum = length-append b.contents b.slack in omega arith in
    ap (λ n. is_possible heads (raw_block Free n (body b))) long ∙ ap (is_possible heads) (held-free (body b))
    ∙ is_possible-from heads (free_raw_block (body b)) (record { even = omega arith; large = omega arith; few = omega arith; told = refl; lendable = refl })

-- the bytes after a block's header, as the header says them
pub length-body : (heads : HeadKind) (b : RawBlock) (h : Header) (k : ℕ) → h ≡ header_of heads b → k ≡ head_size heads → h.size - k ≡ length (body b)
length-body heads b h k said head = let size : h.size ≡ size_of heads b = ap (λ (h : Header). h.size) said in let sum = length-append b.contents b.slack in omega arith
