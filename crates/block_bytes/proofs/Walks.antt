-- The bytes of possible blocks walk.
use Rattle.std.proofs.Common.{◌≡◌, ℕ, ◌+◌, ◌%◌, ◌<◌, ◌^◌, List, [], ◌∷◌, ◌++◌, length, map, drop, drop-drop, ap, sym, ◌∙◌, subst, arith, append_assoc, append-nil, length-append, true}
use Rattle.std.specs.List.{list_all}
use Rattle.std.proofs.lemmas.List.{drop_at}
use Rattle.std.proofs.lemmas.Bool.{and_parts}
use Rattle.byteorder.specs.Numbers.{big_from-take}
use Rattle.mac_base.specs.declared.block.HeadKind.{HeadKind}
use Rattle.mac_base.specs.declared.block.HeadKind.TheVariants.{Bits24, Bits32}
use Rattle.mac_base.specs.HeadKind.{head_size, address_end}
use Rattle.byteorder.specs.Endian.{big_number}
use Rattle.block_bytes.specs.declared.header.Header.{Header}
use Rattle.block_bytes.proofs.ReadBlocks.{IsPossible-from}
use Rattle.block_bytes.proofs.Sizes.{is_block-from}
use Rattle.block_bytes.specs.Head.{head_bytes, header_in}
use Rattle.block_bytes.specs.Layout.{RawBlock, size_of, total_of, header_of, is_possible, rendered}
use Rattle.block_bytes.specs.Walk.{size_at, is_block, Follows}
use Rattle.block_bytes.proofs.Heads.{header_in-head_bytes, length-head_bytes}

-- the size at an offset is that of the header there
size-header : (heads : HeadKind) (image : List ℕ) (at : ℕ) → size_at heads image at ≡ (header_in heads (drop at image)).size
size-header Bits24 image at = ap (λ n. n % 0x100_0000) (big_from-take 0 4 4 (drop at image) (omega arith))
size-header Bits32 image at = big_from-take 0 4 4 (drop (at + 4) image) (omega arith) ∙ ap (big_number 4) (sym (drop-drop 4 at image))

-- the first of some blocks says its size
first_size : (heads : HeadKind) (base : ℕ) (pre rest : List ℕ) (b : RawBlock) (at : ℕ) → at ≡ length pre → size_of heads b < address_end heads → base < 2 ^ 32 → is_possible heads b ≡ true
    → size_at heads (pre ++ (head_bytes heads base (header_of heads b) ++ rest)) at ≡ size_of heads b
first_size heads base pre rest b at is small low possible = let p = IsPossible-from heads b possible in
    size-header heads (pre ++ (head_bytes heads base (header_of heads b) ++ rest)) at
    ∙ ap (λ xs. (header_in heads xs).size) (drop_at pre (head_bytes heads base (header_of heads b) ++ rest) at (sym is))
    ∙ ap (λ (h : Header). h.size) (header_in-head_bytes heads base (header_of heads b) rest small p.few p.told low)

-- possible blocks after other bytes follow one another, and end where the bytes do
pub follows-rendered : (heads : HeadKind) (base : ℕ) (pre : List ℕ) (bs : List RawBlock) (at : ℕ) → at ≡ length pre → total_of heads bs < address_end heads → base < 2 ^ 32 → list_all (is_possible heads) bs ≡ true
    → Follows heads (pre ++ rendered heads base bs) at (map (size_of heads) bs)
follows-rendered heads base pre [] at is small low possible = is ∙ ap length (sym (append-nil pre))
follows-rendered heads base pre (b ∷ bs) at is small low possible =
    let all = and_parts (is_possible heads b) (list_all (is_possible heads) bs) possible in
    let head = head_bytes heads base (header_of heads b) in
    let rest = rendered heads base bs in
    let fits : size_of heads b + total_of heads bs < address_end heads = small in
    let size = first_size heads base pre (b.contents ++ (b.slack ++ rest)) b at is (omega arith) low all.0 in
    let before = (pre ++ head) ++ (b.contents ++ b.slack) in
    let long : length before ≡ length pre + (head_size heads + (length b.contents + length b.slack)) =
    length-append (pre ++ head) (b.contents ++ b.slack) ∙ ap (λ n. n + length (b.contents ++ b.slack)) (length-append pre head ∙ ap (λ n. length pre + n) (length-head_bytes heads base (header_of heads b)))
    ∙ ap (λ n. length pre + head_size heads + n) (length-append b.contents b.slack) ∙ omega arith in
    let same : before ++ rest ≡ pre ++ (head ++ (b.contents ++ (b.slack ++ rest))) = simp append_assoc in (
      size,
      block-possible all.0,
      subst (λ xs. Follows heads xs (at + size_of heads b) (map (size_of heads) bs)) same
          (follows-rendered heads base before bs (at + size_of heads b) (omega arith) (omega arith) low all.1),
    )
  where
    block-possible : is_possible heads b ≡ true → is_block heads (size_of heads b) ≡ true
    block-possible h = let p = IsPossible-from heads b h in is_block-from heads (size_of heads b) p.even p.large
