-- Bytes have a zone's structure exactly where its header is at their front and those of its blocks are in their places.
use Rattle.std.proofs.Common.{◌≡◌, ℕ, suc, ◌+◌, ◌≤◌, Bool, true, false, List, [], ◌∷◌, ◌++◌, length, take, drop, refl, sym, ap, subst, ◌∙◌, arith, append_assoc, length-append, drop-drop, take-append-drop, take_at, drop_at}
use Rattle.std.specs.Prelude.{◌-◌, ◌/◌, ◌%◌, ◌&&◌, ◌||◌, ◌==◌, not, nat_le, if◌then◌else◌, replicate}
use Rattle.std.specs.List.{list_all}
use Rattle.mac_base.specs.declared.block.HeadKind.{HeadKind}
use Rattle.mac_base.specs.HeadKind.{head_size, smallest_block, zone_header}
use Rattle.raw_region.specs.Bytes.{part}
use Rattle.raw_region.specs.Span.{Span}
use Rattle.raw_region.proofs.Laws.{length-part}
use Rattle.block_bytes.specs.declared.header.Header.{Header}
use Rattle.block_bytes.specs.Head.{head_bytes, most_over}
use Rattle.block_bytes.specs.ZoneHead.{zone_head}
use Rattle.block_bytes.specs.Layout.{RawBlock, Layout, body, is_free, has_owner, can_be_told, size_of, total_of, free_total, first_free, lent_count, header_of, is_possible, rendered, header_bytes, image_of}
use Rattle.block_bytes.specs.Starts.{lent_mark, mark_in, marks_of}
use Rattle.block_bytes.specs.Reading.{lent_spans}
use Rattle.block_bytes.specs.Structure.{HasHead, HasHeaders, HasStructure, is_master, shown, shown_block, shown_blocks, up_to_master}
use Rattle.block_bytes.proofs.Heads.{length-head_bytes}
use Rattle.block_bytes.proofs.Rendered.{length-rendered}
use Rattle.block_bytes.proofs.ReadBlocks.{drop-rendered}
use Rattle.block_bytes.proofs.Parts.{length-header}

-- all but the contents of two lists of blocks is the same
pub record AreAlike (heads : HeadKind) (bs cs : List RawBlock) : Type 0 where
  pub total : total_of heads bs ≡ total_of heads cs
  pub free : free_total heads bs ≡ free_total heads cs
  pub first : (at : ℕ) → first_free heads at bs ≡ first_free heads at cs
  pub marks : marks_of heads bs ≡ marks_of heads cs
  pub lent : lent_count bs ≡ lent_count cs
  pub spans : (at : ℕ) → lent_spans heads at bs ≡ lent_spans heads at cs
  pub possible : list_all (is_possible heads) bs ≡ list_all (is_possible heads) cs

-- the parts of a block that are read are as long as its own
pub record IsLong (b c : RawBlock) : Type 0 where
  pub contents : length b.contents ≡ length c.contents
  pub slack : length b.slack ≡ length c.slack

module _ (heads : HeadKind) (bytes : List ℕ) where
  pub shown-long : (at : ℕ) (b : RawBlock) → at + size_of heads b ≤ length bytes → IsLong (shown_block heads bytes at b) b
  shown-long at b fits = record {
    contents = length-part bytes (at + head_size heads) (length b.contents) (omega arith);
    slack = length-part bytes (at + head_size heads + length b.contents) (length b.slack) (omega arith);
  }

  -- the header of a block stays
  pub header-shown : (at : ℕ) (b : RawBlock) → at + size_of heads b ≤ length bytes → header_of heads (shown_block heads bytes at b) ≡ header_of heads b
  header-shown at b fits = let long = shown-long at b fits in λ i. record { size = head_size heads + (long.contents i + long.slack i); role = b.role; correction = long.slack i }

  -- all but the contents of blocks stays
  pub alike-shown : (at : ℕ) (bs : List RawBlock) → at + total_of heads bs ≤ length bytes → AreAlike heads (shown_blocks heads bytes at bs) bs
  alike-shown at [] fits = record { total = refl; free = refl; first = λ from. refl; marks = refl; lent = refl; spans = λ from. refl; possible = refl }
  alike-shown at (b ∷ bs) fits =
      let fits' : at + (size_of heads b + total_of heads bs) ≤ length bytes = fits in
      let long = shown-long at b (omega arith) in let more = alike-shown (at + size_of heads b) bs (omega arith) in
      let c = shown_block heads bytes at b in let cs = shown_blocks heads bytes (at + size_of heads b) bs in
      let size : size_of heads c ≡ size_of heads b = λ i. head_size heads + (long.contents i + long.slack i) in
      record {
        total = λ i. size i + more.total i;
        free = λ i. (if is_free b.role then size i else 0) + more.free i;
        first = λ from. (λ i. if is_free b.role then from else first_free heads (from + size i) cs) ∙ ap (λ (n : ℕ). if is_free b.role then from else n) (more.first (from + size_of heads b));
        marks = λ i. (if b.lent then lent_mark else mark_in (record { size = size i; role = b.role; correction = long.slack i })) ∷ (replicate (size i / 4 - 1) 0 ++ more.marks i);
        lent = λ i. if b.lent then suc (more.lent i) else more.lent i;
        spans = λ from. (λ i. let others = lent_spans heads (from + size i) cs in if b.lent then (from + head_size heads, long.contents i) ∷ others else others)
            ∙ ap (λ (others : List Span). if b.lent then (from + head_size heads, length b.contents) ∷ others else others) (more.spans (from + size_of heads b));
        possible = λ i. ((size i % 4 == 0) && (nat_le (smallest_block heads) (size i) && (nat_le (long.slack i) (most_over heads) && (can_be_told heads b.role (long.slack i) && (not b.lent || has_owner b.role))))) && more.possible i;
      }

-- what bytes are from a place on
pub drop-part : (bytes : List ℕ) (at n : ℕ) → drop at bytes ≡ part bytes at n ++ drop (at + n) bytes
drop-part bytes at n = sym (take-append-drop n (drop at bytes)) ∙ ap (λ (l : List ℕ). part bytes at n ++ l) (drop-drop n at bytes)

module _ (l : Layout) (bytes : List ℕ) where
  -- headers of two runs of blocks
  pub headers-append : (at : ℕ) (xs ys : List RawBlock) → HasHeaders l bytes at xs → HasHeaders l bytes (at + total_of l.heads xs) ys → HasHeaders l bytes at (xs ++ ys)
  headers-append at [] ys first rest = subst (λ (n : ℕ). HasHeaders l bytes n ys) (let e : at + 0 ≡ at = omega arith in e) rest
  headers-append at (b ∷ bs) ys first rest = (
    first.0,
    headers-append (at + size_of l.heads b) bs ys first.1
        (subst (λ (n : ℕ). HasHeaders l bytes n ys) (let e : at + (size_of l.heads b + total_of l.heads bs) ≡ at + size_of l.heads b + total_of l.heads bs = omega arith in e) rest),
  )

  pub headers-rest : (at : ℕ) (xs ys : List RawBlock) → HasHeaders l bytes at (xs ++ ys) → HasHeaders l bytes (at + total_of l.heads xs) ys
  headers-rest at [] ys both = subst (λ (n : ℕ). HasHeaders l bytes n ys) (let e : at ≡ at + 0 = omega arith in e) both
  headers-rest at (b ∷ bs) ys both =
      subst (λ (n : ℕ). HasHeaders l bytes n ys) (let e : at + size_of l.heads b + total_of l.heads bs ≡ at + (size_of l.heads b + total_of l.heads bs) = omega arith in e)
      (headers-rest (at + size_of l.heads b) bs ys both.1)

  -- those up to the first master block
  pub headers-up_to : (at : ℕ) (bs : List RawBlock) → HasHeaders l bytes at bs → HasHeaders l bytes at (up_to_master bs)
  headers-up_to at [] all = tt
  headers-up_to at (b ∷ bs) all = (all.0, either (is_master b.role) (headers-up_to (at + size_of l.heads b) bs all.1))
    where
      either : (master : Bool) → HasHeaders l bytes (at + size_of l.heads b) (up_to_master bs) → HasHeaders l bytes (at + size_of l.heads b) (if master then [] else up_to_master bs)
      either true more = tt
      either false more = more

  -- bytes with these headers are blocks with what bytes have between them
  pub rendered-shown : (at : ℕ) (bs : List RawBlock) → at + total_of l.heads bs ≤ length bytes → HasHeaders l bytes at bs
      → drop at bytes ≡ rendered l.heads l.base (shown_blocks l.heads bytes at bs) ++ drop (at + total_of l.heads bs) bytes
  rendered-shown at [] fits headers = ap (λ (n : ℕ). drop n bytes) (let e : at ≡ at + 0 = omega arith in e)
  rendered-shown at (b ∷ bs) fits headers =
      let fits' : at + (size_of l.heads b + total_of l.heads bs) ≤ length bytes = fits in
      let n = head_size l.heads in let k = length b.contents in let m = length b.slack in
      let rest = rendered l.heads l.base (shown_blocks l.heads bytes (at + size_of l.heads b) bs) in
      let head : part bytes at n ≡ head_bytes l.heads l.base (header_of l.heads (shown_block l.heads bytes at b)) =
      headers.0 ∙ ap (head_bytes l.heads l.base) (sym (header-shown l.heads bytes at b (omega arith))) in
      let more : drop (at + n + k + m) bytes ≡ rest ++ drop (at + total_of l.heads (b ∷ bs)) bytes =
      ap (λ (j : ℕ). drop j bytes) (let e : at + n + k + m ≡ at + size_of l.heads b = omega arith in e) ∙ rendered-shown (at + size_of l.heads b) bs (omega arith) headers.1
      ∙ ap (λ (j : ℕ). rest ++ drop j bytes) (let e : at + size_of l.heads b + total_of l.heads bs ≡ at + (size_of l.heads b + total_of l.heads bs) = omega arith in e) in
      drop-part bytes at n ∙ (λ i. head i ++ (drop-part bytes (at + n) k ∙ ap (λ (xs : List ℕ). part bytes (at + n) k ++ xs) (drop-part bytes (at + n + k) m)) i)
      ∙ ap (λ (xs : List ℕ). head_bytes l.heads l.base (header_of l.heads (shown_block l.heads bytes at b)) ++ (part bytes (at + n) k ++ (part bytes (at + n + k) m ++ xs))) more
      ∙ simp append_assoc

  -- where blocks with such contents are, their headers are
  pub headers-rendered : (old : List ℕ) (at : ℕ) (bs : List RawBlock) (rest : List ℕ) → at + total_of l.heads bs ≤ length old
      → drop at bytes ≡ rendered l.heads l.base (shown_blocks l.heads old at bs) ++ rest → HasHeaders l bytes at bs
  headers-rendered old at [] rest fits is = tt
  headers-rendered old at (b ∷ bs) rest fits is =
      let fits' : at + (size_of l.heads b + total_of l.heads bs) ≤ length old = fits in
      let c = shown_block l.heads old at b in let head = head_bytes l.heads l.base (header_of l.heads c) in
      let others = rendered l.heads l.base (shown_blocks l.heads old (at + size_of l.heads b) bs) in
      let long = length-head_bytes l.heads l.base (header_of l.heads c) in
      let same = header-shown l.heads old at b (omega arith) in let size : size_of l.heads b ≡ size_of l.heads c = ap (λ (h : Header). h.size) (sym same) in
      let parts : drop at bytes ≡ head ++ (body c ++ (others ++ rest)) = is ∙ simp append_assoc in (
        ap (take (head_size l.heads)) parts ∙ take_at head (body c ++ (others ++ rest)) (head_size l.heads) long ∙ ap (head_bytes l.heads l.base) same,
        headers-rendered old (at + size_of l.heads b) bs rest (omega arith)
            (sym (drop-drop (size_of l.heads b) at bytes) ∙ (λ i. drop (size i) (parts i)) ∙ drop-rendered l.heads l.base c (others ++ rest)),
      )

  -- the zone's header is the same with other contents
  pub header-alike : zone_header + total_of l.heads l.blocks ≤ length bytes → header_bytes (shown l bytes) ≡ header_bytes l
  header-alike fits = let alike = alike-shown l.heads bytes zone_header l.blocks fits in
      λ i. zone_head (l.base + zone_header + alike.total i) l.front (alike.free i) (alike.first (l.base + zone_header + 0) i)

  -- as many bytes as a zone has are enough for its blocks
  pub enough : length bytes ≡ length (image_of l) → zone_header + total_of l.heads l.blocks ≤ length bytes
  enough all =
      let a = length-append (header_bytes l) (rendered l.heads l.base l.blocks ++ l.spare) in let b = length-append (rendered l.heads l.base l.blocks) l.spare in
      let c = length-header l in let d = length-rendered l.heads l.base l.blocks in omega arith

  -- bytes with the structure have the zone's header
  pub structure-head : HasStructure l bytes → HasHead l bytes
  structure-head same =
      let s = shown l bytes in let long = length-header s in record {
        all = same.all;
        head = ap (take zone_header) (sym same.image) ∙ take_at (header_bytes s) (rendered s.heads s.base s.blocks ++ s.spare) zone_header long ∙ header-alike (enough same.all);
      }

  -- and the headers of its blocks
  pub structure-headers : HasStructure l bytes → HasHeaders l bytes zone_header l.blocks
  structure-headers same =
      let s = shown l bytes in
      headers-rendered bytes zone_header l.blocks s.spare (enough same.all)
      (ap (drop zone_header) (sym same.image) ∙ drop_at (header_bytes s) (rendered s.heads s.base s.blocks ++ s.spare) zone_header (length-header s))

  -- and those with all headers have the structure
  pub structure-from : HasHead l bytes → HasHeaders l bytes zone_header l.blocks → HasStructure l bytes
  structure-from head headers = record {
    all = head.all;
    image = (λ i. (header-alike (enough head.all) ∙ sym head.head) i ++ sym (rendered-shown zone_header l.blocks (enough head.all) headers) i) ∙ take-append-drop zone_header bytes;
  }
