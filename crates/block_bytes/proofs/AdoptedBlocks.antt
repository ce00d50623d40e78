-- The blocks that a walk reads off bytes are those of each zone that is in them.
use Rattle.std.proofs.Common.{◌≡◌, ℕ, suc, ◌+◌, ◌-◌, ◌/◌, ◌%◌, ◌<◌, ◌≤◌, Bool, true, false, List, [], ◌∷◌, ◌++◌, length, take, drop, refl, sym, ap, subst, ◌∙◌, arith, append_assoc, append-nil, length-append, take_at, drop_at, IsTrue}
use Rattle.std.specs.Prelude.{◌==◌, if◌then◌else◌}
use Rattle.std.specs.List.{list_all}
use Rattle.std.proofs.Math.ListN.{set}
use Rattle.std.proofs.lemmas.Bool.Decides.{nat_tests}
use Rattle.std.proofs.lemmas.List.{replicate-append-replicate, set_at}
use Rattle.std.proofs.lemmas.List.Folds.{list_all-append}
use Rattle.mac_base.specs.declared.block.HeadKind.{HeadKind}
use Rattle.mac_base.specs.declared.block.HeadKind.TheVariants.{Bits24, Bits32}
use Rattle.mac_base.specs.HeadKind.{head_size, smallest_block, zone_header}
use Rattle.mac_base.specs.ZoneSizes.{ZoneSizes, ArePossible}
use Rattle.mac_base.proofs.Reach.{end-small}
use Rattle.raw_region.specs.Bytes.{part}
use Rattle.raw_region.proofs.Laws.{length-part}
use Rattle.block_bytes.specs.declared.header.Header.{Header}
use Rattle.block_bytes.specs.declared.header.Role.{Role}
use Rattle.block_bytes.specs.declared.header.Role.TheVariants.{Free, Fixed, Master, Relocatable}
use Rattle.block_bytes.specs.Adopting.{IsZoneIn, IsHeadAt, BlocksUpTo}
use Rattle.block_bytes.specs.Head.{head_bytes}
use Rattle.block_bytes.specs.Layout.{RawBlock, Layout, body, is_free, can_be_told, size_of, total_of, free_total, lent_count, header_of, is_possible, rendered}
use Rattle.block_bytes.specs.Starts.{mark_in, free_in, mark_of, marks_of}
use Rattle.block_bytes.proofs.Heads.{length-head_bytes}
use Rattle.block_bytes.proofs.HeadsRead.{head-read}
use Rattle.block_bytes.proofs.Parts.{front, head, rear, stale_image, image-parts, length-front, possible-with, possible-more}
use Rattle.block_bytes.proofs.ReadBlocks.{and-true, IsPossible-from, smallest-block}
use Rattle.block_bytes.proofs.Rendered.{total_of-append, rendered-append, part-middle}
use Rattle.block_bytes.proofs.Settled.{free-within, free-append}
use Rattle.block_bytes.proofs.Spans.{count-append}
use Rattle.block_bytes.proofs.Starts.{unmarked, length-unmarked, marks_of-append, length-marks_of, length-before}
use Rattle.block_bytes.proofs.Structures.{drop-part}
use Rattle.block_bytes.proofs.Walking.{size_of-pos, is_possible-from}

-- the smallest block has room for its header
smallest-headed : (heads : HeadKind) → head_size heads ≤ smallest_block heads
smallest-headed Bits24 = omega arith
smallest-headed Bits32 = omega arith

-- the same header is there by other names
pub head-at-same : (heads heads' : HeadKind) (base base' : ℕ) (bytes : List ℕ) (at left left' : ℕ) (h : Header) → heads ≡ heads' → base ≡ base' → left ≡ left'
    → IsHeadAt heads base bytes at left h → IsHeadAt heads' base' bytes at left' h
head-at-same heads heads' base base' bytes at left left' h same_heads same_base same_left p =
    subst (λ (n : ℕ). IsHeadAt heads' base' bytes at n h) same_left
    (subst (λ (n : ℕ). IsHeadAt heads' n bytes at left h) same_base (subst (λ (k : HeadKind). IsHeadAt k base bytes at left h) same_heads p))

-- a free block has no bytes over
free-none_over : (heads : HeadKind) (role : Role) (n : ℕ) → IsTrue (can_be_told heads role n) → IsTrue (is_free role) → n ≡ 0
free-none_over heads Free n told free = let e : (n == 0) ≡ true = told in grind (arith, nat_tests)
free-none_over heads Fixed n told free = let no : false ≡ true = free in cc
free-none_over heads Master n told free = let no : false ≡ true = free in cc
free-none_over heads (Relocatable slot flags) n told free = let no : false ≡ true = free in cc

-- a block among others none of which is lent isn't either
pub one-unlent : (before : List RawBlock) (b : RawBlock) (after : List RawBlock) → lent_count (before ++ b ∷ after) ≡ 0 → b.lent ≡ false
one-unlent before b after none = let sum = count-append before (b ∷ after) in let here : lent_count (b ∷ after) ≡ 0 = omega arith in either b.lent here
  where
    either : (lent : Bool) → (if lent then suc (lent_count after) else lent_count after) ≡ 0 → lent ≡ false
    either true none = absurd (omega arith)
    either false none = refl

-- lists in a row
regrouped : (a b c d e : List ℕ) → a ++ (b ++ (c ++ (d ++ e))) ≡ (a ++ (b ++ (c ++ (d ++ [])))) ++ e
regrouped a b c d e = sym (simp (append_assoc, append-nil))

rows : (a b : List ℕ) (m : ℕ) (c d : List ℕ) → (a ++ b) ++ m ∷ (c ++ d) ≡ a ++ ((b ++ m ∷ (c ++ [])) ++ d)
rows a b m c d = simp (append_assoc, append-nil)

module _ (spec : ZoneSizes) (possible : ArePossible spec) (bytes : List ℕ) (all : length bytes ≡ spec.limit) where
  -- the block with a header at an offset
  abbrev block_at : ℕ → Header → RawBlock
  block_at at h = let n = head_size spec.heads in let k = h.size - n - h.correction in
      record { role = h.role; contents = part bytes (at + n) k; slack = part bytes (at + n + k) h.correction; lent = false }

  -- what is known of it
  record IsBlock (at : ℕ) (h : Header) : Type 0 where
    header : header_of spec.heads (block_at at h) ≡ h
    bytes_are : drop at bytes ≡ head_bytes spec.heads spec.base h ++ ((block_at at h).contents ++ ((block_at at h).slack ++ drop (at + h.size) bytes))
    is_possible : IsTrue (is_possible spec.heads (block_at at h))

  block-is : (at : ℕ) (h : Header) → at < spec.size → IsHeadAt spec.heads spec.base bytes at (spec.size - at) h → IsBlock at h
  block-is at h below p =
      let n = head_size spec.heads in let k = h.size - n - h.correction in let b = block_at at h in
      let within = p.fits.within in let large = p.fits.large in let over = p.fits.over in let least = smallest-headed spec.heads in let high = possible.within in
      let contents : length b.contents ≡ k = length-part bytes (at + n) k (omega arith) in
      let slack : length b.slack ≡ h.correction = length-part bytes (at + n + k) h.correction (omega arith) in
      let size : n + (length b.contents + length b.slack) ≡ h.size = omega arith in
      let even = p.fits.even in let few = p.few in
      record {
        header = λ i. record { size = size i; role = h.role; correction = slack i };
        bytes_are = drop-part bytes at n ∙ (λ i. p.bytes_are i ++ (drop-part bytes (at + n) k
            ∙ ap (λ (xs : List ℕ). b.contents ++ xs) (drop-part bytes (at + n + k) h.correction ∙ ap (λ (j : ℕ). b.slack ++ drop j bytes) (let e : at + n + k + h.correction ≡ at + h.size = omega arith in e))) i);
        is_possible = is_possible-from spec.heads b (record { even = ap (λ (j : ℕ). j % 4) size ∙ even; large = omega arith; few = omega arith; told = ap (can_be_told spec.heads h.role) slack ∙ p.told; lendable = refl });
      }

  -- the zone with the heads and the place of its sizes
  pub settled : (l : Layout) → IsZoneIn spec bytes l → IsZoneIn spec bytes (record l { heads = spec.heads; base = spec.base })
  settled l z = subst (IsZoneIn spec bytes) (λ i. record l { heads = z.heads i; base = z.base i }) z

  module _ (l : Layout) (zone : IsZoneIn spec bytes l) where
    abbrev m : Layout
    m = record l { heads = spec.heads; base = spec.base }

    -- its blocks end where it does
    pub total-is : zone_header + total_of spec.heads l.blocks ≡ spec.size
    total-is = let e : spec.base + zone_header + total_of spec.heads l.blocks ≡ spec.base + spec.size = (settled l zone).ends in omega arith

    -- a block of it, and where its header is
    record IsIn (at : ℕ) (here : RawBlock) : Type 0 where
      head_at : IsHeadAt spec.heads spec.base bytes at (spec.size - at) (header_of spec.heads here)
      same : here ≡ block_at at (header_of spec.heads here)

    in-zone : (before : List RawBlock) (here : RawBlock) (after : List RawBlock) (at : ℕ) → l.blocks ≡ before ++ here ∷ after → at ≡ zone_header + total_of spec.heads before → IsIn at here
    in-zone before here after at blocks place =
        let heads = spec.heads in let n = head_size heads in let s = settled l zone in
        let sum : total_of heads l.blocks ≡ total_of heads before + (size_of heads here + total_of heads after) = ap (total_of heads) blocks ∙ total_of-append heads before (here ∷ after) in
        let total = total-is in
        let both = and-true (list_all (is_possible heads) before) (list_all (is_possible heads) (here ∷ after)) (sym (list_all-append (is_possible heads) before (here ∷ after)) ∙ sym (ap (list_all (is_possible heads)) blocks) ∙ zone.possible) in
        let p = IsPossible-from heads here (and-true (is_possible heads here) (list_all (is_possible heads) after) both.1).0 in
        let unlent : here.lent ≡ false = one-unlent before here after (ap lent_count (sym blocks) ∙ zone.unlent) in
        let first = front m before in let own = head m here in let others = rear m after in
        let parts : bytes ≡ first ++ (own ++ (body here ++ others)) = sym s.image ∙ ap (λ (bs : List RawBlock). stale_image m bs) blocks ∙ image-parts m before here after in
        let long = length-front m before in let long' = length-head_bytes heads spec.base (header_of heads here) in
        let ahead : drop at bytes ≡ own ++ (body here ++ others) = ap (drop at) parts ∙ drop_at first (own ++ (body here ++ others)) at (omega arith) in
        let k = size_of heads here - n - length here.slack in let size : k ≡ length here.contents = omega arith in
        let first' : bytes ≡ (first ++ own) ++ (here.contents ++ (here.slack ++ others)) = parts ∙ simp append_assoc in
        let second' : bytes ≡ ((first ++ own) ++ here.contents) ++ (here.slack ++ others) = parts ∙ simp append_assoc in
        let a = length-append first own in let b = length-append (first ++ own) here.contents in
        let contents : part bytes (at + n) k ≡ here.contents = ap (λ (xs : List ℕ). part xs (at + n) k) first' ∙ part-middle (first ++ own) here.contents (here.slack ++ others) (at + n) k (omega arith) size in
        let slack : part bytes (at + n + k) (length here.slack) ≡ here.slack = ap (λ (xs : List ℕ). part xs (at + n + k) (length here.slack)) second'
        ∙ part-middle ((first ++ own) ++ here.contents) here.slack others (at + n + k) (length here.slack) (omega arith) refl in
        record {
          head_at = record {
            fits = record { even = p.even; large = p.large; within = omega arith; over = omega arith; free = free-none_over heads here.role (length here.slack) p.told };
            few = p.few;
            told = p.told;
            bytes_are = ap (take n) ahead ∙ take_at own (body here ++ others) n long';
          };
          same = λ i. record { role = here.role; contents = sym contents i; slack = sym slack i; lent = unlent i };
        }

  -- two zones in the bytes have the same blocks from one place on
  same-from : (l k : Layout) → IsZoneIn spec bytes l → IsZoneIn spec bytes k → (before bs cs : List RawBlock) → l.blocks ≡ before ++ bs → k.blocks ≡ before ++ cs → bs ≡ cs
  same-from l k first second before [] [] e f = refl
  same-from l k first second before [] (c ∷ cs) e f =
      let one = total-is l first in let two = total-is k second in let a = ap (total_of spec.heads) e in let b = ap (total_of spec.heads) f in
      let c' = total_of-append spec.heads before [] in let d = total_of-append spec.heads before (c ∷ cs) in let some = size_of-pos spec.heads c in absurd (omega arith)
  same-from l k first second before (b ∷ bs) [] e f =
      let one = total-is l first in let two = total-is k second in let a = ap (total_of spec.heads) e in let b' = ap (total_of spec.heads) f in
      let c = total_of-append spec.heads before (b ∷ bs) in let d = total_of-append spec.heads before [] in let some = size_of-pos spec.heads b in absurd (omega arith)
  same-from l k first second before (b ∷ bs) (c ∷ cs) e f =
      let at = zone_header + total_of spec.heads before in let i = in-zone l first before b bs at e refl in let j = in-zone k second before c cs at f refl in
      let end = possible.end_low_enough in let bottom = possible.base_high_enough in let top = end-small spec.heads in let high = possible.within in
      let head : header_of spec.heads b ≡ header_of spec.heads c =
      sym (head-read spec.heads spec.base bytes at (spec.size - at) (header_of spec.heads b) (omega arith) (omega arith) i.head_at)
      ∙ head-read spec.heads spec.base bytes at (spec.size - at) (header_of spec.heads c) (omega arith) (omega arith) j.head_at in
      let same : b ≡ c = i.same ∙ ap (block_at at) head ∙ sym j.same in
      let rest = same-from l k first second (before ++ b ∷ []) bs cs (e ∙ sym (append_assoc before (b ∷ []) bs))
      (f ∙ ap (λ (x : RawBlock). before ++ x ∷ cs) (sym same) ∙ sym (append_assoc before (b ∷ []) cs)) in
      λ n. same n ∷ rest n

  -- and from the first on
  pub same-blocks : (l k : Layout) → IsZoneIn spec bytes l → IsZoneIn spec bytes k → l.blocks ≡ k.blocks
  same-blocks l k first second = same-from l k first second [] l.blocks k.blocks refl refl

  -- before any block is read
  pub none-read : (index : List ℕ) → index ≡ unmarked (spec.limit / 4) → BlocksUpTo spec bytes index zone_header 0
  none-read index zeros = let large = possible.large_enough in let high = possible.within in let even = possible.even_limit in record {
    blocks = [];
    place = refl;
    within = omega arith;
    bytes_are = refl;
    possible = refl;
    unlent = refl;
    marked = zeros ∙ ap unmarked (let e : spec.limit / 4 ≡ zone_header / 4 + (spec.limit - zone_header) / 4 = omega arith in e)
        ∙ sym (replicate-append-replicate (zone_header / 4) ((spec.limit - zone_header) / 4) 0);
    free_are = refl;
    first = λ l zone. (l.blocks, refl);
  }

  module _ (index : List ℕ) (at free : ℕ) (u : BlocksUpTo spec bytes index at free) where
    -- the index has a number for each four bytes
    pub length-index : length index ≡ spec.limit / 4
    length-index =
        let n = (spec.limit - at) / 4 in let ms = marks_of spec.heads u.blocks in
        let is : length index ≡ length (unmarked (zone_header / 4) ++ (ms ++ unmarked n)) = ap length u.marked in
        let a = length-append (unmarked (zone_header / 4)) (ms ++ unmarked n) in let b = length-append ms (unmarked n) in let c = length-unmarked (zone_header / 4) in let d = length-unmarked n in
        let e = length-marks_of spec.heads u.blocks u.possible in let place = u.place in let within = u.within in let high = possible.within in let even = possible.even_limit in omega arith

    -- no more bytes are free than were read
    pub free-few : free ≤ at
    free-few = let place = u.place in let few = free-within spec.heads u.blocks in let is = u.free_are in omega arith

    -- the block that a zone in the bytes has next
    record NextIn (l : Layout) : Type 0 where
      here : RawBlock
      after : List RawBlock
      blocks : l.blocks ≡ u.blocks ++ here ∷ after
      head_at : IsHeadAt spec.heads spec.base bytes at (spec.size - at) (header_of spec.heads here)
      same : here ≡ block_at at (header_of spec.heads here)

    next-in : at < spec.size → (l : Layout) → IsZoneIn spec bytes l → NextIn l
    next-in below l zone = let f = u.first l zone in from f.0 f.1
      where
        from : (rest : List RawBlock) → l.blocks ≡ u.blocks ++ rest → NextIn l
        from [] blocks =
            let sum = ap (total_of spec.heads) blocks in let more = total_of-append spec.heads u.blocks [] in let total = total-is l zone in let place = u.place in absurd (omega arith)
        from (b ∷ bs) blocks = let i = in-zone l zone u.blocks b bs at blocks u.place in record { here = b; after = bs; blocks = blocks; head_at = i.head_at; same = i.same }

    -- where no block's header is, no zone is in the bytes
    pub none-next : at < spec.size → ((h : Header) → IsHeadAt spec.heads spec.base bytes at (spec.size - at) h → ⊥) → (l : Layout) → IsZoneIn spec bytes l → ⊥
    none-next below none l zone = let n = next-in below l zone in none (header_of spec.heads n.here) n.head_at

    -- one block more is read
    pub more-next : at < spec.size → (h : Header) → IsHeadAt spec.heads spec.base bytes at (spec.size - at) h → (index' : List ℕ) (next free' : ℕ)
        → index' ≡ set index (at / 4) (mark_in h) → next ≡ at + h.size → free' ≡ free + free_in h → BlocksUpTo spec bytes index' next free'
    more-next below h p index' next free' marks there count =
        let heads = spec.heads in let b = block_at at h in let k = block-is at h below p in
        let size : size_of heads b ≡ h.size = ap (λ (g : Header). g.size) k.header in
        let within = p.fits.within in let place = u.place in let low = u.within in
        let sum = total_of-append heads u.blocks (b ∷ []) in let counted = free-append heads u.blocks (b ∷ []) in let lent = count-append u.blocks (b ∷ []) in
        let of_it : free_in h ≡ free_total heads (b ∷ []) = ap free_in (sym k.header) ∙ omega arith in
        let free_before = u.free_are in let unlent = u.unlent in let end = possible.end_low_enough in let bottom = possible.base_high_enough in let top = end-small heads in let high = possible.within in
        record {
          blocks = u.blocks ++ b ∷ [];
          place = omega arith;
          within = omega arith;
          bytes_are = u.bytes_are
              ∙ ap (λ (xs : List ℕ). rendered heads spec.base u.blocks ++ xs) (k.bytes_are ∙ (λ i. head_bytes heads spec.base (sym k.header i) ++ (b.contents ++ (b.slack ++ drop (sym there i) bytes))))
              ∙ regrouped (rendered heads spec.base u.blocks) (head_bytes heads spec.base (header_of heads b)) b.contents b.slack (drop next bytes)
              ∙ ap (λ (xs : List ℕ). xs ++ drop next bytes) (sym (rendered-append heads spec.base u.blocks (b ∷ [])));
          possible = possible-with heads u.blocks (b ∷ []) u.possible (possible-more heads b [] k.is_possible refl);
          unlent = omega arith;
          marked = marks ∙ marked-more h b (ap mark_in k.header) size p.fits.even p.fits.large next there (omega arith);
          free_are = omega arith;
          first = λ l zone. (
            (next-in below l zone).after,
            let n = next-in below l zone in
                let head : header_of heads n.here ≡ h =
                sym (head-read heads spec.base bytes at (spec.size - at) (header_of heads n.here) (omega arith) (omega arith) n.head_at) ∙ head-read heads spec.base bytes at (spec.size - at) h (omega arith) (omega arith) p in
                n.blocks ∙ ap (λ (c : RawBlock). u.blocks ++ c ∷ n.after) (n.same ∙ ap (block_at at) head) ∙ sym (append_assoc u.blocks (b ∷ []) n.after),
          );
        }
      where
        -- the number of the block is written where there was 0
        marked-more : (h : Header) (b : RawBlock) → mark_of spec.heads b ≡ mark_in h → size_of spec.heads b ≡ h.size → h.size % 4 ≡ 0 → smallest_block spec.heads ≤ h.size → (next : ℕ) → next ≡ at + h.size → next ≤ spec.limit
            → set index (at / 4) (mark_in h) ≡ unmarked (zone_header / 4) ++ (marks_of spec.heads (u.blocks ++ b ∷ []) ++ unmarked ((spec.limit - next) / 4))
        marked-more h b mark size even large next there high =
            let front = unmarked (zone_header / 4) in let ms = marks_of spec.heads u.blocks in let k = size_of spec.heads b / 4 - 1 in let r = (spec.limit - next) / 4 in
            let all = length-marks_of spec.heads u.blocks u.possible in let place = u.place in let some = smallest-block spec.heads in let even' = possible.even_limit in
            let count : (spec.limit - at) / 4 ≡ suc (k + r) = omega arith in
            let split : unmarked ((spec.limit - at) / 4) ≡ 0 ∷ (unmarked k ++ unmarked r) = ap unmarked count ∙ ap (λ (l : List ℕ). 0 ∷ l) (sym (replicate-append-replicate k r 0)) in
            ap (λ (l : List ℕ). set l (at / 4) (mark_in h)) (u.marked ∙ ap (λ (l : List ℕ). front ++ (ms ++ l)) split ∙ sym (append_assoc front ms (0 ∷ (unmarked k ++ unmarked r))))
            ∙ set_at (front ++ ms) 0 (unmarked k ++ unmarked r) (mark_in h) (at / 4) (length-before spec.heads u.blocks (at / 4) u.possible (ap (λ (n : ℕ). n / 4) place))
            ∙ ap (λ (m : ℕ). (front ++ ms) ++ m ∷ (unmarked k ++ unmarked r)) (sym mark)
            ∙ rows front ms (mark_of spec.heads b) (unmarked k) (unmarked r)
            ∙ ap (λ (l : List ℕ). front ++ (l ++ unmarked r)) (sym (marks_of-append spec.heads u.blocks (b ∷ [])))
