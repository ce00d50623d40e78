-- A block that is carried past those after it, or sinks past those before it: its bytes, the index, and what the list
-- of blocks is then.
use Rattle.std.proofs.Common.{◌≡◌, ℕ, ◌+◌, ◌-◌, ◌*◌, ◌/◌, ◌%◌, ◌≤◌, false, not, List, [], ◌∷◌, ◌++◌, length, take, drop, refl, sym, ap, ◌∙◌, subst, arith, append_assoc, append-nil, length-append, length-take-le, length-drop, take-append-drop, IsTrue}
use Rattle.std.specs.List.{list_all}
use Rattle.std.proofs.Math.ListN.{set}
use Rattle.std.proofs.lemmas.List.Folds.{list_all-append}
use Rattle.std.proofs.lemmas.Bool.{not-true}
use Rattle.std.proofs.lemmas.List.{nil_from_length}
use Rattle.mac_base.specs.HeadKind.{head_size, zone_header}
use Rattle.mac_base.specs.ZoneSizes.{ArePossible}
use Rattle.raw_region.specs.Bytes.{part, written}
use Rattle.raw_region.specs.Span.{IsFree}
use Rattle.raw_region.specs.State.{State, with_bytes}
use Rattle.place_numbers.specs.Shifted.{shifted_down, shifted_up}
use Rattle.block_bytes.specs.declared.header.Header.{Header}
use Rattle.block_bytes.specs.declared.blocks.Blocks.TheInside.{Inside}
use Rattle.block_bytes.specs.Head.{most_over, head_bytes}
use Rattle.block_bytes.specs.Layout.{RawBlock, Layout, IsMoved, body, is_free, none_lent, size_of, total_of, header_of, is_possible, rendered, header_bytes, with_blocks}
use Rattle.block_bytes.specs.Starts.{mark_of, marks_of, first_marked, starts_of}
use Rattle.block_bytes.specs.Reading.{layout_of, IsLayout}
use Rattle.block_bytes.proofs.Heads.{length-head_bytes}
use Rattle.block_bytes.proofs.Rendered.{total_of-append, length-rendered, rendered-append, written-middle}
use Rattle.block_bytes.proofs.ReadBlocks.{and-true, IsPossible-from, smallest-block}
use Rattle.block_bytes.proofs.Starts.{unmarked, length-before, length-marks_of, marks_of-append, starts-parts}
use Rattle.block_bytes.proofs.Spans.{AllUnlent}
use Rattle.block_bytes.proofs.Parts.{IsRead, front, rear, head, stale_image, image-parts, length-front, possible-with, possible-more, total-ends, length-starts}
use Rattle.block_bytes.proofs.Settled.{counted, free-append, unlent-free, replaced}
use Rattle.block_bytes.proofs.Counting.{IsKept, kept-first, kept-written}
use Rattle.block_bytes.proofs.MovedBlocks.{moved-itself, moved-free, moved-size, moved-header, moved-mark, moved-possible, moved-free_bytes, slack-free}
use Rattle.block_bytes.proofs.Rotated.{parts-turned, slid-down, slid-up, numbers-down, numbers-up}

-- none of these is lent
all-unlent : (bs : List RawBlock) → IsTrue (none_lent bs) → AllUnlent bs
all-unlent [] none = tt
all-unlent (b ∷ bs) none = let both = and-true (not b.lent) (none_lent bs) none in (not-true b.lent both.0, all-unlent bs both.1)

-- nor with one more
pub more-unlent : (xs : List RawBlock) (b : RawBlock) → AllUnlent xs → b.lent ≡ false → AllUnlent (xs ++ b ∷ [])
more-unlent [] b unlent one = (one, tt)
more-unlent (x ∷ xs) b unlent one = (unlent.0, more-unlent xs b unlent.1 one)

-- all bytes of a block
abbrev bytes_of : Layout → RawBlock → List ℕ
bytes_of l b = head l b ++ body b

-- as many as its size
length-bytes_of : (l : Layout) (b : RawBlock) → length (bytes_of l b) ≡ size_of l.heads b
length-bytes_of l b = let a = length-append (head l b) (body b) in let e = length-head_bytes l.heads l.base (header_of l.heads b) in let c = length-append b.contents b.slack in omega arith

module _ (l : Layout) (before others after : List RawBlock) (b : RawBlock) where
  -- the bytes of a zone with a block before some others, or after them
  image-first : stale_image l (before ++ b ∷ (others ++ after)) ≡ front l before ++ (bytes_of l b ++ (rendered l.heads l.base others ++ rear l after))
  image-first = image-parts l before b (others ++ after)
      ∙ ap (λ (bytes : List ℕ). front l before ++ (head l b ++ (body b ++ bytes)))
      (ap (λ (bytes : List ℕ). bytes ++ l.spare) (rendered-append l.heads l.base others after) ∙ append_assoc (rendered l.heads l.base others) (rendered l.heads l.base after) l.spare)
      ∙ ap (λ (bytes : List ℕ). front l before ++ bytes) (sym (append_assoc (head l b) (body b) (rendered l.heads l.base others ++ rear l after)))

  image-last : stale_image l (before ++ (others ++ b ∷ after)) ≡ front l before ++ (rendered l.heads l.base others ++ (bytes_of l b ++ rear l after))
  image-last = ap (stale_image l) (sym (append_assoc before others (b ∷ after))) ∙ image-parts l (before ++ others) b after
      ∙ ap (λ (bytes : List ℕ). bytes ++ (head l b ++ (body b ++ rear l after)))
      (ap (λ (bytes : List ℕ). header_bytes l ++ bytes) (rendered-append l.heads l.base before others) ∙ sym (append_assoc (header_bytes l) (rendered l.heads l.base before) (rendered l.heads l.base others)))
      ∙ append_assoc (front l before) (rendered l.heads l.base others) (head l b ++ (body b ++ rear l after))
      ∙ ap (λ (bytes : List ℕ). front l before ++ (rendered l.heads l.base others ++ bytes)) (sym (append_assoc (head l b) (body b) (rear l after)))

  -- the numbers of the index before those of the blocks that move, and those after them
  abbrev marks-before : List ℕ
  marks-before = unmarked (zone_header / 4) ++ marks_of l.heads before

  abbrev marks-after : List ℕ
  marks-after = marks_of l.heads after ++ unmarked (length l.spare / 4)

  -- the index of such a zone
  starts-first : starts_of (with_blocks (before ++ b ∷ (others ++ after)) l) ≡ marks-before ++ mark_of l.heads b ∷ (unmarked (size_of l.heads b / 4 - 1) ++ (marks_of l.heads others ++ marks-after))
  starts-first = starts-parts l before b (others ++ after)
      ∙ ap (λ (ms : List ℕ). marks-before ++ mark_of l.heads b ∷ (unmarked (size_of l.heads b / 4 - 1) ++ ms))
      (ap (λ (ms : List ℕ). ms ++ unmarked (length l.spare / 4)) (marks_of-append l.heads others after) ∙ append_assoc (marks_of l.heads others) (marks_of l.heads after) (unmarked (length l.spare / 4)))

  starts-last : starts_of (with_blocks (before ++ (others ++ b ∷ after)) l) ≡ marks-before ++ (marks_of l.heads others ++ mark_of l.heads b ∷ (unmarked (size_of l.heads b / 4 - 1) ++ marks-after))
  starts-last = ap (λ (bs : List RawBlock). starts_of (with_blocks bs l)) (sym (append_assoc before others (b ∷ after))) ∙ starts-parts l (before ++ others) b after
      ∙ ap (λ (ms : List ℕ). ms ++ mark_of l.heads b ∷ (unmarked (size_of l.heads b / 4 - 1) ++ marks-after))
      (ap (λ (ms : List ℕ). unmarked (zone_header / 4) ++ ms) (marks_of-append l.heads before others) ∙ sym (append_assoc (unmarked (zone_header / 4)) (marks_of l.heads before) (marks_of l.heads others)))
      ∙ append_assoc marks-before (marks_of l.heads others) (mark_of l.heads b ∷ (unmarked (size_of l.heads b / 4 - 1) ++ marks-after))

module _ (l : Layout) (here : RawBlock) (free : IsTrue (is_free here.role)) (none : length here.slack ≡ 0) (stale : List ℕ) (long : length stale ≡ size_of l.heads here) where
  -- a free block, of which all bytes but its header are others
  abbrev anew : RawBlock
  anew = record here { contents = drop (head_size l.heads) stale }

  -- it is that block, moved
  anew-moved : IsMoved here anew
  anew-moved = let e = length-drop (head_size l.heads) stale in moved-free here (drop (head_size l.heads) stale) free (omega arith)

  -- its bytes, once its header is written
  anew-written : (low high : List ℕ) (at : ℕ) → at ≡ length low → written (low ++ (stale ++ high)) at (head l here) ≡ low ++ (bytes_of l anew ++ high)
  anew-written low high at there =
      let k = head_size l.heads in let cut = length-take-le k stale (omega arith) in let headed = length-head_bytes l.heads l.base (header_of l.heads here) in
      let left = drop k stale in
      let same : head l here ≡ head l anew = ap (head_bytes l.heads l.base) (sym (moved-header l.heads here anew anew-moved)) in
      let whole : left ≡ left ++ here.slack = sym (append-nil left) ∙ ap (λ (xs : List ℕ). left ++ xs) (sym (nil_from_length here.slack none)) in
      ap (λ (xs : List ℕ). written (low ++ xs) at (head l here)) (ap (λ (xs : List ℕ). xs ++ high) (sym (take-append-drop k stale)) ∙ append_assoc (take k stale) left high)
      ∙ written-middle low (take k stale) (left ++ high) (head l here) at there (omega arith)
      ∙ ap (λ (xs : List ℕ). low ++ xs) (sym (append_assoc (head l here) left high)) ∙ (λ i. low ++ ((same i ++ whole i) ++ high))

-- blocks with one before some of them, or after these
abbrev pub with-first : List RawBlock → List RawBlock → List RawBlock → RawBlock → List RawBlock
with-first before others after b = before ++ b ∷ (others ++ after)

abbrev pub with-last : List RawBlock → List RawBlock → List RawBlock → RawBlock → List RawBlock
with-last before others after b = before ++ (others ++ b ∷ after)

-- Memory in which a block has moved to where these blocks have it, after the zone's header as it was.
pub record HasMoved (z : Inside) (here : RawBlock) (blocks : RawBlock → List RawBlock) (m : State) : Type 0 where
  pub moved : RawBlock
  pub same : IsMoved here moved
  pub kept : IsKept z m
  pub bytes : m.bytes ≡ stale_image (layout_of z) (blocks moved)

-- What is known of blocks of a zone that change places with one, none of them lent.
pub record AreUnlent (z : Inside) (before others : List RawBlock) (here : RawBlock) : Type 0 where
  pub here_unlent : here.lent ≡ false
  pub others_unlent : AllUnlent others
  pub before_possible : IsTrue (list_all (is_possible z.spec.heads) before)
  pub here_possible : IsTrue (is_possible z.spec.heads here)
  pub others_possible : IsTrue (list_all (is_possible z.spec.heads) others)

-- Where the bytes lie of blocks, of which one has this header and the others have so many bytes.
pub record LiesFrom (z : Inside) (start : ℕ) (header : Header) (count : ℕ) : Type 0 where
  pub above : z.spec.base + zone_header ≤ start
  pub below : start + header.size + count ≤ z.spec.base + z.spec.size
  pub within : z.spec.size ≤ z.spec.limit
  pub all_bytes : length z.memory.bytes ≡ z.spec.limit
  pub marks : z.spec.size ≤ 4 * length z.index
  pub headed : head_size z.spec.heads ≤ header.size
  pub large : 12 ≤ header.size
  pub few : header.correction ≤ most_over z.spec.heads
  pub even : (start - z.spec.base) % 4 ≡ 0
  pub even_size : header.size % 4 ≡ 0
  pub even_count : count % 4 ≡ 0
  pub free : (p n : ℕ) → start ≤ z.spec.base + p → z.spec.base + p + n ≤ start + header.size + count → IsFree z.memory.lent p n

module _ (z : Inside) (whole : IsLayout z) (before others after : List RawBlock) (here : RawBlock) where
  -- a block before the others
  pub unlent-first : (layout_of z).blocks ≡ before ++ here ∷ (others ++ after) → IsTrue (none_lent (here ∷ others)) → AreUnlent z before others here
  unlent-first is unlent =
      let p = is_possible z.spec.heads in let none = all-unlent (here ∷ others) unlent in
      let both = and-true (list_all p before) (list_all p (here ∷ (others ++ after))) (sym (list_all-append p before (here ∷ (others ++ after))) ∙ sym (ap (list_all p) is) ∙ whole.possible) in
      let both' = and-true (p here) (list_all p (others ++ after)) both.1 in let both'' = and-true (list_all p others) (list_all p after) (sym (list_all-append p others after) ∙ both'.1) in
      record { here_unlent = none.0; others_unlent = none.1; before_possible = both.0; here_possible = both'.0; others_possible = both''.0 }

  -- a block after them
  pub unlent-last : (layout_of z).blocks ≡ before ++ (others ++ here ∷ after) → IsTrue (none_lent (others ++ here ∷ [])) → AreUnlent z before others here
  unlent-last is unlent =
      let p = is_possible z.spec.heads in let q = λ (b : RawBlock). not b.lent in
      let none = and-true (none_lent others) (none_lent (here ∷ [])) (sym (list_all-append q others (here ∷ [])) ∙ unlent) in
      let both = and-true (list_all p before) (list_all p (others ++ here ∷ after)) (sym (list_all-append p before (others ++ here ∷ after)) ∙ sym (ap (list_all p) is) ∙ whole.possible) in
      let both' = and-true (list_all p others) (list_all p (here ∷ after)) (sym (list_all-append p others (here ∷ after)) ∙ both.1) in
      record { here_unlent = (all-unlent (here ∷ []) none.1).0; others_unlent = all-unlent others none.0; before_possible = both.0; here_possible = (and-true (p here) (list_all p after) both'.1).0; others_possible = both'.0 }

  -- where they lie
  pub lies-from : AreUnlent z before others here → (run : List RawBlock) → (layout_of z).blocks ≡ before ++ (run ++ after) → AllUnlent run → total_of z.spec.heads run ≡ size_of z.spec.heads here + total_of z.spec.heads others
      → (start : ℕ) (header : Header) (count : ℕ) → start ≡ z.spec.base + zone_header + total_of z.spec.heads before → header ≡ header_of z.spec.heads here → count ≡ total_of z.spec.heads others → LiesFrom z start header count
  lies-from a run is unlent sum start header count there said long =
      let heads = z.spec.heads in let p = IsPossible-from heads here a.here_possible in let large = p.large in let some = smallest-block heads in let even = p.even in let few = p.few in
      let size : header.size ≡ size_of heads here = ap (λ (h : Header). h.size) said in let slack : header.correction ≡ length here.slack = ap (λ (h : Header). h.correction) said in
      let first = length-marks_of heads before a.before_possible in let second = length-marks_of heads others a.others_possible in
      let total = ap (total_of heads) is ∙ total_of-append heads before (run ++ after) in let total' = total_of-append heads run after in let ends = total-ends z whole in
      record {
        above = omega arith;
        below = omega arith;
        within = whole.high;
        all_bytes = whole.all_bytes;
        marks = length-starts z whole;
        headed = omega arith;
        large = omega arith;
        few = omega arith;
        even = omega arith;
        even_size = omega arith;
        even_count = omega arith;
        free = λ p n low high. unlent-free z whole before run after is unlent p n (omega arith) (omega arith);
      }

module _ (z : Inside) (whole : IsLayout z) (small : ArePossible z.spec) (before others after : List RawBlock) (here : RawBlock) (a : AreUnlent z before others here) where
  -- no bytes of it are over where it is free
  none-over : IsTrue (is_free here.role) → length here.slack ≡ 0
  none-over free = slack-free z.spec.heads here.role (length here.slack) free (IsPossible-from z.spec.heads here a.here_possible).told

  -- the bytes of the others
  abbrev rest : List ℕ
  rest = rendered z.spec.heads z.spec.base others

  -- how the block lies before the others, and what its going after them is
  module _ (is : (layout_of z).blocks ≡ with-first before others after here) (p n c : ℕ) (there : p ≡ zone_header + total_of z.spec.heads before) (size : n ≡ size_of z.spec.heads here) (count : c ≡ total_of z.spec.heads others) where
    bytes-first : z.memory.bytes ≡ front (layout_of z) before ++ (bytes_of (layout_of z) here ++ (rest ++ rear (layout_of z) after))
    bytes-first = whole.form ∙ ap (stale_image (layout_of z)) is ∙ image-first (layout_of z) before others after here

    -- all turn
    pub carried-used : (m : State) → m ≡ with_bytes z.memory p (part z.memory.bytes (p + n) c ++ part z.memory.bytes p n) → HasMoved z here (with-last before others after) m
    carried-used m is_m = let l = layout_of z in let b = length-front l before in let e = length-bytes_of l here in let f = length-rendered z.spec.heads z.spec.base others in record {
      moved = here;
      same = moved-itself here;
      kept = kept-written z z.memory m p (part z.memory.bytes (p + n) c ++ part z.memory.bytes p n) (kept-first z whole small) is_m (omega arith);
      bytes = ap (λ (s : State). s.bytes) is_m
          ∙ parts-turned z.memory.bytes (front l before) (bytes_of l here) rest (rear l after) bytes-first p (omega arith) (p + n) c n (omega arith) (omega arith) (omega arith)
          ∙ sym (image-last l before others after here);
    }

    -- the header of a free one is written after the others, which have slid down
    carried-anew : (m : State) (free : IsTrue (is_free here.role)) (stale : List ℕ) → length stale ≡ size_of z.spec.heads here → (slid : State) → IsKept z slid
        → slid.bytes ≡ front (layout_of z) before ++ (rest ++ (stale ++ rear (layout_of z) after)) → m ≡ with_bytes slid (p + c) (head (layout_of z) here) → HasMoved z here (with-last before others after) m
    carried-anew m free stale fits slid kept slides is_m =
        let l = layout_of z in let b = length-front l before in let f = length-rendered z.spec.heads z.spec.base others in let g = length-append (front l before) rest in
        record {
          moved = anew l here free (none-over free) stale fits;
          same = anew-moved l here free (none-over free) stale fits;
          kept = kept-written z slid m (p + c) (head l here) kept is_m (omega arith);
          bytes = ap (λ (s : State). s.bytes) is_m
              ∙ ap (λ (xs : List ℕ). written xs (p + c) (head l here)) (slides ∙ sym (append_assoc (front l before) rest (stale ++ rear l after)))
              ∙ anew-written l here free (none-over free) stale fits (front l before ++ rest) (rear l after) (p + c) (omega arith)
              ∙ append_assoc (front l before) rest (bytes_of l (anew l here free (none-over free) stale fits) ++ rear l after)
              ∙ sym (image-last l before others after (anew l here free (none-over free) stale fits));
        }

    -- the others slide down, and the header is written after them
    pub carried-free : (m : State) → IsTrue (is_free here.role) → m ≡ with_bytes (with_bytes z.memory p (part z.memory.bytes (p + n) c)) (p + c) (head (layout_of z) here) → HasMoved z here (with-last before others after) m
    carried-free m free is_m =
        let l = layout_of z in let b = length-front l before in let e = length-bytes_of l here in let f = length-rendered z.spec.heads z.spec.base others in
        let sum = length-append (bytes_of l here) rest in let cut = length-drop (length rest) (bytes_of l here ++ rest) in
        carried-anew m free (drop (length rest) (bytes_of l here ++ rest)) (omega arith) (with_bytes z.memory p (part z.memory.bytes (p + n) c))
        (kept-written z z.memory (with_bytes z.memory p (part z.memory.bytes (p + n) c)) p (part z.memory.bytes (p + n) c) (kept-first z whole small) refl (omega arith))
        (slid-down z.memory.bytes (front l before) (bytes_of l here) rest (rear l after) bytes-first p (omega arith) (p + n) c (omega arith) (omega arith)) is_m

    -- the index then
    pub carried-marks : (b : RawBlock) → IsMoved here b → (k : ℕ) → k ≡ mark_of z.spec.heads here → set (shifted_down ((p + n) / 4) (p / 4) (c / 4) z.index) (p / 4 + c / 4) k ≡ starts_of (with_blocks (with-last before others after b) (layout_of z))
    carried-marks b moved k mark =
        let l = layout_of z in let heads = z.spec.heads in let h = IsPossible-from heads here a.here_possible in let large = h.large in let even = h.even in let some = smallest-block heads in
        let first = length-marks_of heads before a.before_possible in let second = length-marks_of heads others a.others_possible in let long = length-before heads before (p / 4) a.before_possible (omega arith) in
        ap (λ (ms : List ℕ). set (shifted_down ((p + n) / 4) (p / 4) (c / 4) ms) (p / 4 + c / 4) k)
        (whole.marked ∙ ap (λ (bs : List RawBlock). starts_of (with_blocks bs l)) is ∙ starts-first l before others after here)
        ∙ numbers-down (marks-before l before others after here) (marks_of heads others) (marks-after l before others after here) (mark_of heads here) k (size_of heads here / 4 - 1)
        ((p + n) / 4) (p / 4) (c / 4) (p / 4 + c / 4) (sym long) (omega arith) (omega arith) refl
        ∙ (λ i. marks-before l before others after here ++ (marks_of heads others ++ (mark ∙ sym (moved-mark heads here b moved)) i ∷ (unmarked (sym (moved-size heads here b moved) i / 4 - 1) ++ marks-after l before others after here)))
        ∙ sym (starts-last l before others after b)

    -- what the fields stand for then
    pub carried-read : (m s : State) (index : List ℕ) (base : ℕ) (e : HasMoved z here (with-last before others after) m) → index ≡ starts_of (with_blocks (with-last before others after e.moved) (layout_of z)) → base ≡ z.spec.base
        → s ≡ counted m base 0 0 (first_marked base index) → IsRead (record z { memory = s; index = index }) (with_blocks (with-last before others after e.moved) (layout_of z))
    carried-read m s index base e marks base_is settles =
        let heads = z.spec.heads in let regroup : before ++ ((others ++ e.moved ∷ []) ++ after) ≡ with-last before others after e.moved = ap (λ (bs : List RawBlock). before ++ bs) (append_assoc others (e.moved ∷ []) after) in
        let sum = total_of-append heads others (e.moved ∷ []) in let sizes = moved-size heads here e.moved e.same in let frees = free-append heads others (e.moved ∷ []) in let one = moved-free_bytes heads here e.moved e.same in
        subst (λ (bs : List RawBlock). IsRead (record z { memory = s; index = index }) (with_blocks bs (layout_of z))) regroup
        (replaced z whole small before (here ∷ others) (others ++ e.moved ∷ []) after is (a.here_unlent, a.others_unlent) (more-unlent others e.moved a.others_unlent (e.same.lent ∙ a.here_unlent)) (omega arith)
        (possible-with heads others (e.moved ∷ []) a.others_possible (possible-more heads e.moved [] (moved-possible heads here e.moved e.same a.here_possible) refl))
        m s index base 0 0 e.kept.name e.kept.lent (e.bytes ∙ sym (ap (stale_image (layout_of z)) regroup)) (marks ∙ sym (ap (λ (bs : List RawBlock). starts_of (with_blocks bs (layout_of z))) regroup)) base_is (omega arith) settles)

  -- how the block lies after the others, and what its going before them is
  module _ (is : (layout_of z).blocks ≡ with-last before others after here) (p n c : ℕ) (there : p ≡ zone_header + total_of z.spec.heads before) (size : n ≡ size_of z.spec.heads here) (count : c ≡ total_of z.spec.heads others) where
    bytes-last : z.memory.bytes ≡ front (layout_of z) before ++ (rest ++ (bytes_of (layout_of z) here ++ rear (layout_of z) after))
    bytes-last = whole.form ∙ ap (stale_image (layout_of z)) is ∙ image-last (layout_of z) before others after here

    -- all turn
    pub sunk-used : (m : State) → m ≡ with_bytes z.memory p (part z.memory.bytes (p + c) n ++ part z.memory.bytes p c) → HasMoved z here (with-first before others after) m
    sunk-used m is_m = let l = layout_of z in let b = length-front l before in let e = length-bytes_of l here in let f = length-rendered z.spec.heads z.spec.base others in record {
      moved = here;
      same = moved-itself here;
      kept = kept-written z z.memory m p (part z.memory.bytes (p + c) n ++ part z.memory.bytes p c) (kept-first z whole small) is_m (omega arith);
      bytes = ap (λ (s : State). s.bytes) is_m
          ∙ parts-turned z.memory.bytes (front l before) rest (bytes_of l here) (rear l after) bytes-last p (omega arith) (p + c) n c (omega arith) (omega arith) (omega arith)
          ∙ sym (image-first l before others after here);
    }

    -- the header of a free one is written before the others, which have slid up
    sunk-anew : (m : State) (free : IsTrue (is_free here.role)) (stale : List ℕ) → length stale ≡ size_of z.spec.heads here → (slid : State) → IsKept z slid
        → slid.bytes ≡ front (layout_of z) before ++ (stale ++ (rest ++ rear (layout_of z) after)) → m ≡ with_bytes slid p (head (layout_of z) here) → HasMoved z here (with-first before others after) m
    sunk-anew m free stale fits slid kept slides is_m =
        let l = layout_of z in let b = length-front l before in
        record {
          moved = anew l here free (none-over free) stale fits;
          same = anew-moved l here free (none-over free) stale fits;
          kept = kept-written z slid m p (head l here) kept is_m (omega arith);
          bytes = ap (λ (s : State). s.bytes) is_m ∙ ap (λ (xs : List ℕ). written xs p (head l here)) slides
              ∙ anew-written l here free (none-over free) stale fits (front l before) (rest ++ rear l after) p (omega arith)
              ∙ sym (image-first l before others after (anew l here free (none-over free) stale fits));
        }

    -- the others slide up, and the header is written before them
    pub sunk-free : (m : State) → IsTrue (is_free here.role) → m ≡ with_bytes (with_bytes z.memory (p + n) (part z.memory.bytes p c)) p (head (layout_of z) here) → HasMoved z here (with-first before others after) m
    sunk-free m free is_m =
        let l = layout_of z in let b = length-front l before in let e = length-bytes_of l here in let f = length-rendered z.spec.heads z.spec.base others in
        let sum = length-append rest (bytes_of l here) in let cut = length-take-le (length (bytes_of l here)) (rest ++ bytes_of l here) (omega arith) in
        sunk-anew m free (take (length (bytes_of l here)) (rest ++ bytes_of l here)) (omega arith) (with_bytes z.memory (p + n) (part z.memory.bytes p c))
        (kept-written z z.memory (with_bytes z.memory (p + n) (part z.memory.bytes p c)) (p + n) (part z.memory.bytes p c) (kept-first z whole small) refl (omega arith))
        (slid-up z.memory.bytes (front l before) rest (bytes_of l here) (rear l after) bytes-last p (omega arith) (p + n) c (omega arith) (omega arith)) is_m

    -- the index then
    pub sunk-marks : (b : RawBlock) → IsMoved here b → (k : ℕ) → k ≡ mark_of z.spec.heads here → set (shifted_up (p / 4) ((p + n) / 4) (c / 4) z.index) (p / 4) k ≡ starts_of (with_blocks (with-first before others after b) (layout_of z))
    sunk-marks b moved k mark =
        let l = layout_of z in let heads = z.spec.heads in let h = IsPossible-from heads here a.here_possible in let large = h.large in let even = h.even in let some = smallest-block heads in
        let first = length-marks_of heads before a.before_possible in let second = length-marks_of heads others a.others_possible in let long = length-before heads before (p / 4) a.before_possible (omega arith) in
        ap (λ (ms : List ℕ). set (shifted_up (p / 4) ((p + n) / 4) (c / 4) ms) (p / 4) k)
        (whole.marked ∙ ap (λ (bs : List RawBlock). starts_of (with_blocks bs l)) is ∙ starts-last l before others after here)
        ∙ numbers-up (marks-before l before others after here) (marks_of heads others) (marks-after l before others after here) (mark_of heads here) k (size_of heads here / 4 - 1)
        (p / 4) ((p + n) / 4) (c / 4) (sym long) (omega arith) (omega arith)
        ∙ (λ i. marks-before l before others after here ++ (mark ∙ sym (moved-mark heads here b moved)) i ∷ (unmarked (sym (moved-size heads here b moved) i / 4 - 1) ++ (marks_of heads others ++ marks-after l before others after here)))
        ∙ sym (starts-first l before others after b)

    -- what the fields stand for then
    pub sunk-read : (m s : State) (index : List ℕ) (base : ℕ) (e : HasMoved z here (with-first before others after) m) → index ≡ starts_of (with_blocks (with-first before others after e.moved) (layout_of z)) → base ≡ z.spec.base
        → s ≡ counted m base 0 0 (first_marked base index) → IsRead (record z { memory = s; index = index }) (with_blocks (with-first before others after e.moved) (layout_of z))
    sunk-read m s index base e marks base_is settles =
        let heads = z.spec.heads in let regroup : before ++ ((others ++ here ∷ []) ++ after) ≡ with-last before others after here = ap (λ (bs : List RawBlock). before ++ bs) (append_assoc others (here ∷ []) after) in
        let sum = total_of-append heads others (here ∷ []) in let sizes = moved-size heads here e.moved e.same in let frees = free-append heads others (here ∷ []) in let one = moved-free_bytes heads here e.moved e.same in
        replaced z whole small before (others ++ here ∷ []) (e.moved ∷ others) after (is ∙ sym regroup) (more-unlent others here a.others_unlent a.here_unlent) (e.same.lent ∙ a.here_unlent, a.others_unlent) (omega arith)
        (possible-more heads e.moved others (moved-possible heads here e.moved e.same a.here_possible) a.others_possible)
        m s index base 0 0 e.kept.name e.kept.lent e.bytes marks base_is (omega arith) settles
