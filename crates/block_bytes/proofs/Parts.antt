-- The bytes of a zone in parts: those before a block, its header, its body, and those after it.
use Rattle.std.proofs.Common.{◌≡◌, ℕ, ◌+◌, ◌-◌, ◌*◌, ◌/◌, ◌<◌, ◌≤◌, ◌^◌, Bool, List, [], ◌∷◌, ◌++◌, length, drop, sym, ap, ◌∙◌, arith, append_assoc, length-append, drop_at, IsTrue}
use Rattle.std.specs.Prelude.{◌&&◌}
use Rattle.std.specs.List.{list_all}
use Rattle.std.proofs.lemmas.List.Folds.{list_all-append}
use Rattle.byteorder.specs.Endian.{big_number}
use Rattle.mac_base.specs.declared.block.HeadKind.{HeadKind}
use Rattle.mac_base.specs.HeadKind.{zone_header, address_end}
use Rattle.mac_base.specs.ZoneSizes.{ArePossible}
use Rattle.mac_base.proofs.Reach.{end-small}
use Rattle.raw_region.specs.Bytes.{part}
use Rattle.mac_base.specs.ZoneState.{Name}
use Rattle.raw_region.specs.State.{State}
use Rattle.block_bytes.specs.declared.blocks.Blocks.TheInside.{Inside}
use Rattle.block_bytes.specs.Head.{head_bytes}
use Rattle.block_bytes.specs.ZoneHead.{front_field}
use Rattle.block_bytes.specs.Layout.{RawBlock, Layout, body, size_of, total_of, free_total, header_of, is_possible, rendered, header_bytes, image_of, with_blocks, address_after, first_free, lent_count, most_lent}
use Rattle.block_bytes.specs.Starts.{mark_of, marks_of, starts_of}
use Rattle.block_bytes.specs.Reading.{blocks_in, layout_of, IsLayout, lent_spans, times, SameSpans}
use Rattle.block_bytes.proofs.Rendered.{total_of-append, length-rendered, rendered-append, part-middle}
use Rattle.block_bytes.proofs.ReadBlocks.{and-true, IsPossible, IsPossible-from, rendered-more, blocks_in-rendered}
use Rattle.block_bytes.proofs.ZoneHeads.{length-zone_head, front-read}
use Rattle.block_bytes.proofs.Starts.{unmarked, length-unmarked, length-marks_of, marks_of-same}
use Rattle.block_bytes.specs.Record.{kept_name}

-- the fields stand for this zone, and meet the invariant
pub record IsRead (z : Inside) (l : Layout) : Type 0 where
  pub view : layout_of z ≡ l
  pub whole : IsLayout z

-- how long a zone's header is
pub length-header : (l : Layout) → length (header_bytes l) ≡ zone_header
length-header l = length-zone_head (address_after l l.blocks) l.front (free_total l.heads l.blocks) (first_free l.heads (address_after l []) l.blocks)

-- the zone with these parts, in the memory of this name, with the record that the fields have
abbrev pub zone_of : Name → Inside → ℕ → List RawBlock → List ℕ → Layout
zone_of name z front bs spare = record { memory = record { region = name; kept = kept_name z.kept }; heads = z.spec.heads; base = z.spec.base; front = front; blocks = bs; spare = spare }

-- the fields whose bytes and index are those of a zone stand for it
pub image-read : (z : Inside) (name : Name) (front : ℕ) (bs : List RawBlock) (spare : List ℕ) → z.memory.name ≡ name → front < 2 ^ 32
    → zone_header + total_of z.spec.heads bs ≡ z.spec.size → IsTrue (list_all (is_possible z.spec.heads) bs) → z.spec.limit < address_end z.spec.heads → z.spec.base < 2 ^ 32
    → z.spec.size ≤ z.spec.limit → length z.memory.bytes ≡ z.spec.limit → z.memory.bytes ≡ image_of (zone_of name z front bs spare)
    → z.index ≡ starts_of (zone_of name z front bs spare) → SameSpans z.memory.lent (lent_spans z.spec.heads zone_header bs)
    → z.loans ≡ lent_count bs → z.loans ≤ most_lent → IsRead z (zone_of name z front bs spare)
image-read z name front bs spare named told ends possible small low high all is marks lent loans few =
    let l = zone_of name z front bs spare in let bytes = rendered z.spec.heads z.spec.base bs in let long = length-rendered z.spec.heads z.spec.base bs in
    let head = length-header l in let sum = length-append (header_bytes l) (bytes ++ spare) in let sum' = length-append bytes spare in let sum'' = length-append (header_bytes l) bytes in
    let total : length z.memory.bytes ≡ length (image_of l) = ap length is in
    let front-is : big_number 4 (part z.memory.bytes front_field 4) ≡ front = ap (λ (m : List ℕ). big_number 4 (part m front_field 4)) is
    ∙ front-read (address_after l l.blocks) front (free_total l.heads l.blocks) (first_free l.heads (address_after l []) l.blocks) (bytes ++ spare) told in
    let inside : part z.memory.bytes zone_header (z.spec.size - zone_header) ≡ bytes = ap (λ (m : List ℕ). part m zone_header (z.spec.size - zone_header)) is
    ∙ part-middle (header_bytes l) bytes spare zone_header (z.spec.size - zone_header) (omega arith) (omega arith) in
    let marked : drop (zone_header / 4) z.index ≡ marks_of z.spec.heads bs ++ unmarked (length spare / 4) = ap (drop (zone_header / 4)) marks
    ∙ drop_at (unmarked (zone_header / 4)) (marks_of z.spec.heads bs ++ unmarked (length spare / 4)) (zone_header / 4) (length-unmarked (zone_header / 4)) in
    let blocks-is : blocks_in (length z.memory.bytes) z.spec.heads (drop (zone_header / 4) z.index) (part z.memory.bytes zone_header (z.spec.size - zone_header)) ≡ bs =
    (λ i. blocks_in (length z.memory.bytes) z.spec.heads (marked i) (inside i))
    ∙ blocks_in-rendered z.spec.heads z.spec.base (length z.memory.bytes) bs (unmarked (length spare / 4)) possible (omega arith) low (omega arith) in
    let spare-is : drop z.spec.size z.memory.bytes ≡ spare = ap (drop z.spec.size) (is ∙ sym (append_assoc (header_bytes l) bytes spare)) ∙ drop_at (header_bytes l ++ bytes) spare z.spec.size (omega arith) in
    let read : layout_of z ≡ l = λ i. record { memory = record { region = named i; kept = kept_name z.kept }; heads = z.spec.heads; base = z.spec.base; front = front-is i; blocks = blocks-is i; spare = spare-is i } in
    record {
      view = read;
      whole = record {
        all_bytes = all;
        low = omega arith;
        high = high;
        form = is ∙ sym (ap image_of read);
        ends = ap (λ (m : Layout). address_after m m.blocks) read ∙ omega arith;
        possible = ap (λ (m : Layout). list_all (is_possible m.heads) m.blocks) read ∙ possible;
        marked = marks ∙ sym (ap starts_of read);
        lent = λ s. lent s ∙ sym (ap (λ (m : Layout). times s (lent_spans m.heads zone_header m.blocks)) read);
        loans = loans ∙ sym (ap (λ (m : Layout). lent_count m.blocks) read);
        few = few;
      };
    }

-- the bytes before a block
abbrev pub front : Layout → List RawBlock → List ℕ
front l before = header_bytes l ++ rendered l.heads l.base before

-- the bytes after it
abbrev pub rear : Layout → List RawBlock → List ℕ
rear l after = rendered l.heads l.base after ++ l.spare

-- its header
abbrev pub head : Layout → RawBlock → List ℕ
head l b = head_bytes l.heads l.base (header_of l.heads b)

-- the zone's bytes with other blocks after its header as it was
abbrev pub stale_image : Layout → List RawBlock → List ℕ
stale_image l bs = header_bytes l ++ (rendered l.heads l.base bs ++ l.spare)

-- these bytes in parts
pub image-parts : (l : Layout) (before : List RawBlock) (here : RawBlock) (after : List RawBlock)
    → stale_image l (before ++ here ∷ after) ≡ front l before ++ (head l here ++ (body here ++ rear l after))
image-parts l before here after =
    ap (λ (bytes : List ℕ). header_bytes l ++ (bytes ++ l.spare)) (rendered-append l.heads l.base before (here ∷ after)
    ∙ ap (λ (bytes : List ℕ). rendered l.heads l.base before ++ bytes) (rendered-more l.heads l.base here after)) ∙ simp append_assoc

-- how many bytes lie before a block
pub length-front : (l : Layout) (before : List RawBlock) → length (front l before) ≡ zone_header + total_of l.heads before
length-front l before = let e = length-append (header_bytes l) (rendered l.heads l.base before) in let e' = length-rendered l.heads l.base before in let long = length-header l in omega arith

-- a block of the list, and what is known of it
pub record IsIn (z : Inside) (before : List RawBlock) (here : RawBlock) (after : List RawBlock) : Type 0 where
  pub sum : total_of z.spec.heads (layout_of z).blocks ≡ total_of z.spec.heads before + (size_of z.spec.heads here + total_of z.spec.heads after)
  pub ends : zone_header + total_of z.spec.heads (layout_of z).blocks ≡ z.spec.size
  pub high : z.spec.size ≤ z.spec.limit
  pub all_bytes : length z.memory.bytes ≡ z.spec.limit
  pub here_possible : IsPossible z.spec.heads here
  pub is_possible_here : IsTrue (is_possible z.spec.heads here)
  pub before_possible : IsTrue (list_all (is_possible z.spec.heads) before)
  pub after_possible : IsTrue (list_all (is_possible z.spec.heads) after)
  pub bytes : z.memory.bytes ≡ front (layout_of z) before ++ (head (layout_of z) here ++ (body here ++ rear (layout_of z) after))

-- the sum of the sizes is what the blocks take
pub total-ends : (z : Inside) → IsLayout z → zone_header + total_of z.spec.heads (layout_of z).blocks ≡ z.spec.size
total-ends z whole = let e : z.spec.base + zone_header + total_of z.spec.heads (layout_of z).blocks ≡ z.spec.base + z.spec.size = whole.ends in omega arith

-- each block of the list is in it
pub IsIn-from : (z : Inside) → IsLayout z → (before : List RawBlock) (here : RawBlock) (after : List RawBlock) → (layout_of z).blocks ≡ before ++ here ∷ after → IsIn z before here after
IsIn-from z whole before here after is =
    let p = is_possible z.spec.heads in
    let both = and-true (list_all p before) (list_all p (here ∷ after)) (sym (list_all-append p before (here ∷ after)) ∙ sym (ap (list_all p) is) ∙ whole.possible) in
    let both' = and-true (p here) (list_all p after) both.1 in
    record {
      sum = ap (total_of z.spec.heads) is ∙ total_of-append z.spec.heads before (here ∷ after);
      ends = total-ends z whole;
      high = whole.high;
      all_bytes = whole.all_bytes;
      here_possible = IsPossible-from z.spec.heads here both'.0;
      is_possible_here = both'.0;
      before_possible = both.0;
      after_possible = both'.1;
      bytes = whole.form ∙ ap (λ (bs : List RawBlock). stale_image (layout_of z) bs) is ∙ image-parts (layout_of z) before here after;
    }

-- what holds of the parts of a list holds of the list
pub possible-with : (heads : HeadKind) (before bs : List RawBlock) → IsTrue (list_all (is_possible heads) before) → IsTrue (list_all (is_possible heads) bs) → IsTrue (list_all (is_possible heads) (before ++ bs))
possible-with heads before bs first second = list_all-append (is_possible heads) before bs ∙ ap (λ (b : Bool). b && list_all (is_possible heads) bs) first ∙ second

-- one more block at the front
pub possible-more : (heads : HeadKind) (b : RawBlock) (bs : List RawBlock) → IsTrue (is_possible heads b) → IsTrue (list_all (is_possible heads) bs) → IsTrue (list_all (is_possible heads) (b ∷ bs))
possible-more heads b bs first second = ap (λ (x : Bool). x && list_all (is_possible heads) bs) first ∙ second

-- there are enough numbers for the bytes up to the end of the blocks
pub length-starts : (z : Inside) → IsLayout z → z.spec.size ≤ 4 * length z.index
length-starts z whole = let l = layout_of z in
    let is : length z.index ≡ length (starts_of l) = ap length whole.marked in let ends = total-ends z whole in let long = length-marks_of l.heads l.blocks whole.possible in
    let e = length-append (unmarked (zone_header / 4)) (marks_of l.heads l.blocks ++ unmarked (length l.spare / 4)) in
    let e' = length-append (marks_of l.heads l.blocks) (unmarked (length l.spare / 4)) in let e'' = length-unmarked (zone_header / 4) in omega arith

-- the marks of the zone, by a block of it
pub marked-parts : (z : Inside) → IsLayout z → (before : List RawBlock) (here : RawBlock) (after : List RawBlock) → (layout_of z).blocks ≡ before ++ here ∷ after
    → z.index ≡ starts_of (with_blocks (before ++ here ∷ after) (layout_of z))
marked-parts z whole before here after is = whole.marked ∙ ap (λ (bs : List RawBlock). starts_of (with_blocks bs (layout_of z))) is

-- they are those of the zone with another block of that size and with that mark
pub marked-same : (z : Inside) → IsLayout z → (before : List RawBlock) (here : RawBlock) (after : List RawBlock) → (layout_of z).blocks ≡ before ++ here ∷ after
    → (b : RawBlock) → size_of z.spec.heads b ≡ size_of z.spec.heads here → mark_of z.spec.heads b ≡ mark_of z.spec.heads here → z.index ≡ starts_of (with_blocks (before ++ b ∷ after) (layout_of z))
marked-same z whole before here after is b same mark = let l = layout_of z in
    marked-parts z whole before here after is
    ∙ ap (λ (ms : List ℕ). unmarked (zone_header / 4) ++ (ms ++ unmarked (length l.spare / 4))) (sym (marks_of-same l.heads before b here after same mark))

-- bytes and an index that are those of the zone with other blocks, of the same size in all, stand for it
pub changed : (z : Inside) → IsLayout z → ArePossible z.spec → (bs : List RawBlock) (memory : State) (index : List ℕ) (loans : ℕ) → memory.name ≡ z.memory.name
    → memory.bytes ≡ image_of (with_blocks bs (layout_of z)) → total_of z.spec.heads bs ≡ total_of z.spec.heads (layout_of z).blocks → IsTrue (list_all (is_possible z.spec.heads) bs)
    → index ≡ starts_of (with_blocks bs (layout_of z)) → SameSpans memory.lent (lent_spans z.spec.heads zone_header bs) → loans ≡ lent_count bs → loans ≤ most_lent
    → (layout_of z).front < 2 ^ 32 → IsRead (record z { memory = memory; index = index; loans = loans }) (with_blocks bs (layout_of z))
changed z whole small bs memory index loans named is sum possible marks lent counted few told =
    let l = layout_of z in
    let old = length-rendered l.heads l.base l.blocks in let new = length-rendered l.heads l.base bs in
    let old-head = length-header l in let new-head = length-header (with_blocks bs l) in
    let old-sum = length-append (header_bytes l) (rendered l.heads l.base l.blocks ++ l.spare) in let old-sum' = length-append (rendered l.heads l.base l.blocks) l.spare in
    let new-sum = length-append (header_bytes (with_blocks bs l)) (rendered l.heads l.base bs ++ l.spare) in let new-sum' = length-append (rendered l.heads l.base bs) l.spare in
    let old-long : length z.memory.bytes ≡ length (image_of l) = ap length whole.form in let new-long : length memory.bytes ≡ length (image_of (with_blocks bs l)) = ap length is in
    let ends = total-ends z whole in
    let all : length z.memory.bytes ≡ z.spec.limit = whole.all_bytes in
    let limit = small.small_enough in let end = small.end_low_enough in let top = end-small z.spec.heads in let bottom = small.base_high_enough in
    image-read (record z { memory = memory; index = index; loans = loans }) z.memory.name l.front bs l.spare named told (omega arith) possible (omega arith) (omega arith) whole.high (omega arith) is marks lent counted few
