-- What each change of a zone's bytes is to its list of blocks.
use Rattle.std.proofs.Common.{◌≡◌, ℕ, ◌+◌, ◌-◌, ◌/◌, ◌≤◌, Bool, true, false, List, [], ◌∷◌, ◌++◌, length, drop, refl, sym, ap, ◌∙◌, arith, append_assoc, length-append, length-drop, take-append-drop, IsTrue}
use Rattle.std.specs.Prelude.{◌&&◌, if◌then◌else◌}
use Rattle.std.specs.List.{list_all}
use Rattle.std.proofs.Math.ListN.{set}
use Rattle.mac_base.specs.declared.block.HeadKind.{HeadKind}
use Rattle.mac_base.specs.HeadKind.{head_size, zone_header}
use Rattle.mac_base.specs.ZoneSizes.{ArePossible}
use Rattle.raw_region.specs.Bytes.{written, length-written}
use Rattle.raw_region.specs.State.{State, with_bytes}
use Rattle.block_bytes.specs.declared.header.Header.{Header}
use Rattle.block_bytes.specs.declared.header.Role.{Role}
use Rattle.block_bytes.specs.declared.blocks.Blocks.TheInside.{Inside}
use Rattle.block_bytes.specs.Head.{head_bytes}
use Rattle.block_bytes.specs.ZoneHead.{zone_head}
use Rattle.block_bytes.specs.Layout.{RawBlock, raw_block, body, is_free, size_of, total_of, free_total, first_free, lent_count, most_lent, header_of, is_possible, rendered, header_bytes, with_blocks, joint_body, address_after}
use Rattle.block_bytes.specs.Starts.{free_in, first_marked, mark_in, mark_of, starts_of}
use Rattle.block_bytes.specs.Reading.{layout_of, IsLayout, lent_spans, times, SameSpans}
use Rattle.block_bytes.proofs.Heads.{length-head_bytes}
use Rattle.block_bytes.proofs.Rendered.{total_of-append, written-middle, written-within}
use Rattle.block_bytes.proofs.ReadBlocks.{and-true, IsPossible-from}
use Rattle.block_bytes.proofs.Starts.{mark-written, mark-set, mark-cleared}
use Rattle.block_bytes.proofs.Parts.{IsRead, front, rear, head, stale_image, image-parts, length-front, IsIn-from, possible-with, possible-more, marked-parts, marked-same, changed}
use Rattle.block_bytes.proofs.Spans.{spans-replaced, count-replaced}
use Rattle.block_bytes.proofs.Settled.{counted, replaced, front-fits}
use Rattle.block_bytes.proofs.Walking.{is_possible-from}

-- the bytes of a body taken apart are that body
pub body-raw_block : (role : Role) (n : ℕ) (bytes : List ℕ) → body (raw_block role n bytes) ≡ bytes
body-raw_block role n bytes = take-append-drop n bytes

-- the size of a block by its body
pub size-body : (heads : HeadKind) (b : RawBlock) → size_of heads b ≡ head_size heads + length (body b)
size-body heads b = let e = length-append b.contents b.slack in omega arith

-- the size of a block with this body
pub size-raw_block : (heads : HeadKind) (role : Role) (n : ℕ) (bytes : List ℕ) → size_of heads (raw_block role n bytes) ≡ head_size heads + length bytes
size-raw_block heads role n bytes = size-body heads (raw_block role n bytes) ∙ ap (λ (l : List ℕ). head_size heads + length l) (body-raw_block role n bytes)

-- its header
pub header-raw_block : (heads : HeadKind) (role : Role) (n size : ℕ) (bytes : List ℕ) → size ≡ head_size heads + length bytes
    → record { size = size; role = role; correction = size - head_size heads - n } ≡ header_of heads (raw_block role n bytes)
header-raw_block heads role n size bytes is = let e = size-raw_block heads role n bytes in let e' = length-drop n bytes in
    let a : size ≡ size_of heads (raw_block role n bytes) = omega arith in let b : size - head_size heads - n ≡ length (drop n bytes) = omega arith in
    λ i. record { size = a i; role = role; correction = b i }

-- a header that is written over another
pub head-written : (z : Inside) (before : List RawBlock) (old : Header) (bytes : List ℕ)
    → z.memory.bytes ≡ front (layout_of z) before ++ (head_bytes z.spec.heads z.spec.base old ++ bytes)
    → (place : ℕ) (heads : HeadKind) (base : ℕ) (new h : Header) → place ≡ zone_header + total_of z.spec.heads before → heads ≡ z.spec.heads → base ≡ z.spec.base → new ≡ h
    → written z.memory.bytes place (head_bytes heads base new) ≡ front (layout_of z) before ++ (head_bytes z.spec.heads z.spec.base h ++ bytes)
head-written z before old bytes is place heads base new h here heads_is base_is new_is =
    let e = length-front (layout_of z) before in
    let e' = length-head_bytes z.spec.heads z.spec.base h in let e'' = length-head_bytes z.spec.heads z.spec.base old in
    (λ i. written (is i) place (head_bytes (heads_is i) (base_is i) (new_is i)))
    ∙ written-middle (front (layout_of z) before) (head_bytes z.spec.heads z.spec.base old) bytes (head_bytes z.spec.heads z.spec.base h) place (omega arith) (omega arith)

-- lists in a row
regrouped : (a b c d e f : List ℕ) → a ++ (b ++ ((c ++ (d ++ e)) ++ f)) ≡ (a ++ (b ++ c)) ++ (d ++ (e ++ f))
regrouped a b c d e f = simp append_assoc

grouped : (a b c d : List ℕ) → (a ++ (b ++ c)) ++ d ≡ a ++ (b ++ (c ++ d))
grouped a b c d = simp append_assoc

grouped_back : (a b c d e : List ℕ) → a ++ (b ++ ((c ++ d) ++ e)) ≡ (a ++ b) ++ (c ++ (d ++ e))
grouped_back a b c d e = simp append_assoc

-- a block that isn't lent has the mark of its header
pub mark-unlent : (heads : HeadKind) (b : RawBlock) → b.lent ≡ false → mark_of heads b ≡ mark_in (header_of heads b)
mark-unlent heads b is = ap (λ (t : Bool). if t then 2 else mark_in (header_of heads b)) is

module _ (z : Inside) (whole : IsLayout z) (small : ArePossible z.spec) (before : List RawBlock) (here : RawBlock) (after : List RawBlock) (is : (layout_of z).blocks ≡ before ++ here ∷ after) (unlent : here.lent ≡ false) where
  -- another header for the same body
  pub head-changed : (b : RawBlock) (m n : State) (index : List ℕ) (base gained lost : ℕ) → body b ≡ body here → IsTrue (is_possible z.spec.heads b) → b.lent ≡ false
      → m.name ≡ z.memory.name → m.lent ≡ z.memory.lent → m.bytes ≡ front (layout_of z) before ++ (head (layout_of z) b ++ (body here ++ rear (layout_of z) after))
      → (place : ℕ) → place ≡ (zone_header + total_of z.spec.heads before) / 4 → index ≡ set z.index place (mark_in (header_of z.spec.heads b))
      → base ≡ z.spec.base → gained ≡ free_in (header_of z.spec.heads b) → lost ≡ free_in (header_of z.spec.heads here) → n ≡ counted m base gained lost (first_marked base index)
      → IsRead (record z { memory = n; index = index }) (with_blocks (before ++ b ∷ after) (layout_of z))
  head-changed b m n index base gained lost same possible unlent' named lent bytes place there marks base_is gained_is lost_is settles =
      let i = IsIn-from z whole before here after is in let old = size-body z.spec.heads here in let new = size-body z.spec.heads b in let long : length (body b) ≡ length (body here) = ap length same in
      let size : size_of z.spec.heads b ≡ size_of z.spec.heads here = omega arith in
      replaced z whole small before (here ∷ []) (b ∷ []) after is (unlent, tt) (unlent', tt) (omega arith) (ap (λ (t : Bool). t && true) possible) m n index base gained lost named lent
      (bytes ∙ ap (λ (l : List ℕ). front (layout_of z) before ++ (head (layout_of z) b ++ (l ++ rear (layout_of z) after))) (sym same) ∙ sym (image-parts (layout_of z) before b after))
      (marks ∙ ap (λ (k : ℕ). set z.index place k) (sym (mark-unlent z.spec.heads b unlent')) ∙ ap (λ (ms : List ℕ). set ms place (mark_of z.spec.heads b)) (marked-parts z whole before here after is)
      ∙ mark-written (layout_of z) before here b after i.before_possible size place there)
      base_is (omega arith) settles

module _ (z : Inside) (whole : IsLayout z) (small : ArePossible z.spec) (before : List RawBlock) (here next : RawBlock) (after : List RawBlock) (is : (layout_of z).blocks ≡ before ++ here ∷ next ∷ after)
    (unlent : here.lent ≡ false) (unlent_next : next.lent ≡ false) where
  -- one header for the bodies of two neighbours
  pub merge-changed : (b : RawBlock) (m n : State) (index : List ℕ) (base gained lost : ℕ) → body b ≡ joint_body (layout_of z) here next → IsTrue (is_possible z.spec.heads b) → b.lent ≡ false
      → m.name ≡ z.memory.name → m.lent ≡ z.memory.lent → m.bytes ≡ front (layout_of z) before ++ (head (layout_of z) b ++ (body here ++ rear (layout_of z) (next ∷ after)))
      → (place next_place : ℕ) → place ≡ (zone_header + total_of z.spec.heads before) / 4 → next_place ≡ (zone_header + total_of z.spec.heads before + size_of z.spec.heads here) / 4
      → index ≡ set (set z.index place (mark_in (header_of z.spec.heads b))) next_place 0
      → base ≡ z.spec.base → gained ≡ free_in (header_of z.spec.heads b) → lost ≡ free_in (header_of z.spec.heads here) + free_in (header_of z.spec.heads next) → n ≡ counted m base gained lost (first_marked base index)
      → IsRead (record z { memory = n; index = index }) (with_blocks (before ++ b ∷ after) (layout_of z))
  merge-changed b m n index base gained lost same possible unlent' named lent bytes place next_place there there' marks base_is gained_is lost_is settles =
      let i = IsIn-from z whole before here (next ∷ after) is in let l = layout_of z in
      let long : length (body b) ≡ length (joint_body l here next) = ap length same in
      let e = length-append (body here) (head l next ++ body next) in let e' = length-append (head l next) (body next) in let e'' = length-head_bytes z.spec.heads z.spec.base (header_of z.spec.heads next) in
      let new = size-body z.spec.heads b in let first = size-body z.spec.heads here in let second = size-body z.spec.heads next in
      let joint : body here ++ rear l (next ∷ after) ≡ joint_body l here next ++ rear l after = simp append_assoc in
      let rest = and-true (is_possible z.spec.heads next) (list_all (is_possible z.spec.heads) after) i.after_possible in
      replaced z whole small before (here ∷ next ∷ []) (b ∷ []) after is (unlent, (unlent_next, tt)) (unlent', tt) (omega arith) (ap (λ (t : Bool). t && true) possible) m n index base gained lost named lent
      (bytes ∙ ap (λ (m : List ℕ). front l before ++ (head l b ++ m)) (joint ∙ ap (λ (m : List ℕ). m ++ rear l after) (sym same)) ∙ sym (image-parts l before b after))
      (marks ∙ ap (λ (k : ℕ). set (set z.index place k) next_place 0) (sym (mark-unlent z.spec.heads b unlent'))
      ∙ ap (λ (ms : List ℕ). set (set ms place (mark_of z.spec.heads b)) next_place 0) (marked-parts z whole before here (next ∷ after) is)
      ∙ mark-cleared l before b here next after (omega arith) i.before_possible i.here_possible (IsPossible-from z.spec.heads next rest.0) place next_place there there')
      base_is (omega arith) settles

module _ (z : Inside) (whole : IsLayout z) (small : ArePossible z.spec) (before : List RawBlock) (here : RawBlock) (after : List RawBlock) (is : (layout_of z).blocks ≡ before ++ here ∷ after) (unlent : here.lent ≡ false)
    (first second : RawBlock) (cut : List ℕ) (apart : body here ≡ body first ++ (cut ++ body second)) (cut-long : length cut ≡ head_size z.spec.heads) where
  -- a header within a body, after another header for it
  pub split-written : (place : ℕ) → place ≡ zone_header + total_of z.spec.heads before + size_of z.spec.heads first
      → written (front (layout_of z) before ++ (head (layout_of z) first ++ (body here ++ rear (layout_of z) after))) place (head (layout_of z) second)
      ≡ front (layout_of z) before ++ (head (layout_of z) first ++ (body first ++ (head (layout_of z) second ++ (body second ++ rear (layout_of z) after))))
  split-written place there =
      let l = layout_of z in
      let pre = front l before ++ (head l first ++ body first) in
      let a = length-append (front l before) (head l first ++ body first) in let b = length-append (head l first) (body first) in
      let c = length-head_bytes z.spec.heads z.spec.base (header_of z.spec.heads first) in let d = length-head_bytes z.spec.heads z.spec.base (header_of z.spec.heads second) in
      let e = length-front l before in let f = size-body z.spec.heads first in
      let parts : front l before ++ (head l first ++ (body here ++ rear l after)) ≡ pre ++ (cut ++ (body second ++ rear l after)) =
      ap (λ (m : List ℕ). front l before ++ (head l first ++ (m ++ rear l after))) apart ∙ regrouped (front l before) (head l first) (body first) cut (body second) (rear l after) in
      ap (λ (m : List ℕ). written m place (head l second)) parts
      ∙ written-middle pre cut (body second ++ rear l after) (head l second) place (omega arith) (omega arith)
      ∙ grouped (front l before) (head l first) (body first) (head l second ++ (body second ++ rear l after))

  -- two headers for one body
  pub split-changed : (m n : State) (index : List ℕ) (base gained lost : ℕ) → IsTrue (is_possible z.spec.heads first) → IsTrue (is_possible z.spec.heads second) → first.lent ≡ false → second.lent ≡ false
      → m.name ≡ z.memory.name → m.lent ≡ z.memory.lent
      → m.bytes ≡ front (layout_of z) before ++ (head (layout_of z) first ++ (body first ++ (head (layout_of z) second ++ (body second ++ rear (layout_of z) after))))
      → (place next : ℕ) → place ≡ (zone_header + total_of z.spec.heads before) / 4 → next ≡ (zone_header + total_of z.spec.heads before + size_of z.spec.heads first) / 4
      → index ≡ set (set z.index place (mark_in (header_of z.spec.heads first))) next (mark_in (header_of z.spec.heads second))
      → base ≡ z.spec.base → gained ≡ free_in (header_of z.spec.heads first) + free_in (header_of z.spec.heads second) → lost ≡ free_in (header_of z.spec.heads here) → n ≡ counted m base gained lost (first_marked base index)
      → IsRead (record z { memory = n; index = index }) (with_blocks (before ++ first ∷ second ∷ after) (layout_of z))
  split-changed m n index base gained lost possible possible' unlent' unlent_second named lent bytes place next there there' marks base_is gained_is lost_is settles =
      let i = IsIn-from z whole before here after is in let l = layout_of z in
      let long : length (body here) ≡ length (body first ++ (cut ++ body second)) = ap length apart in
      let e = length-append (body first) (cut ++ body second) in let e' = length-append cut (body second) in
      let old = size-body z.spec.heads here in let one = size-body z.spec.heads first in let two = size-body z.spec.heads second in
      let parts : body first ++ rear l (second ∷ after) ≡ body first ++ (head l second ++ (body second ++ rear l after)) = simp append_assoc in
      replaced z whole small before (here ∷ []) (first ∷ second ∷ []) after is (unlent, tt) (unlent', (unlent_second, tt)) (omega arith)
      (possible-more z.spec.heads first (second ∷ []) possible (ap (λ (t : Bool). t && true) possible')) m n index base gained lost named lent
      (bytes ∙ ap (λ (m : List ℕ). front l before ++ (head l first ++ m)) (sym parts) ∙ sym (image-parts l before first (second ∷ after)))
      (marks ∙ (λ i. set (set z.index place (sym (mark-unlent z.spec.heads first unlent') i)) next (sym (mark-unlent z.spec.heads second unlent_second) i))
      ∙ ap (λ (ms : List ℕ). set (set ms place (mark_of z.spec.heads first)) next (mark_of z.spec.heads second)) (marked-parts z whole before here after is)
      ∙ mark-set l before here first second after (omega arith) i.before_possible (IsPossible-from z.spec.heads first possible) (IsPossible-from z.spec.heads second possible') place next there there')
      base_is (omega arith) settles

-- what the first free block is doesn't change where one block is another of its size, free or not as before
first_free-same : (heads : HeadKind) (at : ℕ) (before : List RawBlock) (b c : RawBlock) (after : List RawBlock) → size_of heads b ≡ size_of heads c → is_free b.role ≡ is_free c.role
    → first_free heads at (before ++ b ∷ after) ≡ first_free heads at (before ++ c ∷ after)
first_free-same heads at [] b c after size free = λ i. if free i then at else first_free heads (at + size i) after
first_free-same heads at (x ∷ before) b c after size free = ap (λ (n : ℕ). if is_free x.role then at else n) (first_free-same heads (at + size_of heads x) before b c after size free)

-- nor how many bytes are free
free_total-same : (heads : HeadKind) (before : List RawBlock) (b c : RawBlock) (after : List RawBlock) → size_of heads b ≡ size_of heads c → is_free b.role ≡ is_free c.role
    → free_total heads (before ++ b ∷ after) ≡ free_total heads (before ++ c ∷ after)
free_total-same heads [] b c after size free = λ i. (if free i then size i else 0) + free_total heads after
free_total-same heads (x ∷ before) b c after size free = ap (λ (n : ℕ). (if is_free x.role then size_of heads x else 0) + n) (free_total-same heads before b c after size free)

module _ (z : Inside) (whole : IsLayout z) (small : ArePossible z.spec) (before : List RawBlock) (here : RawBlock) (after : List RawBlock) (is : (layout_of z).blocks ≡ before ++ here ∷ after) where
  -- with a block of its size in the place of one, free or not as that one, all blocks have the same size
  pub total-same : (b : RawBlock) → size_of z.spec.heads b ≡ size_of z.spec.heads here → total_of z.spec.heads (before ++ b ∷ after) ≡ total_of z.spec.heads (layout_of z).blocks
  total-same b size = let sum = total_of-append z.spec.heads before (b ∷ after) in let sum' = (IsIn-from z whole before here after is).sum in omega arith

  -- and the zone's header says the same
  pub header-same : (b : RawBlock) → size_of z.spec.heads b ≡ size_of z.spec.heads here → is_free b.role ≡ is_free here.role → header_bytes (layout_of z) ≡ header_bytes (with_blocks (before ++ b ∷ after) (layout_of z))
  header-same b size free = let l = layout_of z in
      sym (λ j. zone_head (l.base + zone_header + total-same b size j) l.front
      ((free_total-same z.spec.heads before b here after size free ∙ sym (ap (free_total z.spec.heads) is)) j)
      ((first_free-same z.spec.heads (address_after l []) before b here after size free ∙ sym (ap (first_free z.spec.heads (address_after l [])) is)) j))

  -- other contents of the same length, and maybe lent or not
  pub contents-changed : (lent : Bool) (contents : List ℕ) (m : State) (index : List ℕ) (loans offset place : ℕ) (ws : List ℕ) → place ≡ zone_header + total_of z.spec.heads before + head_size z.spec.heads + offset
      → offset + length ws ≤ length here.contents → contents ≡ written here.contents offset ws → m.name ≡ z.memory.name → m.bytes ≡ written z.memory.bytes place ws
      → IsTrue (is_possible z.spec.heads (record here { contents = contents; lent = lent }))
      → index ≡ starts_of (with_blocks (before ++ (record here { contents = contents; lent = lent }) ∷ after) (layout_of z))
      → SameSpans m.lent (lent_spans z.spec.heads zone_header (before ++ (record here { contents = contents; lent = lent }) ∷ after))
      → loans ≡ lent_count (before ++ (record here { contents = contents; lent = lent }) ∷ after) → loans ≤ most_lent
      → IsRead (record z { memory = m; index = index; loans = loans }) (with_blocks (before ++ (record here { contents = contents; lent = lent }) ∷ after) (layout_of z))
  contents-changed lent contents m index loans offset place ws there fits contents_are named bytes possible marks spans loans_are few =
      let i = IsIn-from z whole before here after is in let l = layout_of z in let b : RawBlock = record here { contents = contents; lent = lent } in
      let long : length contents ≡ length here.contents = ap length contents_are ∙ length-written here.contents offset ws in
      let pre = front l before ++ head l here in let post = here.slack ++ rear l after in
      let e = length-front l before in let e' = length-head_bytes z.spec.heads z.spec.base (header_of z.spec.heads here) in let e'' = length-append (front l before) (head l here) in
      let parts : z.memory.bytes ≡ pre ++ (here.contents ++ post) = i.bytes ∙ grouped_back (front l before) (head l here) here.contents here.slack (rear l after) in
      let size : size_of z.spec.heads b ≡ size_of z.spec.heads here = omega arith in
      let same : head_bytes z.spec.heads z.spec.base (header_of z.spec.heads here) ≡ head l b =
      ap (λ (n : ℕ). head_bytes z.spec.heads z.spec.base (record { size = n; role = here.role; correction = length here.slack })) (sym size) in
      let header = header-same b size refl in
      let stale : m.bytes ≡ stale_image l (before ++ b ∷ after) =
      bytes ∙ ap (λ (m : List ℕ). written m place ws) parts ∙ written-within pre here.contents post place offset ws (omega arith) fits
      ∙ ap (λ (cs : List ℕ). pre ++ (cs ++ post)) (sym contents_are)
      ∙ append_assoc (front l before) (head l here) (contents ++ post) ∙ ap (λ (h : List ℕ). front l before ++ (h ++ (contents ++ post))) same
      ∙ ap (λ (m : List ℕ). front l before ++ (head l b ++ m)) (sym (append_assoc contents here.slack (rear l after))) ∙ sym (image-parts l before b after) in
      changed z whole small (before ++ b ∷ after) m index loans named
      (stale ∙ ap (λ (h : List ℕ). h ++ (rendered l.heads l.base (before ++ b ∷ after) ++ l.spare)) header) (total-same b size)
      (possible-with z.spec.heads before (b ∷ after) i.before_possible (possible-more z.spec.heads b after possible i.after_possible))
      marks spans loans_are few (front-fits z whole)

  -- bytes written in the contents of a block that isn't lent
  pub contents-written : (offset place : ℕ) (ws : List ℕ) → here.lent ≡ false → place ≡ zone_header + total_of z.spec.heads before + head_size z.spec.heads + offset → offset + length ws ≤ length here.contents
      → IsRead (record z { memory = with_bytes z.memory place ws }) (with_blocks (before ++ (record here { contents = written here.contents offset ws }) ∷ after) (layout_of z))
  contents-written offset place ws unlent there fits =
      let i = IsIn-from z whole before here after is in let cs = written here.contents offset ws in let b : RawBlock = record here { contents = cs } in
      let long : length cs ≡ length here.contents = length-written here.contents offset ws in
      let size : size_of z.spec.heads b ≡ size_of z.spec.heads here = omega arith in
      let p = i.here_possible in let even = p.even in let large = p.large in
      contents-changed here.lent cs (with_bytes z.memory place ws) z.index z.loans offset place ws there fits refl refl refl
      (is_possible-from z.spec.heads b (record { even = omega arith; large = omega arith; few = p.few; told = p.told; lendable = p.lendable }))
      (marked-same z whole before here after is b size refl)
      (λ s. whole.lent s ∙ ap (λ (bs : List RawBlock). times s (lent_spans z.spec.heads zone_header bs)) is
      ∙ ap (times s) (sym (spans-replaced before (here ∷ []) (b ∷ []) after (unlent, tt) (unlent, tt) z.spec.heads zone_header (omega arith))))
      (whole.loans ∙ ap lent_count is ∙ sym (count-replaced before (here ∷ []) (b ∷ []) after (unlent, tt) (unlent, tt))) whole.few
