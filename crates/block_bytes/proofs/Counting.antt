-- What counting the free bytes asks for, once bytes after the zone's header have changed.
use Rattle.std.proofs.Common.{◌≡◌, ℕ, zero, suc, ◌∷◌, ◌+◌, ◌-◌, ◌*◌, ◌/◌, ◌<◌, ◌≤◌, Bool, true, false, List, [], ◌++◌, length, refl, sym, ap, subst, ◌∙◌, inl, arith, slice_index, length-append, length-drop}
use Rattle.std.specs.Prelude.{if◌then◌else◌}
use Rattle.std.proofs.Math.ListN.{set}
use Rattle.std.proofs.lemmas.List.{get_or-set_other}
use Rattle.byteorder.specs.Endian.{big_number}
use Rattle.mac_base.specs.HeadKind.{zone_header}
use Rattle.mac_base.specs.ZoneSizes.{ArePossible}
use Rattle.mac_base.proofs.Reach.{end-small}
use Rattle.raw_region.specs.Bytes.{part, length-written}
use Rattle.raw_region.specs.Span.{Span, IsFree}
use Rattle.raw_region.specs.State.{State, with_bytes}
use Rattle.raw_region.proofs.Numbers.{number-apart}
use Rattle.block_bytes.specs.declared.header.Header.{Header}
use Rattle.block_bytes.specs.declared.blocks.Blocks.TheInside.{Inside}
use Rattle.block_bytes.specs.ZoneHead.{free_field, lowest_field, CanCount}
use Rattle.block_bytes.specs.Layout.{RawBlock, is_free, free_total, first_free, rendered, address_after}
use Rattle.block_bytes.specs.Starts.{free_in, starts_of, marks_of, first_marked, NoneLower}
use Rattle.block_bytes.specs.Reading.{layout_of, IsLayout}
use Rattle.block_bytes.proofs.ZoneHeads.{lowest-read}
use Rattle.block_bytes.proofs.Starts.{unmarked, length-unmarked, length-marks_of, first_marked-starts, first_marked-few, first_marked-lower}
use Rattle.block_bytes.proofs.Parts.{total-ends}
use Rattle.block_bytes.proofs.Settled.{free-append, free-counted, free-few, header-free}

-- the index has no more numbers than the bytes have words
index-limit : (z : Inside) → IsLayout z → 4 * length z.index ≤ z.spec.limit
index-limit z whole = let l = layout_of z in
    let is : length z.index ≡ length (starts_of l) = ap length whole.marked in let ends = total-ends z whole in let long = length-marks_of l.heads l.blocks whole.possible in
    let e = length-append (unmarked (zone_header / 4)) (marks_of l.heads l.blocks ++ unmarked (length l.spare / 4)) in
    let e' = length-append (marks_of l.heads l.blocks) (unmarked (length l.spare / 4)) in let e'' = length-unmarked (zone_header / 4) in let f = length-unmarked (length l.spare / 4) in
    let spare : length l.spare ≡ z.spec.limit - z.spec.size = length-drop z.spec.size z.memory.bytes ∙ ap (λ (n : ℕ). n - z.spec.size) whole.all_bytes in
    let high = whole.high in omega arith

-- memory that differs from a zone's after its header alone
pub record IsKept (z : Inside) (m : State) : Type 0 where
  pub name : m.name ≡ z.memory.name
  pub lent : m.lent ≡ z.memory.lent
  pub long : length m.bytes ≡ z.spec.limit
  pub free : big_number 4 (part m.bytes free_field 4) ≡ free_total z.spec.heads (layout_of z).blocks
  pub lowest : big_number 4 (part m.bytes lowest_field 4) ≡ first_marked z.spec.base z.index

-- the address of the lowest free block is read where the index has it
lowest-marked : (z : Inside) → IsLayout z → ArePossible z.spec → big_number 4 (part z.memory.bytes lowest_field 4) ≡ first_marked z.spec.base z.index
lowest-marked z whole small = let l = layout_of z in let limit = small.small_enough in let end = small.end_low_enough in let top = end-small z.spec.heads in let bottom = small.base_high_enough in let marks = index-limit z whole in let few = first_marked-few z.index z.spec.base in
    let start : l.base + zone_header ≡ address_after l [] = omega arith in
    let is : first_marked z.spec.base z.index ≡ first_free l.heads (address_after l []) l.blocks =
    ap (first_marked z.spec.base) whole.marked ∙ first_marked-starts l whole.possible ∙ ap (λ (at : ℕ). first_free l.heads at l.blocks) start in
    ap (λ (m : List ℕ). big_number 4 (part m lowest_field 4)) whole.form
    ∙ lowest-read (address_after l l.blocks) l.front (free_total l.heads l.blocks) (first_free l.heads (address_after l []) l.blocks) (rendered l.heads l.base l.blocks ++ l.spare) (omega arith)
    ∙ sym is

-- the zone's own
pub kept-first : (z : Inside) → IsLayout z → ArePossible z.spec → IsKept z z.memory
kept-first z whole small = record {
  name = refl;
  lent = refl;
  long = whole.all_bytes;
  free = free-counted z whole small z.memory (layout_of z).blocks whole.form;
  lowest = lowest-marked z whole small;
}

-- with bytes written
pub kept-written : (z : Inside) (m n : State) (at : ℕ) (ws : List ℕ) → IsKept z m → n ≡ with_bytes m at ws → zone_header ≤ at → IsKept z n
kept-written z m n at ws kept is after = record {
  name = ap (λ (s : State). s.name) is ∙ kept.name;
  lent = ap (λ (s : State). s.lent) is ∙ kept.lent;
  long = ap (λ (s : State). length s.bytes) is ∙ length-written m.bytes at ws ∙ kept.long;
  free = ap (λ (s : State). big_number 4 (part s.bytes free_field 4)) is ∙ number-apart m.bytes at ws free_field 4 (inl (omega arith)) ∙ kept.free;
  lowest = ap (λ (s : State). big_number 4 (part s.bytes lowest_field 4)) is ∙ number-apart m.bytes at ws lowest_field 4 (inl (omega arith)) ∙ kept.lowest;
}

-- the free bytes of a block are no more than its size
pub free_in-small : (h : Header) → free_in h ≤ h.size
free_in-small h = either (is_free h.role)
  where
    either : (free : Bool) → (if free then h.size else 0) ≤ h.size
    either true = omega arith
    either false = omega arith

-- blocks of the list have no more than all
pub free-among : (z : Inside) (before mid after : List RawBlock) → (layout_of z).blocks ≡ before ++ (mid ++ after) → free_total z.spec.heads mid ≤ free_total z.spec.heads (layout_of z).blocks
free-among z before mid after is = let a = free-append z.spec.heads before (mid ++ after) in let b = free-append z.spec.heads mid after in let c = ap (free_total z.spec.heads) is in omega arith

-- free bytes may be counted, where no more come to the free ones than the zone may have
pub can-count_more : (z : Inside) → IsLayout z → ArePossible z.spec → (m : State) (index : List ℕ) (base gained lost : ℕ) → IsKept z m → length index ≡ length z.index → base ≡ z.spec.base
    → gained ≤ z.spec.limit → lost ≤ free_total z.spec.heads (layout_of z).blocks → CanCount m index base gained lost
can-count_more z whole small m index base gained lost kept same base_is gained_few lost_few =
    let free = kept.free in let limit = small.small_enough in let end = small.end_low_enough in let top = end-small z.spec.heads in let bottom = small.base_high_enough in let few = free-few z whole in let marks = index-limit z whole in let long = kept.long in
    let low = whole.low in let high = whole.high in
    record {
      inside = omega arith;
      unlent = subst (λ (ss : List Span). IsFree ss 0 zone_header) (sym kept.lent) (header-free z whole);
      few = omega arith;
      counted = omega arith;
      small = omega arith;
    }

-- or than it has
pub can-count : (z : Inside) → IsLayout z → ArePossible z.spec → (m : State) (index : List ℕ) (base gained lost : ℕ) → IsKept z m → length index ≡ length z.index → base ≡ z.spec.base
    → gained ≤ z.spec.size → lost ≤ free_total z.spec.heads (layout_of z).blocks → CanCount m index base gained lost
can-count z whole small m index base gained lost kept same base_is gained_few lost_few = let high = whole.high in
    can-count_more z whole small m index base gained lost kept same base_is (omega arith) lost_few

-- before a place from which on alone the index has changed, no free block is below the lowest one that was
pub none-lower : (z : Inside) (m : State) (index : List ℕ) (base changed : ℕ) → IsKept z m → base ≡ z.spec.base → ((j : ℕ) → j < changed → slice_index index j ≡ slice_index z.index j)
    → NoneLower base (big_number 4 (part m.bytes lowest_field 4)) changed index
none-lower z m index base changed kept base_is same = λ j before low.
    let is = same j before in let lowest = kept.lowest in let few = first_marked-lower z.index z.spec.base j (λ above. let b = low (omega arith) in omega arith) in omega arith

-- the numbers before a place stay, where one at it or after it is written
pub set-after : (xs ys : List ℕ) (at n place : ℕ) → ys ≡ set xs at n → place ≤ at → (j : ℕ) → j < place → slice_index ys j ≡ slice_index xs j
set-after xs ys at n place is after j before = ap (λ (l : List ℕ). slice_index l j) is ∙ get_or-set_other xs at j n 0 (λ same. omega arith)

-- numbers at two places may be written in either order
pub set-apart : (xs : List ℕ) (i j m n : ℕ) → j < i → set (set xs i m) j n ≡ set (set xs j n) i m
set-apart [] i j m n apart = refl
set-apart (x ∷ xs) zero j m n apart = absurd (omega arith)
set-apart (x ∷ xs) (suc i) zero m n apart = refl
set-apart (x ∷ xs) (suc i) (suc j) m n apart = ap (λ (ys : List ℕ). x ∷ ys) (set-apart xs i j m n (omega arith))
