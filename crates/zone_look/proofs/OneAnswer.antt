-- One thing only is found.
use Rattle.std.proofs.Common.{◌≡◌, ℕ, ◌+◌, ◌-◌, ◌%◌, ◌≤◌, ◌∷◌, List, [], map, Option, Some, None, Result, Ok, Err, Bool, true, false, cond, nat_eq, refl, sym, ap, ◌∙◌, subst, arith}
use Rattle.std.specs.Prelude.{nat_lt}
use Rattle.std.proofs.lemmas.Bool.Decides.{nat_tests}
use Rattle.mac_base.specs.declared.block.Block.{Block}
use Rattle.mac_base.specs.declared.block.HeadKind.{HeadKind}
use Rattle.mac_base.specs.declared.block.HeadKind.TheVariants.{Bits24, Bits32}
use Rattle.mac_base.specs.HeadKind.{head_size, zone_header}
use Rattle.mac_base.specs.ZoneMap.{total_size}
use Rattle.zone_look.specs.declared.fault.Fault.{Fault}
use Rattle.zone_look.specs.declared.fault.Problem.TheVariants.{CutHeader, LeavesZone, OddSize, Overlaps}
use Rattle.zone_look.specs.declared.head.Head.{Head}
use Rattle.zone_look.specs.Blocks.{AreBlocks, Owner, block_at, head_at, least_size, length_of, owned, owner_at, size_fault, sized}
use Rattle.zone_look.specs.Look.{IsFound, IsWalk}
use Rattle.zone_look.specs.Look.IsFound.{all_blocks, bad_block, no_zone}
use Rattle.zone_look.specs.Look.IsWalk.{ends, stops}
use Rattle.zone_look.specs.Memory.{Memory, end_of, fault_at}

-- two chains that begin at one place and end where none_x block begins are one
same_chain : (m : Memory) (end from x y : ℕ) (xs bs : List Block) → AreBlocks m end from xs x → ((f : Fault) × (block_at m end x ≡ Err f))
    → AreBlocks m end from bs y → ((f : Fault) × (block_at m end y ≡ Err f)) → (xs ≡ bs) × (x ≡ y)
same_chain m end from x y [] [] one none_x other none_y = (refl, one ∙ sym other)
same_chain m end from x y [] (b ∷ bs) one none_x other none_y =
    let here : block_at m end from ≡ Err none_x.0 = ap (block_at m end) (sym one) ∙ none_x.1 in let there = other.0 in absurd (cc)
same_chain m end from x y (a ∷ xs) [] one none_x other none_y =
    let here : block_at m end from ≡ Err none_y.0 = ap (block_at m end) (sym other) ∙ none_y.1 in let there = one.0 in absurd (cc)
same_chain m end from x y (a ∷ xs) (b ∷ bs) one none_x other none_y =
    let first = one.0 in let second = other.0 in
    let same : a ≡ b = cc in
    let rest = same_chain m end (from + a.entry.size) x y xs bs one.1 none_x (subst (λ (z : Block). AreBlocks m end (from + z.entry.size) bs y) (sym same) other.1) none_y in
    (ap (λ (z : Block). z ∷ xs) same ∙ ap (λ (zs : List Block). b ∷ zs) rest.0, rest.1)

some_head : (heads : HeadKind) → nat_lt 0 (head_size heads) ≡ true
some_head Bits24 = refl
some_head Bits32 = refl

-- no block begins at the zone's end
none_at_end : (m : Memory) (end : ℕ) → (f : Fault) × (block_at m end end ≡ Err f)
none_at_end m end =
    let none : end - end ≡ 0 = omega arith in
    let short : nat_lt (end - end) (head_size m.heads) ≡ true = ap (λ (n : ℕ). nat_lt n (head_size m.heads)) none ∙ some_head m.heads in (
      fault_at m CutHeader end (end - end) (head_size m.heads),
      ap (λ (b : Bool). cond b (Err (fault_at m CutHeader end (end - end) (head_size m.heads)))
          (sized (size_fault m end end (head_at m end)) (owned m end (head_at m end) (owner_at m end end (head_at m end) (head_at m end).tag)))) short,
    )

-- two walks find the same
same_walk : (m : Memory) (end : ℕ) {f g : Option Fault} {xs bs : List Block} → IsWalk m end f xs → IsWalk m end g bs → (xs ≡ bs) × (f ≡ g)
same_walk m end (stops xs x fault one before isnt) (stops bs y other two near wrong) =
    let same = same_chain m end zone_header x y xs bs one (fault, isnt) two (other, wrong) in
    let faults = sym isnt ∙ ap (block_at m end) same.1 ∙ wrong in
    (same.0, cc)
same_walk m end (stops xs x fault one before isnt) (ends bs two) =
    let same = same_chain m end zone_header x end xs bs one (fault, isnt) two (none_at_end m end) in let here = same.1 in absurd (omega arith)
same_walk m end (ends xs one) (stops bs y other two near wrong) =
    let same = same_chain m end zone_header end y xs bs one (none_at_end m end) two (other, wrong) in let here = same.1 in absurd (omega arith)
same_walk m end (ends xs one) (ends bs two) =
    ((same_chain m end zone_header end end xs bs one (none_at_end m end) two (none_at_end m end)).0, refl)

-- two looks find the same
pub one_answer : (m : Memory) {xs bs : List Block} {ss ts : List ℕ} {f g : Option Fault} → IsFound m xs ss f → IsFound m bs ts g → (xs ≡ bs) × (ss ≡ ts) × (f ≡ g)
one_answer m (no_zone one a) (no_zone two b) = (refl, refl, sym a ∙ b)
one_answer m (no_zone one a) (bad_block blocks two b walk) = absurd (cc)
one_answer m (no_zone one a) (all_blocks blocks b walk) = absurd (cc)
one_answer m (bad_block blocks one a walk) (no_zone two b) = absurd (cc)
one_answer m (bad_block blocks one a walk) (bad_block others two b other) =
    let same = same_walk m (end_of m) walk other in (same.0, refl, same.1)
one_answer m (bad_block blocks one a walk) (all_blocks others b other) =
    let same = (same_walk m (end_of m) walk other).1 in absurd (cc)
one_answer m (all_blocks blocks a walk) (no_zone two b) = absurd (cc)
one_answer m (all_blocks blocks a walk) (bad_block others two b other) =
    let same = (same_walk m (end_of m) walk other).1 in absurd (cc)
one_answer m (all_blocks blocks a walk) (all_blocks others b other) =
    ((same_walk m (end_of m) walk other).0, refl, refl)

is_ok : (cut : Bool) (fault : Fault) (found : Result Block Fault) (b : Block) → cond cut (Err fault) found ≡ Ok b → found ≡ Ok b
is_ok true fault found b is = absurd (cc)
is_ok false fault found b is = is

is_sized : (p q : Bool) (one two : Fault) (other : Option Fault) (found : Result Block Fault) (b : Block)
    → sized (cond p (Some one) (cond q (Some two) other)) found ≡ Ok b → q ≡ false
is_sized true q one two other found b is = absurd (cc)
is_sized false true one two other found b is = absurd (cc)
is_sized false false one two other found b is = refl

is_owned : (fault : Option Fault) (found : Result Block Fault) (b : Block) → sized fault found ≡ Ok b → found ≡ Ok b
is_owned (Some fault) found b is = absurd (cc)
is_owned None found b is = is

has_size : (m : Memory) (at : ℕ) (h : Head) (owner : Result Owner Fault) (b : Block) → owned m at h owner ≡ Ok b → b.entry.size ≡ h.size
has_size m at h (Err fault) b is = absurd (cc)
has_size m at h (Ok owner) b is =
    let block : Block = record { address = m.base + at; entry = record { size = h.size; kind = owner.0 }; length = length_of m h h.tag; flags = owner.1 } in
    let same : block ≡ b = cc in sym (ap (λ (x : Block). x.entry.size) same)

isnt_over : (size room : ℕ) → nat_lt room size ≡ false → size ≤ room
isnt_over size room is = grind (arith, nat_tests)

-- a block has no more bytes than the zone has from its place on
within_zone : (m : Memory) (end at : ℕ) (b : Block) → block_at m end at ≡ Ok b → b.entry.size ≤ end - at
within_zone m end at b is =
    let h = head_at m at in let owner = owner_at m end at h h.tag in let least = least_size m h in
    let found = is_ok (nat_lt (end - at) (head_size m.heads)) (fault_at m CutHeader at (end - at) (head_size m.heads)) (sized (size_fault m end at h) (owned m at h owner)) b is in
    let narrow = is_sized (nat_lt h.size least) (nat_lt (end - at) h.size) (fault_at m Overlaps at h.size least) (fault_at m LeavesZone at h.size (end - at))
    (cond (nat_eq (h.size % 2) 1) (Some (fault_at m OddSize at h.size (h.size - 1))) None) (owned m at h owner) b found in
    let size = has_size m at h owner b (is_owned (size_fault m end at h) (owned m at h owner) b found) in
    let most = isnt_over h.size (end - at) narrow in
    omega arith

pub fills_from : (m : Memory) (end from : ℕ) (blocks : List Block) (to : ℕ) → from ≤ end → AreBlocks m end from blocks to
    → (to ≡ from + total_size (map (λ (b : Block). b.entry) blocks)) × (to ≤ end)
fills_from m end from [] to low here = (omega arith, omega arith)
fills_from m end from (b ∷ bs) to low chain =
    let room = within_zone m end from b chain.0 in
    let rest = fills_from m end (from + b.entry.size) bs to (omega arith) chain.1 in let sum = rest.0 in (omega arith, rest.1)
