-- A new zone, of which a master block is cut.
use Rattle.std.proofs.Common.{◌≡◌, ℕ, ◌+◌, ◌-◌, ◌%◌, ◌≤◌, ◌<◌, true, [], ◌∷◌, ◌++◌, refl, ap, sym, ◌∙◌, arith, subst}
use Rattle.std.specs.Prelude.{◌&&◌, ◌==◌, nat_le, nat_lt, List}
use Rattle.std.proofs.lemmas.Bool.Decides.{nat_tests}
use Rattle.mac_base.specs.declared.block.HeadKind.{HeadKind}
use Rattle.mac_base.specs.declared.block.HeadKind.TheVariants.{Bits24, Bits32}
use Rattle.mac_base.specs.declared.block.Kind.TheVariants.{Free, Master}
use Rattle.mac_base.specs.HeadKind.{need, head_size, smallest_block, slot_count, master_length}
use Rattle.mac_base.specs.ZoneMap.{ZoneMap, block}
use Rattle.mac_base.specs.ZoneSizes.{ZoneSizes, ArePossible, shape_of}
use Rattle.mac_base.specs.HandleTable.{new_table}
use Rattle.mac_base.specs.Suits.{slots_from}
use Rattle.mac_base.specs.Heap.{new_heap, new_map}
use Rattle.mac_base.specs.ZoneState.{Memory, ZoneState}
use Rattle.zone_laws.proofs.Taken.{need-is_size}
use Rattle.linked_zone.specs.Changes.{bare_zone, cut_in_two, with_master}
use Rattle.linked_zone.specs.Places.{CanCut, RoomFor}

-- the size of a master block in a zone of these sizes
abbrev pub master_of : ZoneSizes → ℕ
master_of z = need z.heads master_length

-- what is left of a new zone after it is a block
rest_size : (heads : HeadKind) (size : ℕ) → size % 4 ≡ 0 → 512 ≤ size → (need heads master_length < size - 52) × (((size - 52 - need heads master_length) % 4 == 0) && nat_le (smallest_block heads) (size - 52 - need heads master_length)) ≡ true
rest_size Bits24 size even large = (omega arith, grind (arith, nat_tests))
rest_size Bits32 size even large = (omega arith, grind (arith, nat_tests))

-- a master block can be cut off a new zone
abbrev bare_cut : (memory : Memory) (z : ZoneSizes) → ArePossible z → CanCut (bare_zone memory z) (z.base + 52) (master_of z)
bare_cut memory z possible = let rest = rest_size z.heads z.size possible.even_size possible.large_enough in record {
  free = record { before = []; size = z.size - 52; after = []; map = refl; place = omega arith };
  smaller = rest.0;
  front = need-is_size (shape_of z) master_length;
  rest = rest.1;
}

-- the new zone cut in two
abbrev two_blocks : Memory → ZoneSizes → ZoneState
two_blocks memory z = record { memory = memory; shape = shape_of z; heap = record { table = new_table; map = block Free (master_of z) ∷ block Free (z.size - 52 - master_of z) ∷ []; free_slots = [] } }

-- a master block is as large as its slots want
master_fits : (heads : HeadKind) → (nat_le (need heads master_length) (need heads master_length) && nat_lt (need heads master_length) (need heads master_length + smallest_block heads)) ≡ true
master_fits Bits24 = refl
master_fits Bits32 = refl

-- its first block can be the master block
abbrev master_room : (memory : Memory) (z : ZoneSizes) → RoomFor (two_blocks memory z) (z.base + 52) master_length
master_room memory z = record {
  free = record { before = []; size = master_of z; after = block Free (z.size - 52 - master_of z) ∷ []; map = refl; place = omega arith };
  room = master_fits z.heads;
}

-- and then the zone has its first heap
first_heap : (memory : Memory) (z : ZoneSizes) → with_master (two_blocks memory z) (master_room memory z).free ≡ record { memory = memory; shape = shape_of z; heap = new_heap (shape_of z) z.size }
first_heap memory z =
    let s = shape_of z in
    let state = λ (m : ZoneMap) (free : List ℕ). let new : ZoneState = record { memory = memory; shape = s; heap = record { table = new_table; map = m; free_slots = free } } in new in
    let rest : z.size - 52 - master_of z ≡ z.size - (52 + master_of z) = omega arith in
    let start : z.base + 52 + head_size s.heads ≡ z.base + 52 + 0 + head_size s.heads = omega arith in
    ap (λ n. state (block Master (master_of z) ∷ block Free n ∷ []) (slots_from slot_count (z.base + 52 + head_size s.heads) ++ [])) rest
    ∙ ap (λ at. state (new_map s z.size) (slots_from slot_count at ++ [])) start

-- the steps of the code: a new zone, where its first block begins, and how large a master block is
pub record Begun (memory : Memory) (z : ZoneSizes) (p : ZoneState) (first master : ℕ) : Type 0 where
  pub possible : ArePossible z
  pub bare : p ≡ bare_zone memory z
  pub base : first ≡ z.base
  pub size : master ≡ master_of z

-- a new zone can be cut
pub new-cut : (memory : Memory) (z : ZoneSizes) (p : ZoneState) (first master : ℕ) → Begun memory z p first master → CanCut p (first + 52) master
new-cut memory z p first master b =
    subst (λ p. CanCut p (first + 52) master) (sym b.bare) (subst (λ at. CanCut (bare_zone memory z) (at + 52) master) (sym b.base) (subst (CanCut (bare_zone memory z) (z.base + 52)) (sym b.size) (bare_cut memory z b.possible)))

-- so cut, it is in two blocks
cut_new : (memory : Memory) (z : ZoneSizes) (p q : ZoneState) (first master : ℕ) → Begun memory z p first master → ((can : CanCut p (first + 52) master) → q ≡ cut_in_two master p can.free) → q ≡ two_blocks memory z
cut_new memory z p q first master b split =
    subst (λ n. (can : CanCut (bare_zone memory z) (z.base + 52) n) → q ≡ cut_in_two n (bare_zone memory z) can.free) b.size
    (subst (λ at. (can : CanCut (bare_zone memory z) (at + 52) master) → q ≡ cut_in_two master (bare_zone memory z) can.free) b.base
    (subst (λ p. (can : CanCut p (first + 52) master) → q ≡ cut_in_two master p can.free) b.bare split))
    (bare_cut memory z b.possible)

-- its first block can be the master block
pub new-room : (memory : Memory) (z : ZoneSizes) (p q : ZoneState) (first master : ℕ) → Begun memory z p first master → ((can : CanCut p (first + 52) master) → q ≡ cut_in_two master p can.free) → RoomFor q (first + 52) master_length
new-room memory z p q first master b split = subst (λ q. RoomFor q (first + 52) master_length) (sym (cut_new memory z p q first master b split)) (subst (λ at. RoomFor (two_blocks memory z) (at + 52) master_length) (sym b.base) (master_room memory z))

-- and then it has the heap of a new zone
pub new-heap : (memory : Memory) (z : ZoneSizes) (p q r : ZoneState) (first master : ℕ) → Begun memory z p first master → ((can : CanCut p (first + 52) master) → q ≡ cut_in_two master p can.free)
    → ((room : RoomFor q (first + 52) master_length) → r ≡ with_master q room.free) → r ≡ record { memory = memory; shape = shape_of z; heap = new_heap (shape_of z) z.size }
new-heap memory z p q r first master b split build =
    subst (λ at. (room : RoomFor (two_blocks memory z) (at + 52) master_length) → r ≡ with_master (two_blocks memory z) room.free) b.base
    (subst (λ q. (room : RoomFor q (first + 52) master_length) → r ≡ with_master q room.free) (cut_new memory z p q first master b split) build)
    (master_room memory z)
    ∙ first_heap memory z
