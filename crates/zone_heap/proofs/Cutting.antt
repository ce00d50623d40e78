-- A free block cut to its front.
use Rattle.std.proofs.Common.{◌≡◌, ℕ, ◌-◌, ◌<◌, ◌≤◌, true, false, cond, [], ◌∷◌, ◌++◌, ap, sym, ◌∙◌, arith}
use Rattle.std.specs.Prelude.{nat_lt}
use Rattle.std.proofs.lemmas.Bool.Decides.{nat_tests}
use Rattle.mac_base.specs.declared.block.Kind.TheVariants.{Free}
use Rattle.mac_base.specs.HeadKind.{smallest_block}
use Rattle.mac_base.specs.ZoneMap.{block}
use Rattle.mac_base.specs.ZoneState.{ZoneState}
use Rattle.zone_laws.proofs.Taken.{head-below_smallest, rest_size}
use Rattle.linked_zone.specs.Changes.{with_map, cut_in_two}
use Rattle.linked_zone.specs.Places.{EntryAt, CanCut}
use Rattle.zone_heap.specs.Joins.{CanTake, with_front}

-- the block that can be taken
abbrev pub entry_taken : {z : ZoneState} {at size : ℕ} → CanTake z at size → EntryAt z at
entry_taken take = record { before = take.free.before; here = block Free take.free.size; after = take.free.after; map = take.free.map; place = take.free.place }

-- where enough is over, the block can be cut
abbrev pub cut_taken : {z : ZoneState} {at size : ℕ} (take : CanTake z at size) → smallest_block z.shape.heads ≤ take.free.size - size → CanCut z at size
cut_taken {z = z} {size = size} take enough = record {
  free = take.free;
  smaller = (let small = head-below_smallest z.shape.heads in let fits = take.fits in omega arith);
  front = take.front;
  rest = rest_size (smallest_block z.shape.heads) size take.free.size take.front take.whole take.fits enough;
}

-- it is then in two
pub with_front-cut : (z : ZoneState) (at size : ℕ) (take : CanTake z at size) (enough : smallest_block z.shape.heads ≤ take.free.size - size) → cut_in_two size z take.free ≡ with_front z take
with_front-cut z at size take enough = ap (λ b. with_map (take.free.before ++ (cond b (block Free take.free.size ∷ []) (block Free size ∷ block Free (take.free.size - size) ∷ []) ++ take.free.after)) z)
    (sym (above (take.free.size - size) (smallest_block z.shape.heads) enough))
  where
    above : (n small : ℕ) → small ≤ n → nat_lt n small ≡ false
    above n small h = grind (arith, nat_tests)

-- and else it stays whole
pub with_front-whole : (z : ZoneState) (at size : ℕ) (take : CanTake z at size) → take.free.size - size < smallest_block z.shape.heads → z ≡ with_front z take
with_front-whole z at size take few =
    ap (λ m. with_map m z) take.free.map
    ∙ ap (λ b. with_map (take.free.before ++ (cond b (block Free take.free.size ∷ []) (block Free size ∷ block Free (take.free.size - size) ∷ []) ++ take.free.after)) z)
    (sym (below (take.free.size - size) (smallest_block z.shape.heads) few))
  where
    below : (n small : ℕ) → n < small → nat_lt n small ≡ true
    below n small h = grind (arith, nat_tests)
