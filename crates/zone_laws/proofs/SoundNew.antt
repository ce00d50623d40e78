-- The heap of a new zone is sound.
use Rattle.std.proofs.Common.{◌≡◌, ℕ, zero, suc, ◌+◌, ◌-◌, ◌%◌, ◌<◌, ◌≤◌, ◌==◌, true, false, ◌&&◌, ◌||◌, nat_le, nat_lt, nat_eq, [], ◌++◌, refl, ap, sym, subst, ◌∙◌, arith, ◌⊎◌, inl, inr}
use Rattle.std.specs.List.{IsDistinct, AllByRecursion}
use Rattle.std.proofs.lemmas.Bool.Decides.{nat_tests}
use Rattle.mac_base.specs.declared.block.HeadKind.{HeadKind}
use Rattle.mac_base.specs.declared.block.HeadKind.TheVariants.{Bits24, Bits32}
use Rattle.mac_base.specs.HeadKind.{Shape, head_size, master_length, need, slot_count, smallest_block}
use Rattle.mac_base.specs.ZoneSizes.{ZoneSizes, ArePossible, shape_of}
use Rattle.mac_base.specs.Suits.{slots_from}
use Rattle.mac_base.specs.Heap.{new_heap}
use Rattle.mac_base.specs.Sound.{Sound}

-- slots lie above a lower number, and each once
slots_from-above : (n at x : ℕ) → x < at → AllByRecursion (λ y. nat_eq x y ≡ false) (slots_from n at ++ [])
slots_from-above zero at x h = tt
slots_from-above (suc n) at x h = ((let apart : nat_eq x at ≡ false = grind (arith, nat_tests) in apart), slots_from-above n (at + 4) x (omega arith))

-- slots differ
slots_from-once : (n at : ℕ) → IsDistinct nat_eq (slots_from n at ++ [])
unfolding IsDistinct
slots_from-once zero at = tt
slots_from-once (suc n) at = (slots_from-above n (at + 4) at (omega arith), slots_from-once n (at + 4))

-- the sizes of a new zone's two blocks are possible, where these are the bytes of a master block and of the smallest
-- one
rest_size : (master small size : ℕ) → (master ≡ 264) × (small ≡ 12) ⊎ (master ≡ 268) × (small ≡ 16) → size % 4 ≡ 0 → 512 ≤ size
    → (((master % 4 == 0) && nat_le small master) && ((((size - (52 + master)) % 4 == 0) && nat_le small (size - (52 + master))) && true)) ≡ true
rest_size master small size (inl (m, s)) even large = grind (arith, nat_tests)
rest_size master small size (inr (m, s)) even large = grind (arith, nat_tests)

-- a block that a number of bytes needs has as many as they want
own_length : (n small : ℕ) → 0 < small → ((nat_le n n && nat_lt n (n + small)) && true) ≡ true
own_length n small some = grind (arith, nat_tests)

-- what a zone may grow by is a possible size
may_grow : (small n : ℕ) → small ≤ 16 → n % 4 ≡ 0 → (n ≡ 0) ⊎ (16 ≤ n) → ((n == 0) || ((n % 4 == 0) && nat_le small n)) ≡ true
may_grow small n few even h = grind (arith, nat_tests)

none_or_enough : (size limit : ℕ) → size ≤ limit → (size < limit → size + 16 ≤ limit) → (limit - size ≡ 0) ⊎ (16 ≤ limit - size)
none_or_enough size limit a b = grind (arith, nat_tests)

-- a zone of blocks with these headers, whose master and smallest blocks have so many bytes
module _ (heads : HeadKind) (base size limit master small : ℕ) (are : (need heads master_length ≡ master) × (smallest_block heads ≡ small)) (known : (master ≡ 264) × (small ≡ 12) ⊎ (master ≡ 268) × (small ≡ 16)) where
  new_zone : let z : ZoneSizes = record { heads = heads; base = base; size = size; limit = limit } in ArePossible z → Sound (shape_of z) (new_heap (shape_of z) z.size)
  new_zone p =
      let s : Shape = record { heads = heads; base = base; limit = limit } in
      let fits : master ≤ 268 = most known in
      let few : small ≤ 16 = least known in
      let some : 0 < smallest_block heads = (let same = are.1 in let any = enough known in omega arith) in
      let whole : 52 + (need heads master_length + ((size - (52 + need heads master_length)) + 0)) ≡ size = (let large = p.large_enough in let same = are.0 in omega arith) in
      record {
        suits = record {
          apart = refl;
          sizes = subst (λ (m : ℕ). (((m % 4 == 0) && nat_le (smallest_block heads) m) && ((((size - (52 + m)) % 4 == 0) && nat_le (smallest_block heads) (size - (52 + m))) && true)) ≡ true) (sym are.0)
              (subst (λ (w : ℕ). (((master % 4 == 0) && nat_le w master) && ((((size - (52 + master)) % 4 == 0) && nat_le w (size - (52 + master))) && true)) ≡ true) (sym are.1)
              (rest_size master small size known p.even_size p.large_enough));
          lengths = own_length (need heads master_length) (smallest_block heads) some;
          coherent = record {
            handles = λ h. refl;
            pointers = λ x. refl;
            in_slots = λ h live. absurd (cc live);
            in_order = refl;
          };
        };
        within = (let large = p.large_enough in let within = p.within in let same = are.0 in omega arith);
        growth = ap (λ n. (limit - n == 0) || (((limit - n) % 4 == 0) && nat_le (smallest_block heads) (limit - n))) whole
            ∙ subst (λ (w : ℕ). ((limit - size == 0) || (((limit - size) % 4 == 0) && nat_le w (limit - size))) ≡ true) (sym are.1) (may_grow small (limit - size) few (let a = p.even_size in let b = p.even_limit in omega arith) (none_or_enough size limit p.within p.growth));
        slots = record {
          free = λ x. ((λ c. (c, refl)), (λ c. c.0));
          once = slots_from-once slot_count (base + 52 + 0 + head_size heads);
        };
      }
    where
      most : (master ≡ 264) × (small ≡ 12) ⊎ (master ≡ 268) × (small ≡ 16) → master ≤ 268
      most (inl (m, s)) = omega arith
      most (inr (m, s)) = omega arith

      enough : (master ≡ 264) × (small ≡ 12) ⊎ (master ≡ 268) × (small ≡ 16) → 12 ≤ small
      enough (inl (m, s)) = omega arith
      enough (inr (m, s)) = omega arith

      least : (master ≡ 264) × (small ≡ 12) ⊎ (master ≡ 268) × (small ≡ 16) → small ≤ 16
      least (inl (m, s)) = omega arith
      least (inr (m, s)) = omega arith

-- a new zone's heap is sound
pub sound-new : (z : ZoneSizes) → ArePossible z → Sound (shape_of z) (new_heap (shape_of z) z.size)
sound-new z = by_heads z.heads
  where
    by_heads : (heads : HeadKind) → let y : ZoneSizes = record { heads = heads; base = z.base; size = z.size; limit = z.limit } in ArePossible y → Sound (shape_of y) (new_heap (shape_of y) y.size)
    by_heads Bits24 = new_zone Bits24 z.base z.size z.limit 264 12 (refl, refl) (inl (refl, refl))
    by_heads Bits32 = new_zone Bits32 z.base z.size z.limit 268 16 (refl, refl) (inr (refl, refl))
