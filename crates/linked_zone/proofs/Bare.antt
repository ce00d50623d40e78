-- A new zone, before it has a slot.
use Rattle.std.proofs.Common.{◌≡◌, ℕ, ◌-◌, ◌≤◌, ◌%◌, ◌==◌, ◌&&◌, nat_lt, nat_le, true, [], refl, arith}
use Rattle.std.proofs.lemmas.Bool.Decides.{nat_tests}
use Rattle.std.specs.Prelude.{nat_eq}
use Rattle.std.specs.List.{IsDistinct}
use Rattle.std.proofs.lemmas.Bool.{and_from}
use Rattle.mac_base.specs.declared.block.HeadKind.{HeadKind}
use Rattle.mac_base.specs.declared.block.HeadKind.TheVariants.{Bits24, Bits32}
use Rattle.mac_base.specs.HeadKind.{head_size, smallest_block, zone_header}
use Rattle.mac_base.specs.ZoneSizes.{ZoneSizes, ArePossible}
use Rattle.mac_base.specs.ZoneState.{Memory}
use Rattle.zone_laws.proofs.SlotPlaces.{Contains-none}
use Rattle.zone_records.specs.Records.{ZoneRecords}
use Rattle.zone_records.specs.Changes.{new_records}
use Rattle.linked_zone.specs.Changes.{bare_zone}
use Rattle.linked_zone.specs.Fit.{Fits}
use Rattle.linked_zone.proofs.Standing.{Stands}

nothing_twice : IsDistinct nat_eq []
unfolding IsDistinct
nothing_twice = tt

-- it fits: it has no handle, no pointer and no slot
bare-fits : (memory : Memory) (sizes : ZoneSizes) → Fits (bare_zone memory sizes)
bare-fits memory sizes = record {
  coherent = record {
    handles = λ h. refl;
    pointers = λ p. refl;
    in_slots = λ h live. absurd (cc live);
    in_order = refl;
  };
  slots = record {
    free = λ x. ((λ c. absurd (Contains-none x c)), (λ c. absurd (Contains-none x c.0)));
    once = nothing_twice;
  };
  loans = record { in_order = refl; few = omega arith };
}

-- new blocks are those of such a zone
pub bare-stands : (r : ZoneRecords) (memory : Memory) (sizes : ZoneSizes) → ArePossible sizes → r ≡ new_records memory sizes → Stands r (bare_zone memory sizes)
bare-stands r memory sizes possible is =
    let large = possible.large_enough in
    let within = possible.within in record {
      blocks = is;
      fits = bare-fits memory sizes;
      sizes = and_from _ true (and_from _ _ (whole sizes.size possible.even_size large) (above sizes.heads sizes.size large)) refl;
      rooms = room sizes.heads (sizes.size - zone_header) (omega arith);
      within = omega arith;
      even = possible.even_base;
      low = possible.base_high_enough;
      high = possible.end_low_enough;
    }
  where
    whole : (n : ℕ) → n % 4 ≡ 0 → 512 ≤ n → ((n - 52) % 4 == 0) ≡ true
    whole n even large = grind (arith, nat_tests)

    above : (heads : HeadKind) (n : ℕ) → 512 ≤ n → nat_le (smallest_block heads) (n - 52) ≡ true
    above Bits24 n large = grind (arith, nat_tests)
    above Bits32 n large = grind (arith, nat_tests)

    room : (heads : HeadKind) (n : ℕ) → 460 ≤ n → ((nat_lt (head_size heads) n && true) && true) ≡ true
    room Bits24 n h = grind (arith, nat_tests)
    room Bits32 n h = grind (arith, nat_tests)
