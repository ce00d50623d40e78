-- What a block that gets another size leaves, and what makes way for it.
use Rattle.std.proofs.Common.{◌≡◌, ℕ, ◌+◌, ◌-◌, ◌<◌, ◌≤◌, Bool, arith, true, false, cond, refl, ap, sym, ◌∙◌, subst, Contains, Option, Some, None}
use Rattle.std.specs.Prelude.{nat_le, is_some, option_and_then}
use Rattle.std.specs.Option.{option_map_or}
use Rattle.std.proofs.lemmas.Bool.{le-leb}
use Rattle.std.proofs.lemmas.Bool.Decides.{nat_tests}
use Rattle.mac_base.specs.Arrangement.{open_at, up}
use Rattle.mac_base.specs.Gap.{Gap, gaps, filled, gap_after, ends_with, has_named, own_gap}
use Rattle.mac_base.specs.HandleTable.{HandleTable, has_block, is_lent}
use Rattle.mac_base.specs.HeadKind.{Shape, need}
use Rattle.mac_base.specs.Heap.{Heap}
use Rattle.mac_base.specs.Request.{gap_to_grow, room_of, size_of, stays}
use Rattle.mac_base.specs.Serve.{free_in_front, opened_for, resized_in_gap, resized_in_place}
use Rattle.mac_base.specs.Sound.{Sound}
use Rattle.mac_base.specs.ZoneMap.{ZoneMap, free_bytes}
use Rattle.mac_base.specs.ZoneState.{ZoneState}
use Rattle.zone_laws.proofs.Arranging.{up-IsArrangement}
use Rattle.zone_laws.proofs.ArrangingNamed.{open_at-IsArrangement}
use Rattle.zone_laws.proofs.GapParts.{gap_after-is, own_gap-is}
use Rattle.zone_laws.proofs.Lent.{fixed-kept}
use Rattle.zone_laws.proofs.OpenedGap.{is_some-resized_in_place}
use Rattle.zone_laws.proofs.SuitsNamed.{named_once}
use Rattle.zone_laws.proofs.FittingResize.{is_some-resized_in_gap}
use Rattle.zone_laws.proofs.RearrangedSuits.{Sound-arranged}
use Rattle.linked_zone.specs.Changes.{with_map}
use Rattle.linked_zone.specs.Loans.{KeepsLoans}
use Rattle.zone_index.specs.Gaps.{GapAt as IndexedGap}
use Rattle.zone_heap.specs.declared.gap.FoundGap.{FoundGap}
use Rattle.zone_heap.specs.Gaps.{GapAt, GapBetween, IsGapOf, opened_after}
use Rattle.zone_heap.proofs.Laws.{find-contains}
use Rattle.zone_heap.proofs.Rooms.{gap_indexed}
use Rattle.zone_heap.specs.Attempts.{SoundZone}
use Rattle.zone_heap.specs.Placed.{resized_there}
use Rattle.zone_heap.specs.Resized.{way_made}
use Rattle.zone_heap.proofs.Loans.{keeps-loans}
use Rattle.zone_heap.proofs.Sizing.{Standing, there, sound-there, keeps-there}

-- a block can have the bytes where it is, if it and the free bytes right after it have them
pub fits-there : (z : ZoneState) (x n k at : ℕ) (b : Standing z x n k at) → is_some (resized_in_place z.shape (need z.shape.heads n) x z.heap.map) ≡ nat_le k (b.named.here.size + free_in_front b.named.after)
fits-there z x n k at b =
    is_some-resized_in_place z.shape (need z.shape.heads n) x z.heap.map b.named.here.size b.named.before b.named.here.kind b.named.after (there z x n k at b)
    ∙ ap (λ j. nat_le j (b.named.here.size + free_in_front b.named.after)) (sym b.size)

-- it can have them in its gap, if it and the gap have them
pub fits-gap : (z : ZoneState) (x n k : ℕ) → Sound z.shape z.heap → has_block z.heap.table x ≡ true → k ≡ need z.shape.heads n
    → is_some (resized_in_gap z.shape z.heap.table (need z.shape.heads n) x z.heap.map) ≡ nat_le k (size_of x z.heap.map + room_of (gap_to_grow z.heap.table x z.heap.map))
fits-gap z x n k sound block size =
    is_some-resized_in_gap z.shape z.heap.table (need z.shape.heads n) x z.heap.map sound.suits (named_once z.shape z.heap.table z.heap.map x sound.suits block)
    ∙ ap (λ j. nat_le j (size_of x z.heap.map + room_of (gap_to_grow z.heap.table x z.heap.map))) (sym size)

-- where it has them where it is, the zone stays sound
pub there-sound : (z new : ZoneState) (x n : ℕ) → SoundZone z → has_block z.heap.table x ≡ true → is_lent z.heap.table x ≡ false → resized_there z.shape x n z.heap ≡ Some new.heap → new.shape ≡ z.shape → SoundZone new
there-sound z new x n sound block here is shape = record {
  sound = subst (λ s. Sound s new.heap) (sym shape) (sound-there z.shape z.heap new.heap x n sound.sound block is);
  fixed = fixed-kept z.shape z.heap new.heap (keeps-there z.shape z.heap new.heap x n sound.sound here is) sound.fixed;
}

-- and what is lent is kept
pub there-loans : (z new : ZoneState) (x n : ℕ) → SoundZone z → is_lent z.heap.table x ≡ false → resized_there z.shape x n z.heap ≡ Some new.heap → new.shape ≡ z.shape → new.memory ≡ z.memory → KeepsLoans z new
there-loans z new x n sound here is shape memory = keeps-loans z new memory shape (keeps-there z.shape z.heap new.heap x n sound.sound here is)

-- the gap after a block that stays begins at an address
abbrev pub gap-after-at : (z : ZoneState) (x : ℕ) (found : FoundGap) → stays z.heap.table x ≡ true → IsGapOf z (gap_to_grow z.heap.table x z.heap.map) found → GapBetween z found.start found.end
gap-after-at z x found fixed is = record {
  at = record {
    gap = is.gap;
    among = find-contains (λ g. ends_with x g.before) (gaps z.heap.table z.heap.map) is.gap (ap (λ c. cond c (gap_after x (gaps z.heap.table z.heap.map)) (own_gap x (gaps z.heap.table z.heap.map))) (sym fixed) ∙ is.is);
    place = is.start;
  };
  long = is.end;
}

-- arranged up, it has made way
pub way-after : (z : ZoneState) (x : ℕ) (found : FoundGap) → stays z.heap.table x ≡ true → (is : IsGapOf z (gap_to_grow z.heap.table x z.heap.map) found) → filled is.gap (up is.gap.blocks) ≡ way_made z.heap.table x z.heap.map
way-after z x found fixed is =
    ap (λ c. filled is.gap (cond c (up is.gap.blocks) (open_at x is.gap.blocks))) (sym fixed) ∙ ap (λ o. option_map_or (opened_for z.heap.table x) o z.heap.map) (sym is.is)

-- the map in which way is made leaves the heap sound
way-Sound : (s : Shape) (heap : Heap) (x : ℕ) → Sound s heap → Sound s (record heap { map = way_made heap.table x heap.map })
way-Sound s heap x sound =
    elim (stays heap.table x) as (λ c. Sound s (record heap { map = option_map_or (λ (g : Gap). filled g (cond c (up g.blocks) (open_at x g.blocks))) (cond c (gap_after x (gaps heap.table heap.map)) (own_gap x (gaps heap.table heap.map))) heap.map })) [
      | true ↦ after (gap_after x (gaps heap.table heap.map)) refl
      | false ↦ own (own_gap x (gaps heap.table heap.map)) refl
    ]
  where
    after : (o : Option Gap) → gap_after x (gaps heap.table heap.map) ≡ o → Sound s (record heap { map = option_map_or (λ (g : Gap). filled g (up g.blocks)) o heap.map })
    after None none = sound
    after (Some g) found = Sound-arranged s heap.table heap g (up g.blocks) (gap_after-is heap.table heap.map x g found).0 (up-IsArrangement g.blocks) sound

    own : (o : Option Gap) → own_gap x (gaps heap.table heap.map) ≡ o → Sound s (record heap { map = option_map_or (λ (g : Gap). filled g (open_at x g.blocks)) o heap.map })
    own None none = sound
    own (Some g) found = let is = own_gap-is heap.table heap.map x g found in Sound-arranged s heap.table heap g (open_at x g.blocks) is.0 (open_at-IsArrangement x g.blocks is.1) sound

-- the zone in which way is made is sound
pub way-sound : (z new : ZoneState) (x : ℕ) → SoundZone z → new ≡ with_map (way_made z.heap.table x z.heap.map) z → SoundZone new
way-sound z new x sound is = subst SoundZone (sym is) (record { sound = way-Sound z.shape z.heap x sound.sound; fixed = sound.fixed })

-- a block that fits in its gap fits where it is once way is made
pub way-fits : (s : Shape) (t : HandleTable) (k x : ℕ) (m : ZoneMap) → is_some (resized_in_gap s t k x m) ≡ true → resized_in_gap s t k x m ≡ resized_in_place s k x (way_made t x m)
way-fits s t k x m fits = by_gap (gap_to_grow t x m) fits
  where
    by_gap : (o : Option Gap) → is_some (option_and_then (λ g. resized_in_place s k x (opened_for t x g)) o) ≡ true
        → option_and_then (λ g. resized_in_place s k x (opened_for t x g)) o ≡ resized_in_place s k x (option_map_or (opened_for t x) o m)
    by_gap None fits = absurd (cc fits)
    by_gap (Some g) fits = refl

-- the gap in which a block can grow begins there
pub to_grow-at : (z : ZoneState) (x : ℕ) (found : FoundGap) → IsGapOf z (gap_to_grow z.heap.table x z.heap.map) found → GapAt z found.start
to_grow-at z x found is = record {
  gap = is.gap;
  among = (let t = z.heap.table in let gs = gaps t z.heap.map in elim (stays t x) as (λ c. cond c (gap_after x gs) (own_gap x gs) ≡ Some is.gap → Contains gs is.gap) [
    | true ↦ find-contains (λ g. ends_with x g.before) gs is.gap
    | false ↦ find-contains (λ g. has_named x g.blocks) gs is.gap
  ] is.is);
  place = is.start;
}

more_than : (k n r : ℕ) → n < k → nat_le (k - n) r ≡ nat_le k (n + r)
more_than k n r low = grind (arith, nat_tests)

-- it has what a block lacks where both together have what it is to have
pub grows-gap : (z : ZoneState) (x k n : ℕ) (found : FoundGap) (is : IsGapOf z (gap_to_grow z.heap.table x z.heap.map) found) → n ≡ size_of x z.heap.map → n < k → (b : Bool) → ((gap : IndexedGap z found.start) → b ≡ nat_le (k - n) (free_bytes gap.rest.blocks))
    → b ≡ nat_le k (size_of x z.heap.map + room_of (gap_to_grow z.heap.table x z.heap.map))
unfolding to_grow-at
grows-gap z x k n found is size low b has =
    has (gap_indexed z found.start (to_grow-at z x found is)) ∙ more_than k n (free_bytes is.gap.blocks) low
    ∙ ap (λ o. nat_le k (n + room_of o)) (sym is.is) ∙ ap (λ n. nat_le k (n + room_of (gap_to_grow z.heap.table x z.heap.map))) size

-- and nothing is lacking where it is as long
pub grows-itself : (k n r : ℕ) → k ≤ n → true ≡ nat_le k (n + r)
grows-itself k n r le = sym (le-leb k (n + r) (omega (arith, le)))

-- a gap opened at a block that may move has made way
pub way-own : (t : HandleTable) (x : ℕ) (m : ZoneMap) → stays t x ≡ false → opened_after t x m ≡ way_made t x m
way-own t x m moves = ap (λ c. option_map_or (λ (g : Gap). filled g (cond c (up g.blocks) (open_at x g.blocks))) (cond c (gap_after x (gaps t m)) (own_gap x (gaps t m))) m) (sym moves)
