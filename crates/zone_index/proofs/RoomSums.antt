-- What gaps have of the free bytes of many blocks.
use Rattle.std.proofs.Common.{◌≡◌, ℕ, ◌+◌, ◌<◌, ◌≤◌, ◌^◌, Bool, true, false, cond, List, [], ◌∷◌, ◌++◌, map, refl, ap, ◌∙◌, arith}
use Rattle.mac_base.specs.declared.block.Entry.{Entry}
use Rattle.mac_base.specs.Gap.{is_fixed}
use Rattle.mac_base.specs.HandleTable.{HandleTable}
use Rattle.mac_base.specs.Reports.{largest_room}
use Rattle.mac_base.specs.ZoneMap.{ZoneMap, free_bytes, free_size, total_size}
use Rattle.sum_tree.specs.declared.span.Span.TheVariants.{Whole}
use Rattle.sum_tree.specs.Span.{joined, span_laws, most_in, parts, weight, heavy, SpanFits}
use Rattle.sum_tree.proofs.Mixed.{light-fits, total-light}
use Rattle.zone_index.specs.declared.weight.Weight.{Weight}
use Rattle.zone_index.specs.Weights.{most, weigh, weights}
use Rattle.zone_index.specs.Spans.{IsSpan}
use Rattle.zone_index.specs.Pages.{begun}
use Rattle.zone_index.specs.Rooms.{room_of, room_sum, summing_rooms}
use Rattle.zone_index.proofs.Begun.{begun-test, within}
use Rattle.zone_index.proofs.Most.{most-gaps}
use Rattle.zone_index.proofs.Summing.{IsSumming, sum-append}
use Rattle.zone_index.proofs.Spans.{free-light, span-all, span-join, span-none, span-one}

-- they can be joined, and a block that isn't fixed has its free bytes
pub rooms_are : IsSumming summing_rooms SpanFits
rooms_are = record {
  laws = span_laws;
  idle = λ w moves none. ap (λ c. cond c (parts 0 0 0) (Whole w.free)) moves ∙ ap Whole none;
}

-- of two parts
pub room_sum-append : (a b : List Weight) → room_sum (a ++ b) ≡ joined (room_sum a) (room_sum b)
room_sum-append = sum-append summing_rooms rooms_are

room_sum-span : (ws : List Weight) → IsSpan (λ (w : Weight). w.free) ws (room_sum ws)
room_sum-span [] = span-none (λ (w : Weight). w.free)
room_sum-span (w ∷ ws) = span-join (λ (w : Weight). w.free) (w ∷ []) ws (room_of w) (room_sum ws) (span-one (λ (w : Weight). w.free) w) (room_sum-span ws)

-- the most that one gap has
pub room_sum-most : (ws : List Weight) → most_in (room_sum ws) ≡ most (λ (w : Weight). w.free) 0 ws
room_sum-most ws = span-all (λ (w : Weight). w.free) ws (room_sum ws) (room_sum-span ws)

pub room_sum-largest : (t : HandleTable) (m : ZoneMap) → most_in (room_sum (weights t m)) ≡ largest_room t m
room_sum-largest t m = room_sum-most (weights t m) ∙ most-gaps t (λ (w : Weight). w.free) free_bytes refl (λ e es. refl) m

-- they come to no more than the blocks' bytes
room-light : (t : HandleTable) (e : Entry) → weight (room_of (weigh t e)) ≤ e.size
room-light t e =
    let free = free-light e in
    elim (is_fixed t e.kind) as (λ c. weight (cond c (parts 0 0 0) (Whole (free_size e))) ≤ e.size) [ true ↦ omega arith | false ↦ omega arith ]

pub rooms-light : (t : HandleTable) (m : ZoneMap) → heavy (map room_of (weights t m)) ≤ total_size m
rooms-light t [] = omega arith
rooms-light t (e ∷ es) = let here = room-light t e in let rest = rooms-light t es in omega arith

pub begun-light : (low high at : ℕ) (ws : List Weight) → heavy (map room_of (begun low high at ws)) ≤ heavy (map room_of ws)
begun-light low high at [] = omega arith
begun-light low high at (w ∷ ws) = let rest = begun-light low high (at + w.bytes) ws in by_test (within low high at) refl rest
  where
    by_test : (c : Bool) → within low high at ≡ c → heavy (map room_of (begun low high (at + w.bytes) ws)) ≤ heavy (map room_of ws) → heavy (map room_of (begun low high at (w ∷ ws))) ≤ heavy (map room_of (w ∷ ws))
    by_test true is rest = let e = ap (λ ws. heavy (map room_of ws)) (begun-test low high at w ws true is) in omega arith
    by_test false is rest = let e = ap (λ ws. heavy (map room_of ws)) (begun-test low high at w ws false is) in omega arith

-- there is room for the sum of blocks
pub sum-fits : (t : HandleTable) (m : ZoneMap) → total_size m < 2 ^ 32 → SpanFits (room_sum (weights t m))
sum-fits t m few = let all = rooms-light t m in let sum = total-light (map room_of (weights t m)) in light-fits (room_sum (weights t m)) (omega arith)
