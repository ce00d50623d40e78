-- Stale sums are made anew: there is room for those of before and of now.
use Rattle.std.proofs.Common.{◌≡◌, ℕ, zero, suc, ◌+◌, ◌*◌, ◌<◌, ◌≤◌, List, [], ◌∷◌, length, get_or, refl, ap, ◌∙◌, subst, arith}
use Rattle.mac_base.specs.HeadKind.{zone_header}
use Rattle.mac_base.specs.ZoneMap.{total_size}
use Rattle.mac_base.specs.ZoneState.{ZoneState}
use Rattle.sum_tree.specs.declared.span.Span.{Span}
use Rattle.sum_tree.specs.Span.{no_span, joined, heavy, SpanFits}
use Rattle.sum_tree.proofs.Mixed.{leaves-light, light-fits, mixtures-fit, total-light}
use Rattle.sum_tree.specs.Monoids.{total}
use Rattle.sum_tree.specs.Stale.{AllRight, MixturesFit, Stored}
use Rattle.zone_index.specs.declared.weight.Weight.{Weight}
use Rattle.zone_index.specs.Weights.{weights}
use Rattle.zone_index.specs.Rooms.{AreFresh, AreRooms, room_in, room_of}
use Rattle.zone_index.proofs.RoomSums.{begun-light, rooms-light}

-- the right sums of so many leaves from one on
abbrev right_sums : (ℕ → Span) → ℕ → ℕ → List Span
right_sums value from zero = []
right_sums value from (suc n) = value from ∷ right_sums value (from + 1) n

length-right : (value : ℕ → Span) (from n : ℕ) → length (right_sums value from n) ≡ n
length-right value from zero = refl
length-right value from (suc n) = ap suc (length-right value (from + 1) n)

right-there : (value : ℕ → Span) (from n j : ℕ) → j < n → get_or (right_sums value from n) j no_span ≡ value (from + j)
right-there value from zero j low = absurd (omega arith)
right-there value from (suc n) zero low = ap value (let e : from ≡ from + 0 = omega arith in e)
right-there value from (suc n) (suc j) low = right-there value (from + 1) n j (omega arith) ∙ ap value (let e : from + 1 + j ≡ from + suc j = omega arith in e)

-- right sums come to no more than the blocks do
right-light : (z : ZoneState) (xs : List Span) → ((j : ℕ) → j < length xs → get_or xs j no_span ≡ room_in z j) → heavy xs ≤ total_size z.heap.map
right-light z xs right =
    let all = leaves-light (λ (w : Weight). w.bytes) room_of zone_header (weights z.heap.table z.heap.map) xs right in
    let begun = begun-light 0 (256 * length xs) zone_header (weights z.heap.table z.heap.map) in
    let blocks = rooms-light z.heap.table z.heap.map in
    omega arith

module _ (z : ZoneState) (within : zone_header + total_size z.heap.map ≤ z.shape.limit) where
  pub mixtures : (rooms : Stored Span) → AreRooms z rooms → z.shape.limit ≤ 0x4000_0000 → MixturesFit no_span joined SpanFits rooms.sums (room_in z)
  mixtures rooms a small =
      let count : ℕ = length rooms.sums in
      let right : List Span = right_sums (room_in z) 0 count in
      let long : length right ≡ count = length-right (room_in z) 0 count in
      let all : AllRight no_span right (room_in z) = λ j low. right-there (room_in z) 0 count j (subst (λ n. j < n) long low) ∙ ap (room_in z) (let e : 0 + j ≡ j = omega arith in e) in
      let light = right-light z right all in
      let old = a.light in
      mixtures-fit rooms.sums right (room_in z) long all (omega arith)

  pub freshened : (old new : Stored Span) → AreRooms z old → length new.sums ≡ length old.sums → AllRight no_span new.sums (room_in z) → AreFresh z new
  freshened old new a count right = record {
    are = record { places = count ∙ a.are.places; right = right };
    light = (let light = right-light z new.sums right in omega arith);
  }

-- there is room for their sum
pub fresh-fits : (z : ZoneState) (rooms : Stored Span) → AreFresh z rooms → z.shape.limit ≤ 0x4000_0000 → SpanFits (total no_span joined rooms.sums)
fresh-fits z rooms f small = let sum = total-light rooms.sums in let light = f.light in light-fits (total no_span joined rooms.sums) (omega arith)
