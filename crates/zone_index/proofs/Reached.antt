-- The search for the block with which some gap has room.
use Rattle.std.proofs.Common.{◌≡◌, ℕ, ◌+◌, ◌*◌, ◌-◌, ◌<◌, ◌≤◌, ◌^◌, [], ◌∷◌, ◌++◌, ap, sym, ◌∙◌, subst, append_assoc, append-nil, inr, arith}
use Rattle.std.specs.Prelude.{IsFalse, nat_le}
use Rattle.std.proofs.lemmas.Bool.Decides.{nat_tests}
use Rattle.mac_base.specs.declared.block.Entry.{Entry}
use Rattle.mac_base.specs.HeadKind.{zone_header}
use Rattle.mac_base.specs.Reports.{largest_room}
use Rattle.mac_base.specs.ZoneMap.{ZoneMap, total_size, address_after}
use Rattle.mac_base.specs.ZoneState.{ZoneState}
use Rattle.zone_laws.proofs.GapApart.{sizes_possible}
use Rattle.zone_laws.proofs.Maps.{total_size-append}
use Rattle.linked_zone.specs.Fit.{HasSizes}
use Rattle.linked_zone.specs.Places.{EntryAt, FirstFrom, NoneFrom}
use Rattle.sum_tree.specs.declared.span.Span.{Span}
use Rattle.sum_tree.specs.Span.{no_span, joined, most_in, SpanFits}
use Rattle.sum_tree.specs.Monoids.{total}
use Rattle.sum_tree.specs.Rows.{IsFirst}
use Rattle.sum_tree.specs.Stale.{Stored}
use Rattle.zone_index.specs.Weights.{weigh, weights}
use Rattle.zone_index.specs.Pages.{begun}
use Rattle.zone_index.specs.Rooms.{AreFresh, Reaches, SumsBelow, room_of, room_sum, summing_rooms}
use Rattle.zone_index.proofs.Entries.{FirstIn, first_in}
use Rattle.zone_index.proofs.Begun.{begun-between}
use Rattle.zone_index.proofs.LeafWalk.{first-below, none-below, sum-push}
use Rattle.zone_index.proofs.RoomSums.{room_sum-largest, room_sum-most, rooms_are, sum-fits}
use Rattle.zone_index.proofs.Sizes.{all_parts}
use Rattle.zone_index.proofs.SomeBytes.{no_bytes, total_size-push}
use Rattle.zone_index.proofs.Summing.{leaves-sum, leaves-total}
use Rattle.zone_index.proofs.Walking.{filling-all}

-- with the blocks below an address no gap has room for k bytes
pub record Below (z : ZoneState) (k at : ℕ) (s : Span) : Type 0 where
  pub before : ZoneMap
  pub after : ZoneMap
  pub map : z.heap.map ≡ before ++ after
  pub place : at ≡ address_after z.shape before
  pub sum : s ≡ room_sum (weights z.heap.table before)
  pub few : most_in s < k

module _ (z : ZoneState) (sizes : HasSizes z) (from k : ℕ) (s : Span) (b : SumsBelow z from k s) where
  -- a walk begins at the first block from an address on
  pub first_reached : (at : ℕ) → FirstFrom z from at → Below z k at s
  first_reached at f =
      let e = f.block in
      let low = b.low in
      record {
        before = e.before;
        after = e.here ∷ e.after;
        map = e.map;
        place = e.place;
        sum = b.sum ∙ ap room_sum (filling-all z 0 (from - z.shape.base) e.before (record {
          before = [];
          after = e.here ∷ e.after;
          map = e.map;
          below = tt;
          floor = omega arith;
          inside = first-below z from sizes at f;
          above = inr (let place = e.place in let reached = f.reached in omega arith);
        }));
        few = b.few;
      }

  -- where none begins there, no gap has room
  pub none_reached : NoneFrom z from → largest_room z.heap.table z.heap.map < k
  none_reached none =
      let all : begun 0 (from - z.shape.base) zone_header (weights z.heap.table z.heap.map) ≡ weights z.heap.table z.heap.map = begun-between z.heap.table 0 (from - z.shape.base) zone_header z.heap.map (omega arith) (none-below z from sizes none) in
      let most = ap most_in (b.sum ∙ ap room_sum all) ∙ room_sum-largest z.heap.table z.heap.map in
      let few = b.few in
      omega arith

module _ (z : ZoneState) (k at : ℕ) (s : Span) (b : Below z k at s) where
  below_end : address_after z.shape z.heap.map ≡ at + total_size b.after
  below_end = let all = ap total_size b.map ∙ total_size-append b.before b.after in let place = b.place in omega arith

  -- a block comes next
  pub follows : at < address_after z.shape z.heap.map → FirstIn b.after
  follows under = let end = below_end in first_in b.after (omega arith)

  -- at the zone's end no gap has room
  pub below-all : HasSizes z → address_after z.shape z.heap.map ≤ at → largest_room z.heap.table z.heap.map < k
  below-all sizes past =
      let end = below_end in
      let none = no_bytes z.shape b.after (all_parts _ b.before b.after (ap (sizes_possible z.shape) (sym b.map) ∙ sizes)).1 (omega arith) in
      let whole : b.before ≡ z.heap.map = sym (b.map ∙ ap (λ m. b.before ++ m) none ∙ append-nil b.before) in
      let most = ap most_in (b.sum ∙ ap (λ m. room_sum (weights z.heap.table m)) whole) ∙ room_sum-largest z.heap.table z.heap.map in
      let few = b.few in
      omega arith

  module _ (n : FirstIn b.after) where
    abbrev pub following : EntryAt z at
    following = record { before = b.before; here = n.here; after = n.after; map = b.map ∙ ap (λ m. b.before ++ m) n.is; place = b.place }

    module _ (e : Entry) (is : e ≡ n.here) where
      with_one : joined s (room_of (weigh z.heap.table e)) ≡ room_sum (weights z.heap.table (b.before ++ n.here ∷ []))
      with_one = ap (λ s. joined s (room_of (weigh z.heap.table e))) b.sum ∙ ap (λ e. joined (room_sum (weights z.heap.table b.before)) (room_of (weigh z.heap.table e))) is ∙ sym (sum-push z.heap.table b.before n.here)

      pub following-fits : address_after z.shape z.heap.map < 2 ^ 32 → SpanFits (joined s (room_of (weigh z.heap.table e)))
      following-fits few =
          let push = total_size-push b.before n.here in
          let rest = ap total_size n.is in
          let end = below_end in
          let place = b.place in
          subst SpanFits (sym with_one) (sum-fits z.heap.table (b.before ++ n.here ∷ []) (omega arith))

      -- with it some gap has room
      pub following-reaches : k ≤ most_in (joined s (room_of (weigh z.heap.table e))) → Reaches z k at
      following-reaches enough =
          let old = ap most_in b.sum ∙ room_sum-most (weights z.heap.table b.before) in
          let new = ap most_in with_one ∙ room_sum-most (weights z.heap.table (b.before ++ n.here ∷ [])) in
          let few = b.few in
          record { entry = following; few = omega arith; enough = omega arith }

      -- or it has none
      pub following-on : most_in (joined s (room_of (weigh z.heap.table e))) < k → Below z k (at + e.size) (joined s (room_of (weigh z.heap.table e)))
      following-on few = record {
        before = b.before ++ n.here ∷ [];
        after = n.after;
        map = b.map ∙ ap (λ m. b.before ++ m) n.is ∙ sym (append_assoc b.before (n.here ∷ []) n.after);
        place = (let push = total_size-push b.before n.here in let size = ap (λ (e : Entry). e.size) is in let place = b.place in omega arith);
        sum = with_one;
        few = few;
      }

-- by the sums of leaves
module _ (z : ZoneState) (rooms : Stored Span) (fresh : AreFresh z rooms) where
  -- below a leaf no gap has room
  pub leaf_below : (k i from : ℕ) (s : Span) → from ≡ z.shape.base + i * 256 → IsFirst no_span joined (λ (s : Span). nat_le k (most_in s)) rooms.sums i s → SumsBelow z from k s
  leaf_below k i from s is first =
      let inside = first.inside in
      let same : 256 * i ≡ from - z.shape.base = omega arith in
      record {
        low = omega arith;
        sum = first.sum_is ∙ leaves-sum summing_rooms rooms_are z rooms fresh.are i (omega arith) ∙ ap (λ n. room_sum (begun 0 n zone_header (weights z.heap.table z.heap.map))) same;
        few = (let none = first.before in grind (arith, nat_tests));
      }

  -- the most that one gap has
  pub all_most : zone_header + total_size z.heap.map ≤ z.shape.limit → most_in (total no_span joined rooms.sums) ≡ largest_room z.heap.table z.heap.map
  all_most within = ap most_in (leaves-total summing_rooms rooms_are z rooms fresh.are within) ∙ room_sum-largest z.heap.table z.heap.map

  -- no gap has room
  pub all_below : (k : ℕ) → zone_header + total_size z.heap.map ≤ z.shape.limit → IsFalse (nat_le k (most_in (total no_span joined rooms.sums))) → largest_room z.heap.table z.heap.map < k
  all_below k within none =
      let few : most_in (total no_span joined rooms.sums) < k = grind (arith, nat_tests) in
      let most = all_most within in
      omega arith
