-- Walks over the blocks of a leaf.
use Rattle.std.proofs.Common.{◌≡◌, ℕ, ◌+◌, ◌-◌, ◌^◌, ◌<◌, ◌≤◌, true, [], ◌∷◌, ◌++◌, refl, ap, sym, ◌∙◌, subst, append_assoc, append-nil, inl, inr, arith}
use Rattle.std.specs.Prelude.{◌⊎◌, min}
use Rattle.std.proofs.lemmas.Bool.{and_parts, cases_lt}
use Rattle.mac_base.specs.declared.block.Entry.{Entry}
use Rattle.mac_base.specs.HandleTable.{HandleTable}
use Rattle.mac_base.specs.HeadKind.{zone_header}
use Rattle.mac_base.specs.Suits.{is_block_size}
use Rattle.mac_base.specs.ZoneMap.{ZoneMap, total_size, address_after}
use Rattle.mac_base.specs.ZoneState.{ZoneState}
use Rattle.zone_laws.proofs.GapApart.{sizes_possible}
use Rattle.zone_laws.proofs.Maps.{total_size-append}
use Rattle.linked_zone.specs.Fit.{HasSizes}
use Rattle.linked_zone.specs.Places.{EntryAt, FirstFrom, NoneFrom}
use Rattle.sum_tree.specs.declared.span.Span.{Span}
use Rattle.sum_tree.specs.Span.{no_span, joined, span_laws, SpanFits}
use Rattle.zone_index.specs.Weights.{weigh, weights}
use Rattle.zone_index.specs.Pages.{begun}
use Rattle.zone_index.specs.Walk.{AllBelow}
use Rattle.zone_index.specs.Rooms.{room_of, room_sum}
use Rattle.zone_index.proofs.Entries.{FirstIn, entry_after, first_in}
use Rattle.zone_index.proofs.Begun.{begun-below, weights-append}
use Rattle.zone_index.proofs.RoomSums.{room_sum-append, sum-fits}
use Rattle.zone_index.proofs.Sizes.{all_parts, first_bytes}
use Rattle.zone_index.proofs.SomeBytes.{no_bytes, total_size-push}
use Rattle.zone_index.proofs.Walking.{Filling, filling-all, one_low}

-- where all blocks that begin below one address begin below another, blocks that end there do
pub all-below : (z : ZoneState) (from stop : ℕ) → ((other : ℕ) → EntryAt z other → other < stop → other < from) → (front blocks rest : ZoneMap) → z.heap.map ≡ front ++ (blocks ++ rest) → address_after z.shape front + total_size blocks ≤ stop
    → sizes_possible z.shape blocks ≡ true → AllBelow (from - z.shape.base) (zone_header + total_size front) blocks
all-below z from stop low front [] rest map end sizes = tt
all-below z from stop low front (e ∷ es) rest map end sizes =
    let parts = and_parts (is_block_size z.shape e.size) (sizes_possible z.shape es) sizes in
    let some = first_bytes z.shape e es sizes in
    let here = low (address_after z.shape front) (record { before = front; here = e; after = es ++ rest; map = map; place = refl }) (omega arith) in
    let push = total_size-push front e in
    let more = all-below z from stop low (front ++ e ∷ []) es rest (map ∙ sym (append_assoc front (e ∷ []) (es ++ rest))) (omega arith) parts.1 in
    (omega arith, subst (λ n. AllBelow (from - z.shape.base) n es) (let same : zone_header + total_size (front ++ e ∷ []) ≡ zone_header + total_size front + e.size = omega arith in same) more)

module _ (z : ZoneState) (from : ℕ) (sizes : HasSizes z) where
  -- those before the first from an address on
  pub first-below : (at : ℕ) (f : FirstFrom z from at) → AllBelow (from - z.shape.base) zone_header (f.block).before
  first-below at f =
      let place = (f.block).place in
      all-below z from at (λ other e under. elim (cases_lt other from) [ inl low ↦ low | inr high ↦ let least = f.first other e high in absurd (omega arith) ]) [] (f.block).before ((f.block).here ∷ (f.block).after) (f.block).map (omega arith)
      (all_parts _ (f.block).before ((f.block).here ∷ (f.block).after) (ap (sizes_possible z.shape) (sym (f.block).map) ∙ sizes)).0

  -- and all, where there is none
  pub none-below : NoneFrom z from → AllBelow (from - z.shape.base) zone_header z.heap.map
  none-below none = all-below z from (address_after z.shape z.heap.map) (λ other e under. none other e) [] z.heap.map [] (sym (append-nil z.heap.map)) (omega arith) sizes

-- one more block
pub sum-push : (t : HandleTable) (m : ZoneMap) (e : Entry) → room_sum (weights t (m ++ e ∷ [])) ≡ joined (room_sum (weights t m)) (room_of (weigh t e))
sum-push t m e = ap room_sum (weights-append t m (e ∷ [])) ∙ room_sum-append (weights t m) (weigh t e ∷ []) ∙ ap (joined (room_sum (weights t m))) (span_laws.right_identity (room_of (weigh t e)))

-- Some blocks after others, the next of which is at an address, have a sum.
pub record Gathered (z : ZoneState) (low high at : ℕ) (s : Span) : Type 0 where
  pub before : ZoneMap
  pub done : ZoneMap
  pub after : ZoneMap
  pub map : z.heap.map ≡ before ++ (done ++ after)
  pub place : at ≡ address_after z.shape before + total_size done
  pub below : AllBelow low zone_header before
  pub floor : low ≤ zone_header + total_size before
  pub inside : AllBelow high (zone_header + total_size before) done
  pub sum : s ≡ room_sum (weights z.heap.table done)

-- at first none is
pub none_gathered : (z : ZoneState) (sizes : HasSizes z) (low high start at : ℕ) → start ≡ z.shape.base + low → FirstFrom z start at → Gathered z low high at no_span
none_gathered z sizes low high start at is f =
    let e = f.block in
    let same : start - z.shape.base ≡ low = omega arith in
    record {
      before = e.before;
      done = [];
      after = e.here ∷ e.after;
      map = e.map;
      place = (let place = e.place in omega arith);
      below = subst (λ n. AllBelow n zone_header e.before) same (first-below z start sizes at f);
      floor = (let place = e.place in let reached = f.reached in omega arith);
      inside = tt;
      sum = refl;
    }

module _ (z : ZoneState) (low high at : ℕ) (s : Span) (g : Gathered z low high at s) where
  gathered-end : address_after z.shape z.heap.map ≡ at + total_size g.after
  gathered-end =
      let all = ap total_size g.map in
      let outer = total_size-append g.before (g.done ++ g.after) in
      let inner = total_size-append g.done g.after in
      let place = g.place in
      omega arith

  -- below the zone's end a block comes next
  pub gathered-next : at < address_after z.shape z.heap.map → FirstIn g.after
  gathered-next under = let end = gathered-end in first_in g.after (omega arith)

  module _ (n : FirstIn g.after) where
    -- it is read
    abbrev pub gathered-entry : EntryAt z at
    gathered-entry = entry_after z at g.before g.done g.after g.map g.place n

    -- and there is room for the sum with it
    pub gathered-fits : (e : Entry) → e ≡ n.here → address_after z.shape z.heap.map < 2 ^ 32 → SpanFits (joined s (room_of (weigh z.heap.table e)))
    gathered-fits e is few =
        let push = total_size-push g.done e in
        let size = ap (λ (e : Entry). e.size) is in
        let rest = ap total_size n.is in
        let end = gathered-end in
        let place = g.place in
        subst SpanFits (sum-push z.heap.table g.done e ∙ ap (λ s. joined s (room_of (weigh z.heap.table e))) (sym g.sum)) (sum-fits z.heap.table (g.done ++ e ∷ []) (omega arith))

    -- and summed
    pub gathered-on : (e : Entry) → e ≡ n.here → at < z.shape.base + high → Gathered z low high (at + e.size) (joined s (room_of (weigh z.heap.table e)))
    gathered-on e is under = record {
      before = g.before;
      done = g.done ++ e ∷ [];
      after = n.after;
      map = g.map ∙ ap (λ r. g.before ++ (g.done ++ r)) n.is ∙ ap (λ h. g.before ++ (g.done ++ h ∷ n.after)) (sym is) ∙ ap (λ r. g.before ++ r) (sym (append_assoc g.done (e ∷ []) n.after));
      place = (let all = total_size-push g.done e in let place = g.place in omega arith);
      below = g.below;
      floor = g.floor;
      inside = below-push g.done (zone_header + total_size g.before) g.inside (let place = g.place in omega arith);
      sum = ap (λ s. joined s (room_of (weigh z.heap.table e))) g.sum ∙ sym (sum-push z.heap.table g.done e);
    }
      where
        below-push : (m : ZoneMap) (from : ℕ) → AllBelow high from m → from + total_size m < high → AllBelow high from (m ++ e ∷ [])
        below-push [] from all last = (omega arith, tt)
        below-push (d ∷ ds) from all last = (all.0, below-push ds (from + d.size) all.1 (omega arith))

  -- at the end of the leaf or of the zone all of the leaf are
  pub gathered-all : HasSizes z → min (z.shape.base + high) (address_after z.shape z.heap.map) ≤ at → s ≡ room_sum (begun low high zone_header (weights z.heap.table z.heap.map))
  gathered-all sizes end = g.sum ∙ ap room_sum (sym (filling-all z low high g.done filling))
    where
      none : (address_after z.shape z.heap.map ≤ at) ⊎ (z.shape.base + high ≤ at) → (g.after ≡ []) ⊎ (high ≤ zone_header + total_size g.before + total_size g.done)
      none (inl past) =
          let whole = gathered-end in
          inl (no_bytes z.shape g.after (all_parts _ g.done g.after (all_parts _ g.before (g.done ++ g.after) (ap (sizes_possible z.shape) (sym g.map) ∙ sizes)).1).1 (omega arith))
      none (inr past) = let place = g.place in inr (omega arith)

      filling : Filling z low high g.done
      filling = record { before = g.before; after = g.after; map = g.map; below = g.below; floor = g.floor; inside = g.inside; above = none (one_low (z.shape.base + high) (address_after z.shape z.heap.map) at end) }

-- where none begins from a leaf on it has none
pub none_begun : (z : ZoneState) (sizes : HasSizes z) (low high start : ℕ) → start ≡ z.shape.base + low → NoneFrom z start → room_sum (begun low high zone_header (weights z.heap.table z.heap.map)) ≡ no_span
none_begun z sizes low high start is none =
    let same : start - z.shape.base ≡ low = omega arith in
    ap room_sum (begun-below z.heap.table low high zone_header low z.heap.map (subst (λ n. AllBelow n zone_header z.heap.map) same (none-below z start sizes none)) (omega arith))
