-- What is remembered of pages stays true of a zone that is another only in pages that were forgotten.
use Rattle.std.proofs.Common.{◌≡◌, ℕ, ◌+◌, ◌-◌, ◌<◌, List, [], ◌++◌, Option, ap, sym, ◌∙◌, subst, inl, inr, arith}
use Rattle.std.specs.Prelude.{◌⊎◌}
use Rattle.mac_base.specs.Heap.{Heap}
use Rattle.mac_base.specs.HandleTable.{HandleTable}
use Rattle.mac_base.specs.HeadKind.{Shape, zone_header}
use Rattle.mac_base.specs.ZoneMap.{ZoneMap, total_size}
use Rattle.mac_base.specs.ZoneState.{ZoneState, with_heap}
use Rattle.zone_index.specs.declared.sums.Sums.{Sums}
use Rattle.zone_index.specs.declared.weight.Weight.{Weight}
use Rattle.zone_index.specs.Weights.{weights}
use Rattle.zone_index.specs.Spans.{IsSum}
use Rattle.zone_index.specs.Pages.{ArePages, Forgets, begun, page, page_start, page_weights}
use Rattle.zone_index.specs.Walk.{AllBelow}
use Rattle.zone_index.proofs.Changed.{Renews}
use Rattle.zone_index.proofs.Begun.{weights-append, bytes-weights, begun-append, begun-above, begun-below, below-shift}

-- a page that has none of these
abbrev Outside : Shape → ℕ → ℕ → ℕ → Type 0
Outside s from to c = (c < page s from) ⊎ (page s to < c)

module _ (z : ZoneState) (heap : Heap) (from to : ℕ) (r : Renews z heap from to) where
  -- where they begin, from the start of the zone
  abbrev pub offset : ℕ
  offset = zone_header + total_size r.front

  pub parts : (low high : ℕ) (u : HandleTable) (is : ZoneMap) → begun low high zone_header (weights u (r.front ++ (is ++ r.back)))
      ≡ begun low high zone_header (weights u r.front) ++ (begun low high offset (weights u is) ++ begun low high (offset + total_size is) (weights u r.back))
  parts low high u is =
      ap (begun low high zone_header) (weights-append u r.front (is ++ r.back) ∙ ap (λ ws. weights u r.front ++ ws) (weights-append u is r.back))
      ∙ begun-append low high zone_header (weights u r.front) (weights u is ++ weights u r.back)
      ∙ ap (λ ws. begun low high zone_header (weights u r.front) ++ ws) (ap (λ n. begun low high (zone_header + n) (weights u is ++ weights u r.back)) (bytes-weights u r.front)
      ∙ begun-append low high offset (weights u is) (weights u r.back) ∙ ap (λ n. begun low high offset (weights u is) ++ begun low high (offset + n) (weights u r.back)) (bytes-weights u is))

  -- none of them begins there
  away : (c : ℕ) → Outside z.shape from to c → (u : HandleTable) (m : ZoneMap) → AllBelow (to + 1) from m → begun (page_start c) (page_start (c + 1)) offset (weights u m) ≡ []
  away c (inl below) u m all = begun-above (page_start c) (page_start (c + 1)) offset (weights u m) (let place = r.place in omega arith)
  away c (inr above) u m all =
      begun-below u (page_start c) (page_start (c + 1)) offset (to + 1 - z.shape.base) m
      (below-shift z.shape.base (to + 1) offset m (subst (λ n. AllBelow (to + 1) n m) (let place = r.place in let e : from ≡ z.shape.base + offset = omega arith in e) all)) (omega arith)

  module _ (c : ℕ) (out : Outside z.shape from to c) where
    abbrev low : ℕ
    low = page_start c

    abbrev high : ℕ
    high = page_start (c + 1)

    abbrev first : HandleTable → List Weight
    first u = begun low high zone_header (weights u r.front)

    abbrev last : HandleTable → ℕ → List Weight
    last u n = begun low high (offset + n) (weights u r.back)

    same_last : (back : (r.back ≡ []) ⊎ (total_size r.is ≡ total_size r.was)) → last z.heap.table (total_size r.is) ≡ last z.heap.table (total_size r.was)
    same_last (inl none) = ap (λ m. begun low high (offset + total_size r.is) (weights z.heap.table m)) none ∙ sym (ap (λ m. begun low high (offset + total_size r.was) (weights z.heap.table m)) none)
    same_last (inr sizes) = ap (last z.heap.table) sizes

    without : (u : HandleTable) (m is : ZoneMap) → m ≡ r.front ++ (is ++ r.back) → AllBelow (to + 1) from is → begun low high zone_header (weights u m) ≡ first u ++ last u (total_size is)
    without u m is map all = ap (λ m. begun low high zone_header (weights u m)) map ∙ parts low high u is ∙ ap (λ ws. first u ++ (ws ++ last u (total_size is))) (away c out u is all)

    same_page : begun low high zone_header (weights heap.table heap.map) ≡ page_weights z c
    same_page =
        without heap.table heap.map r.is r.map_is r.below_is
        ∙ ap (λ ws. begun low high zone_header ws ++ last heap.table (total_size r.is)) r.same_front
        ∙ ap (λ ws. first z.heap.table ++ begun low high (offset + total_size r.is) ws) r.same_back
        ∙ ap (λ ws. first z.heap.table ++ ws) (same_last r.ends)
        ∙ sym (without z.heap.table z.heap.map r.was r.map_was r.below_was)

-- what is remembered of other pages stays true
pub pages-renewed : (z : ZoneState) (heap : Heap) (from to : ℕ) (old new : List (Option Sums)) → ArePages z old → Renews z heap from to
    → Forgets old new (page z.shape from) (page z.shape to) → ArePages (with_heap heap z) new
pages-renewed z heap from to old new a r f = record {
  places = f.places ∙ a.places;
  known = λ c s there. let kept = f.kept c s there in subst (λ ws. IsSum ws s) (sym (same_page z heap from to r c kept.1)) (a.known c s kept.0);
}

-- also where the same blocks weigh the same
pub pages-still : (z : ZoneState) (heap : Heap) (pages : List (Option Sums)) → ArePages z pages → heap.map ≡ z.heap.map → weights heap.table z.heap.map ≡ weights z.heap.table z.heap.map → ArePages (with_heap heap z) pages
pages-still z heap pages a same weigh = record { places = a.places; known = λ c s there. subst (λ ws. IsSum (begun (page_start c) (page_start (c + 1)) zone_header ws) s) (sym (ap (weights heap.table) same ∙ weigh)) (a.known c s there) }
