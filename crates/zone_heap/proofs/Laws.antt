-- What callers of the arrangements cite: a gap that was found is at its address, and a settled zone stays settled.
use Rattle.std.proofs.Common.{◌≡◌, ℕ, ◌+◌, Bool, true, false, cond, List, [], ◌∷◌, length, refl, ap, sym, ◌∙◌, subst, Option, Some, None}
use Rattle.std.specs.Prelude.{Contains, find, map, nat_le}
use Rattle.std.specs.Option.{option_map_or}
use Rattle.std.proofs.lemmas.List.Elements.{Contains-push, Contains-append_left, Contains-append_right}
use Rattle.mac_base.specs.declared.block.Kind.TheVariants.{Ptr, Rel}
use Rattle.mac_base.specs.Arrangement.{high, open_at}
use Rattle.mac_base.specs.Compaction.{all_down, moved_high}
use Rattle.mac_base.specs.Gap.{Gap, gaps, filled, is_fixed, own_gap, room}
use Rattle.mac_base.specs.HandleTable.{HandleTable}
use Rattle.mac_base.specs.HeadKind.{Shape, head_size}
use Rattle.mac_base.specs.Suits.{Coherent, is_handle_block}
use Rattle.mac_base.specs.ZoneMap.{ZoneMap, Rearranged, address_after, contents_addresses, sizes}
use Rattle.mac_base.specs.ZoneState.{ZoneState}
use Rattle.zone_laws.proofs.Arranging.{IsArrangement}
use Rattle.zone_laws.proofs.ArrangingNamed.{high-IsArrangement, open_at-IsArrangement}
use Rattle.zone_laws.proofs.GapAppend.{length-addresses_from}
use Rattle.zone_laws.proofs.GapApart.{sizes_possible, sizes_possible-arranged}
use Rattle.zone_laws.proofs.GapParts.{IsGap, own_gap-is}
use Rattle.zone_laws.proofs.Rearranging.{gap-Rearranged}
use Rattle.zone_laws.proofs.RearrangedSuits.{handle_block-kind, pointer_block-kind, slots-rearranged}
use Rattle.zone_laws.proofs.RearrangingAll.{all_down-Rearranged, sizes_possible-all_down, moved_high-is}
use Rattle.linked_zone.specs.Changes.{with_map}
use Rattle.zone_index.specs.Gaps.{IsLowestGap}
use Rattle.zone_heap.specs.Gaps.{Settled, GapFrom, with_gap, opened_after}

-- what a search finds is in the list
pub find-contains : (test : Gap → Bool) (gs : List Gap) (g : Gap) → find test gs ≡ Some g → Contains gs g
find-contains test [] g found = absurd (cc found)
find-contains test (f ∷ gs) g found =
    elim (test f) as (λ c. cond c (Some f) (find test gs) ≡ Some g → Contains (f ∷ gs) g) [
      | true ↦ λ is. let same : f ≡ g = cc is in subst (λ g. Contains (f ∷ gs) g) same (Contains-append_left (f ∷ []) gs f (Contains-push [] f))
      | false ↦ λ is. Contains-append_right (f ∷ []) gs g (find-contains test gs g is)
    ] found

-- the lowest gap with room is one of the gaps
abbrev pub gap_from : (z : ZoneState) (k at : ℕ) → IsLowestGap z k at → GapFrom z at
gap_from z k at is = record { gap = is.gap; among = find-contains (λ g. nat_le k (room g)) (gaps z.heap.table z.heap.map) is.gap is.lowest; first = is.first }

-- a rearrangement keeps that blocks and owners find each other
pub coherent-rearranged : (s : Shape) (t : HandleTable) (old new : ZoneMap) → Rearranged s (is_fixed t) old new → Coherent s t old → Coherent s t new
coherent-rearranged s t old new r c = record {
  handles = λ h. length-addresses_from (address_after s []) (is_handle_block h) new ∙ ap (λ test. length (sizes test new)) (handle_block-kind h) ∙ ap length (r.same_blocks (Rel h) refl)
      ∙ ap (λ test. length (sizes test old)) (sym (handle_block-kind h)) ∙ sym (length-addresses_from (address_after s []) (is_handle_block h) old) ∙ c.handles h;
  pointers = λ p. ap (λ test. contents_addresses s test new) (pointer_block-kind p) ∙ ap (map (λ at. at + head_size s.heads)) (r.same_places (Ptr p) refl) ∙ ap (λ test. contents_addresses s test old) (sym (pointer_block-kind p)) ∙ c.pointers p;
  in_slots = λ h live. subst (λ ss. Contains ss h) (sym (slots-rearranged s (is_fixed t) old new refl r)) (c.in_slots h live);
  in_order = c.in_order;
}

-- a settled zone stays settled where its map is rearranged
pub settled-rearranged : (z : ZoneState) (new : ZoneMap) → Rearranged z.shape (is_fixed z.heap.table) z.heap.map new → sizes_possible z.shape new ≡ true → Settled z → Settled (with_map new z)
settled-rearranged z new r sizes s = record { coherent = coherent-rearranged z.shape z.heap.table z.heap.map new r s.coherent; sizes = sizes; loans = s.loans }

-- as where a gap is arranged
pub settled-gap : (z : ZoneState) (g : Gap) (b : ZoneMap) → IsGap z.heap.table z.heap.map g → IsArrangement g.blocks b → Settled z → Settled (with_gap z g b)
settled-gap z g b is a s =
    settled-rearranged z (filled g b) (gap-Rearranged z.shape z.heap.table z.heap.map g b is a) (sizes_possible-arranged z.shape z.heap.table z.heap.map g b is a s.sizes) s

-- or all are, down
pub settled-all_down : (z : ZoneState) → Settled z → Settled (with_map (all_down z.heap.table z.heap.map) z)
settled-all_down z s =
    settled-rearranged z (all_down z.heap.table z.heap.map) (all_down-Rearranged z.shape z.heap.table z.heap.map) (sizes_possible-all_down z.shape z.heap.table z.heap.map s.sizes) s

-- or a block is moved high
pub settled-moved_high : (z : ZoneState) (h : ℕ) → Settled z → Settled (with_map (moved_high z.heap.table h z.heap.map) z)
settled-moved_high z h s = moved_high-is (λ m. Settled (with_map m z)) z.heap.table h z.heap.map s (λ g is. settled-gap z g (high h g.blocks) is (high-IsArrangement h g.blocks) s)

-- or a gap is opened
pub settled-opened_after : (z : ZoneState) (h : ℕ) → Settled z → Settled (with_map (opened_after z.heap.table h z.heap.map) z)
settled-opened_after z h s = by_gap (own_gap h (gaps z.heap.table z.heap.map)) refl
  where
    by_gap : (o : Option Gap) → own_gap h (gaps z.heap.table z.heap.map) ≡ o → Settled (with_map (option_map_or (λ (g : Gap). filled g (open_at h g.blocks)) o z.heap.map) z)
    by_gap None none = s
    by_gap (Some g) found = let own = own_gap-is z.heap.table z.heap.map h g found in settled-gap z g (open_at h g.blocks) own.0 (open_at-IsArrangement h g.blocks own.1) s
