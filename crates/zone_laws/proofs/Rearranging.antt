-- Rearrangements of a zone map: one after another, and by an arrangement of a gap.
use Rattle.std.proofs.Common.{◌≡◌, ℕ, ◌+◌, Bool, true, false, not, [], ◌∷◌, ◌++◌, refl, ap, sym, ◌∙◌, subst, inr, append-nil, arith}
use Rattle.std.specs.List.{list_all}
use Rattle.std.proofs.lemmas.Bool.{and_from, and_parts, not-true, false_from_ne_true, true≢false}
use Rattle.mac_base.specs.declared.block.Entry.{Entry}
use Rattle.mac_base.specs.declared.block.Kind.{Kind}
use Rattle.mac_base.specs.HeadKind.{Shape}
use Rattle.mac_base.specs.ZoneMap.{ZoneMap, Rearranged, is_free, is_kind, total_size, sizes, address_after, addresses_from}
use Rattle.mac_base.specs.HandleTable.{HandleTable}
use Rattle.mac_base.specs.Gap.{Gap, filled, is_fixed}
use Rattle.zone_laws.proofs.GapAppend.{sizes-append, addresses_from-none}
use Rattle.zone_laws.proofs.GapParts.{all_move, IsGap}
use Rattle.zone_laws.proofs.Arranging.{IsArrangement}
use Rattle.zone_laws.proofs.ArrangingNamed.{is_kind-same}
use Rattle.zone_laws.proofs.Maps.{total_size-append, addresses_from-append}

-- a map is a rearrangement of itself
pub Rearranged-refl : (s : Shape) (stays : Kind → Bool) (m : ZoneMap) → Rearranged s stays m m
Rearranged-refl s stays m = record { same_blocks = λ k used. refl; same_places = λ k stays. refl; same_total = refl }

-- a rearrangement of a rearrangement is one
pub Rearranged-trans : (s : Shape) (stays : Kind → Bool) (a b c : ZoneMap) → Rearranged s stays a b → Rearranged s stays b c → Rearranged s stays a c
Rearranged-trans s stays a b c r q =
    record { same_blocks = λ k used. q.same_blocks k used ∙ r.same_blocks k used; same_places = λ k fixed. q.same_places k fixed ∙ r.same_places k fixed; same_total = q.same_total ∙ r.same_total }

-- where fewer blocks have to stay, a rearrangement is one
pub Rearranged-weaker : (s : Shape) (p q : Kind → Bool) (a b : ZoneMap) → ((k : Kind) → q k ≡ true → p k ≡ true) → Rearranged s p a b → Rearranged s q a b
Rearranged-weaker s p q a b h r = record { same_blocks = r.same_blocks; same_places = λ k stays. r.same_places k (h k stays); same_total = r.same_total }

-- a fixed block is in use
pub fixed-used : (t : HandleTable) (k : Kind) → is_fixed t k ≡ true → is_free k ≡ false
fixed-used t v1 h = grind arith

not_of_kind : (t : HandleTable) (k l : Kind) → is_fixed t k ≡ true → not (is_fixed t l) ≡ true → not (is_kind k l) ≡ true
not_of_kind t k l fixed moves = ap not (false_from_ne_true (is_kind k l) (λ is. let same = ap (is_fixed t) (is_kind-same k l is) in true≢false (sym fixed ∙ same ∙ not-true _ moves)))

-- no block that may move is of the kind of a fixed one
pub none_of_kind : (t : HandleTable) (k : Kind) (b : ZoneMap) → is_fixed t k ≡ true → all_move t b ≡ true → list_all (λ (e : Entry). not (is_kind k e.kind)) b ≡ true
none_of_kind t k [] fixed h = refl
none_of_kind t k (e ∷ es) fixed h = let parts = and_parts _ _ h in and_from _ _ (not_of_kind t k e.kind fixed parts.0) (none_of_kind t k es fixed parts.1)

-- an arrangement of blocks that may move has such blocks
pub all_move-arranged : (t : HandleTable) (old new : ZoneMap) → IsArrangement old new → all_move t old ≡ true → all_move t new ≡ true
all_move-arranged t old new a h = a.kept (λ e. not (is_fixed t e.kind)) h (inr refl)

addresses-around : (t : HandleTable) (k : Kind) (at : ℕ) (a b c : ZoneMap) → is_fixed t k ≡ true → all_move t b ≡ true
    → addresses_from at (is_kind k) (a ++ b ++ c) ≡ addresses_from at (is_kind k) a ++ addresses_from (at + (total_size a + total_size b)) (is_kind k) c
addresses-around t k at a b c fixed moves =
    addresses_from-append at (is_kind k) (a ++ b) c
    ∙ ap (λ ns. ns ++ addresses_from (at + total_size (a ++ b)) (is_kind k) c) (addresses_from-append at (is_kind k) a b ∙ ap (λ ns. addresses_from at (is_kind k) a ++ ns) (addresses_from-none _ (is_kind k) b (none_of_kind t k b fixed moves)) ∙ append-nil _)
    ∙ ap (λ n. addresses_from at (is_kind k) a ++ addresses_from (at + n) (is_kind k) c) (total_size-append a b)

-- blocks that may move, arranged between others
pub arranged_between : (s : Shape) (t : HandleTable) (a b new c : ZoneMap) → all_move t b ≡ true → IsArrangement b new → Rearranged s (is_fixed t) (a ++ b ++ c) (a ++ new ++ c)
arranged_between s t a b new c moves i =
    let new_moves = all_move-arranged t b new i moves in
    let old_total = total_size-append (a ++ b) c in
    let old_front = total_size-append a b in
    let new_total = total_size-append (a ++ new) c in
    let new_front = total_size-append a new in
    record {
      same_blocks = λ k used. sizes-append (is_kind k) (a ++ new) c ∙ ap (λ ns. ns ++ sizes (is_kind k) c) (sizes-append (is_kind k) a new ∙ ap (λ ns. sizes (is_kind k) a ++ ns) (i.same_sizes k used) ∙ sym (sizes-append (is_kind k) a b))
          ∙ sym (sizes-append (is_kind k) (a ++ b) c);
      same_places = λ k fixed. addresses-around t k (address_after s []) a new c fixed new_moves ∙ ap (λ n. addresses_from (address_after s []) (is_kind k) a ++ addresses_from (address_after s [] + (total_size a + n)) (is_kind k) c) i.same_total
          ∙ sym (addresses-around t k (address_after s []) a b c fixed moves);
      same_total = let same = i.same_total in omega arith;
    }

-- an arrangement of a gap is a rearrangement of the map
pub gap-Rearranged : (s : Shape) (t : HandleTable) (m : ZoneMap) (g : Gap) (b : ZoneMap) → IsGap t m g → IsArrangement g.blocks b → Rearranged s (is_fixed t) m (filled g b)
gap-Rearranged s t m g b i a = subst (λ m. Rearranged s (is_fixed t) m (filled g b)) (sym i.parts) (arranged_between s t g.before g.blocks b g.after i.moves a)
