-- Where handles are purged no lock changes, so the same blocks are fixed.
use Rattle.std.proofs.Common.{◌≡◌, ℕ, true, false, cond, not, ◌&&◌, List, [], ◌∷◌, ◌++◌, refl, ap, ◌∙◌, sym, Contains, filter_map}
use Rattle.std.proofs.lemmas.List.Elements.{All-contains, filter_passes}
use Rattle.std.proofs.lemmas.Bool.{not-true, and_parts}
use Rattle.mac_base.specs.declared.block.Entry.{Entry}
use Rattle.mac_base.specs.declared.block.Kind.{Kind}
use Rattle.mac_base.specs.declared.block.Kind.TheVariants.{Free, Master, Ptr, Rel}
use Rattle.mac_base.specs.ZoneMap.{ZoneMap, handle_of}
use Rattle.mac_base.specs.HandleTable.{HandleTable, EmptyHandle, live_flags, flags_of, is_full, is_locked, is_purgeable}
use Rattle.mac_base.specs.Gap.{is_fixed}
use Rattle.mac_base.specs.Arrangement.{down}
use Rattle.mac_base.specs.Compaction.{all_down, all_down_after}
use Rattle.mac_base.specs.Heap.{Heap, with_emptied, with_all_emptied, all_purged}
use Rattle.mac_base.specs.Request.{candidates_in, is_among}
use Rattle.zone_laws.proofs.Tables.{by_number, with_live_agrees, live_at-with_live_same}
use Rattle.zone_laws.proofs.SlotPlaces.{Contains-here, Contains-later}

-- a handle that may be purged is unlocked
candidate-unlocked : (t : HandleTable) (protected : List ℕ) (m : ZoneMap) (h : ℕ) → Contains (candidates_in t protected m) h → is_locked t h ≡ false
candidate-unlocked t protected m h c =
    let passes = All-contains (λ g. (is_purgeable t g && not (is_among protected g)) ≡ true) (candidates_in t protected m) h
    (filter_passes (λ g. is_purgeable t g && not (is_among protected g)) (filter_map (λ (e : Entry). handle_of e.kind) m)) c in
    let purgeable = (and_parts (is_purgeable t h) (not (is_among protected h)) passes).0 in
    let flags = (and_parts (is_full t h) ((flags_of t h).purge && not (is_locked t h)) purgeable).1 in
    not-true (is_locked t h) (and_parts (flags_of t h).purge (not (is_locked t h)) flags).1

-- no lock changes where an unlocked handle becomes empty
locked-emptied : (heap : Heap) (h : ℕ) → is_locked heap.table h ≡ false → (y : ℕ) → is_locked (with_emptied heap h).table y ≡ is_locked heap.table y
locked-emptied heap h free = by_number (λ y. is_locked (with_emptied heap h).table y ≡ is_locked heap.table y) h
    (ap (λ o. (live_flags o).lock) (live_at-with_live_same h EmptyHandle heap.table) ∙ sym free)
    (λ y apart. ap (λ o. (live_flags o).lock) ((with_live_agrees h EmptyHandle heap.table).others y apart))

locked-all_emptied : (hs : List ℕ) (heap : Heap) → ((h : ℕ) → Contains hs h → is_locked heap.table h ≡ false) → (y : ℕ) → is_locked (with_all_emptied hs heap).table y ≡ is_locked heap.table y
locked-all_emptied [] heap free y = refl
locked-all_emptied (h ∷ hs) heap free y =
    let first = locked-emptied heap h (free h (Contains-here h hs)) in
    locked-all_emptied hs (with_emptied heap h) (λ x c. first x ∙ free x (Contains-later h hs x c)) y ∙ first y

same_fixed : (t u : HandleTable) → ((y : ℕ) → is_locked u y ≡ is_locked t y) → (kind : Kind) → is_fixed u kind ≡ is_fixed t kind
same_fixed t u same Free = refl
same_fixed t u same Master = refl
same_fixed t u same (Ptr p) = refl
same_fixed t u same (Rel h) = same h

same_down : (t u : HandleTable) → ((y : ℕ) → is_locked u y ≡ is_locked t y) → (run m : ZoneMap) → all_down_after u run m ≡ all_down_after t run m
same_down t u same run [] = refl
same_down t u same run (e ∷ es) =
    ap (λ b. cond b (down run ++ e ∷ all_down_after u [] es) (all_down_after u (run ++ e ∷ []) es)) (same_fixed t u same e.kind)
    ∙ ap (λ m. cond (is_fixed t e.kind) (down run ++ e ∷ m) (all_down_after u (run ++ e ∷ []) es)) (same_down t u same [] es)
    ∙ ap (λ m. cond (is_fixed t e.kind) (down run ++ e ∷ all_down_after t [] es) m) (same_down t u same (run ++ e ∷ []) es)

-- the gaps are those of the table before the purging
pub all_down-purged : (heap : Heap) → all_down (all_purged heap).table (all_purged heap).map ≡ all_down heap.table (all_purged heap).map
all_down-purged heap = same_down heap.table (all_purged heap).table
    (locked-all_emptied (candidates_in heap.table [] heap.map) heap (candidate-unlocked heap.table [] heap.map)) [] (all_purged heap).map
