-- Compaction: all gaps down, the lowest with room down, and one block high.
use Rattle.std.proofs.Common.{◌≡◌, ℕ, true, false, not, cond, [], ◌∷◌, ◌++◌, refl, ap, ◌∙◌, subst, append-nil, append_assoc, Some, None}
use Rattle.std.specs.Prelude.{nat_le}
use Rattle.std.specs.Option.{option_map_or}
use Rattle.std.proofs.lemmas.Bool.{and_from, and_parts, and_left, and_right}
use Rattle.std.proofs.lemmas.List.Folds.{list_all-append}
use Rattle.mac_base.specs.declared.block.Entry.{Entry}
use Rattle.mac_base.specs.HeadKind.{Shape}
use Rattle.mac_base.specs.ZoneMap.{ZoneMap, Rearranged, largest_free}
use Rattle.mac_base.specs.HandleTable.{HandleTable}
use Rattle.mac_base.specs.Suits.{free_apart, is_block_size}
use Rattle.mac_base.specs.Gap.{Gap, gaps, filled, is_fixed, lowest_gap, own_gap}
use Rattle.mac_base.specs.Arrangement.{down, high}
use Rattle.mac_base.specs.Compaction.{all_down_after, all_down, compacted, moved_high}
use Rattle.mac_base.specs.Heap.{Heap, with_map}
use Rattle.mac_base.specs.Sound.{Sound}
use Rattle.zone_laws.proofs.GapParts.{all_move, IsGap, lowest_gap-is, own_gap-is}
use Rattle.zone_laws.proofs.Arranging.{down-IsArrangement}
use Rattle.zone_laws.proofs.ArrangingNamed.{high-IsArrangement}
use Rattle.zone_laws.proofs.Rearranging.{Rearranged-refl, Rearranged-trans, fixed-used, arranged_between, gap-Rearranged}
use Rattle.zone_laws.proofs.GapApart.{free_apart-append, sizes_possible, free_bytes-possible}
use Rattle.zone_laws.proofs.RearrangedSuits.{Sound-rearranged, Sound-arranged}

all_move-push : (t : HandleTable) (run : ZoneMap) (e : Entry) → all_move t run ≡ true → is_fixed t e.kind ≡ false → all_move t (run ++ e ∷ []) ≡ true
all_move-push t run e moves moving = list_all-append _ run (e ∷ []) ∙ and_from _ _ moves (and_from _ _ (ap not moving) refl)

-- after what stays before them
all_down_after-Rearranged : (s : Shape) (t : HandleTable) (a run m : ZoneMap) → all_move t run ≡ true → Rearranged s (is_fixed t) (a ++ (run ++ m)) (a ++ all_down_after t run m)
all_down_after-Rearranged s t a run [] moves =
    subst (λ m. Rearranged s (is_fixed t) m (a ++ down run)) (append_assoc a run []) (subst (λ m. Rearranged s (is_fixed t) (a ++ run ++ []) m) (append-nil (a ++ down run)) (arranged_between s t a run (down run) [] moves (down-IsArrangement run)))
all_down_after-Rearranged s t a run (e ∷ es) moves =
    elim (is_fixed t e.kind) as (λ c. is_fixed t e.kind ≡ c → Rearranged s (is_fixed t) (a ++ (run ++ e ∷ es)) (a ++ cond c (down run ++ e ∷ all_down_after t [] es) (all_down_after t (run ++ e ∷ []) es))) [
      | true ↦ λ fixed. Rearranged-trans s (is_fixed t) _ _ _
          (subst (λ m. Rearranged s (is_fixed t) m (a ++ down run ++ e ∷ es)) (append_assoc a run (e ∷ es)) (arranged_between s t a run (down run) (e ∷ es) moves (down-IsArrangement run)))
          (subst (λ m. Rearranged s (is_fixed t) m (a ++ (down run ++ e ∷ all_down_after t [] es))) (regroup (down run) es)
          (subst (λ m. Rearranged s (is_fixed t) (a ++ down run ++ e ∷ [] ++ es) m) (regroup (down run) (all_down_after t [] es) ∙ append_assoc a (down run) (e ∷ all_down_after t [] es)) (all_down_after-Rearranged s t (a ++ down run ++ e ∷ []) [] es refl)))
      | false ↦ λ moving. subst (λ m. Rearranged s (is_fixed t) (a ++ m) (a ++ all_down_after t (run ++ e ∷ []) es)) (append_assoc run (e ∷ []) es) (all_down_after-Rearranged s t a (run ++ e ∷ []) es (all_move-push t run e moves moving))
    ] refl
  where
    regroup : (d m : ZoneMap) → a ++ d ++ e ∷ [] ++ m ≡ a ++ d ++ e ∷ m
    regroup d m = append_assoc (a ++ d) (e ∷ []) m

-- all gaps down is a rearrangement
pub all_down-Rearranged : (s : Shape) (t : HandleTable) (m : ZoneMap) → Rearranged s (is_fixed t) m (all_down t m)
all_down-Rearranged s t m = all_down_after-Rearranged s t [] [] m refl

free_apart-all_down_after : (t : HandleTable) (run m : ZoneMap) → free_apart (all_down_after t run m) ≡ true
free_apart-all_down_after t run [] = let a = down-IsArrangement run in a.apart
free_apart-all_down_after t run (e ∷ es) =
    elim (is_fixed t e.kind) as (λ c. is_fixed t e.kind ≡ c → free_apart (cond c (down run ++ e ∷ all_down_after t [] es) (all_down_after t (run ++ e ∷ []) es)) ≡ true) [
      | true ↦ λ fixed. let a = down-IsArrangement run in let used = fixed-used t e.kind fixed in
          free_apart-append (down run) (e ∷ all_down_after t [] es) a.apart (and_from _ _ (ap not (and_left _ _ used)) (free_apart-all_down_after t [] es)) (and_right _ _ used)
      | false ↦ λ moving. free_apart-all_down_after t (run ++ e ∷ []) es
    ] refl

-- all gaps down keeps free blocks apart
pub free_apart-all_down : (t : HandleTable) (m : ZoneMap) → free_apart (all_down t m) ≡ true
free_apart-all_down t m = free_apart-all_down_after t [] m

sizes_possible-all_down_after : (s : Shape) (t : HandleTable) (run m : ZoneMap) → sizes_possible s run ≡ true → sizes_possible s m ≡ true → sizes_possible s (all_down_after t run m) ≡ true
sizes_possible-all_down_after s t run [] hr hm = let a = down-IsArrangement run in a.kept (λ (e : Entry). is_block_size s e.size) hr (free_bytes-possible s run hr)
sizes_possible-all_down_after s t run (e ∷ es) hr hm =
    let a = down-IsArrangement run in
    let parts = and_parts (is_block_size s e.size) (sizes_possible s es) hm in
    elim (is_fixed t e.kind) as (λ c. sizes_possible s (cond c (down run ++ e ∷ all_down_after t [] es) (all_down_after t (run ++ e ∷ []) es)) ≡ true) [
      | true ↦ list_all-append (λ (e : Entry). is_block_size s e.size) (down run) (e ∷ all_down_after t [] es)
          ∙ and_from _ _ (a.kept (λ (e : Entry). is_block_size s e.size) hr (free_bytes-possible s run hr)) (and_from _ _ parts.0 (sizes_possible-all_down_after s t [] es refl parts.1))
      | false ↦ sizes_possible-all_down_after s t (run ++ e ∷ []) es (list_all-append (λ (e : Entry). is_block_size s e.size) run (e ∷ []) ∙ and_from _ _ hr (and_from _ _ parts.0 refl)) parts.1
    ]

-- and sizes possible
pub sizes_possible-all_down : (s : Shape) (t : HandleTable) (m : ZoneMap) → sizes_possible s m ≡ true → sizes_possible s (all_down t m) ≡ true
sizes_possible-all_down s t m h = sizes_possible-all_down_after s t [] m refl h

-- and leaves a sound heap
pub Sound-all_down : (s : Shape) (t : HandleTable) (heap : Heap) → Sound s heap → Sound s (with_map (all_down t heap.map) heap)
Sound-all_down s t heap sound = let suits = sound.suits in Sound-rearranged s t heap (all_down t heap.map) (all_down-Rearranged s t heap.map) (free_apart-all_down t heap.map) (sizes_possible-all_down s t heap.map suits.sizes) sound

-- what compaction leaves is the map, its lowest gap with room down, or all gaps down
pub compacted-is : (P : ZoneMap → Type 0) (t : HandleTable) (n : ℕ) (m : ZoneMap) → P m → ((g : Gap) → IsGap t m g → P (filled g (down g.blocks))) → P (all_down t m) → P (compacted t n m)
compacted-is P t n m same gap all =
    elim (nat_le n (largest_free m)) as (λ c. P (cond c m (option_map_or (λ (g : Gap). filled g (down g.blocks)) (lowest_gap n (gaps t m)) (all_down t m)))) [
      | true ↦ same
      | false ↦ elim (lowest_gap n (gaps t m)) as (λ o. lowest_gap n (gaps t m) ≡ o → P (option_map_or (λ (g : Gap). filled g (down g.blocks)) o (all_down t m))) [
        | None ↦ λ none. all
        | Some g ↦ λ found. gap g (lowest_gap-is t m n g found).0
      ] refl
    ]

-- what moving a block high leaves is the map, or the map with the block high in its gap
pub moved_high-is : (P : ZoneMap → Type 0) (t : HandleTable) (h : ℕ) (m : ZoneMap) → P m → ((g : Gap) → IsGap t m g → P (filled g (high h g.blocks))) → P (moved_high t h m)
moved_high-is P t h m same gap = elim (own_gap h (gaps t m)) as (λ o. own_gap h (gaps t m) ≡ o → P (option_map_or (λ (g : Gap). filled g (high h g.blocks)) o m)) [
  | None ↦ λ none. same
  | Some g ↦ λ found. gap g (own_gap-is t m h g found).0
] refl

-- compaction is a rearrangement
pub compacted-Rearranged : (s : Shape) (t : HandleTable) (n : ℕ) (m : ZoneMap) → Rearranged s (is_fixed t) m (compacted t n m)
compacted-Rearranged s t n m = compacted-is (λ new. Rearranged s (is_fixed t) m new) t n m (Rearranged-refl s (is_fixed t) m) (λ g i. gap-Rearranged s t m g (down g.blocks) i (down-IsArrangement g.blocks)) (all_down-Rearranged s t m)

-- and leaves a sound heap
pub Sound-compacted : (s : Shape) (t : HandleTable) (n : ℕ) (heap : Heap) → Sound s heap → Sound s (with_map (compacted t n heap.map) heap)
Sound-compacted s t n heap sound =
    compacted-is (λ new. Sound s (with_map new heap)) t n heap.map sound (λ g i. Sound-arranged s t heap g (down g.blocks) i (down-IsArrangement g.blocks) sound) (Sound-all_down s t heap sound)

-- moving a block high is a rearrangement
pub moved_high-Rearranged : (s : Shape) (t : HandleTable) (h : ℕ) (m : ZoneMap) → Rearranged s (is_fixed t) m (moved_high t h m)
moved_high-Rearranged s t h m = moved_high-is (λ new. Rearranged s (is_fixed t) m new) t h m (Rearranged-refl s (is_fixed t) m) (λ g i. gap-Rearranged s t m g (high h g.blocks) i (high-IsArrangement h g.blocks))

-- and leaves a sound heap
pub Sound-moved_high : (s : Shape) (t : HandleTable) (h : ℕ) (heap : Heap) → Sound s heap → Sound s (with_map (moved_high t h heap.map) heap)
Sound-moved_high s t h heap sound = moved_high-is (λ new. Sound s (with_map new heap)) t h heap.map sound (λ g i. Sound-arranged s t heap g (high h g.blocks) i (high-IsArrangement h g.blocks) sound)
