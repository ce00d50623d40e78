-- A rearrangement of a map that suits a table suits it.
use Rattle.std.proofs.Common.{◌≡◌, ℕ, ◌+◌, ◌-◌, Bool, true, false, cond, [], ◌∷◌, ◌++◌, length, refl, ap, sym, ◌∙◌, subst, inl, inr, arith}
use Rattle.std.specs.Prelude.{◌||◌, ◌⊎◌, ◌↔◌, map, IsFalse, Contains, flat_map}
use Rattle.std.specs.List.{list_all}
use Rattle.std.proofs.lemmas.Bool.{and_from, and_parts, or_left, or_right, or_cases, false≢true, cases_Bool}
use Rattle.std.proofs.lemmas.List.Folds.{list_all-append}
use Rattle.mac_base.specs.declared.block.Entry.{Entry}
use Rattle.mac_base.specs.declared.block.Kind.{Kind}
use Rattle.mac_base.specs.declared.block.Kind.TheVariants.{Master, Ptr, Rel}
use Rattle.mac_base.specs.HeadKind.{Shape, zone_header, head_size, slot_count}
use Rattle.mac_base.specs.ZoneMap.{ZoneMap, Rearranged, is_free, is_kind, sizes, address_after, contents_addresses}
use Rattle.mac_base.specs.HandleTable.{HandleTable, is_handle}
use Rattle.mac_base.specs.Suits.{Suits, free_apart, is_handle_block, is_pointer_block, has_length, wanted_length, slots, slots_from}
use Rattle.mac_base.specs.Gap.{Gap, filled, is_fixed}
use Rattle.mac_base.specs.Heap.{Heap, with_map}
use Rattle.mac_base.specs.Sound.{Sound, is_growth}
use Rattle.zone_laws.proofs.GapAppend.{length-addresses_from}
use Rattle.zone_laws.proofs.GapParts.{IsGap}
use Rattle.zone_laws.proofs.Arranging.{IsArrangement}
use Rattle.zone_laws.proofs.ArrangingNamed.{is_kind-same}
use Rattle.zone_laws.proofs.GapApart.{sizes_possible, free_apart-arranged, sizes_possible-arranged}
use Rattle.zone_laws.proofs.Rearranging.{gap-Rearranged}

-- a handle's own blocks are those of its kind
pub handle_block-kind : (h : ℕ) → is_handle_block h ≡ is_kind (Rel h)
handle_block-kind h = grind arith

-- and so are a pointer's
pub pointer_block-kind : (p : ℕ) → is_pointer_block p ≡ is_kind (Ptr p)
pointer_block-kind p = grind arith

-- a kind is one with itself
pub is_kind-itself : (k : Kind) → is_kind k k ≡ true
is_kind-itself v0 = grind arith

-- what each block in use passes, by kind and size
abbrev pub used_pass : (Kind → ℕ → Bool) → ZoneMap → Bool
used_pass p m = list_all (λ (e : Entry). is_free e.kind || p e.kind e.size) m

-- the sizes of the blocks of a kind pass
pub sizes-pass : (p : Kind → ℕ → Bool) (k : Kind) (m : ZoneMap) → is_free k ≡ false → used_pass p m ≡ true → list_all (p k) (sizes (is_kind k) m) ≡ true
sizes-pass p k [] used h = refl
sizes-pass p k (e ∷ es) used h = let parts = and_parts (is_free e.kind || p e.kind e.size) (used_pass p es) h in
    elim (is_kind k e.kind) as (λ c. is_kind k e.kind ≡ c → list_all (p k) (cond c (e.size ∷ []) [] ++ sizes (is_kind k) es) ≡ true) [
      | true ↦ λ is. and_from (p k e.size) _ (here (is_kind-same k e.kind is) (or_cases (is_free e.kind) (p e.kind e.size) parts.0)) (sizes-pass p k es used parts.1)
      | false ↦ λ other. sizes-pass p k es used parts.1
    ] refl
  where
    here : k ≡ e.kind → (is_free e.kind ≡ true) ⊎ (p e.kind e.size ≡ true) → p k e.size ≡ true
    here same (inl free) = absurd (false≢true (sym used ∙ ap is_free same ∙ free))
    here same (inr passes) = ap (λ k. p k e.size) same ∙ passes

-- where they do for each kind, the blocks pass
pub used_pass-from_sizes : (p : Kind → ℕ → Bool) (m : ZoneMap) → ((k : Kind) → is_free k ≡ false → list_all (p k) (sizes (is_kind k) m) ≡ true) → used_pass p m ≡ true
used_pass-from_sizes p [] h = refl
used_pass-from_sizes p (e ∷ es) h = and_from (is_free e.kind || p e.kind e.size) (used_pass p es) (here (cases_Bool (is_free e.kind)))
    (used_pass-from_sizes p es (λ k used. (and_parts _ _ (sym (list_all-append (p k) (cond (is_kind k e.kind) (e.size ∷ []) []) (sizes (is_kind k) es)) ∙ h k used)).1))
  where
    here : (is_free e.kind ≡ true) ⊎ (is_free e.kind ≡ false) → (is_free e.kind || p e.kind e.size) ≡ true
    here (inl free) = or_left _ _ free
    here (inr used) = or_right _ _ (and_parts (p e.kind e.size) _ (sym (ap (λ c. list_all (p e.kind) (cond c (e.size ∷ []) [] ++ sizes (is_kind e.kind) es)) (is_kind-itself e.kind)) ∙ h e.kind used)).0

-- blocks that pass by kind and size pass once they are rearranged
pub used_pass-rearranged : (p : Kind → ℕ → Bool) (s : Shape) (stays : Kind → Bool) (old new : ZoneMap) → Rearranged s stays old new → used_pass p old ≡ true → used_pass p new ≡ true
used_pass-rearranged p s stays old new r h = used_pass-from_sizes p new (λ k used. ap (list_all (p k)) (r.same_blocks k used) ∙ sizes-pass p k old used h)

-- the slots of a map in which the master blocks stay
pub slots-rearranged : (s : Shape) (stays : Kind → Bool) (old new : ZoneMap) → stays Master ≡ true → Rearranged s stays old new → slots s new ≡ slots s old
slots-rearranged s stays old new fixed r = ap (λ at. flat_map (slots_from slot_count) (map (λ a. a + head_size s.heads) at)) (r.same_places Master fixed)

-- A rearrangement in which fixed blocks stay, free blocks are apart and sizes are possible suits a table that the map
-- suited. Which blocks are fixed may be by another table.
pub Suits-rearranged : (s : Shape) (t u : HandleTable) (old new : ZoneMap) → Rearranged s (is_fixed t) old new → free_apart new ≡ true → sizes_possible s new ≡ true → Suits s u old → Suits s u new
Suits-rearranged s t u old new r apart possible suits =
    record {
      apart = apart;
      sizes = possible;
      lengths = used_pass-rearranged (λ k n. has_length s n (wanted_length u k)) s (is_fixed t) old new r suits.lengths;
      coherent = record {
        handles = λ h. length-addresses_from (address_after s []) (is_handle_block h) new ∙ ap (λ test. length (sizes test new)) (handle_block-kind h) ∙ ap length (r.same_blocks (Rel h) refl)
            ∙ ap (λ test. length (sizes test old)) (sym (handle_block-kind h)) ∙ sym (length-addresses_from (address_after s []) (is_handle_block h) old) ∙ suits.coherent.handles h;
        pointers = λ p. ap (λ test. contents_addresses s test new) (pointer_block-kind p) ∙ ap (map (λ at. at + head_size s.heads)) (r.same_places (Ptr p) refl)
            ∙ ap (λ test. contents_addresses s test old) (sym (pointer_block-kind p)) ∙ suits.coherent.pointers p;
        in_slots = λ h live. subst (λ ss. Contains ss h) (sym (slots-rearranged s (is_fixed t) old new refl r)) (suits.coherent.in_slots h live);
        in_order = suits.coherent.in_order;
      };
    }

-- and the heap stays sound
pub Sound-rearranged : (s : Shape) (t : HandleTable) (heap : Heap) (new : ZoneMap) → Rearranged s (is_fixed t) heap.map new → free_apart new ≡ true → sizes_possible s new ≡ true → Sound s heap → Sound s (with_map new heap)
Sound-rearranged s t heap new r apart possible sound =
    record {
      suits = Suits-rearranged s t heap.table heap.map new r apart possible sound.suits;
      within = let same = r.same_total in let within = sound.within in omega arith;
      growth = ap (λ n. is_growth s (s.limit - (zone_header + n))) r.same_total ∙ sound.growth;
      slots = record {
        free = λ x. subst (λ ss. Contains heap.free_slots x ↔ (Contains ss x × IsFalse (is_handle heap.table x))) (sym (slots-rearranged s (is_fixed t) heap.map new refl r)) (sound.slots.free x);
        once = sound.slots.once;
      };
    }

-- an arrangement of a gap suits a table that the map suited
pub Suits-arranged : (s : Shape) (t u : HandleTable) (m : ZoneMap) (g : Gap) (b : ZoneMap) → IsGap t m g → IsArrangement g.blocks b → Suits s u m → Suits s u (filled g b)
Suits-arranged s t u m g b i a suits =
    Suits-rearranged s t u m (filled g b) (gap-Rearranged s t m g b i a) (free_apart-arranged t m g b i a suits.apart) (sizes_possible-arranged s t m g b i a suits.sizes) suits

-- and leaves a sound heap
pub Sound-arranged : (s : Shape) (t : HandleTable) (heap : Heap) (g : Gap) (b : ZoneMap) → IsGap t heap.map g → IsArrangement g.blocks b → Sound s heap → Sound s (with_map (filled g b) heap)
Sound-arranged s t heap g b i a sound =
    let suits = sound.suits in
    Sound-rearranged s t heap (filled g b) (gap-Rearranged s t heap.map g b i a) (free_apart-arranged t heap.map g b i a suits.apart) (sizes_possible-arranged s t heap.map g b i a suits.sizes) sound
