-- A sound heap stays sound where a block gets another size in a new place.
use Rattle.std.proofs.Common.{◌≡◌, ℕ, true, false, eqb, [], ◌∷◌, ◌++◌, length, refl, ap, sym, ◌∙◌, arith, subst}
use Rattle.std.specs.Prelude.{◌||◌}
use Rattle.std.proofs.lemmas.Bool.{and_parts}
use Rattle.std.proofs.lemmas.Bool.Decides.{nat_tests}
use Rattle.std.proofs.lemmas.List.Folds.{list_all-append}
use Rattle.mac_base.specs.declared.block.Entry.{Entry}
use Rattle.mac_base.specs.declared.block.Kind.TheVariants.{Free, Rel}
use Rattle.mac_base.specs.HeadKind.{Shape, need}
use Rattle.mac_base.specs.ZoneMap.{ZoneMap, block, is_named, released, total_size, sizes}
use Rattle.mac_base.specs.HandleTable.{EmptyHandle, live_at, live_bytes, live_full, live_handle, live_pointer, bytes_of, is_full, is_handle, is_pointer, with_live, refilled, resized}
use Rattle.mac_base.specs.Suits.{Suits, has_length, is_block_size, slots}
use Rattle.mac_base.specs.declared.request.Request.TheVariants.{Resize}
use Rattle.mac_base.specs.Serve.{taken, renamed}
use Rattle.mac_base.specs.Heap.{Heap, granted}
use Rattle.mac_base.specs.Sound.{Sound}
use Rattle.zone_laws.proofs.Placing.{TakenAt}
use Rattle.zone_laws.proofs.Maps.{list_all-exchanged}
use Rattle.zone_laws.proofs.GapAppend.{sizes-append}
use Rattle.zone_laws.proofs.GapApart.{sizes_possible}
use Rattle.zone_laws.proofs.Joined.{sizes-joined}
use Rattle.zone_laws.proofs.PlacedParts.{released-parts}
use Rattle.zone_laws.proofs.ReleasedBlocks.{marked, sizes-released, free_apart-released}
use Rattle.zone_laws.proofs.ResizedBlocks.{released-renamed}
use Rattle.zone_laws.proofs.SoundResized.{length-resized}
use Rattle.zone_laws.proofs.SoundWritten.{refilled_block}
use Rattle.zone_laws.proofs.SuitsReleased.{slots-released, total_size-released}
use Rattle.zone_laws.proofs.Tables.{by_number, full_handle, in_order-with_live, live_at-with_live_same, with_live_agrees}
use Rattle.zone_laws.proofs.Taken.{need-is_size, sizes-taken, taken_exchange}
use Rattle.zone_laws.proofs.Lent.{other_named}
use Rattle.zone_laws.proofs.NamedPlace.{nil-append}
use Rattle.zone_laws.proofs.SuitsNil.{named_none-nil, nil-no_handle}
use Rattle.zone_laws.proofs.SuitsRestored.{TakenLength, taken-TakenLength, Suits-restored, sizes_possible-renamed, free_apart-renamed, sizes-renamed, sizes-released_other}
use Rattle.zone_laws.proofs.SoundTaken.{sound-kept, no_block, Suits-no_block}

-- freeing leaves each size possible
sizes_possible-marked : (s : Shape) (x : ℕ) (m : ZoneMap) → sizes_possible s (marked x m) ≡ sizes_possible s m
sizes_possible-marked s x [] = refl
sizes_possible-marked s x (e ∷ es) = grind (arith, sizes_possible-marked s x es, marked, sizes_possible)

-- The heap's map may have been rearranged. A block of n bytes is taken there under the number nil, the old one is
-- released, and the new one named.
module _ (s : Shape) (heap : Heap) (x n : ℕ) (found : ZoneMap) (sound : Sound s heap) (full : is_full heap.table x ≡ true) (no_pointer : is_pointer heap.table x ≡ false) (at : TakenAt s (need s.heads n) (Rel 0) heap.map found) where
  abbrev new : ZoneMap
  new = renamed 0 x (released x found)

  live : is_handle heap.table x ≡ true
  live = full_handle heap.table x full

  -- x is not nil
  apart_from_nil : eqb 0 x ≡ false
  apart_from_nil = elim (eqb 0 x) as (λ b. eqb 0 x ≡ b → b ≡ false) [
    | true ↦ λ same. absurd (cc (ap (is_handle heap.table) (is_nil x same), nil-no_handle s heap.table heap.map sound.suits, live))
    | false ↦ λ _. refl
  ] refl
    where
      is_nil : (x : ℕ) → eqb 0 x ≡ true → x ≡ 0
      is_nil x h = grind (arith, nat_tests)

  -- without the new block the map is that of before
  pub released-new : released x new ≡ released x heap.map
  released-new = released-renamed 0 x found
      ∙ ap (released x) (released-parts s (need s.heads n) at.size 0 (Rel 0) at.before at.after heap.map found refl at.fits at.was at.is (named_none-nil s heap.table heap.map sound.suits) sound.suits.apart)

  sizes-found : sizes_possible s found ≡ true
  sizes-found =
      let here : sizes_possible s (block Free at.size ∷ at.after) ≡ true = (and_parts (sizes_possible s at.before) (sizes_possible s (block Free at.size ∷ at.after))
      (sym (list_all-append (λ (e : Entry). is_block_size s e.size) at.before (block Free at.size ∷ at.after)) ∙ ap (sizes_possible s) (sym at.was) ∙ sound.suits.sizes)).1 in
      list_all-exchanged heap.map found (taken_exchange s (need s.heads n) (Rel 0) heap.map found at) (λ (e : Entry). is_block_size s e.size)
      (sizes-taken s (need s.heads n) (Rel 0) at.size (need-is_size s n) (and_parts (is_block_size s at.size) (sizes_possible s at.after) here).0 at.fits) sound.suits.sizes

  -- the new block is the only one of nil in the map in which it was found
  found-length : TakenLength s n (is_named 0) found
  found-length =
      let own = taken-TakenLength s n (Rel 0) at.size (is_named 0) refl refl at.fits in
      let none = nil-append (sizes (is_named 0) at.before) (sizes (is_named 0) at.after) (sym (sizes-append (is_named 0) at.before (block Free at.size ∷ at.after)) ∙ ap (sizes (is_named 0)) (sym at.was) ∙ named_none-nil s heap.table heap.map sound.suits) in
      record {
        size = own.size;
        one = ap (sizes (is_named 0)) at.is ∙ sizes-append (is_named 0) at.before _ ∙ ap (λ ns. ns ++ sizes (is_named 0) (taken s (need s.heads n) (Rel 0) at.size ++ at.after)) none.0
            ∙ sizes-append (is_named 0) (taken s (need s.heads n) (Rel 0) at.size) at.after ∙ ap (λ ns. ns ++ sizes (is_named 0) at.after) own.one ∙ ap (λ ns. own.size ∷ ns) none.1;
        long = own.long;
      }

  -- x has the n bytes in the new place
  pub sound-resized_elsewhere : (g : ℕ) → Sound s (granted (Resize x n) g (renamed 0 x (released x found)) heap)
  sound-resized_elsewhere g =
      let l = refilled (resized n (bytes_of heap.table x)) (live_at heap.table x) in
      let v = with_live x l heap.table in
      let first = with_live_agrees x EmptyHandle heap.table in
      let second = with_live_agrees x l heap.table in
      let has = live_at-with_live_same x l heap.table in
      let same = refilled_block (resized n (bytes_of heap.table x)) (live_at heap.table x) (ap (λ b. b || is_pointer heap.table x) full) in
      let of_nil = found-length in
      let under = sizes-renamed 0 x (released x found) (sizes-released x found) in
      let suits : Suits s (no_block s heap x n sound live) (released x new) = subst_map released-new (Suits-no_block s heap x n sound live heap.map sound.suits) in
      sound-kept s heap v new sound
      (Suits-restored s x of_nil.size (no_block s heap x n sound live) v new (record {
        suits = suits;
        agree = record { others = λ y apart. second.others y apart ∙ sym (first.others y apart) };
        apart = free_apart-renamed 0 x (released x found) ∙ free_apart-released x found;
        possible = sizes_possible-renamed s 0 x (released x found) ∙ sizes-joined s (marked x found) (sizes_possible-marked s x found ∙ sizes-found);
        one = under.0 ∙ sizes-released_other x 0 found (other_named x 0 apart_from_nil) ∙ of_nil.one;
        none = under.1;
        long = ap (has_length s of_nil.size) (ap (λ o. length (live_bytes o)) has ∙ ap length same.holds ∙ length-resized n (bytes_of heap.table x)) ∙ of_nil.long;
        full = ap live_full has ∙ same.full ∙ full;
        no_pointer = ap live_pointer has ∙ same.pointer ∙ no_pointer;
        slot = suits.coherent.in_slots x (ap live_handle (live_at-with_live_same x EmptyHandle heap.table));
        rise = in_order-with_live x l heap.table sound.suits.coherent.in_order;
      }))
      (sym (total_size-released x new) ∙ ap total_size released-new ∙ total_size-released x heap.map)
      (sym (slots-released s x new) ∙ ap (slots s) released-new ∙ slots-released s x heap.map)
      (by_number (λ y. is_handle v y ≡ is_handle heap.table y) x (ap live_handle has ∙ same.handle) (λ y apart. ap live_handle (second.others y apart)))
    where
      subst_map : {a b : ZoneMap} → a ≡ b → Suits s (no_block s heap x n sound live) b → Suits s (no_block s heap x n sound live) a
      subst_map is suits = subst (Suits s (no_block s heap x n sound live)) (sym is) suits
