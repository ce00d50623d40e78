-- What a zone is once a free block is cut in two, or two free neighbours are one.
use Rattle.std.proofs.Common.{◌≡◌, ℕ, ◌+◌, ◌-◌, ◌<◌, Bool, false, [], length, ◌∷◌, map, refl, ap, sym, ◌∙◌, arith}
use Rattle.std.specs.Prelude.{slice_index}
use Rattle.mac_base.specs.declared.block.Kind.{Kind}
use Rattle.mac_base.specs.declared.block.Kind.TheVariants.{Free}
use Rattle.mac_base.specs.HeadKind.{head_size}
use Rattle.mac_base.specs.Loans.{LoansFit}
use Rattle.mac_base.specs.ZoneMap.{ZoneMap, block, is_master, is_named, total_size, address_after, addresses, addresses_from}
use Rattle.mac_base.specs.Suits.{is_handle_block, is_pointer_block}
use Rattle.mac_base.specs.ZoneState.{ZoneState}
use Rattle.zone_laws.proofs.Maps.{Exchanged, addresses_from-exchanged, addresses_from-skip}
use Rattle.zone_laws.proofs.SuitsTaken.{slots-same, contents-same}
use Rattle.linked_zone.specs.Owned.{slot_of}
use Rattle.linked_zone.specs.Places.{FreeAt, FreePair}
use Rattle.linked_zone.specs.Changes.{with_map, cut_in_two, joined_pair}
use Rattle.linked_zone.specs.Fit.{Fits}
use Rattle.linked_zone.proofs.ChangeParts.{same_slot, Fits-kept}
use Rattle.linked_zone.proofs.Lent.{loans-replaced}

-- what passes no free block does not pass these
free_pair-skip : (at : ℕ) (test : Kind → Bool) (n k : ℕ) → test Free ≡ false → addresses_from at test (block Free n ∷ block Free k ∷ []) ≡ []
free_pair-skip at test n k free = addresses_from-skip at test (block Free n) (block Free k ∷ []) free ∙ addresses_from-skip (at + n) test (block Free k) [] free

module _ (z : ZoneState) (m : ZoneMap) (same : (test : Kind → Bool) → test Free ≡ false → addresses z.shape test m ≡ addresses z.shape test z.heap.map) where
  -- a zone whose blocks but the free ones stay fits
  pub free_changed-fits : Fits z → LoansFit (with_map m z).heap → Fits (with_map m z)
  free_changed-fits fits loans = Fits-kept z z.heap.table m fits
      (λ g. ap length (same (is_handle_block g) refl) ∙ fits.coherent.handles g)
      (λ p. contents-same z.shape (is_pointer_block p) z.heap.map m (same (is_pointer_block p) refl) ∙ fits.coherent.pointers p)
      (slots-same z.shape z.heap.map m (same is_master refl))
      (λ x. refl) fits.coherent.in_order loans

  -- and its master pointers stay
  pub free_changed-pointers : (x : ℕ) → slot_of (with_map m z) x ≡ slot_of z x
  free_changed-pointers x = same_slot z (with_map m z) x refl refl (ap (λ found. slice_index (map (λ a. a + head_size z.shape.heads) found) 0) (same (is_named x) refl)) refl

module _ (z : ZoneState) (at size : ℕ) (free : FreeAt z at) (smaller : size < free.size) where
  abbrev pub cut_exchange : Exchanged z.heap.map (cut_in_two size z free).heap.map
  cut_exchange = record {
    before = free.before;
    left = block Free free.size ∷ [];
    right = block Free size ∷ block Free (free.size - size) ∷ [];
    after = free.after;
    was = free.map;
    is = refl;
    as_large = omega arith;
  }

  cut_same : (test : Kind → Bool) → test Free ≡ false → addresses z.shape test (cut_in_two size z free).heap.map ≡ addresses z.shape test z.heap.map
  cut_same test is = addresses_from-exchanged z.heap.map (cut_in_two size z free).heap.map cut_exchange (address_after z.shape []) test
      (free_pair-skip (address_after z.shape [] + total_size free.before) test size (free.size - size) is
      ∙ sym (addresses_from-skip (address_after z.shape [] + total_size free.before) test (block Free free.size) [] is))

  -- a zone with a free block cut in two still fits
  pub cut-fits : Fits z → Fits (cut_in_two size z free)
  cut-fits fits = free_changed-fits z (cut_in_two size z free).heap.map cut_same fits
      (loans-replaced z.heap (cut_in_two size z free).heap free.before cut_exchange.left cut_exchange.right free.after fits.loans refl free.map refl refl)

  -- all master pointers stay
  pub cut-pointers : (x : ℕ) → slot_of (cut_in_two size z free) x ≡ slot_of z x
  cut-pointers x = free_changed-pointers z (cut_in_two size z free).heap.map cut_same x

module _ (z : ZoneState) (at : ℕ) (pair : FreePair z at) where
  abbrev pub joined_exchange : Exchanged z.heap.map (joined_pair z pair).heap.map
  joined_exchange = record {
    before = pair.before;
    left = block Free pair.first ∷ block Free pair.second ∷ [];
    right = block Free (pair.first + pair.second) ∷ [];
    after = pair.after;
    was = pair.map;
    is = refl;
    as_large = omega arith;
  }

  joined_same : (test : Kind → Bool) → test Free ≡ false → addresses z.shape test (joined_pair z pair).heap.map ≡ addresses z.shape test z.heap.map
  joined_same test is = addresses_from-exchanged z.heap.map (joined_pair z pair).heap.map joined_exchange (address_after z.shape []) test
      (addresses_from-skip (address_after z.shape [] + total_size pair.before) test (block Free (pair.first + pair.second)) [] is
      ∙ sym (free_pair-skip (address_after z.shape [] + total_size pair.before) test pair.first pair.second is))

  -- a zone with two free neighbours made one still fits
  pub joined-fits : Fits z → Fits (joined_pair z pair)
  joined-fits fits = free_changed-fits z (joined_pair z pair).heap.map joined_same fits
      (loans-replaced z.heap (joined_pair z pair).heap pair.before joined_exchange.left joined_exchange.right pair.after fits.loans refl pair.map refl refl)

  -- all master pointers stay
  pub joined-pointers : (x : ℕ) → slot_of (joined_pair z pair) x ≡ slot_of z x
  joined-pointers x = free_changed-pointers z (joined_pair z pair).heap.map joined_same x
