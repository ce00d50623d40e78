-- What C is shown of a zone's bytes, with the guest's fields of its header.
use Rattle.std.proofs.Common.{◌≡◌, ◌∙◌, ℕ, ◌==◌, Bool, true, false, cond, List, length, Ok, Err, Result, refl, sym, ap, subst, inl, pos}
use Rattle.std.proofs.lemmas.Bool.{eqb-true, false_from_ne_true}
use Rattle.linked_zone.specs.Image.{IsImage}
use Rattle.held_zone.specs.declared.host_err.HostErr.{HostErr}
use Rattle.held_zone.specs.declared.host_err.HostErr.TheVariants.{BadNumber}
use Rattle.held_zone.specs.Fields.{with_fields}
use Rattle.held_zone.specs.HostCodes.{Shows, host_code}
use Rattle.held_zone.specs.State.{State}
use Rattle.held_zone.proofs.Headers.{length-with}
use Rattle.macheap_c.specs.Image.{ImageShown, size_of, sized}
use Rattle.macheap_c.proofs.Guests.{same_numbers}

module _ (s : State) (image : List ℕ) (is : IsImage s.zone image) (none : length s.zone.heap.table.lent ≡ 0) where
  -- how many there are
  pub size-told : (n before : ℕ) → n ≡ length image → ImageShown size_of s (pos 0) before n
  size-told n before long = inl (none, (image, is, (refl, long ∙ sym (length-with s.guest image))))

  module _ (count : ℕ) (before shown : List ℕ) where
    abbrev by_test : (b : Bool) → Result (List ℕ) HostErr
    by_test b = cond b (Ok (with_fields s.guest image)) (Err BadNumber)

    -- they are copied where there is room for as many
    pub copied-told : length image ≡ count → shown ≡ with_fields s.guest image → ImageShown (sized count) s (pos 0) before shown
    copied-told long copied =
        let same = same_numbers (length (with_fields s.guest image)) count (length-with s.guest image ∙ long) in
        inl (none, (image, is, subst (λ (b : Bool). Shows (by_test b) (pos 0) before shown) (sym same) (refl, copied)))

    -- else nothing is
    pub other-told : (length image ≡ count → ⊥) → shown ≡ before → ImageShown (sized count) s (host_code BadNumber) before shown
    other-told other stays =
        let differ = false_from_ne_true (length (with_fields s.guest image) == count) (λ same. other (sym (length-with s.guest image) ∙ eqb-true (length (with_fields s.guest image)) count same)) in
        inl (none, (image, is, subst (λ (b : Bool). Shows (by_test b) (host_code BadNumber) before shown) (sym differ) (refl, stays)))
