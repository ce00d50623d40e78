-- What C learns of a zone that is made asleep, and of one that doesn't wake.
use Rattle.std.proofs.Common.{◌≡◌, ◌∙◌, ℕ, ◌==◌, Bool, true, length, Option, Some, None, refl, sym, ap, subst, inl, inr, arith, ℤ, pos}
use mir.Syntax.{w16}
use mir.Val.{of_z, to_z}
use Rattle.std.proofs.lemmas.Bool.Decides.{nat_tests}
use Rattle.mac_base.specs.ZoneSizes.{ZoneSizes}
use Rattle.raw_region.specs.State.{State as Region}
use Rattle.held_zone.specs.Asleep.{anew, IsAwakeIn, IsSettled, SleepsOn}
use Rattle.held_zone.specs.Fields.{managed}
use Rattle.held_zone.specs.declared.waking.WhyAsleep.{WhyAsleep}
use Rattle.held_zone.specs.declared.waking.WhyAsleep.TheVariants.{Damaged, HostFull, Unlocked}
use Rattle.held_zone.specs.State.{State, IsNew}
use Rattle.macheap_c.specs.Guest.{BeginsWhere, IsMadeAt, IsWoken, WakesWhere, code_asleep}

-- numbers that are the same
pub same_numbers : (m n : ℕ) → m ≡ n → (m == n) ≡ true
same_numbers m n same = grind (arith, nat_tests)

-- a zone that is made in bytes as many as its limit
pub made_in : (sizes : ZoneSizes) (memory after : Option Region) (asleep : Option State) (region kept : Region) (new : State)
    → memory ≡ Some region → length region.bytes ≡ sizes.limit → IsNew sizes new → IsSettled new region kept → asleep ≡ Some new → after ≡ Some (anew kept)
    → IsMadeAt None (Some sizes) memory (pos 0) asleep after
made_in sizes memory after asleep region kept new there long made settled is given =
    subst (λ (m : Option Region). IsMadeAt None (Some sizes) m (pos 0) asleep after) (sym there)
    (subst (λ (b : Bool). BeginsWhere b sizes region (pos 0) asleep after) (sym (same_numbers (length region.bytes) sizes.limit long))
    (subst (λ (s : Option State). BeginsWhere true sizes region (pos 0) s after) (sym is)
    (subst (λ (m : Option Region). BeginsWhere true sizes region (pos 0) (Some new) m) (sym given) (refl, made, (kept, refl, settled)))))

-- the code is one of 16 bits
pub as_told : (why : WhyAsleep) → to_z w16 (of_z w16 (code_asleep why)) ≡ code_asleep why
as_told Damaged = refl
as_told Unlocked = refl
as_told HostFull = refl

-- a zone that doesn't wake
pub not_woken : (old : State) (memory after : Option Region) (zone asleep : Option State) (region given : Region) (why : WhyAsleep) (code : ℤ)
    → memory ≡ Some region → length region.bytes ≡ old.zone.shape.limit → SleepsOn why old (managed region.bytes) → code ≡ code_asleep why → given ≡ region
    → zone ≡ None → asleep ≡ Some old → after ≡ Some given → IsWoken None (Some old) memory code zone asleep after
not_woken old memory after zone asleep region given why code there long on told same none sleeps back =
    subst (λ (m : Option Region). IsWoken None (Some old) m code zone asleep after) (sym there)
    (subst (λ (b : Bool). WakesWhere b old region code zone asleep after) (sym (same_numbers (length region.bytes) old.zone.shape.limit long))
    (inr (why, on, told, none, sleeps, back ∙ ap (λ (r : Region). Some r) same)))

-- one that wakes
pub woken_in : (old new : State) (memory after : Option Region) (zone asleep : Option State) (region : Region) → memory ≡ Some region → length region.bytes ≡ old.zone.shape.limit
    → IsAwakeIn old region new → zone ≡ Some new → asleep ≡ None → after ≡ None → IsWoken None (Some old) memory (pos 0) zone asleep after
woken_in old new memory after zone asleep region there long wakes is none gone =
    subst (λ (m : Option Region). IsWoken None (Some old) m (pos 0) zone asleep after) (sym there)
    (subst (λ (b : Bool). WakesWhere b old region (pos 0) zone asleep after) (sym (same_numbers (length region.bytes) old.zone.shape.limit long))
    (inl (new, wakes, refl, is, none, gone)))
