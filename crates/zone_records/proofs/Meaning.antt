-- What agreements mean, one by one and together.
use Rattle.std.proofs.Common.{◌≡◌, refl}
use Rattle.zone_records.specs.declared.structure.Agreement.{Agreement}
use Rattle.zone_records.specs.declared.structure.Agreement.TheVariants.{Damaged, FlagsChanged, Same}
use Rattle.zone_records.specs.Structure.{Means, worse}

-- what two agreements mean for both parts together
pub means-both : (P Q R S : Type 0) (a b : Agreement) → Means a P Q → Means b R S → Means (worse a b) (P × R) (Q × S)
means-both P Q R S Damaged b first second = λ h. first h.0
means-both P Q R S FlagsChanged Damaged first second = λ h. second h.1
means-both P Q R S FlagsChanged FlagsChanged first second = ((first.0, second.0), λ h. first.1 h.0)
means-both P Q R S FlagsChanged Same first second = ((first.0, second.0), λ h. first.1 h.0)
means-both P Q R S Same Damaged first second = λ h. second h.1
means-both P Q R S Same FlagsChanged first second = ((first.0, second.0), λ h. second.1 h.1)
means-both P Q R S Same Same first second = ((first.0, second.0), (first.1, second.1))

-- the same of facts that follow from each other. The second ones do where the first holds
pub means-same : (P Q R S : Type 0) (a : Agreement) → (P → R) → (R → P) → (P → Q → S) → (P → S → Q) → Means a P Q → Means a R S
means-same P Q R S Damaged to from to_flags from_flags told = λ h. told (from h)
means-same P Q R S FlagsChanged to from to_flags from_flags told = (to told.0, λ h. told.1 (from_flags told.0 h))
means-same P Q R S Same to from to_flags from_flags told = (to told.0, to_flags told.0 told.1)

-- with one that says nothing more, and with one that says all
pub worse-same : (a : Agreement) → worse a Same ≡ a
worse-same Damaged = refl
worse-same FlagsChanged = refl
worse-same Same = refl

pub worse-damaged : (a : Agreement) → worse a Damaged ≡ Damaged
worse-damaged Damaged = refl
worse-damaged FlagsChanged = refl
worse-damaged Same = refl

-- three of them together, in either order
pub worse-worse : (a b c : Agreement) → worse a (worse b c) ≡ worse (worse a b) c
worse-worse Damaged b c = refl
worse-worse FlagsChanged Damaged c = refl
worse-worse FlagsChanged FlagsChanged Damaged = refl
worse-worse FlagsChanged FlagsChanged FlagsChanged = refl
worse-worse FlagsChanged FlagsChanged Same = refl
worse-worse FlagsChanged Same c = refl
worse-worse Same b c = refl
