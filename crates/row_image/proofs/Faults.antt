-- Faults that are passed on.
use Rattle.std.proofs.Common.{◌≡◌, Result, Ok, Err, refl, sym, ap, ◌∙◌}
use Rattle.std.specs.Result.{IsErrAnd, IsErrOf}
use Rattle.row_image.specs.declared.fault.SaveFault.{SaveFault}
use Rattle.row_image.specs.declared.fault.SaveFault.TheVariants.{HostFull, NotSound}
use Rattle.row_image.specs.Reading.{IsReadAs}

-- a fault that is passed on is the one that came
pub passed : {T U : Type 0} (r : Result T SaveFault) (e x : SaveFault) → IsErrAnd r (λ y. y ≡ e) → IsErrOf r x → IsErrOf {T = U} (Err e) x
passed (Ok t) e x is of = absurd is
passed {T} {U} (Err y) e x is of =
    let one : y ≡ x = cc of in
    let same : e ≡ x = sym is ∙ one in
    ap (λ (f : SaveFault). let r : Result U SaveFault = Err f in r) same

-- a fault that is no other one is that the host has no memory
pub only_full : (e : SaveFault) → (e ≡ NotSound → ⊥) → e ≡ HostFull
only_full HostFull other = refl
only_full NotSound other = absurd (other refl)

-- so nothing else is read, where such a fault is passed on
pub passed_full : {T : Type 0} (r : Result T SaveFault) (e : SaveFault) (wanted : T) → IsErrAnd r (λ y. y ≡ e) → (e ≡ NotSound → ⊥) → IsReadAs r wanted
passed_full (Ok t) e wanted is other = absurd is
passed_full (Err y) e wanted is other = is ∙ only_full e other
