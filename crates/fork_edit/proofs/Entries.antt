-- Each entry of a list of which none is outside the file lies within it.
use Rattle.std.proofs.Common.{◌≡◌, ℕ, zero, suc, ◌+◌, ◌*◌, ◌<◌, Bool, true, false, not, if◌then◌else◌, List, Option, None, Some, refl, subst, length, find, arith}
use Rattle.mac_files.specs.Apple.{entries_from, entry_at, entry_count, entry_outside}
use Rattle.mac_files.specs.Parts.{lies_within}
use Rattle.mac_files.specs.declared.fault.Entry.{Entry}

-- the first isn't outside, and none of the others is
first_within : (within : Bool) (entry : Entry) (others : Option Entry) → (if not within then Some entry else others) ≡ None → (within ≡ true) × (others ≡ None)
first_within true entry others none = (refl, none)
first_within false entry others none = absurd (cc none)

within_from : (n : ℕ) (file : List ℕ) (at count i : ℕ) → i < count → find (λ (e : Entry). not (lies_within n e.part)) (entries_from file at count) ≡ None →
    lies_within n (entry_at file (at + 12 * i)).part ≡ true
within_from n file at zero i below none = absurd (omega arith)
within_from n file at (suc count) zero below none =
    let place : at ≡ at + 12 * 0 = omega arith in
    subst (λ (p : ℕ). lies_within n (entry_at file p).part ≡ true) place (first_within (lies_within n (entry_at file at).part) (entry_at file at) _ none).0
within_from n file at (suc count) (suc i) below none =
    let place : at + 12 + 12 * i ≡ at + 12 * suc i = omega arith in
    let others = (first_within (lies_within n (entry_at file at).part) (entry_at file at) _ none).1 in
    subst (λ (p : ℕ). lies_within n (entry_at file p).part ≡ true) place (within_from n file (at + 12) count i (omega arith) others)

pub entry_within : (file : List ℕ) (i : ℕ) → i < entry_count file → entry_outside file ≡ None → lies_within (length file) (entry_at file (26 + 12 * i)).part ≡ true
entry_within file i below none = within_from (length file) file 26 (entry_count file) i below none
