-- One more free master pointer.
use Rattle.std.proofs.Common.{◌≡◌, ℕ, suc, ◌-◌, ◌∷◌, [], Some, None, Bool, true, false, cond, nat_eq, refl, sym, ap, ◌∙◌, arith}
use Rattle.std.proofs.lemmas.Bool.Decides.{nat_tests}
use Rattle.zone_look.specs.Free.{FreeList, free_from, free_then, is_outside, next_free}
use Rattle.zone_look.specs.declared.fault.Problem.TheVariants.{BadFree}
use Rattle.zone_look.specs.Memory.{Memory, fault_at}

-- 0 ends the list
pub then_none : (m : Memory) (end at next : ℕ) (rest : FreeList) → next ≡ 0 → free_then m end at next rest ≡ record { slots = []; fault = None }
then_none m end at next rest none = rw none refl

-- an address outside the zone ends it
pub then_outside : (m : Memory) (end at next : ℕ) (rest : FreeList) → nat_eq next 0 ≡ false → is_outside m end next ≡ true
    → free_then m end at next rest ≡ record { slots = []; fault = Some (fault_at m BadFree at next 0) }
then_outside m end at next rest some out = ap (λ (b : Bool). cond b (record { slots = []; fault = None }) (cond (is_outside m end next) (record { slots = []; fault = Some (fault_at m BadFree at next 0) }) (record { slots = next ∷ rest.slots; fault = rest.fault }))) some
    ∙ ap (λ (b : Bool). cond b (record { slots = []; fault = Some (fault_at m BadFree at next 0) }) (record { slots = next ∷ rest.slots; fault = rest.fault })) out

-- one within the zone goes on
pub then_more : (m : Memory) (end at next : ℕ) (rest : FreeList) → nat_eq next 0 ≡ false → is_outside m end next ≡ false
    → free_then m end at next rest ≡ record { slots = next ∷ rest.slots; fault = rest.fault }
then_more m end at next rest some inside = ap (λ (b : Bool). cond b (record { slots = []; fault = None }) (cond (is_outside m end next) (record { slots = []; fault = Some (fault_at m BadFree at next 0) }) (record { slots = next ∷ rest.slots; fault = rest.fault }))) some
    ∙ ap (λ (b : Bool). cond b (record { slots = []; fault = Some (fault_at m BadFree at next 0) }) (record { slots = next ∷ rest.slots; fault = rest.fault })) inside

-- where one more may come, the list is the first and the others
pub from_more : (m : Memory) (end at n k : ℕ) → n ≡ suc k
    → free_from n m end at ≡ free_then m end at (next_free m at) (free_from k m end (next_free m at - m.base))
from_more m end at n k more = ap (λ (x : ℕ). free_from x m end at) more

isnt_zero : (n : ℕ) → (n ≡ 0 → ⊥) → nat_eq n 0 ≡ false
isnt_zero n some = grind (arith, nat_tests)

-- the list ends with the word that says none
pub list_ends : (m : Memory) (end at n k next : ℕ) → n ≡ suc k → next ≡ next_free m at → next ≡ 0
    → free_from n m end at ≡ record { slots = []; fault = None }
list_ends m end at n k next more says none = from_more m end at n k more ∙ then_none m end at (next_free m at) (free_from k m end (next_free m at - m.base)) (sym says ∙ none)

-- it ends with an address outside the zone
pub list_leaves : (m : Memory) (end at n k next : ℕ) → n ≡ suc k → next ≡ next_free m at → (next ≡ 0 → ⊥) → is_outside m end next ≡ true
    → free_from n m end at ≡ record { slots = []; fault = Some (fault_at m BadFree at next 0) }
list_leaves m end at n k next more says some out = from_more m end at n k more
    ∙ ap (λ (x : ℕ). free_then m end at x (free_from k m end (x - m.base))) (sym says)
    ∙ then_outside m end at next (free_from k m end (next - m.base)) (isnt_zero next some) out

-- it goes on with one within the zone
pub list_goes_on : (m : Memory) (end at n k next base : ℕ) → n ≡ suc k → next ≡ next_free m at → base ≡ m.base → (next ≡ 0 → ⊥) → is_outside m end next ≡ false
    → free_from n m end at ≡ record { slots = next ∷ (free_from k m end (next - base)).slots; fault = (free_from k m end (next - base)).fault }
list_goes_on m end at n k next base more says here some inside = from_more m end at n k more
    ∙ ap (λ (x : ℕ). free_then m end at x (free_from k m end (x - m.base))) (sym says)
    ∙ then_more m end at next (free_from k m end (next - m.base)) (isnt_zero next some) inside
    ∙ ap (λ (x : ℕ). record { slots = next ∷ (free_from k m end (next - x)).slots; fault = (free_from k m end (next - x)).fault }) (sym here)
