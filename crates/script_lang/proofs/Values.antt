-- The values of variables: what one has been given it has, and the others keep theirs.
use Rattle.std.proofs.Common.{◌≡◌, ◌≢◌, ℕ, zero, suc, ◌+◌, ◌<◌, List, [], ◌∷◌, ◌++◌, length, replicate, refl, ap, arith, append-nil}
use Rattle.std.specs.Prelude.{slice_set}
use Rattle.script_lang.specs.Variables.{Variables, value_of, with_value}

-- a variable has the value that it was given
pub value_of-given : (variables : Variables) (place value : ℕ) → value_of (with_value variables place value) place ≡ value
value_of-given [] zero value = refl
value_of-given [] (suc place) value = value_of-given [] place value
value_of-given (old ∷ others) zero value = refl
value_of-given (old ∷ others) (suc place) value = value_of-given others place value

-- any other variable keeps its value
pub value_of-other : (variables : Variables) (place other value : ℕ) → place ≢ other → value_of (with_value variables place value) other ≡ value_of variables other
value_of-other [] zero zero value differ = absurd (differ refl)
value_of-other [] zero (suc other) value differ = refl
value_of-other [] (suc place) zero value differ = refl
value_of-other [] (suc place) (suc other) value differ = value_of-other [] place other value (λ e. differ (ap suc e))
value_of-other (old ∷ others) zero zero value differ = absurd (differ refl)
value_of-other (old ∷ others) zero (suc other) value differ = refl
value_of-other (old ∷ others) (suc place) zero value differ = refl
value_of-other (old ∷ others) (suc place) (suc other) value differ = value_of-other others place other value (λ e. differ (ap suc e))

-- a value that is written over
pub with_value-old : (variables : Variables) (place value : ℕ) → place < length variables → slice_set variables place value ≡ with_value variables place value
with_value-old [] place value within = absurd (omega arith)
with_value-old (old ∷ others) zero value within = refl
with_value-old (old ∷ others) (suc place) value within = ap (λ (t : List ℕ). old ∷ t) (with_value-old others place value (omega arith))

-- a value after all others, which is written over a zero
pub with_value-new : (variables : Variables) (place more value : ℕ) → more + length variables ≡ place + 1 → slice_set (variables ++ replicate more 0) place value ≡ with_value variables place value
with_value-new [] zero zero value e = absurd (omega arith)
with_value-new [] zero (suc zero) value e = refl
with_value-new [] zero (suc (suc more)) value e = absurd (omega arith)
with_value-new [] (suc place) zero value e = absurd (omega arith)
with_value-new [] (suc place) (suc more) value e = ap (λ (t : List ℕ). 0 ∷ t) (with_value-new [] place more value (omega arith))
with_value-new (old ∷ others) zero zero value e = ap (λ (t : List ℕ). value ∷ t) (append-nil others)
with_value-new (old ∷ others) zero (suc more) value e = absurd (omega arith)
with_value-new (old ∷ others) (suc place) more value e = ap (λ (t : List ℕ). old ∷ t) (with_value-new others place more value (omega arith))
