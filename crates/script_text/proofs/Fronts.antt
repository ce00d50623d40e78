-- The first byte that stops, found as a position.
use Rattle.std.proofs.Common.{◌≡◌, ℕ, ◌≤◌, ◌<◌, Bool, true, false, cond, ltb, lt-ltb, le-ltb, List, Option, length, get_or, Some, None, refl, arith}
use Rattle.std.specs.Prelude.{unwrap_or, position}
use Rattle.std.specs.List.{position_or_len}
use Rattle.std.proofs.lemmas.Bool.{ltb-false, ltb-true, false_from_ne_true}
use Rattle.std.proofs.lemmas.List.Sums.{prefix_len-le-length, position_or_len_is}
use Rattle.memchr.specs.Find.{IsFirstByte}

at_test : (b : Bool) (at len : ℕ) → (b ≡ false → len ≤ at) → at ≤ len → unwrap_or (cond b (Some at) None) len ≡ at
at_test true at len past le = refl
at_test false at len past le = let over : len ≤ at = past refl in omega arith

-- the position, or the length where there is none
pub position_or_end : (stops : ℕ → Bool) (bytes : List ℕ) → unwrap_or (position stops bytes) (length bytes) ≡ position_or_len stops bytes
position_or_end stops bytes = at_test (ltb (position_or_len stops bytes) (length bytes)) (position_or_len stops bytes) (length bytes) (λ e. ltb-false _ _ e) (prefix_len-le-length _ bytes)

-- the first place that stops is within the text, or is its length
pub position_within : (stops : ℕ → Bool) (bytes : List ℕ) → position_or_len stops bytes ≤ length bytes
position_within stops bytes = prefix_len-le-length _ bytes

some_by : (b : Bool) (at len found : ℕ) → ltb at len ≡ b → cond b (Some at) None ≡ Some found → (at ≡ found) × (at < len)
some_by true at len found lt e = (cc, ltb-true at len lt)
some_by false at len found lt e = absurd cc

-- where a first byte that stops was found
pub position_found : {V : Type 0} (stops : V → Bool) (bytes : List V) (found : ℕ) → position stops bytes ≡ Some found → (position_or_len stops bytes ≡ found) × (position_or_len stops bytes < length bytes)
position_found stops bytes found e = some_by (ltb (position_or_len stops bytes) (length bytes)) (position_or_len stops bytes) (length bytes) found refl e

none_by : (b : Bool) (at len : ℕ) → ltb at len ≡ b → cond b (Some at) None ≡ None → len ≤ at
none_by true at len lt e = absurd cc
none_by false at len lt e = ltb-false at len lt

-- where no byte stops
pub position_none : (stops : ℕ → Bool) (bytes : List ℕ) → position stops bytes ≡ None → length bytes ≤ position_or_len stops bytes
position_none stops bytes e = none_by (ltb (position_or_len stops bytes) (length bytes)) (position_or_len stops bytes) (length bytes) refl e

pub found_at : (at len k : ℕ) → at ≡ k → k < len → Some k ≡ cond (ltb at len) (Some at) None
found_at at len k e lt = let inside : at < len = omega arith in rw (lt-ltb at len inside, e) refl

none_at : (at len : ℕ) → at ≡ len → None ≡ cond (ltb at len) (Some at) None
none_at at len e = let past : len ≤ at = omega arith in rw (le-ltb at len past) refl

-- the first place that a search finds is the position
pub first_is_position : (test : ℕ → Bool) (bytes : List ℕ) (r : Option ℕ) → IsFirstByte test bytes r → r ≡ position test bytes
first_is_position test bytes None none =
    let fails : (k : ℕ) → k < length bytes → test (get_or bytes k 0) ≡ false = λ k lt. false_from_ne_true (test (get_or bytes k 0)) (none k (omega arith) lt) in
    none_at (position_or_len test bytes) (length bytes) (position_or_len_is test bytes (length bytes) 0 (omega arith) fails (λ lt. absurd (omega arith)))
first_is_position test bytes (Some k) found =
    let first = found.0 in
    let fails : (j : ℕ) → j < k → test (get_or bytes j 0) ≡ false = λ j lt. false_from_ne_true (test (get_or bytes j 0)) (first.before j (omega arith) lt) in
    let within : k < length bytes = first.high in
    found_at (position_or_len test bytes) (length bytes) k (position_or_len_is test bytes k 0 (omega arith) fails (λ lt. found.1)) within
