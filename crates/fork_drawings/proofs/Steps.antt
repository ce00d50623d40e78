-- One step of a loop, and what is left.
use Rattle.std.proofs.Common.{◌≡◌, ℕ, zero, suc, ◌+◌, ◌-◌, ◌<◌, ◌≤◌, List, [], ◌∷◌, ◌++◌, length, map, drop, get_or, false, refl, ap, ◌∙◌, sym, arith}
use Rattle.std.specs.Fn.{iterate}
use Rattle.std.specs.List.{range_with_len}
use Rattle.std.proofs.lemmas.List.FromFn.{get_or-map-range_with_len, length-map-range_with_len, map-range_with_len_more}
use Rattle.std.specs.Prelude.{◌==◌}
use Rattle.std.proofs.lemmas.Bool.Decides.{nat_tests}
use Rattle.std.proofs.lemmas.List.{append_assoc, length-append, append-nil, drop-drop, drop_more, drop_all}
use Rattle.fork_drawings.specs.Packed.{repeated, run, unpacked, used}

-- a piece is added, and what follows it comes next
pub appended : (new old piece rest whole : List ℕ) → new ≡ old ++ piece → old ++ (piece ++ rest) ≡ whole → new ++ rest ≡ whole
appended new old piece rest whole is before = ap (λ (xs : List ℕ). xs ++ rest) is ∙ append_assoc old piece rest ∙ before

-- the next of so many times
pub repeated_step : (times i : ℕ) (piece : List ℕ) → i < times → piece ++ repeated (times - (i + 1)) piece ≡ repeated (times - i) piece
repeated_step times i piece below = let more : times - i ≡ suc (times - (i + 1)) = omega arith in rw more refl

some : (wanted : ℕ) → 0 < wanted → (wanted == 0) ≡ false
some wanted more = grind (arith, nat_tests)

-- the next code
pub code_step : (unit wanted most at i : ℕ) (bytes : List ℕ) → i < most → at < length bytes → 0 < wanted
    → let code = get_or bytes at 0 in
    let piece = run unit code (drop (at + 1) bytes) in
    piece ++ unpacked unit (wanted - length piece) (most - (i + 1)) (drop (at + (1 + used unit code)) bytes) ≡ unpacked unit wanted (most - i) (drop at bytes)
code_step unit wanted most at i bytes below inside more =
    let next : most - i ≡ suc (most - (i + 1)) = omega arith in
    let code = get_or bytes at 0 in
    let piece = run unit code (drop (at + 1) bytes) in
    let place : at + 1 + used unit code ≡ at + (1 + used unit code) = omega arith in
    let left : drop (used unit code) (drop (at + 1) bytes) ≡ drop (at + (1 + used unit code)) bytes =
    drop-drop (used unit code) (at + 1) bytes ∙ ap (λ (n : ℕ). drop n bytes) place in
    rw (next, drop_more bytes at 0 inside, some wanted more)
    (ap (λ (xs : List ℕ). piece ++ unpacked unit (wanted - length piece) (most - (i + 1)) xs) (sym left))

-- a piece is added, and fewer bytes are wanted
pub fewer : (wanted : ℕ) (new old piece : List ℕ) → new ≡ old ++ piece → wanted - length new ≡ wanted - length old - length piece
fewer wanted new old piece is = let long = ap (λ (xs : List ℕ). length xs) is ∙ length-append old piece in omega (arith, long)

-- no code is left
pub ended : (unit wanted most at : ℕ) (row bytes : List ℕ) → length bytes ≤ at → row ++ unpacked unit wanted most (drop at bytes) ≡ row
ended unit wanted zero at row bytes past = append-nil row
ended unit wanted (suc most) at row bytes past = rw (drop_all at bytes past) (append-nil row)

pub out_of_codes : (unit wanted most code at : ℕ) (row bytes : List ℕ) → most ≤ code → row ++ unpacked unit wanted (most - code) (drop at bytes) ≡ row
out_of_codes unit wanted most code at row bytes past = let none : most - code ≡ 0 = omega arith in rw none (append-nil row)

-- no byte is wanted
none_wanted : (unit most : ℕ) (bytes : List ℕ) → unpacked unit 0 most bytes ≡ []
none_wanted unit zero bytes = refl
none_wanted unit (suc most) [] = refl
none_wanted unit (suc most) (code ∷ rest) = refl

pub enough : (unit wanted most : ℕ) (row bytes : List ℕ) → wanted ≤ length row → row ++ unpacked unit (wanted - length row) most bytes ≡ row
enough unit wanted most row bytes full =
    let none : wanted - length row ≡ 0 = omega arith in rw (none, none_wanted unit most bytes) (append-nil row)

-- a list by places has one more
pub one_more : {X : Type 0} (f : ℕ → X) (n : ℕ) (old new : List X) (x : X) → old ≡ map f (range_with_len 0 n) → new ≡ old ++ x ∷ [] → x ≡ f n
    → new ≡ map f (range_with_len 0 (n + 1))
one_more f n old new x before pushed is =
    pushed ∙ ap (λ (xs : List _). xs ++ x ∷ []) before ∙ ap (λ (y : _). map f (range_with_len 0 n) ++ y ∷ []) is ∙ sym (map-range_with_len_more f 0 n n (omega arith))

-- once more
iterate_suc : (f : ℕ → ℕ) (n x : ℕ) → iterate f (suc n) x ≡ f (iterate f n x)
iterate_suc f zero x = refl
iterate_suc f (suc n) x = iterate_suc f n (f x)

pub iterate_more : (f : ℕ → ℕ) (n x : ℕ) → iterate f (n + 1) x ≡ f (iterate f n x)
iterate_more f n x = let more : n + 1 ≡ suc n = omega arith in rw more (iterate_suc f n x)

-- the next of the places that are left
pub rest_more : {X : Type 0} (f : ℕ → X) (n i : ℕ) → i < n → map f (range_with_len i (n - i)) ≡ f i ∷ map f (range_with_len (i + 1) (n - (i + 1)))
rest_more f n i below = let more : n - i ≡ suc (n - (i + 1)) = omega arith in rw more refl

-- what a list by places has at one, and how long it is
pub by_place : (f : ℕ → ℕ) (n i : ℕ) (xs : List ℕ) → xs ≡ map f (range_with_len 0 n) → i < n → get_or xs i 0 ≡ f i
by_place f n i xs is below = ap (λ (ys : List ℕ). get_or ys i 0) is ∙ get_or-map-range_with_len f 0 n i i 0 below (omega arith)

pub long_by_places : {X : Type 0} (f : ℕ → X) (n : ℕ) (xs : List X) → xs ≡ map f (range_with_len 0 n) → length xs ≡ n
long_by_places f n xs is = ap (λ (ys : List _). length ys) is ∙ length-map-range_with_len f 0 n
