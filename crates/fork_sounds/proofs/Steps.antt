-- One step of a loop, and what is left.
use Rattle.std.proofs.Common.{◌≡◌, ℕ, zero, suc, ◌+◌, ◌-◌, ◌*◌, ◌/◌, ◌%◌, ◌<◌, ◌≤◌, Bool, false, List, [], ◌∷◌, ◌++◌, length, map, get_or, refl, ap, ◌∙◌, sym, arith, add-one, add-zero}
use Rattle.std.specs.List.{find, range_with_len}
use Rattle.std.proofs.lemmas.List.{append_assoc, append-nil}
use Rattle.std.proofs.lemmas.List.FromFn.{length-map-range_with_len, get_or-map-range_with_len, map-range_with_len_more}
use Rattle.std.proofs.lemmas.Nat.{div_below, mod_below, mul-add-lt}
use Rattle.std.proofs.Math.Nat.{mul-div-le, mul-le-mul_left}
use Rattle.fork_sounds.specs.Packets.{code_at, head, next, state_after}
use Rattle.fork_sounds.specs.declared.ima.State.{State}

-- a list by places has one more
pub one_more : {X : Type 0} (f : ℕ → X) (n : ℕ) (old new : List X) (x : X) → old ≡ map f (range_with_len 0 n) → new ≡ old ++ x ∷ [] → x ≡ f n
    → new ≡ map f (range_with_len 0 (n + 1))
one_more f n old new x before pushed is =
    pushed ∙ ap (λ (xs : List _). xs ++ x ∷ []) before ∙ ap (λ (y : _). map f (range_with_len 0 n) ++ y ∷ []) is ∙ sym (map-range_with_len_more f 0 n n (omega arith))

-- what isn't looked for is passed
pub passed : (test : ℕ → Bool) (x : ℕ) (xs : List ℕ) → test x ≡ false → find test (x ∷ xs) ≡ find test xs
passed test x xs is = rw is refl

-- a list goes on by places
pub goes_on : (f : ℕ → ℕ) (n : ℕ) (front old new : List ℕ) (x : ℕ) → old ≡ front ++ map f (range_with_len 0 n) → new ≡ old ++ x ∷ [] → x ≡ f n
    → new ≡ front ++ map f (range_with_len 0 (n + 1))
goes_on f n front old new x before pushed is =
    let piece = map f (range_with_len 0 n) in
    pushed ∙ ap (λ (xs : List ℕ). xs ++ x ∷ []) before ∙ append_assoc front piece (x ∷ []) ∙ ap (λ (xs : List ℕ). front ++ xs) (one_more f n piece (piece ++ x ∷ []) x refl refl is)

-- the next place, and those after it
pub rest_more : {X : Type 0} (f : ℕ → X) (n i : ℕ) → i < n → map f (range_with_len i (n - i)) ≡ f i ∷ map f (range_with_len (i + 1) (n - (i + 1)))
rest_more f n i below = let one_more : n - i ≡ suc (n - (i + 1)) = omega arith in rw one_more refl

-- a list by places goes on with a piece
pub pieces_more : (f g : ℕ → ℕ) (n m : ℕ) → ((j : ℕ) → j < m → f (n + j) ≡ g j)
    → map f (range_with_len 0 n) ++ map g (range_with_len 0 m) ≡ map f (range_with_len 0 (n + m))
pieces_more f g n zero same = append-nil (map f (range_with_len 0 n)) ∙ ap (λ (k : ℕ). map f (range_with_len 0 k)) (sym (add-zero n))
pieces_more f g n (suc m) same =
    let before = map f (range_with_len 0 n) in
    let next : suc m ≡ m + 1 = omega arith in
    let last : n + m + 1 ≡ n + suc m = omega arith in
    ap (λ (k : ℕ). before ++ map g (range_with_len 0 k)) next
    ∙ ap (λ (xs : List ℕ). before ++ xs) (map-range_with_len_more g 0 m m (omega arith))
    ∙ sym (append_assoc before (map g (range_with_len 0 m)) (g m ∷ []))
    ∙ ap (λ (xs : List ℕ). xs ++ g m ∷ []) (pieces_more f g n m (λ j below. same j (omega arith)))
    ∙ ap (λ (x : ℕ). map f (range_with_len 0 (n + m)) ++ x ∷ []) (sym (same m (omega arith)))
    ∙ sym (map-range_with_len_more f 0 (n + m) (n + m) (omega arith))
    ∙ ap (λ (k : ℕ). map f (range_with_len 0 k)) last

-- what a list by places has at one
pub by_place : {X : Type 0} (f : ℕ → X) (n i : ℕ) (xs : List X) (d : X) → xs ≡ map f (range_with_len 0 n) → i < n → get_or xs i d ≡ f i
by_place f n i xs d is below = ap (λ (ys : List _). get_or ys i d) is ∙ get_or-map-range_with_len f 0 n i i d below (omega arith)

pub long_by_places : {X : Type 0} (f : ℕ → X) (n : ℕ) (xs : List X) → xs ≡ map f (range_with_len 0 n) → length xs ≡ n
long_by_places f n xs is = ap (λ (ys : List _). length ys) is ∙ length-map-range_with_len f 0 n

-- the state before all codes, and after one more
pub state_first : (bytes : List ℕ) (at : ℕ) → state_after bytes at 0 ≡ head bytes at
unfolding state_after
state_first bytes at = refl

pub state_step : (bytes : List ℕ) (at place : ℕ) → state_after bytes at (place + 1) ≡ next (state_after bytes at place) (code_at bytes at place)
unfolding state_after
state_step bytes at place = let one : place + 1 ≡ suc place = omega arith in rw one refl

-- the packet of a sample is one of them
pub packet_within : (channels units place : ℕ) → 1 ≤ channels → place < 64 * (channels * units)
    → channels * (place / channels / 64) + place % channels < channels * units
packet_within channels units place some below =
    let frame : place / channels < 64 * units = div_below place channels (64 * units) some (omega arith) in
    let row : place / channels / 64 < units = omega arith in
    let column : place % channels < channels = mod_below place channels some in
    omega (arith, mul-add-lt (place / channels / 64) channels (place % channels) units row column)

-- the first packet of a frame is no later than its first sample
pub packet_low : (channels place : ℕ) → 1 ≤ channels → channels * (place / channels / 64) ≤ place
packet_low channels place some =
    let fewer : channels * (place / channels / 64) ≤ channels * (place / channels) = mul-le-mul_left channels (omega arith) in
    let whole : channels * (place / channels) ≤ place = mul-div-le place channels in
    omega arith

-- the place of a sample among those of all packets
pub origin_parts : (packet place : ℕ) → place < 64 → ((64 * packet + place) / 64 ≡ packet) × ((64 * packet + place) % 64 ≡ place)
origin_parts packet place below = (omega arith, omega arith)
