-- What the plain folder of a type shows of it, to a file system that has no regard to case: the type without such
-- regard.
use Rattle.std.proofs.Common.{◌≡◌, ◌≢◌, ℕ, suc, ◌+◌, ◌*◌, ◌<◌, ◌==◌, ◌||◌, Bool, true, false, eqb, if◌then◌else◌, List, [], ◌∷◌, ◌++◌, length, slice_index, inl, inr, refl, sym, ap, ◌∙◌, append_assoc, arith}
use Rattle.std.specs.Prelude.{nat_lt, bytes_eq, All}
use Rattle.std.specs.List.{flat_map}
use Rattle.std.proofs.lemmas.Bool.{agree_below_at, eqb-true, eqb-false, ltb-true, cases_Bool}
use Rattle.std.proofs.lemmas.List.{map-append}
use Rattle.std.proofs.lemmas.Slice.Eq.{bytes_eq-Decides}
use Rattle.fork_folder.specs.Names.{folded, plain_symbol, small_of, symbol, symbols, turned}
use Rattle.fork_folder.proofs.Symbols.{digit, same_start, some, wide, width}

-- a symbol of a plain folder
abbrev plain : ℕ → List ℕ
plain byte = folded (plain_symbol byte)

-- its byte without regard to case
abbrev value : List ℕ → ℕ
value text =
    let first = slice_index text 0 in
    if first == 37 then 16 * digit (slice_index text 1) + digit (slice_index text 2)
    else if first == 95 then 32
    else first

plain_wide : (byte : ℕ) → byte < 256 → length (plain byte) ≡ width (slice_index (plain byte) 0)
plain_wide byte h = eqb-true _ _ (agree_below_at (λ b. eqb (length (plain b)) (width (slice_index (plain b) 0))) (λ _. true) 256 byte refl h)

worth : (byte : ℕ) → byte < 256 → value (plain byte) ≡ small_of byte
worth byte h = eqb-true _ _ (agree_below_at (λ b. eqb (value (plain b)) (small_of b)) (λ _. true) 256 byte refl h)

plain_some : (byte : ℕ) → byte < 256 → 0 < length (plain byte)
plain_some byte h = ltb-true _ _ (agree_below_at (λ b. nat_lt 0 (length (plain b))) (λ _. true) 256 byte refl h)

-- it begins with no mark
unmarked : (byte : ℕ) → byte < 256 → slice_index (plain byte) 0 ≢ 126
unmarked byte h = eqb-false _ _ (agree_below_at (λ b. eqb (slice_index (plain b) 0) 126) (λ _. false) 256 byte refl h)

-- a symbol without a mark is that of a plain folder
marked_or_plain : (small : Bool) (byte : ℕ) → byte < 256 → (eqb (slice_index (folded (symbol small byte)) 0) 126 || bytes_eq (folded (symbol small byte)) (plain byte)) ≡ true
marked_or_plain true byte h = agree_below_at (λ b. eqb (slice_index (folded (symbol true b)) 0) 126 || bytes_eq (folded (symbol true b)) (plain b)) (λ _. true) 256 byte refl h
marked_or_plain false byte h = agree_below_at (λ b. eqb (slice_index (folded (symbol false b)) 0) 126 || bytes_eq (folded (symbol false b)) (plain b)) (λ _. true) 256 byte refl h

second : (a b : Bool) → (a || b) ≡ true → a ≡ false → b ≡ true
second true b h e = absurd cc
second false b h e = h

is_plain : (small : Bool) (byte : ℕ) → byte < 256 → slice_index (folded (symbol small byte)) 0 ≢ 126 → folded (symbol small byte) ≡ plain byte
is_plain small byte h first = elim (cases_Bool (eqb (slice_index (folded (symbol small byte)) 0) 126)) [
  | inl same ↦ absurd (first (eqb-true _ _ same))
  | inr other ↦ (bytes_eq-Decides (folded (symbol small byte)) (plain byte)).0 (second _ _ (marked_or_plain small byte h) other)
]

-- the parts of texts of symbols
plain_parts : (byte : ℕ) (bytes tail : List ℕ) → folded (flat_map plain_symbol (byte ∷ bytes)) ++ tail ≡ plain byte ++ (folded (flat_map plain_symbol bytes) ++ tail)
plain_parts byte bytes tail =
    ap (λ (t : List ℕ). t ++ tail) (map-append small_of (plain_symbol byte) (flat_map plain_symbol bytes))
    ∙ append_assoc (plain byte) (folded (flat_map plain_symbol bytes)) tail

marked_parts : (small : Bool) (byte : ℕ) (bytes tail : List ℕ)
    → folded (symbols small (byte ∷ bytes)) ++ tail ≡ folded (symbol small byte) ++ (folded (symbols (turned small byte) bytes) ++ tail)
marked_parts small byte bytes tail =
    ap (λ (t : List ℕ). t ++ tail) (map-append small_of (symbol small byte) (symbols (turned small byte) bytes))
    ∙ append_assoc (folded (symbol small byte)) (folded (symbols (turned small byte) bytes)) tail

one_more : (x y : ℕ) (xs ys : List ℕ) → small_of x ≡ small_of y → folded xs ≡ folded ys → folded (x ∷ xs) ≡ folded (y ∷ ys)
one_more x y xs ys first others = ap (λ (n : ℕ). n ∷ folded xs) first ∙ ap (λ (t : List ℕ). small_of y ∷ t) others

-- types whose plain folders begin two texts that are the same are so without regard to case
pub plain_apart : (xs ys a b : List ℕ) → All (λ byte. byte < 256) xs → All (λ byte. byte < 256) ys → length xs ≡ length ys
    → folded (flat_map plain_symbol xs) ++ a ≡ folded (flat_map plain_symbol ys) ++ b → (folded xs ≡ folded ys) × (a ≡ b)
plain_apart [] [] a b hx hy same e = (refl, e)
plain_apart [] (y ∷ ys) a b hx hy same e = absurd (omega arith)
plain_apart (x ∷ xs) [] a b hx hy same e = absurd (omega arith)
plain_apart (x ∷ xs) (y ∷ ys) a b hx hy same e =
    let x_small : x < 256 = hx 0 0 (omega arith) in
    let y_small : y < 256 = hy 0 0 (omega arith) in
    let both = same_start (plain x) (plain y) _ _ (plain_some x x_small) (plain_some y y_small) (plain_wide x x_small) (plain_wide y y_small)
    (sym (plain_parts x xs a) ∙ e ∙ plain_parts y ys b) in
    let rest = plain_apart xs ys a b (λ k d within. hx (suc k) d (omega arith)) (λ k d within. hy (suc k) d (omega arith)) (omega arith) both.1 in
    (one_more x y xs ys (sym (worth x x_small) ∙ ap value both.0 ∙ worth y y_small) rest.0, rest.1)

-- and so are two of which one has the other kind of folder
pub mixed_apart : (small : Bool) (xs ys a b : List ℕ) → All (λ byte. byte < 256) xs → All (λ byte. byte < 256) ys → length xs ≡ length ys
    → folded (flat_map plain_symbol xs) ++ a ≡ folded (symbols small ys) ++ b → (folded xs ≡ folded ys) × (a ≡ b)
mixed_apart small [] [] a b hx hy same e = (refl, e)
mixed_apart small [] (y ∷ ys) a b hx hy same e = absurd (omega arith)
mixed_apart small (x ∷ xs) [] a b hx hy same e = absurd (omega arith)
mixed_apart small (x ∷ xs) (y ∷ ys) a b hx hy same e =
    let x_small : x < 256 = hx 0 0 (omega arith) in
    let y_small : y < 256 = hy 0 0 (omega arith) in
    let both = same_start (plain x) (folded (symbol small y)) _ _ (plain_some x x_small) (some small y y_small) (plain_wide x x_small) (wide small y y_small)
    (sym (plain_parts x xs a) ∙ e ∙ marked_parts small y ys b) in
    let first : slice_index (folded (symbol small y)) 0 ≢ 126 = λ is. unmarked x x_small (ap (λ (t : List ℕ). slice_index t 0) both.0 ∙ is) in
    let symbol_is = is_plain small y y_small first in
    let rest = mixed_apart (turned small y) xs ys a b (λ k d within. hx (suc k) d (omega arith)) (λ k d within. hy (suc k) d (omega arith)) (omega arith) both.1 in
    (one_more x y xs ys (sym (worth x x_small) ∙ ap value (both.0 ∙ symbol_is) ∙ worth y y_small) rest.0, rest.1)
