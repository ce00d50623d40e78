-- The names of files and folders are such as file systems take.
use Rattle.std.proofs.Common.{◌≡◌, ◌≢◌, ℕ, zero, suc, ◌+◌, ◌*◌, ◌<◌, ◌≤◌, ◌^◌, ◌%◌, ◌&&◌, Bool, true, false, if◌then◌else◌, eqb, leb, List, [], ◌∷◌, ◌++◌, length, take, slice_index, Option, None, Some, refl, sym, ◌∙◌, arith, length-append}
use Rattle.std.specs.Prelude.{ℤ, pos, negsuc, codes, All, IfSome, count_by, nat_lt, FitsSigned}
use Rattle.std.specs.Int.{w16}
use Rattle.std.specs.List.{AllByRecursion, flat_map, list_all, list_any}
use Rattle.std.specs.Fmt.{decimal, signed_decimal}
use Rattle.std.proofs.lemmas.Bool.{agree_below_at, eqb-false, leb-true, ltb-true}
use Rattle.std.proofs.lemmas.List.{get_or_append_left}
use Rattle.std.proofs.lemmas.List.Sums.{count_by-le-length}
use Rattle.std.proofs.lemmas.Fmt.{decimal_by_steps, length-decimal-le, decimal_nonempty}
use Rattle.fork_bytes.specs.Rows.{Row}
use Rattle.fork_list.specs.Listing.{is_chosen}
use Rattle.fork_folder.specs.Names.{clash, file_name, folder_name, letter, name_text, nth_text, plain_name, plain_symbol, symbol, symbols, turned}
use Rattle.fork_folder.specs.Unpacked.{file_of, files_from, is_same}
use Rattle.fork_folder.specs.Laws.{HasSafeNames, IsNamed, IsSafe, is_safe}
use Rattle.fork_folder.proofs.Apart.{all_picked}
use Rattle.fork_folder.proofs.Numbers.{IsDigit, digits, later_text}

-- texts one after the other
one : (b rest all : Bool) → (b && rest) ≡ true → (rest ≡ true → all ≡ true) → (b && all) ≡ true
one true rest all h f = f h
one false rest all h f = absurd cc

both : (xs ys : List ℕ) → list_all is_safe xs ≡ true → list_all is_safe ys ≡ true → list_all is_safe (xs ++ ys) ≡ true
both [] ys hx hy = hy
both (x ∷ xs) ys hx hy = one (is_safe x) (list_all is_safe xs) (list_all is_safe (xs ++ ys)) hx (λ rest. both xs ys rest hy)

-- a symbol
symbol_safe : (small : Bool) (byte : ℕ) → byte < 256 → list_all is_safe (symbol small byte) ≡ true
symbol_safe true byte h = agree_below_at (λ b. list_all is_safe (symbol true b)) (λ _. true) 256 byte refl h
symbol_safe false byte h = agree_below_at (λ b. list_all is_safe (symbol false b)) (λ _. true) 256 byte refl h

symbol_short : (small : Bool) (byte : ℕ) → byte < 256 → length (symbol small byte) ≤ 3
symbol_short true byte h = leb-true _ _ (agree_below_at (λ b. leb (length (symbol true b)) 3) (λ _. true) 256 byte refl h)
symbol_short false byte h = leb-true _ _ (agree_below_at (λ b. leb (length (symbol false b)) 3) (λ _. true) 256 byte refl h)

symbols_safe : (small : Bool) (bytes : List ℕ) → All (λ byte. byte < 256) bytes
    → (list_all is_safe (symbols small bytes) ≡ true) × (length (symbols small bytes) ≤ 3 * length bytes)
symbols_safe small [] h = (refl, omega arith)
symbols_safe small (byte ∷ bytes) h =
    let fits : byte < 256 = h 0 0 (omega arith) in
    let rest = symbols_safe (turned small byte) bytes (λ k d within. h (suc k) d (omega arith)) in
    let short = symbol_short small byte fits in
    let few = rest.1 in (
      both (symbol small byte) (symbols (turned small byte) bytes) (symbol_safe small byte fits) rest.0,
      omega (arith, length-append (symbol small byte) (symbols (turned small byte) bytes)),
    )

-- no folder's name begins with a dot
symbol_first : (byte : ℕ) → byte < 256 → (0 < length (symbol false byte)) × (slice_index (symbol false byte) 0 ≢ 46)
symbol_first byte h = (
  ltb-true _ _ (agree_below_at (λ b. nat_lt 0 (length (symbol false b))) (λ _. true) 256 byte refl h),
  eqb-false _ _ (agree_below_at (λ b. eqb (slice_index (symbol false b) 0) 46) (λ _. false) 256 byte refl h),
)

symbol_shown : (byte : ℕ) (rest : List ℕ) → byte < 256 → slice_index (symbol false byte ++ rest) 0 ≢ 46
symbol_shown byte rest h is =
    let first = symbol_first byte h in
    first.1 (sym (get_or_append_left (symbol false byte) rest 0 0 first.0) ∙ is)

folder_safe : (kind : List ℕ) → length kind ≡ 4 → All (λ byte. byte < 256) kind → IsSafe (folder_name kind)
folder_safe [] four h = absurd (omega arith)
folder_safe (byte ∷ bytes) four h =
    let all = symbols_safe false (byte ∷ bytes) h in
    let few = all.1 in
    record { bytes = all.0; short = omega arith; shown = symbol_shown byte (symbols (turned false byte) bytes) (h 0 0 (omega arith)) }

-- a plain symbol
plain_safe : (byte : ℕ) → byte < 256 → list_all is_safe (plain_symbol byte) ≡ true
plain_safe byte h = agree_below_at (λ b. list_all is_safe (plain_symbol b)) (λ _. true) 256 byte refl h

plain_short : (byte : ℕ) → byte < 256 → length (plain_symbol byte) ≤ 3
plain_short byte h = leb-true _ _ (agree_below_at (λ b. leb (length (plain_symbol b)) 3) (λ _. true) 256 byte refl h)

plains_safe : (bytes : List ℕ) → All (λ byte. byte < 256) bytes
    → (list_all is_safe (flat_map plain_symbol bytes) ≡ true) × (length (flat_map plain_symbol bytes) ≤ 3 * length bytes)
plains_safe [] h = (refl, omega arith)
plains_safe (byte ∷ bytes) h =
    let fits : byte < 256 = h 0 0 (omega arith) in
    let rest = plains_safe bytes (λ k d within. h (suc k) d (omega arith)) in
    let short = plain_short byte fits in
    let few = rest.1 in (
      both (plain_symbol byte) (flat_map plain_symbol bytes) (plain_safe byte fits) rest.0,
      omega (arith, length-append (plain_symbol byte) (flat_map plain_symbol bytes)),
    )

plain_first : (byte : ℕ) → byte < 256 → (0 < length (plain_symbol byte)) × (slice_index (plain_symbol byte) 0 ≢ 46)
plain_first byte h = (
  ltb-true _ _ (agree_below_at (λ b. nat_lt 0 (length (plain_symbol b))) (λ _. true) 256 byte refl h),
  eqb-false _ _ (agree_below_at (λ b. eqb (slice_index (plain_symbol b) 0) 46) (λ _. false) 256 byte refl h),
)

plain_shown : (byte : ℕ) (rest : List ℕ) → byte < 256 → slice_index (plain_symbol byte ++ rest) 0 ≢ 46
plain_shown byte rest h is =
    let first = plain_first byte h in
    first.1 (sym (get_or_append_left (plain_symbol byte) rest 0 0 first.0) ∙ is)

plain_folder_safe : (kind : List ℕ) → length kind ≡ 4 → All (λ byte. byte < 256) kind → IsSafe (plain_name kind)
plain_folder_safe [] four h = absurd (omega arith)
plain_folder_safe (byte ∷ bytes) four h =
    let all = plains_safe (byte ∷ bytes) h in
    let few = all.1 in
    record { bytes = all.0; short = omega arith; shown = plain_shown byte (flat_map plain_symbol bytes) (h 0 0 (omega arith)) }

-- either folder
among_safe : (marked : Bool) (kind : List ℕ) → length kind ≡ 4 → All (λ byte. byte < 256) kind → IsSafe (if marked then folder_name kind else plain_name kind)
among_safe true kind four h = folder_safe kind four h
among_safe false kind four h = plain_folder_safe kind four h

-- a letter of a name
letter_safe : (byte : ℕ) → byte < 256 → list_all is_safe (letter byte) ≡ true
letter_safe byte h = agree_below_at (λ b. list_all is_safe (letter b)) (λ _. true) 256 byte refl h

letter_short : (byte : ℕ) → byte < 256 → length (letter byte) ≤ 3
letter_short byte h = leb-true _ _ (agree_below_at (λ b. leb (length (letter b)) 3) (λ _. true) 256 byte refl h)

-- so many letters of a name
letters_safe : (n : ℕ) (bytes : List ℕ) → All (λ byte. byte < 256) bytes
    → (list_all is_safe (flat_map letter (take n bytes)) ≡ true) × (length (flat_map letter (take n bytes)) ≤ 3 * n)
letters_safe zero bytes h = (refl, omega arith)
letters_safe (suc n) [] h = (refl, omega arith)
letters_safe (suc n) (byte ∷ bytes) h =
    let fits : byte < 256 = h 0 0 (omega arith) in
    let rest = letters_safe n bytes (λ k d within. h (suc k) d (omega arith)) in
    let short = letter_short byte fits in
    let few = rest.1 in (
      both (letter byte) (flat_map letter (take n bytes)) (letter_safe byte fits) rest.0,
      omega (arith, length-append (letter byte) (flat_map letter (take n bytes))),
    )

name_safe : (name : Option (List ℕ)) → IfSome name (λ bytes. All (λ byte. byte < 256) bytes)
    → (list_all is_safe (name_text name ++ codes ".bin") ≡ true) × (length (name_text name ++ codes ".bin") ≤ 221)
name_safe None h = (refl, omega arith)
name_safe (Some name) h =
    let all = letters_safe 72 name h in
    let few = all.1 in
    let end = codes ".bin" in
    (both (flat_map letter (take 72 name)) end all.0 refl, omega (arith, length-append (flat_map letter (take 72 name)) end))

-- a number
digit_safe : (d : ℕ) → d < 10 → is_safe (48 + d) ≡ true
digit_safe d h = agree_below_at (λ b. is_safe (48 + b)) (λ _. true) 10 d refl h

decimal_safe : (n : ℕ) → n < 2 ^ 64 → list_all is_safe (decimal n) ≡ true
decimal_safe n small =
    decimal_by_steps (λ m ds. list_all is_safe ds ≡ true) (λ m few. rw (digit_safe m few) refl)
    (λ m ds many all. both ds ((48 + m % 10) ∷ []) all (rw (digit_safe (m % 10) (omega arith)) refl)) n small

nth_safe : (n : ℕ) → n < 2 ^ 63 → (list_all is_safe (nth_text n) ≡ true) × (length (nth_text n) ≤ 21)
nth_safe zero h = (refl, omega arith)
nth_safe (suc n) h =
    let short = length-decimal-le 20 (suc n + 1) (omega arith) (omega arith) (omega arith) in
    rw (later_text n) (decimal_safe (suc n + 1) (omega arith), omega arith)

-- a number begins with a digit
begins : (ds rest : List ℕ) → 0 < length ds → AllByRecursion IsDigit ds → slice_index (ds ++ rest) 0 ≢ 46
begins [] rest some all is = omega arith
begins (d ∷ ds) rest some all is = let low = all.0.0 in omega arith

digits_shown : (n : ℕ) → n < 2 ^ 64 → (rest : List ℕ) → slice_index (decimal n ++ rest) 0 ≢ 46
digits_shown n small rest = begins (decimal n) rest (decimal_nonempty n small) (digits n small)

id_safe : (id : ℤ) → FitsSigned w16 id → (list_all is_safe (signed_decimal id) ≡ true) × (length (signed_decimal id) ≤ 6) × ((rest : List ℕ) → slice_index (signed_decimal id ++ rest) 0 ≢ 46)
id_safe (pos n) fits =
    let short = length-decimal-le 5 n (omega arith) (omega (arith, fits)) (omega (arith, fits)) in
    let safe = decimal_safe n (omega (arith, fits)) in
    (safe, omega arith, digits_shown n (omega (arith, fits)))
id_safe (negsuc n) fits =
    let short = length-decimal-le 5 (suc n) (omega arith) (omega (arith, fits)) (omega (arith, fits)) in
    let safe = decimal_safe (suc n) (omega (arith, fits)) in
    (safe, omega arith, λ rest is. omega arith)

file_safe : (id : ℤ) (n : ℕ) (name : Option (List ℕ)) → FitsSigned w16 id → n < 2 ^ 63 → IfSome name (λ bytes. All (λ byte. byte < 256) bytes) → IsSafe (file_name id n name)
file_safe id n name fits few h =
    let number = id_safe id fits in
    let nth = nth_safe n few in
    let text = name_safe name h in
    let a = number.1 in
    let b = nth.1 in
    let c = text.1 in
    let end = name_text name ++ codes ".bin" in
    record {
      bytes = both (signed_decimal id) (nth_text n ++ end) number.0 (both (nth_text n) end nth.0 text.0);
      short = omega (arith, length-append (signed_decimal id) (nth_text n ++ end), length-append (nth_text n) end);
      shown = number.2 (nth_text n ++ end);
    }

-- a row's file and folder
row_safe : (types : List (List ℕ)) (before : List Row) (row : Row) → IsNamed row → length before < 2 ^ 63 → HasSafeNames (file_of types before row)
row_safe types before row named few = (
  among_safe (list_any (clash row.kind) types) row.kind named.four named.bytes,
  file_safe row.id (count_by (is_same row) before) row.name named.id (omega (arith, count_by-le-length (is_same row) before)) named.name,
)

pub safe_names : (types kinds : List (List ℕ)) (before rows : List Row) → AllByRecursion IsNamed rows → length before + length rows < 2 ^ 63
    → AllByRecursion HasSafeNames (files_from types kinds before rows)
safe_names types kinds before [] all few = tt
safe_names types kinds before (row ∷ rows) all few =
    let longer = length-append before (row ∷ []) in
    all_picked HasSafeNames (is_chosen kinds row.kind) (file_of types before row) (files_from types kinds (before ++ row ∷ []) rows)
    (row_safe types before row all.0 (omega arith)) (safe_names types kinds (before ++ row ∷ []) rows all.1 (omega arith))
