-- What the name of a file shows of a resource's id, and of which one it is.
use Rattle.std.proofs.Common.{◌≡◌, ◌≢◌, ℕ, zero, suc, ◌+◌, ◌<◌, ◌≤◌, ◌⊎◌, inl, inr, List, [], ◌∷◌, ◌++◌, length, slice_index, drop, ◌%◌, ◌^◌, Option, None, Some, refl, sym, ap, ◌∙◌, arith}
use Rattle.std.specs.Prelude.{ℤ, pos, negsuc, codes}
use Rattle.std.specs.List.{AllByRecursion}
use Rattle.std.specs.Fmt.{decimal, signed_decimal}
use Rattle.std.proofs.lemmas.Bool.{lt-leb}
use Rattle.std.proofs.lemmas.List.{map-append}
use Rattle.std.proofs.lemmas.Fmt.{decimal_by_steps, decimal_injective, decimal_nonempty, signed_decimal_injective}
use Rattle.std.proofs.Math.Dec.{eqb-suc-zero}
use lib.Signed.{mag}
use Rattle.fork_folder.specs.Names.{file_name, folded, name_text, nth_text, small_of}

-- a byte of a number: none of those is a dot or a blank, or a letter
abbrev IsOfNumber : ℕ → Type 0
IsOfNumber byte = (byte < 58) × (46 ≢ byte) × (32 ≢ byte)

-- a digit
abbrev pub IsDigit : ℕ → Type 0
IsDigit byte = (48 ≤ byte) × (byte ≤ 57)

-- where a number ends
abbrev Stops : List ℕ → Type 0
Stops text = (slice_index text 0 ≡ 46) ⊎ (slice_index text 0 ≡ 32)

push_digit : (ds : List ℕ) (d : ℕ) → AllByRecursion IsDigit ds → IsDigit d → AllByRecursion IsDigit (ds ++ d ∷ [])
push_digit [] d all one = (one, tt)
push_digit (first ∷ ds) d all one = (all.0, push_digit ds d all.1 one)

pub digits : (n : ℕ) → n < 2 ^ 64 → AllByRecursion IsDigit (decimal n)
digits n small =
    decimal_by_steps (λ m ds. AllByRecursion IsDigit ds) (λ m few. ((omega arith, omega arith), tt)) (λ m ds many all. push_digit ds (48 + m % 10) all (omega arith, omega arith)) n small

of_number : (ds : List ℕ) → AllByRecursion IsDigit ds → AllByRecursion IsOfNumber ds
of_number [] all = tt
of_number (d ∷ ds) all = let low = all.0.0 in let high = all.0.1 in ((omega arith, omega arith, omega arith), of_number ds all.1)

low_small : (byte : ℕ) → byte < 65 → small_of byte ≡ byte
low_small byte low = rw (lt-leb 65 byte low) refl

number_folded : (ds : List ℕ) → AllByRecursion IsOfNumber ds → folded ds ≡ ds
number_folded [] all = refl
number_folded (d ∷ ds) all =
    let low = all.0.0 in
    let first = low_small d (omega arith) in
    let rest = number_folded ds all.1 in
    rw (first, rest) refl

-- two numbers that begin two texts that are the same are the same, and so is what follows
split : (ds es a b : List ℕ) → AllByRecursion IsOfNumber ds → AllByRecursion IsOfNumber es → Stops a → Stops b → ds ++ a ≡ es ++ b → (ds ≡ es) × (a ≡ b)
split [] [] a b hd he sa sb e = (refl, e)
split [] (x ∷ es) a b hd he sa sb e =
    let first : slice_index a 0 ≡ x = ap (λ (t : List ℕ). slice_index t 0) e in
    absurd (elim sa [ inl dot ↦ he.0.1 (sym dot ∙ first) | inr blank ↦ he.0.2 (sym blank ∙ first) ])
split (x ∷ ds) [] a b hd he sa sb e =
    let first : slice_index b 0 ≡ x = ap (λ (t : List ℕ). slice_index t 0) (sym e) in
    absurd (elim sb [ inl dot ↦ hd.0.1 (sym dot ∙ first) | inr blank ↦ hd.0.2 (sym blank ∙ first) ])
split (x ∷ ds) (y ∷ es) a b hd he sa sb e =
    let first : x ≡ y = cc in
    let tail : ds ++ a ≡ es ++ b = cc in
    let rest = split ds es a b hd.1 he.1 sa sb tail in
    let others : ds ≡ es = rest.0 in
    (let all : x ∷ ds ≡ y ∷ es = cc in all, rest.1)

-- the id
id_of_number : (id : ℤ) → mag id < 2 ^ 63 → AllByRecursion IsOfNumber (signed_decimal id)
id_of_number (pos n) small = of_number (decimal n) (digits n (omega arith))
id_of_number (negsuc n) small = ((omega arith, omega arith, omega arith), of_number (decimal (suc n)) (digits (suc n) (omega arith)))

-- what follows a number in the name of a file
abbrev ending : Option (List ℕ) → List ℕ
ending name = name_text name ++ codes ".bin"

ending_stops : (name : Option (List ℕ)) → Stops (folded (ending name))
ending_stops None = inl refl
ending_stops (Some name) = inr refl

-- a later one has a dot and its number
pub later_text : (n : ℕ) → nth_text (suc n) ≡ 46 ∷ decimal (suc n + 1)
later_text n = rw (eqb-suc-zero n) refl

nth_stops : (n : ℕ) (name : Option (List ℕ)) → Stops (folded (nth_text n ++ ending name))
nth_stops zero name = ending_stops name
nth_stops (suc n) name = inl (ap (λ (t : List ℕ). slice_index (folded (t ++ ending name)) 0) (later_text n))

-- a number after a dot isn't the ending
not_ending : (ds rest : List ℕ) (name : Option (List ℕ)) → 0 < length ds → AllByRecursion IsDigit ds → folded (ending name) ≡ 46 ∷ folded (ds ++ rest) → ⊥
not_ending [] rest name some all e = absurd (omega arith)
not_ending (d ∷ ds) rest (Some name) some all e =
    let first : ◌≡◌ {A = ℕ} 32 46 = ap (λ (t : List ℕ). slice_index t 0) e in absurd (omega arith)
not_ending (d ∷ ds) rest None some all e =
    let high = all.0.1 in
    let second : 98 ≡ small_of d = ap (λ (t : List ℕ). slice_index t 1) e in
    let same = low_small d (omega arith) in
    absurd (omega arith)

-- which one it is
nth_apart : (n m : ℕ) (name other : Option (List ℕ)) → n < 2 ^ 63 → m < 2 ^ 63 → folded (nth_text n ++ ending name) ≡ folded (nth_text m ++ ending other) → n ≡ m
nth_apart zero zero name other hn hm e = refl
nth_apart zero (suc m) name other hn hm e =
    absurd (not_ending (decimal (suc m + 1)) (ending other) name (decimal_nonempty (suc m + 1) (omega arith)) (digits (suc m + 1) (omega arith)) (e ∙ ap (λ (t : List ℕ). folded (t ++ ending other)) (later_text m)))
nth_apart (suc n) zero name other hn hm e =
    absurd (not_ending (decimal (suc n + 1)) (ending name) other (decimal_nonempty (suc n + 1) (omega arith)) (digits (suc n + 1) (omega arith)) (sym e ∙ ap (λ (t : List ℕ). folded (t ++ ending name)) (later_text n)))
nth_apart (suc n) (suc m) name other hn hm e =
    let ds = decimal (suc n + 1) in
    let es = decimal (suc m + 1) in
    let all_ds = of_number ds (digits (suc n + 1) (omega arith)) in
    let all_es = of_number es (digits (suc m + 1) (omega arith)) in
    let tails : folded (ds ++ ending name) ≡ folded (es ++ ending other) =
    ap (λ (t : List ℕ). drop 1 t) (ap (λ (t : List ℕ). folded (t ++ ending name)) (sym (later_text n)) ∙ e ∙ ap (λ (t : List ℕ). folded (t ++ ending other)) (later_text m)) in
    let left : folded (ds ++ ending name) ≡ ds ++ folded (ending name) =
    map-append small_of ds (ending name) ∙ ap (λ (t : List ℕ). t ++ folded (ending name)) (number_folded ds all_ds) in
    let right : folded (es ++ ending other) ≡ es ++ folded (ending other) =
    map-append small_of es (ending other) ∙ ap (λ (t : List ℕ). t ++ folded (ending other)) (number_folded es all_es) in
    let numbers = (split ds es (folded (ending name)) (folded (ending other)) all_ds all_es (ending_stops name) (ending_stops other) (sym left ∙ tails ∙ right)).0 in
    let same = decimal_injective (suc n + 1) (suc m + 1) (omega arith) (omega arith) numbers in
    omega arith

-- files of one name are of one id, and each the same one of it
pub names_apart : (id id' : ℤ) (n m : ℕ) (name other : Option (List ℕ)) → mag id < 2 ^ 63 → mag id' < 2 ^ 63 → n < 2 ^ 63 → m < 2 ^ 63
    → folded (file_name id n name) ≡ folded (file_name id' m other) → (id ≡ id') × (n ≡ m)
names_apart id id' n m name other hi hi' hn hm e =
    let ds = signed_decimal id in
    let es = signed_decimal id' in
    let all_ds = id_of_number id hi in
    let all_es = id_of_number id' hi' in
    let left : folded (file_name id n name) ≡ ds ++ folded (nth_text n ++ ending name) =
    map-append small_of ds (nth_text n ++ ending name) ∙ ap (λ (t : List ℕ). t ++ folded (nth_text n ++ ending name)) (number_folded ds all_ds) in
    let right : folded (file_name id' m other) ≡ es ++ folded (nth_text m ++ ending other) =
    map-append small_of es (nth_text m ++ ending other) ∙ ap (λ (t : List ℕ). t ++ folded (nth_text m ++ ending other)) (number_folded es all_es) in
    let both = split ds es (folded (nth_text n ++ ending name)) (folded (nth_text m ++ ending other)) all_ds all_es (nth_stops n name) (nth_stops m other) (sym left ∙ e ∙ right) in
    (signed_decimal_injective id id' hi hi' both.0, nth_apart n m name other hn hm both.1)
