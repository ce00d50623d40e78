-- The digits of a text: the table has them, and one character after the other gives them.
use Rattle.std.proofs.Common.{◌≡◌, ℕ, ◌+◌, ◌<◌, ◌≤◌, nat_lt, true, false, if◌then◌else◌, List, [], ◌∷◌, length, map, drop, get_or, Option, None, Some, Ok, Err, refl, sym, ap, ◌∙◌, arith}
use Rattle.std.specs.List.{range_with_len}
use Rattle.std.proofs.lemmas.List.FromFn.{get_or-map-range_with_len}
use Rattle.std.proofs.lemmas.List.{drop_all}
use Rattle.mac_files.specs.declared.bin_hex.digits.TheConstants.{VALUES}
use Rattle.std.proofs.lemmas.Bool.{le-ltb, lt-ltb, ne_eqb}
use Rattle.mac_files.specs.declared.bin_hex.fault.BinHexFault.TheVariants.{NotADigit, NotClosed}
use Rattle.mac_files.proofs.BinHexLines.{opened}
use Rattle.mac_files.specs.BinHex.{before, digit_before, digit_of, digits_from, ends, is_skipped}

-- what the table says of a character
abbrev pub listed : ℕ → Option ℕ
listed c = if nat_lt c 115 then (if nat_lt (get_or VALUES c 0) 64 then Some (get_or VALUES c 0) else None) else None

all_listed : map digit_of (range_with_len 0 256) ≡ map listed (range_with_len 0 256)
unfolding digit_of
all_listed = refl

digit_of_listed : (c : ℕ) → c < 256 → digit_of c ≡ listed c
digit_of_listed c h =
    sym (get_or-map-range_with_len digit_of 0 256 c c None h (omega arith))
    ∙ ap (λ xs. get_or xs c None) all_listed
    ∙ get_or-map-range_with_len listed 0 256 c c None h (omega arith)

pub digit_of_digit : (c : ℕ) → c < 256 → c < 115 → get_or VALUES c 0 < 64 → Some (get_or VALUES c 0) ≡ digit_of c
digit_of_digit c fits inside small = sym (digit_of_listed c fits ∙ rw (lt-ltb c 115 inside, lt-ltb _ 64 small) refl)

pub digit_of_other : (c : ℕ) → c < 256 → c < 115 → 64 ≤ get_or VALUES c 0 → None ≡ digit_of c
digit_of_other c fits inside large = sym (digit_of_listed c fits ∙ rw (lt-ltb c 115 inside, le-ltb _ 64 large) refl)

pub digit_of_past : (c : ℕ) → c < 256 → 115 ≤ c → None ≡ digit_of c
digit_of_past c fits past = sym (digit_of_listed c fits ∙ rw (le-ltb _ 115 past) refl)

-- The digits from a character on, by what the character is.

pub digits_at_end : (text : List ℕ) (at : ℕ) → length text ≤ at → digits_from at (drop at text) ≡ ends (Err (NotClosed at))
unfolding digits_from
digits_at_end text at h = rw (drop_all at text h) refl

pub digits_at_colon : (text : List ℕ) (at : ℕ) → at < length text → get_or text at 0 ≡ 58 → digits_from at (drop at text) ≡ ends (Ok at)
unfolding digits_from
digits_at_colon text at h colon = rw (opened text at h, colon) refl

pub digits_at_skipped : (text : List ℕ) (at : ℕ) → at < length text → (get_or text at 0 ≡ 58 → ⊥) → is_skipped (get_or text at 0) ≡ true
    → digits_from at (drop at text) ≡ digits_from (at + 1) (drop (at + 1) text)
unfolding digits_from
digits_at_skipped text at h other skipped = rw (opened text at h, ne_eqb _ _ other, skipped) refl

digits_at_character : (text : List ℕ) (at : ℕ) (digit : Option ℕ) → at < length text → (get_or text at 0 ≡ 58 → ⊥) → is_skipped (get_or text at 0) ≡ false
    → digit_of (get_or text at 0) ≡ digit → digits_from at (drop at text) ≡ digit_before at (get_or text at 0) digit (digits_from (at + 1) (drop (at + 1) text))
unfolding digits_from
digits_at_character text at digit h other inside is = rw (opened text at h, ne_eqb _ _ other, inside, is) refl

pub digits_at_other : (text : List ℕ) (at : ℕ) → at < length text → (get_or text at 0 ≡ 58 → ⊥) → is_skipped (get_or text at 0) ≡ false
    → digit_of (get_or text at 0) ≡ None → digits_from at (drop at text) ≡ ends (Err (NotADigit at (get_or text at 0)))
digits_at_other text at = digits_at_character text at None

pub digits_at_digit : (text : List ℕ) (at value : ℕ) → at < length text → (get_or text at 0 ≡ 58 → ⊥) → is_skipped (get_or text at 0) ≡ false
    → digit_of (get_or text at 0) ≡ Some value
    → digits_from at (drop at text) ≡ before (record { value = value; at = at } ∷ []) (digits_from (at + 1) (drop (at + 1) text))
digits_at_digit text at value = digits_at_character text at (Some value)
