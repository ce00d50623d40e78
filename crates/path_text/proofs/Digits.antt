-- Digits to the base 16.
use Rattle.std.proofs.Common.{◌≡◌, ℕ, suc, ◌/◌, ◌%◌, ◌^◌, ◌<◌, ◌≤◌, Bool, true, false, List, [], ◌∷◌, ◌++◌, refl, ap, ◌∙◌, arith, append-nil, ltb-true, ltb-false, lt-ltb, le-ltb}
use Rattle.std.specs.Prelude.{if◌then◌else◌, nat_lt}
use Rattle.std.specs.Fmt.{digit_glyph, digits, digits_onto}
use Rattle.std.proofs.lemmas.Bool.{eq-eqb, ne_eqb}
use Rattle.std.proofs.lemmas.Fmt.{hex_one_digit, hex_two_digits}
use Rattle.path_text.specs.FileNames.{coded}
use Rattle.path_text.specs.Pieces.{after_digits, before_digits}

-- the last digit
abbrev glyph : ℕ → ℕ
glyph n = digit_glyph true (n % 16)

spelled : (n : ℕ) → digits 16 true n ≡ digits_onto 64 16 true n []
unfolding digits
spelled n = refl

last : (k n : ℕ) (acc : List ℕ) → n / 16 ≡ 0 → digits_onto (suc k) 16 true n acc ≡ glyph n ∷ acc
last k n acc none = ap (λ (b : Bool). if b then glyph n ∷ acc else digits_onto k 16 true (n / 16) (glyph n ∷ acc)) (eq-eqb (n / 16) 0 none)

more : (k n : ℕ) (acc : List ℕ) → (n / 16 ≡ 0 → ⊥) → digits_onto (suc k) 16 true n acc ≡ digits_onto k 16 true (n / 16) (glyph n ∷ acc)
more k n acc some = ap (λ (b : Bool). if b then glyph n ∷ acc else digits_onto k 16 true (n / 16) (glyph n ∷ acc)) (ne_eqb (n / 16) 0 some)

-- a number of so many digits
pub one_digit : (n : ℕ) → n / 16 ≡ 0 → digits 16 true n ≡ glyph n ∷ []
one_digit n none = spelled n ∙ last 63 n [] none

pub two_digits : (n : ℕ) → (n / 16 ≡ 0 → ⊥) → n / 16 / 16 ≡ 0 → digits 16 true n ≡ glyph (n / 16) ∷ glyph n ∷ []
two_digits n some none = spelled n ∙ more 63 n [] some ∙ last 62 (n / 16) (glyph n ∷ []) none

pub three_digits : (n : ℕ) → (n / 16 ≡ 0 → ⊥) → (n / 16 / 16 ≡ 0 → ⊥) → n / 16 / 16 / 16 ≡ 0 → digits 16 true n ≡ glyph (n / 16 / 16) ∷ glyph (n / 16) ∷ glyph n ∷ []
three_digits n some more_yet none =
    spelled n ∙ more 63 n [] some ∙ more 62 (n / 16) (glyph n ∷ []) more_yet ∙ last 61 (n / 16 / 16) (glyph (n / 16) ∷ glyph n ∷ []) none

pub four_digits : (n : ℕ) → (n / 16 ≡ 0 → ⊥) → (n / 16 / 16 ≡ 0 → ⊥) → (n / 16 / 16 / 16 ≡ 0 → ⊥) → n < 2 ^ 16
    → digits 16 true n ≡ glyph (n / 16 / 16 / 16) ∷ glyph (n / 16 / 16) ∷ glyph (n / 16) ∷ glyph n ∷ []
four_digits n some more_yet most few =
    let none : n / 16 / 16 / 16 / 16 ≡ 0 = omega arith in
    spelled n ∙ more 63 n [] some ∙ more 62 (n / 16) (glyph n ∷ []) more_yet ∙ more 61 (n / 16 / 16) (glyph (n / 16) ∷ glyph n ∷ []) most
    ∙ last 60 (n / 16 / 16 / 16) (glyph (n / 16 / 16) ∷ glyph (n / 16) ∷ glyph n ∷ []) none

-- a character that does harm, in pieces
abbrev pieces_of : ℕ → List ℕ
pieces_of n = before_digits n ++ (digits 16 true n ++ after_digits n)

small : (n : ℕ) → n < 16 → pieces_of n ≡ coded n
small n low =
    let high : n / 16 ≡ 0 = omega arith in
    let same : n % 16 ≡ n = omega arith in
    rw (lt-ltb n 16 low, lt-ltb n 128 (omega arith), high, same, hex_one_digit true 0 (omega arith), append-nil (digits 16 true n)) refl

ascii : (n : ℕ) → 16 ≤ n → n < 128 → pieces_of n ≡ coded n
ascii n high low =
    rw (le-ltb n 16 high, lt-ltb n 128 low, hex_two_digits true n high (omega arith), hex_one_digit true (n / 16) (omega arith), hex_one_digit true (n % 16) (omega arith)) refl

others : (n : ℕ) → 128 ≤ n → pieces_of n ≡ coded n
others n high = rw (le-ltb n 16 (omega arith), le-ltb n 128 high) refl

from_16 : (n : ℕ) (below : Bool) → nat_lt n 128 ≡ below → 16 ≤ n → pieces_of n ≡ coded n
from_16 n true is high = ascii n high (ltb-true n 128 is)
from_16 n false is high = others n (ltb-false n 128 is)

from_0 : (n : ℕ) (below : Bool) → nat_lt n 16 ≡ below → pieces_of n ≡ coded n
from_0 n true is = small n (ltb-true n 16 is)
from_0 n false is = from_16 n (nat_lt n 128) refl (ltb-false n 16 is)

pub coded_is : (n : ℕ) → pieces_of n ≡ coded n
coded_is n = from_0 n (nat_lt n 16) refl
