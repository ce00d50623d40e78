-- What files are known as.
use Rattle.std.proofs.Common.{◌≡◌, ◌≢◌, inl, inr, ℕ, ◌+◌, ◌-◌, ◌<◌, ◌≤◌, List, [], ◌∷◌, length, take, drop, true, false, ap, refl, arith, ◌∙◌}
use Rattle.std.specs.Prelude.{slice_index, nat_eq, nat_le, option_map}
use Rattle.std.specs.List.{starts_with}
use Rattle.std.proofs.lemmas.Bool.{and_left, and_right, cases_lt, cond-true, cond-false, false_from_ne_true, le-leb, ne_eqb}
use Rattle.std.proofs.lemmas.Bool.Decides.{Decides-eqb}
use Rattle.std.proofs.lemmas.List.{drop-take, get_or-take, length-take-le, take-take, take_all}
use Rattle.std.proofs.lemmas.Slice.Eq.{starts_is}
use Rattle.mac_files.specs.declared.container.Container.TheVariants.{MacBinary}
use Rattle.mac_files.specs.Containers.{container_of, has_fork_parts, is_fork_header, is_raw_by}
use Rattle.mac_files.specs.MacBinary.{has_form, says_one, says_three, says_two}
use Rattle.mac_files.specs.Laws.{HasFiller, HasName, SingleIsKnown, DoubleIsKnown, FrontIsKnown, MacBinaryIsKnown, RawIsKnown}

-- no length of data or no map, so no header of a fork
filled : (file : List ℕ) → HasFiller file → is_fork_header file ≡ false
unfolding is_fork_header
filled file h = elim h [
  | inl text ↦ and_left _ _ (and_left _ _ (and_right _ _ (ne_eqb _ _ text)))
  | inr none ↦ and_right _ _ (ap (λ n. nat_le 28 n) none)
]

-- no offset of a map or no map, so no header of a fork
named : (file : List ℕ) → HasName file → is_fork_header file ≡ false
unfolding is_fork_header
named file h = elim h [
  | inl third ↦ and_left _ _ (and_left _ _ (and_left _ _ (and_right _ _ (ne_eqb _ _ third))))
  | inr none ↦ and_right _ _ (ap (λ n. nat_le 28 n) none)
]

-- the magic of AppleSingle and AppleDouble has 22 at 2
no_magic : (file : List ℕ) (last : ℕ) → slice_index file 2 ≢ 22 → starts_with nat_eq file (0 ∷ 5 ∷ 22 ∷ last ∷ []) ≡ false
no_magic file last other = false_from_ne_true _
    (λ is. other (ap (λ xs. slice_index xs 2) ((starts_is Decides-eqb file (0 ∷ 5 ∷ 22 ∷ last ∷ []) _ refl).0 is)))

-- the magic of AppleDouble isn't that of AppleSingle
not_single : (file : List ℕ) → starts_with nat_eq file (0 ∷ 5 ∷ 22 ∷ 7 ∷ []) ≡ true → starts_with nat_eq file (0 ∷ 5 ∷ 22 ∷ 0 ∷ []) ≡ false
not_single file is = false_from_ne_true _ (λ other.
    let double = ap (λ xs. slice_index xs 3) ((starts_is Decides-eqb file (0 ∷ 5 ∷ 22 ∷ 7 ∷ []) _ refl).0 is) in
    let single = ap (λ xs. slice_index xs 3) ((starts_is Decides-eqb file (0 ∷ 5 ∷ 22 ∷ 0 ∷ []) _ refl).0 other) in
    omega (arith, double, single))

pub single : SingleIsKnown
single file is filler = cond-false _ _ _ (filled file filler) ∙ cond-true _ _ _ is

pub double : DoubleIsKnown
double file is filler = cond-false _ _ _ (filled file filler) ∙ cond-false _ _ _ (not_single file is) ∙ cond-true _ _ _ is

pub mac_binary : MacBinaryIsKnown
mac_binary file version is other name =
    cond-false _ _ _ (named file name) ∙ cond-false _ _ _ (no_magic file 0 other) ∙ cond-false _ _ _ (no_magic file 7 other)
    ∙ ap (option_map MacBinary) is

-- The first 128 bytes of a file.

front_part : (file : List ℕ) (i n : ℕ) → i + n ≤ 128 → take n (drop i (take 128 file)) ≡ take n (drop i file)
front_part file i n within =
    let whole : 128 ≡ i + (128 - i) = omega arith in
    ap (λ (k : ℕ). take n (drop i (take k file))) whole ∙ ap (take n) (drop-take i (128 - i) file) ∙ take-take n (128 - i) (drop i file) (omega arith)

front_header : (file : List ℕ) → 128 ≤ length file → is_fork_header (take 128 file) ≡ is_fork_header file
unfolding is_fork_header
front_header file long =
    let count = length-take-le 128 file long in
    let whole = le-leb 16 (length file) (omega arith) in
    let same = λ (i : ℕ) (low : i < 128). get_or-take 128 file i 0 low in
    rw (count, whole, same 0 (omega arith), same 4 (omega arith), same 8 (omega arith), same 12 (omega arith), same 13 (omega arith), same 14 (omega arith), same 15 (omega arith)) refl

front_form : (file : List ℕ) → 128 ≤ length file → has_form (take 128 file) ≡ has_form file
unfolding has_form
front_form file long =
    let count = length-take-le 128 file long in
    let whole = le-leb 128 (length file) long in
    let same = λ (i : ℕ) (low : i < 128). get_or-take 128 file i 0 low in
    rw (count, whole, same 0 (omega arith), same 74 (omega arith), same 82 (omega arith), same 1 (omega arith)) refl

front_three : (file : List ℕ) → says_three (take 128 file) ≡ says_three file
unfolding says_three
front_three file = rw (front_part file 102 4 (omega arith)) refl

front_two : (file : List ℕ) → says_two (take 128 file) ≡ says_two file
unfolding says_two
front_two file = rw (get_or-take 128 file 122 0 (omega arith), get_or-take 128 file 123 0 (omega arith)) refl

front_one : (file : List ℕ) → says_one (take 128 file) ≡ says_one file
unfolding says_one
front_one file =
    let same = λ (i : ℕ) (low : i < 128). get_or-take 128 file i 0 low in
    rw (
      front_part file 101 25 (omega arith),
      same 83 (omega arith),
      same 84 (omega arith),
      same 85 (omega arith),
      same 86 (omega arith),
      same 87 (omega arith),
      same 88 (omega arith),
      same 89 (omega arith),
      same 90 (omega arith),
    ) refl

front_known : (file : List ℕ) → 128 ≤ length file → container_of (take 128 file) ≡ container_of file
front_known file long =
    rw (front_header file long, front_part file 0 4 (omega arith), front_form file long, front_three file, front_two file, front_one file) refl

pub front : FrontIsKnown
front file = elim (cases_lt (length file) 128) [
  | inl short ↦ ap container_of (take_all 128 file (omega arith))
  | inr long ↦ front_known file (omega arith)
]

front_parts : (file : List ℕ) → 128 ≤ length file → has_fork_parts (length file) (take 128 file) ≡ has_fork_parts (length file) file
unfolding has_fork_parts
front_parts file long =
    let count = length-take-le 128 file long in
    let whole = le-leb 16 (length file) (omega arith) in
    let same = λ (i : ℕ) (low : i < 128). get_or-take 128 file i 0 low in
    rw (
      count,
      whole,
      front_part file 0 16 (omega arith),
      same 0 (omega arith),
      same 1 (omega arith),
      same 2 (omega arith),
      same 3 (omega arith),
      same 4 (omega arith),
      same 5 (omega arith),
      same 6 (omega arith),
      same 7 (omega arith),
      same 8 (omega arith),
      same 9 (omega arith),
      same 10 (omega arith),
      same 11 (omega arith),
      same 12 (omega arith),
      same 13 (omega arith),
      same 14 (omega arith),
      same 15 (omega arith),
    ) refl

pub raw : RawIsKnown
raw file = elim (cases_lt (length file) 128) [
  | inl short ↦ ap (is_raw_by (length file)) (take_all 128 file (omega arith))
  | inr long ↦ rw (front file, front_header file (omega arith), front_parts file (omega arith)) refl
]
