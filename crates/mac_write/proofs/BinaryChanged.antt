-- MacBinary with another resource fork is read again.
use Rattle.std.proofs.Common.{◌≡◌, ℕ, ◌<◌, ◌≤◌, Bool, true, false, List, [], ◌∷◌, length, refl, ap, arith, Option, None, Some, if◌then◌else◌}
use Rattle.std.specs.Prelude.{slice_index, nat_eq, ◌&&◌, option_map}
use Rattle.std.specs.List.{starts_with}
use Rattle.std.proofs.lemmas.Bool.{le-leb}
use Rattle.byteorder.specs.Endian.{big_from}
use Rattle.mac_files.specs.declared.container.Container.TheVariants.{Raw, AppleSingle, AppleDouble, MacBinary}
use Rattle.mac_files.specs.declared.container.Version.{Version}
use Rattle.mac_files.specs.declared.container.Version.TheVariants.{I, II, III}
use Rattle.mac_files.specs.Containers.{container_of, is_fork_header}
use Rattle.mac_files.specs.MacBinary.{has_form, says_one, says_three, says_two, version_of}
use Rattle.mac_write.specs.MacBinary.{binary_with_fork, longest_fork}
use Rattle.mac_write.proofs.BinaryKept.{first, length_is, length-new, middle, middle_one}
use Rattle.mac_write.proofs.Segments.{Same, index_same, number_same}

-- Whether the bytes are known.

-- the same header of a fork, by the first 16 bytes
pub fork_header_same : (new file : List ℕ) → ((i : ℕ) → i < 16 → Same i 1 new file) → 16 ≤ length new → 16 ≤ length file
    → is_fork_header new ≡ is_fork_header file
unfolding is_fork_header
fork_header_same new file same long short =
    let index : (i : ℕ) → i < 16 → slice_index new i ≡ slice_index file i = λ i h. index_same i new file (same i h) in
    rw (
      le-leb 16 (length new) long,
      le-leb 16 (length file) short,
      index 0 (omega arith),
      index 4 (omega arith),
      index 8 (omega arith),
      index 12 (omega arith),
      index 13 (omega arith),
      index 14 (omega arith),
      index 15 (omega arith),
    ) refl

pub starts_same : (mark new file : List ℕ) → Same 0 (length mark) new file → starts_with nat_eq new mark ≡ starts_with nat_eq file mark
starts_same mark new file same = rw same refl

form_same : (new file : List ℕ) → ((i : ℕ) → i < 87 → Same i 1 new file) → 128 ≤ length new → 128 ≤ length file → has_form new ≡ has_form file
unfolding has_form
form_same new file same long short =
    rw (
      le-leb 128 (length new) long,
      le-leb 128 (length file) short,
      index_same 0 new file (same 0 (omega arith)),
      index_same 74 new file (same 74 (omega arith)),
      index_same 82 new file (same 82 (omega arith)),
      index_same 1 new file (same 1 (omega arith)),
    ) refl

three_same : (new file : List ℕ) → Same 102 4 new file → says_three new ≡ says_three file
unfolding says_three
three_same new file same = rw same refl

two_same : (new file : List ℕ) → Same 122 1 new file → Same 123 1 new file → says_two new ≡ says_two file
unfolding says_two
two_same new file writer reader = rw (index_same 122 new file writer, index_same 123 new file reader) refl

kept_last : (a c : Bool) → (a && c) ≡ true → (a && true) ≡ true
kept_last true c is = refl
kept_last false c is = absurd (cc is)

one_same : (new file : List ℕ) → Same 101 25 new file → Same 83 4 new file → big_from 87 4 new ≤ 8388607 → says_one file ≡ true → says_one new ≡ true
unfolding says_one
one_same new file zeros number few is =
    rw (zeros, number_same 83 4 new file number, le-leb (big_from 87 4 new) 8388607 few) (kept_last _ _ is)

-- the same version
version_pick : (form three two one one' : Bool) (version : Version) → (version ≡ I → one ≡ true → one' ≡ true)
    → (if form then (if three then Some III else if two then Some II else if one then Some I else None) else None) ≡ Some version
    → (if form then (if three then Some III else if two then Some II else if one' then Some I else None) else None) ≡ Some version
version_pick false three two one one' version o is = is
version_pick true true two one one' version o is = is
version_pick true false true one one' version o is = is
version_pick true false false true one' version o is = let same : version ≡ I = cc in rw (o same refl) is
version_pick true false false false one' version o is = absurd (cc is)

version_by : (form three two one form' three' two' one' : Bool) (version : Version) → form' ≡ form → three' ≡ three → two' ≡ two
    → (version ≡ I → one ≡ true → one' ≡ true)
    → (if form then (if three then Some III else if two then Some II else if one then Some I else None) else None) ≡ Some version
    → (if form' then (if three' then Some III else if two' then Some II else if one' then Some I else None) else None) ≡ Some version
version_by form three two one form' three' two' one' version f t w o is = rw (f, t, w) (version_pick form three two one one' version o is)

known_by : (fork single double fork' single' double' : Bool) (o o' : Option Version) (version : Version)
    → fork' ≡ fork → single' ≡ single → double' ≡ double → (o ≡ Some version → o' ≡ Some version)
    → (if fork then Some Raw else if single then Some AppleSingle else if double then Some AppleDouble else option_map MacBinary o) ≡ Some (MacBinary version)
    → (if fork' then Some Raw else if single' then Some AppleSingle else if double' then Some AppleDouble else option_map MacBinary o') ≡ Some (MacBinary version)
known_by fork single double fork' single' double' o o' version f s d v is = rw (f, s, d) (pick fork single double o is v)
  where
    pick : (fork single double : Bool) (o : Option Version)
        → (if fork then Some Raw else if single then Some AppleSingle else if double then Some AppleDouble else option_map MacBinary o) ≡ Some (MacBinary version)
        → (o ≡ Some version → o' ≡ Some version)
        → (if fork then Some Raw else if single then Some AppleSingle else if double then Some AppleDouble else option_map MacBinary o') ≡ Some (MacBinary version)
    pick true single double o is v = absurd (cc is)
    pick false true double o is v = absurd (cc is)
    pick false false true o is v = absurd (cc is)
    pick false false false None is v = absurd (cc is)
    pick false false false (Some w) is v = let same : Some w ≡ Some version = cc in ap (option_map MacBinary) (v same)

-- it is known as the same version
pub known : (version : Version) (file fork : List ℕ) → 128 ≤ length file → length fork ≤ longest_fork version
    → container_of file ≡ Some (MacBinary version) → container_of (binary_with_fork version file fork) ≡ Some (MacBinary version)
known version file fork long few is =
    let new = binary_with_fork version file fork in
    let start : (i : ℕ) → i < 87 → Same i 1 new file = λ i h. first version file fork i 1 long (omega arith) in
    let whole : 128 ≤ length new = omega (arith, length-new version file fork) in
    known_by (is_fork_header file) (starts_with nat_eq file (0 ∷ 5 ∷ 22 ∷ 0 ∷ [])) (starts_with nat_eq file (0 ∷ 5 ∷ 22 ∷ 7 ∷ []))
    (is_fork_header new) (starts_with nat_eq new (0 ∷ 5 ∷ 22 ∷ 0 ∷ [])) (starts_with nat_eq new (0 ∷ 5 ∷ 22 ∷ 7 ∷ []))
    (version_of file) (version_of new) version
    (fork_header_same new file (λ i h. start i (omega arith)) (omega arith) (omega arith))
    (starts_same (0 ∷ 5 ∷ 22 ∷ 0 ∷ []) new file (first version file fork 0 4 long (omega arith)))
    (starts_same (0 ∷ 5 ∷ 22 ∷ 7 ∷ []) new file (first version file fork 0 4 long (omega arith)))
    (version_by (has_form file) (says_three file) (says_two file) (says_one file) (has_form new) (says_three new) (says_two new) (says_one new) version
    (form_same new file start whole long) (three_same new file (middle version file fork 102 4 long (omega arith) (omega arith)))
    (two_same new file (middle version file fork 122 1 long (omega arith) (omega arith)) (middle version file fork 123 1 long (omega arith) (omega arith)))
    (one version few long))
    is
  where
    one : (version : Version) → length fork ≤ longest_fork version → 128 ≤ length file → version ≡ I → says_one file ≡ true
        → says_one (binary_with_fork version file fork) ≡ true
    one I few long same is =
        one_same (binary_with_fork I file fork) file (middle_one file fork 101 25 long (omega arith) (omega arith)) (first I file fork 83 4 long (omega arith))
        (let count = length_is I file fork (omega arith) in omega arith) is
    one II few long same is = absurd (cc same)
    one III few long same is = absurd (cc same)
