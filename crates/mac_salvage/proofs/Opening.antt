-- What is kept of a file, by whether its container has a fault.
use Rattle.std.proofs.Common.{◌≡◌, ◌≢◌, ◌≤◌, ◌<◌, ◌+◌, ◌-◌, ℕ, Bool, true, false, List, [], ◌∷◌, length, map, take, drop, Option, None, Some, Result, Ok, Err, refl, sym, ap, ◌∙◌, subst, arith}
use Rattle.std.specs.Result.{result_err}
use Rattle.std.proofs.lemmas.Bool.{le-ltb, lt-ltb, or_from, or_right}
use Rattle.std.proofs.lemmas.List.{length-map}
use Rattle.mac_files.specs.declared.bin_hex.digits.Placed.{Placed}
use Rattle.mac_files.specs.declared.kind.FileKind.{FileKind}
use Rattle.mac_files.specs.declared.kind.FileKind.TheVariants.{Archive, BinHex, Container as In, Unknown}
use Rattle.mac_files.specs.declared.old_file.FileFault.{FileFault}
use Rattle.mac_files.specs.declared.old_file.FileFault.TheVariants.{Container, HostFull, Text}
use Rattle.mac_files.specs.declared.old_file.OldFile.{OldFile}
use Rattle.mac_files.specs.BinHex.{decoded_from, most_of, values_of}
use Rattle.mac_files.specs.Kinds.{kind_of}
use Rattle.mac_files.specs.OldFiles.{IsUnopened, Opens, Said, old_file, read_as}
use Rattle.mac_salvage.specs.declared.place.Places.{Places}
use Rattle.mac_salvage.specs.InSpite.{Forks, IsShut, container_fault, forks_at, forks_by_fault, forks_in_spite, forks_left}
use Rattle.mac_salvage.specs.Places.{places_of, text_places}
use Rattle.mac_salvage.specs.Texts.{bytes_from, bytes_left, is_shut, mended, start_of}
use Rattle.mac_salvage.proofs.Mending.{rest_of}

-- The faults.

unopened : (k : FileKind) (file : List ℕ) (fault : FileFault) → k ≢ BinHex → IsUnopened k file fault → read_as k file ≡ Err fault
unopened k file HostFull other is = absurd (other is)
unopened k file (Container why) other is = is
unopened k file (Text why) other is = is

unopened_text : (file : List ℕ) (fault : FileFault) → fault ≢ HostFull → IsUnopened BinHex file fault → read_as BinHex file ≡ Err fault
unopened_text file HostFull some is = absurd (some refl)
unopened_text file (Container why) some is = is
unopened_text file (Text why) some is = is

-- the fault of a file that isn't opened, and its forks
pub fault_named : (file : List ℕ) (fault : FileFault) → old_file file ≡ Err fault → Some fault ≡ container_fault file
fault_named file fault is = sym (ap result_err is)

forks_kept : (file : List ℕ) (fault : FileFault) → old_file file ≡ Err fault → forks_left (kind_of file) file ≡ forks_in_spite file
forks_kept file fault is = sym (ap (λ (read : Result Said FileFault). forks_by_fault read file) is)

-- a file that is no text
forks_placed : (k : FileKind) (file : List ℕ) → k ≢ BinHex → forks_at (places_of k file) file ≡ forks_left k file
forks_placed (In container) file other = refl
forks_placed BinHex file other = absurd (other refl)
forks_placed (Archive archive) file other = refl
forks_placed Unknown file other = refl

pub parts_fault : (file : List ℕ) (fault : FileFault) → kind_of file ≢ BinHex → IsUnopened (kind_of file) file fault → Some fault ≡ container_fault file
parts_fault file fault other is = fault_named file fault (unopened (kind_of file) file fault other is)

pub parts_forks : (file : List ℕ) (fault : FileFault) (places : Places) → kind_of file ≢ BinHex → IsUnopened (kind_of file) file fault → places ≡ places_of (kind_of file) file
    → forks_at places file ≡ forks_in_spite file
parts_forks file fault places other is placed =
    ap (λ (p : Places). forks_at p file) placed ∙ forks_placed (kind_of file) file other ∙ forks_kept file fault (unopened (kind_of file) file fault other is)

-- a text
opened_as : (file : List ℕ) (fault : FileFault) → kind_of file ≡ BinHex → read_as BinHex file ≡ Err fault → old_file file ≡ Err fault
opened_as file fault kind is = ap (λ (k : FileKind). read_as k file) kind ∙ is

pub text_fault : (file : List ℕ) (fault : FileFault) → kind_of file ≡ BinHex → fault ≢ HostFull → IsUnopened BinHex file fault → Some fault ≡ container_fault file
text_fault file fault kind some is = fault_named file fault (opened_as file fault kind (unopened_text file fault some is))

pub text_forks : (file bytes : List ℕ) (fault : FileFault) (places : Places) → kind_of file ≡ BinHex → fault ≢ HostFull → IsUnopened BinHex file fault
    → bytes ≡ bytes_left file → places ≡ text_places bytes → forks_at places bytes ≡ forks_in_spite file
text_forks file bytes fault places kind some is read placed =
    ap (λ (p : Places). forks_at p bytes) placed ∙ ap (λ (b : List ℕ). forks_at (text_places b) b) read
    ∙ sym (ap (λ (k : FileKind). forks_left k file) kind) ∙ forks_kept file fault (opened_as file fault kind (unopened_text file fault some is))

pub shut_for : (file : List ℕ) (fault : FileFault) → is_shut file ≡ true → IsShut file fault
shut_for file HostFull is = tt
shut_for file (Container why) is = is
shut_for file (Text why) is = is

-- How many bytes a text stands for.

pub none_shut : (text : List ℕ) → start_of text ≡ None → is_shut text ≡ true
none_shut text none = rw none refl

counted : (text : List ℕ) (start : ℕ) → start_of text ≡ Some start → length (bytes_left text) ≡ length (decoded_from 0 (mended (drop start text))).values
counted text start is = rw is (length-map (decoded_from 0 (mended (drop start text))).values (λ (p : Placed). p.value))

pub over_shut : (text : List ℕ) (start count : ℕ) → start_of text ≡ Some start → count ≡ length (decoded_from 0 (mended (drop start text))).values
    → most_of (length text) < count → is_shut text ≡ true
over_shut text start count is counts over =
    or_right _ _ (lt-ltb (most_of (length text)) (length (bytes_left text)) (subst (λ (n : ℕ). most_of (length text) < n) (counts ∙ sym (counted text start is)) over))

pub under_open : (text : List ℕ) (start count : ℕ) → start_of text ≡ Some start → count ≡ length (decoded_from 0 (mended (drop start text))).values
    → count ≤ most_of (length text) → is_shut text ≡ false
under_open text start count is counts under =
    or_from _ _ (rw is refl) (le-ltb (most_of (length text)) (length (bytes_left text)) (subst (λ (n : ℕ). n ≤ most_of (length text)) (counts ∙ sym (counted text start is)) under))

-- what is read of a text, where it begins somewhere and isn't too long
pub read_left : (text digits bytes : List ℕ) (start count : ℕ) → Some start ≡ start_of text
    → digits ≡ mended (take (length text - start) (drop start text)) → count ≡ length (decoded_from 0 digits).values
    → count ≤ most_of (length text) → bytes ≡ values_of (decoded_from 0 digits) → (is_shut text ≡ false) × (bytes ≡ bytes_left text)
read_left text digits bytes start count is mends counts under reads =
    let all = mends ∙ ap mended (rest_of text start) in (
      under_open text start count (sym is) (counts ∙ ap (λ (d : List ℕ). length (decoded_from 0 d).values) all) under,
      reads ∙ ap (λ (d : List ℕ). values_of (decoded_from 0 d)) all ∙ ap (λ (found : Option ℕ). bytes_from found text) is,
    )
