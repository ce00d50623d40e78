-- What is written is read again.
use Rattle.std.proofs.Common.{◌≡◌, ◌≢◌, ℕ, ◌≤◌, ◌<◌, Bool, true, false, List, [], ◌∷◌, length, ◌+◌, None, Some, Result, Ok, Err, IfOk, refl, sym, subst, inr, arith}
use Rattle.std.specs.Prelude.{slice_index, take, nat_le, nat_lt, ◌==◌, ◌&&◌, ◌||◌, if◌then◌else◌}
use Rattle.std.specs.List.{list_any}
use Rattle.std.specs.Option.{option_or}
use Rattle.std.specs.Result.{result_err}
use Rattle.std.proofs.lemmas.Bool.{and_left, and_right, cond-false, eqb-false, ltb-false, ltb-true, ne_eqb}
use Rattle.std.proofs.lemmas.List.{take_all}
use Rattle.mac_files.specs.declared.container.Container.TheVariants.{AppleDouble, AppleSingle, Raw}
use Rattle.mac_files.specs.BinHex.{is_bin_hex, line_from}
use Rattle.mac_files.specs.Containers.{container_of, has_fork_parts, is_fork_header}
use Rattle.mac_files.specs.Faults.{apple_fault}
use Rattle.mac_files.specs.MacBinary.{has_form, version_of}
use Rattle.mac_write.specs.declared.refusal.Refusal.{Refusal}
use Rattle.mac_write.specs.declared.refusal.Refusal.TheVariants.{CommentTooLong, DateOutside, NameCharacter, NameTooLong, NoName, TooLong}
use Rattle.mac_write.specs.declared.target.Target.{Target}
use Rattle.mac_write.specs.declared.target.Target.TheVariants as target
use Rattle.mac_write.specs.Apple.{length_refusal}
use Rattle.mac_write.specs.Forks.{Refuses}
use Rattle.mac_write.specs.HexText.{hex_file, hex_text}
use Rattle.mac_write.specs.Parts.{IsFile, Parts, no_finder, parts_of}
use Rattle.mac_write.specs.Targets.{apple_date_refusal, apple_unwritten, is_apple_date, parts_refusal, told_length, binary_date_refusal, binary_unwritten, name_character_refusal, name_refusal, double_text, hex_unwritten, name_length_refusal, single_text, text_of, unwritten}
use Rattle.mac_write.specs.Written.{IsReadAgain, IsReadAsText, held}
use Rattle.mac_files.proofs.Known.{double, single}
use Rattle.mac_write.proofs.HexRead.{IsHexFile, text_is}
use Rattle.mac_write.proofs.ReadApple.{FitsApple, single_again}
use Rattle.mac_write.proofs.ReadDouble.{double_again}
use Rattle.mac_write.proofs.ReadBinary.{FitsHeader, binary_again}
use Rattle.mac_write.proofs.Refused.{then_none, else_none, or_none}

-- Lengths that aren't refused.

pub length_fits : (count : ℕ) → length_refusal count ≡ None → count < 4294967296
length_fits count none = let high = ltb-false 4294967295 count (else_none (nat_lt 4294967295 count) (TooLong count 4294967295) none) in omega arith

pub name_fits : (count : ℕ) → name_length_refusal count ≡ None → (1 ≤ count) × (count ≤ 63)
name_fits count none = by_few (nat_lt count 1) refl none
  where
    by_few : (few : Bool) → nat_lt count 1 ≡ few
        → (if few then Some NoName else if nat_lt 63 count then Some (NameTooLong count) else None) ≡ None → (1 ≤ count) × (count ≤ 63)
    by_few true is none = absurd (cc none)
    by_few false is none =
        let some = ltb-false count 1 is in
        let short = ltb-false 63 count (else_none (nat_lt 63 count) (NameTooLong count) none) in
        (omega arith, omega arith)

-- A fork alone.

raw_again : (fork : List ℕ) → parts_of Raw fork ≡ record { name = []; finder = no_finder; created = 0; modified = 0; comment = []; data_fork = []; resource_fork = fork }
raw_again [] = refl
raw_again (byte ∷ bytes) =
    rw (ne_eqb (length (byte ∷ bytes)) 0 (λ none. omega arith), take_all (length (byte ∷ bytes)) (byte ∷ bytes) (omega arith)) refl

raw_known : (fork : List ℕ) → is_fork_header fork ≡ true → container_of fork ≡ Some Raw
raw_known fork is = rw is refl

-- A BinHex text.

no_fork : (text : List ℕ) → (slice_index text 0 == 0) ≡ false → is_fork_header text ≡ false
unfolding is_fork_header
no_fork text other = and_left _ _ (and_left _ _ (and_left _ _ (and_left _ _ (and_right _ _ other))))

no_form : (text : List ℕ) → (slice_index text 0 == 0) ≡ false → version_of text ≡ None
unfolding has_form
no_form text other =
    cond-false _ _ _ (and_left (nat_le 128 (length text) && (slice_index text 0 == 0) && (slice_index text 74 == 0) && (slice_index text 82 == 0) && nat_le 1 (slice_index text 1)) _
    (and_left _ _ (and_left _ _ (and_left _ _ (and_right (nat_le 128 (length text)) _ other)))))

text_unknown : (file : Parts) → container_of (hex_text (hex_file file)) ≡ None
text_unknown file = rw (no_fork (hex_text (hex_file file)) refl, no_form (hex_text (hex_file file)) refl) refl

no_parts : (text : List ℕ) → list_any (λ byte. byte == 0) (take 16 text) ≡ false → has_fork_parts (length text) text ≡ false
unfolding has_fork_parts
no_parts text none = and_left _ _ (and_left _ _ (and_left _ _ (and_right _ _ none)))

text_known : (file : Parts) → is_bin_hex (hex_text (hex_file file)) ≡ true
unfolding line_from
text_known file = rw (no_parts (hex_text (hex_file file)) refl) refl

text_again : (file : Parts) → IsFile file → hex_unwritten file ≡ None → IsReadAsText (held target.BinHex file) (hex_text (hex_file file))
text_again file is none =
    let first = or_none (name_length_refusal (length file.name)) (option_or (length_refusal (length file.data_fork)) (length_refusal (length file.resource_fork))) none in
    let second = or_none (length_refusal (length file.data_fork)) (length_refusal (length file.resource_fork)) first.1 in
    let short : length file.name ≤ 63 = (name_fits (length file.name) first.0).1 in
    let fits : IsHexFile (hex_file file) = record {
      name = is.name;
      name_fits = (let few : length file.name < 256 = omega arith in few);
      kind = is.kind;
      kind_length = is.kind_length;
      creator = is.creator;
      creator_length = is.creator_length;
      flags = is.flags;
      data_fork = is.data_fork;
      data_fits = length_fits (length file.data_fork) second.0;
      resource_fork = is.resource_fork;
      resource_fits = length_fits (length file.resource_fork) second.1;
    } in
    record { no_container = text_unknown file; known = text_known file; told = text_is (hex_file file) fits }

-- MacBinary.

no_character : (name : List ℕ) → name_character_refusal name ≡ None → (slice_index name 0 ≢ 22) × (list_any (λ c. c == 0) name ≡ false)
no_character name none =
    let both = neither (slice_index name 0 == 22) (list_any (λ c. c == 0) name) (else_none _ NameCharacter none) in
    (eqb-false (slice_index name 0) 22 both.0, both.1)
  where
    neither : (a b : Bool) → (a || b) ≡ false → (a ≡ false) × (b ≡ false)
    neither true b none = absurd (cc none)
    neither false b none = (refl, none)

date_fits : (date : ℕ) → binary_date_refusal date ≡ None → date < 4294967296
date_fits date none = ltb-true date 4294967296 (then_none (nat_lt date 4294967296) (DateOutside date) none)

fits_header : (file : Parts) → binary_unwritten file ≡ None → FitsHeader file
fits_header file none =
    let a = or_none (name_refusal file.name) _ none in
    let name = or_none (name_length_refusal (length file.name)) (name_character_refusal file.name) a.0 in
    let b = or_none (binary_date_refusal file.created) _ a.1 in
    let d = or_none (binary_date_refusal file.modified) _ b.1 in
    let e = or_none (length_refusal (length file.data_fork)) _ d.1 in
    let f = or_none (length_refusal (length file.resource_fork)) _ e.1 in
    let size = name_fits (length file.name) name.0 in
    let characters = no_character file.name name.1 in
    let high = ltb-false 65535 (length file.comment) (else_none (nat_lt 65535 (length file.comment)) (CommentTooLong (length file.comment)) f.1) in
    record {
      some = size.0;
      short = size.1;
      first = characters.0;
      characters = characters.1;
      created = date_fits file.created b.0;
      modified = date_fits file.modified d.0;
      data_fork = length_fits (length file.data_fork) e.0;
      resource_fork = length_fits (length file.resource_fork) f.0;
      comment = (let few : length file.comment < 65536 = omega arith in few);
    }

-- AppleSingle and AppleDouble.

fits_apple : (file : Parts) (count : ℕ) → apple_unwritten count file ≡ None → FitsApple file count
fits_apple file count none =
    let a = or_none (apple_date_refusal file.created) _ none in
    let b = or_none (apple_date_refusal file.modified) (length_refusal count) a.1 in
    record {
      created = then_none (is_apple_date file.created) (DateOutside file.created) a.0;
      modified = then_none (is_apple_date file.modified) (DateOutside file.modified) b.0;
      small = length_fits count b.1;
    }

-- All of them.

pub again : (target : Target) (file : Parts) → IsFile file → unwritten target file ≡ None → IsReadAgain target file (text_of target file)
again target.Raw file is none = (raw_known file.resource_fork, raw_again file.resource_fork)
again target.AppleDouble file is none = record { known = double (double_text file) refl (inr refl); whole = both.0; told = both.1 }
  where
    both : (apple_fault (double_text file) ≡ None) × (parts_of AppleDouble (double_text file) ≡ record file { data_fork = [] })
    both = double_again file is (fits_apple file (length (double_text file)) (or_none (parts_refusal file) _ none).1)
again target.AppleSingle file is none = record { known = single (single_text file) refl (inr refl); whole = both.0; told = both.1 }
  where
    both : (apple_fault (single_text file) ≡ None) × (parts_of AppleSingle (single_text file) ≡ file)
    both = single_again file is (fits_apple file (98 + told_length file + length file.data_fork + length file.resource_fork) (or_none (parts_refusal file) _ none).1)
again target.MacBinary file is none = binary_again file is (fits_header file none)
again target.BinHex file is none = text_again file is none

-- what was written without a refusal
pub read_again : {X : Type 0} (result : Result X Refusal) (items : X → List ℕ) (target : Target) (file : Parts) → IsFile file
    → IfOk result (λ new. items new ≡ text_of target file) → Refuses (result_err result) (unwritten target file)
    → IfOk result (λ new. IsReadAgain target file (items new))
read_again (Ok new) items target file is written none = subst (IsReadAgain target file) (sym written) (again target file is none)
read_again (Err refusal) items target file is written none = tt
