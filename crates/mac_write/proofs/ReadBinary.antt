-- MacBinary III that is written is read again.
use Rattle.std.proofs.Common.{◌≡◌, ◌≢◌, inl, inr, ℕ, ◌+◌, ◌-◌, ◌*◌, ◌/◌, ◌%◌, ◌≤◌, ◌<◌, Bool, true, false, List, [], ◌∷◌, ◌++◌, length, take, drop, replicate, Option, None, Some, refl, sym, ap, ◌∙◌, append_assoc, length-append, arith}
use Rattle.std.specs.Prelude.{slice_index, nat_le, nat_eq, ◌==◌, ◌&&◌, ◌||◌, if◌then◌else◌, codes}
use Rattle.std.specs.List.{list_any, starts_with}
use Rattle.std.specs.Option.{option_or}
use Rattle.std.proofs.lemmas.Bool.{cond-true, cond-false, eq-eqb, eqb-false, eqb-true, le-leb, le-ltb}
use Rattle.std.proofs.lemmas.List.{take_at}
use Rattle.byteorder.specs.Endian.{big_bytes, big_from}
use Rattle.mac_files.specs.declared.container.Container.TheVariants.{MacBinary}
use Rattle.mac_files.specs.declared.container.Version.TheVariants.{III}
use Rattle.mac_files.specs.declared.fault.ContainerFault.{ContainerFault}
use Rattle.mac_files.specs.declared.fault.ContainerFault.TheVariants.{ChecksumDiffers, EndsInHeader}
use Rattle.mac_files.specs.declared.fault.Fork.TheVariants.{Data, Resource}
use Rattle.mac_files.specs.declared.part.Part.{Part}
use Rattle.mac_files.specs.Containers.{fault_of}
use Rattle.mac_files.specs.Crc.{crc_of}
use Rattle.mac_files.specs.Faults.{fork_fault, header_fault, sum_fault}
use Rattle.mac_files.specs.Laws.{HasName}
use Rattle.mac_files.specs.MacBinary.{comment_of, comment_place, data_fork, has_form, header_name, padded, resource_fork, says_three, version_of}
use Rattle.mac_files.specs.Parts.{has_bytes, lies_within}
use Rattle.mac_files.proofs.Known.{mac_binary}
use Rattle.mac_write.specs.Bytes.{AreBytes, filled}
use Rattle.mac_write.specs.Parts.{IsFile, Parts, parts_of, told_bytes}
use Rattle.mac_write.specs.Targets.{binary_head, binary_text, block}
use Rattle.mac_write.specs.Written.{IsReadAs}
use Rattle.mac_write.proofs.BinaryRead.{lies, no_fork_fault}
use Rattle.mac_write.proofs.Lists.{length-filled}
use Rattle.mac_write.proofs.Places.{byte_there, next, number_there, part_there}
use Rattle.mac_write.proofs.HexRead.{two_lt}
use Rattle.mac_write.proofs.Refused.{append_lt, cons_lt, fold_lt, none_lt, number_lt, zeros_lt}

-- What the bytes say of a file.
pub record Says (text : List ℕ) (file : Parts) : Type 0 where
  pub size : length text ≡ 128 + padded (length file.data_fork) + padded (length file.resource_fork) + padded (length file.comment)
  pub first : slice_index text 0 ≡ 0
  pub count : slice_index text 1 ≡ length file.name
  pub some : 1 ≤ length file.name
  pub short : length file.name ≤ 63
  pub other : slice_index text 2 ≢ 22
  pub named : HasName text
  pub name : take (length file.name) (drop 2 text) ≡ file.name
  pub kind : take 4 (drop 65 text) ≡ file.finder.kind
  pub creator : take 4 (drop 69 text) ≡ file.finder.creator
  pub high : slice_index text 73 ≡ file.finder.flags / 256
  pub after_high : slice_index text 74 ≡ 0
  pub before_length : slice_index text 82 ≡ 0
  pub data_length : big_from 83 4 text ≡ length file.data_fork
  pub resource_length : big_from 87 4 text ≡ length file.resource_fork
  pub created : big_from 91 4 text ≡ file.created
  pub modified : big_from 95 4 text ≡ file.modified
  pub comment_length : big_from 99 2 text ≡ length file.comment
  pub low : slice_index text 101 ≡ file.finder.flags % 256
  pub mark : starts_with nat_eq (drop 102 text) (codes "mBIN") ≡ true
  pub second : big_from 120 2 text ≡ 0
  pub sum : big_from 124 2 text ≡ crc_of (take 124 text)
  pub data_fork : take (length file.data_fork) (drop 128 text) ≡ file.data_fork
  pub resource_fork : take (length file.resource_fork) (drop (128 + padded (length file.data_fork)) text) ≡ file.resource_fork
  pub comment : take (length file.comment) (drop (128 + padded (length file.data_fork) + padded (length file.resource_fork)) text) ≡ file.comment

both : (a b : Bool) → a ≡ true → b ≡ true → (a && b) ≡ true
both true b is also = also
both false b is also = is

-- What it is known as.

form : (text : List ℕ) (file : Parts) → Says text file → has_form text ≡ true
unfolding has_form
form text file says =
    both _ _ (both _ _ (both _ _ (both _ _ (both _ _ (le-leb 128 (length text) (let size = says.size in omega arith)) (eq-eqb (slice_index text 0) 0 says.first))
    (eq-eqb (slice_index text 74) 0 says.after_high)) (eq-eqb (slice_index text 82) 0 says.before_length))
    (le-leb 1 (slice_index text 1) (let count = says.count in let some = says.some in omega arith)))
    (le-leb (slice_index text 1) 63 (let count = says.count in let short = says.short in omega arith))

version : (text : List ℕ) (file : Parts) → Says text file → version_of text ≡ Some III
unfolding says_three
version text file says = cond-true _ _ _ (form text file says) ∙ cond-true _ _ _ says.mark

-- Where its parts are.

data_is : (text : List ℕ) (file : Parts) → Says text file → data_fork text ≡ record { offset = 128; length = length file.data_fork }
data_is text file says =
    ap (λ (n : ℕ). record { offset = 128 + padded n; length = big_from 83 4 text }) says.second
    ∙ ap (λ (n : ℕ). record { offset = 128; length = n }) says.data_length

resource_is : (text : List ℕ) (file : Parts) → Says text file
    → resource_fork text ≡ record { offset = 128 + padded (length file.data_fork); length = length file.resource_fork }
resource_is text file says =
    ap (λ (p : Part). record { offset = p.offset + padded p.length; length = big_from 87 4 text }) (data_is text file says)
    ∙ ap (λ (n : ℕ). record { offset = 128 + padded (length file.data_fork); length = n }) says.resource_length

abbrev place : Parts → ℕ
place file = 128 + padded (length file.data_fork) + padded (length file.resource_fork)

comment_is : (text : List ℕ) (file : Parts) → Says text file → comment_of text ≡ has_bytes (record { offset = place file; length = length file.comment })
comment_is text file says =
    let at : comment_place text ≡ place file = ap (λ (p : Part). p.offset + padded p.length) (resource_is text file says) in
    let part : Part = record { offset = place file; length = length file.comment } in
    let whole = says.size in
    ap (λ (n : ℕ). inside (record { offset = n; length = big_from 99 2 text })) at
    ∙ ap (λ (n : ℕ). inside (record { offset = place file; length = n })) says.comment_length
    ∙ cond-true _ _ _ (lies (length text) part (omega arith))
  where
    inside : Part → Option Part
    inside part = if lies_within (length text) part then has_bytes part else None

-- The faults.

none_first : (a b : Option ContainerFault) → a ≡ None → b ≡ None → option_or a b ≡ None
none_first a b is also = ap (λ (o : Option ContainerFault). option_or o b) is ∙ also

whole : (text : List ℕ) (file : Parts) → Says text file → fault_of (MacBinary III) text ≡ None
whole text file says =
    let size = says.size in
    let at = data_is text file says in let next_at = resource_is text file says in
    let data_lies : lies_within (length text) (data_fork text) ≡ true =
    ap (lies_within (length text)) at ∙ lies (length text) (record { offset = 128; length = length file.data_fork }) (omega arith) in
    let resource_lies : lies_within (length text) (resource_fork text) ≡ true =
    ap (lies_within (length text)) next_at ∙ lies (length text) (record { offset = 128 + padded (length file.data_fork); length = length file.resource_fork }) (omega arith) in
    none_first (header_fault 128 text) _ (cond-false _ (Some (EndsInHeader 128 (length text))) None (le-ltb (length text) 128 (omega arith)))
    (none_first (sum_fault text) _ (cond-true _ None (Some (ChecksumDiffers (big_from 124 2 text) (crc_of (take 124 text)))) (eq-eqb (big_from 124 2 text) (crc_of (take 124 text)) says.sum))
    (none_first (fork_fault Data (data_fork text) text) _ (no_fork_fault Data (data_fork text) text data_lies)
    (no_fork_fault Resource (resource_fork text) text resource_lies)))

-- What it says.

-- the bytes of a part that may have none
pub told_part : (at count : ℕ) (text bytes : List ℕ) → count ≡ length bytes → take count (drop at text) ≡ bytes
    → told_bytes (has_bytes (record { offset = at; length = count })) text ≡ bytes
told_part at count text bytes long is = by_none (count == 0) refl
  where
    no_bytes : (xs : List ℕ) → length xs ≡ 0 → [] ≡ xs
    no_bytes [] none = refl
    no_bytes (x ∷ xs) none = absurd (omega arith)

    by_none : (none : Bool) → (count == 0) ≡ none → told_bytes (if none then None else Some (record { offset = at; length = count })) text ≡ bytes
    by_none true zero_is = no_bytes bytes (sym long ∙ eqb-true count 0 zero_is)
    by_none false zero_is = is

told : (text : List ℕ) (file : Parts) → Says text file → parts_of (MacBinary III) text ≡ file
told text file says =
    let name_is : told_bytes (header_name text) text ≡ file.name =
    ap (λ (n : ℕ). told_bytes (if nat_le n 63 then has_bytes (record { offset = 2; length = n }) else None) text) says.count
    ∙ ap (λ (o : Option Part). told_bytes o text) (cond-true _ _ None (le-leb (length file.name) 63 says.short))
    ∙ told_part 2 (length file.name) text file.name refl says.name in
    let flags : 256 * slice_index text 73 + slice_index text 101 ≡ file.finder.flags =
    (let high = says.high in let low = says.low in omega arith) in
    let comment_told : told_bytes (comment_of text) text ≡ file.comment =
    ap (λ (o : Option Part). told_bytes o text) (comment_is text file says) ∙ told_part (place file) (length file.comment) text file.comment refl says.comment in
    let data_told : told_bytes (has_bytes (data_fork text)) text ≡ file.data_fork =
    ap (λ (p : Part). told_bytes (has_bytes p) text) (data_is text file says) ∙ told_part 128 (length file.data_fork) text file.data_fork refl says.data_fork in
    let resource_told : told_bytes (has_bytes (resource_fork text)) text ≡ file.resource_fork =
    ap (λ (p : Part). told_bytes (has_bytes p) text) (resource_is text file says)
    ∙ told_part (128 + padded (length file.data_fork)) (length file.resource_fork) text file.resource_fork refl says.resource_fork in
    rw (name_is, says.kind, says.creator, flags, says.created, says.modified, comment_told, data_told, resource_told) refl

pub read_as : (text : List ℕ) (file : Parts) → Says text file → IsReadAs (MacBinary III) file text
read_as text file says = record {
  known = mac_binary text III (version text file says) says.other says.named;
  whole = whole text file says;
  told = told text file says;
}

-- What is written says this.

pub record FitsHeader (file : Parts) : Type 0 where
  pub some : 1 ≤ length file.name
  pub short : length file.name ≤ 63
  pub first : slice_index file.name 0 ≢ 22
  pub characters : list_any (λ c. c == 0) file.name ≡ false
  pub created : file.created < 4294967296
  pub modified : file.modified < 4294967296
  pub data_fork : length file.data_fork < 4294967296
  pub resource_fork : length file.resource_fork < 4294967296
  pub comment : length file.comment < 65536

abbrev summed : Parts → ℕ
summed file = crc_of (binary_head file)

-- what follows the header
abbrev parts : Parts → List ℕ
parts file = block file.data_fork ++ (block file.resource_fork ++ block file.comment)

abbrev tail : Parts → List ℕ
tail file = big_bytes 2 (summed file) ++ (0 ∷ 0 ∷ [] ++ parts file)

-- what follows the creator in the header
abbrev numbers : Parts → List ℕ
numbers file = (file.finder.flags / 256) ∷ [] ++ (replicate 9 0
    ++ (big_bytes 4 (length file.data_fork) ++ (big_bytes 4 (length file.resource_fork)
    ++ (big_bytes 4 file.created ++ (big_bytes 4 file.modified ++ (big_bytes 2 (length file.comment)
    ++ ((file.finder.flags % 256) ∷ [] ++ (codes "mBIN" ++ (replicate 16 0 ++ 130 ∷ 129 ∷ [])))))))))

from_name : (file : Parts) → drop 2 (binary_text file) ≡ filled 63 file.name ++ (file.finder.kind ++ (file.finder.creator ++ (numbers file ++ tail file)))
from_name file =
    let name = filled 63 file.name in let kind = file.finder.kind in let creator = file.finder.creator in
    append_assoc name (kind ++ (creator ++ numbers file)) (tail file)
    ∙ ap (λ (xs : List ℕ). name ++ xs) (append_assoc kind (creator ++ numbers file) (tail file) ∙ ap (λ (xs : List ℕ). kind ++ xs) (append_assoc creator (numbers file) (tail file)))

length-block : (bytes : List ℕ) → length (block bytes) ≡ padded (length bytes)
length-block bytes = length-filled (padded (length bytes)) bytes (omega arith)

length-head : (file : Parts) → IsFile file → length file.name ≤ 63 → length (binary_head file) ≡ 124
length-head file is short =
    let a = length-append (filled 63 file.name) (file.finder.kind ++ (file.finder.creator ++ numbers file)) in
    let b = length-append file.finder.kind (file.finder.creator ++ numbers file) in
    let d = length-append file.finder.creator (numbers file) in
    let e : length (numbers file) ≡ 51 = refl in
    let n = length-filled 63 file.name short in
    let k = is.kind_length in let c = is.creator_length in omega arith

length-text : (file : Parts) → IsFile file → length file.name ≤ 63
    → length (binary_text file) ≡ 128 + padded (length file.data_fork) + padded (length file.resource_fork) + padded (length file.comment)
length-text file is short =
    let a = length-append (binary_head file) (tail file) in
    let b = length-append (block file.data_fork) (block file.resource_fork ++ block file.comment) in
    let d = length-append (block file.resource_fork) (block file.comment) in
    let head = length-head file is short in
    let data_size = length-block file.data_fork in let resource_size = length-block file.resource_fork in let comment_size = length-block file.comment in
    let after : length (tail file) ≡ 4 + length (parts file) = length-append (big_bytes 2 (summed file) ++ 0 ∷ 0 ∷ []) (parts file) in omega arith

-- the name
second_is : (a b : Bool) → (a || b) ≡ false → (a ≡ false) × (b ≡ false)
second_is true b none = absurd (cc none)
second_is false b none = (refl, none)

has_name : (name rest text : List ℕ) → text ≡ 0 ∷ length name ∷ (filled 63 name ++ rest) → list_any (λ c. c == 0) name ≡ false → HasName text
has_name [] rest text is none = inr (ap (big_from 12 4) is)
has_name (a ∷ []) rest text is none = inr (ap (big_from 12 4) is)
has_name (a ∷ b ∷ []) rest text is none = inr (ap (big_from 12 4) is)
has_name (a ∷ b ∷ c ∷ name) rest text is none =
    let first = second_is (a == 0) _ none in let second = second_is (b == 0) _ first.1 in let third = second_is (c == 0) _ second.1 in
    inl (λ none_there. eqb-false c 0 third.0 (sym (ap (λ (xs : List ℕ). slice_index xs 4) is) ∙ none_there))

first_is : (name rest text : List ℕ) → text ≡ 0 ∷ length name ∷ (filled 63 name ++ rest) → 1 ≤ length name → slice_index text 2 ≡ slice_index name 0
first_is [] rest text is some = absurd (omega arith)
first_is (a ∷ name) rest text is some = ap (λ (xs : List ℕ). slice_index xs 2) is

pub says : (file : Parts) → IsFile file → FitsHeader file → summed file < 65536 → Says (binary_text file) file
says file is fits small =
    let text = binary_text file in
    let n = length file.name in let d = length file.data_fork in let r = length file.resource_fork in let c = length file.comment in
    let t12 = codes "mBIN" ++ (replicate 16 0 ++ (130 ∷ 129 ∷ tail file)) in
    let t11 : List ℕ = (file.finder.flags % 256) ∷ t12 in
    let t10 = big_bytes 2 c ++ t11 in let t9 = big_bytes 4 file.modified ++ t10 in let t8 = big_bytes 4 file.created ++ t9 in
    let t7 = big_bytes 4 r ++ t8 in let t6 = big_bytes 4 d ++ t7 in let t5 = replicate 9 0 ++ t6 in
    let t4 : List ℕ = (file.finder.flags / 256) ∷ t5 in let t3 = file.finder.creator ++ t4 in let t2 = file.finder.kind ++ t3 in
    let d2 : drop 2 text ≡ filled 63 file.name ++ t2 = from_name file in
    let d65 = next 2 63 65 text (filled 63 file.name) t2 d2 (length-filled 63 file.name fits.short) refl in
    let d69 = next 65 4 69 text file.finder.kind t3 d65 is.kind_length refl in
    let d73 = next 69 4 73 text file.finder.creator t4 d69 is.creator_length refl in
    let d74 = next 73 1 74 text ((file.finder.flags / 256) ∷ []) t5 d73 refl refl in
    let d82 = next 74 8 82 text (replicate 8 0) (0 ∷ t6) d74 refl refl in
    let d83 = next 74 9 83 text (replicate 9 0) t6 d74 refl refl in
    let d87 = next 83 4 87 text (big_bytes 4 d) t7 d83 refl refl in
    let d91 = next 87 4 91 text (big_bytes 4 r) t8 d87 refl refl in
    let d95 = next 91 4 95 text (big_bytes 4 file.created) t9 d91 refl refl in
    let d99 = next 95 4 99 text (big_bytes 4 file.modified) t10 d95 refl refl in
    let d101 = next 99 2 101 text (big_bytes 2 c) t11 d99 refl refl in
    let d102 = next 101 1 102 text ((file.finder.flags % 256) ∷ []) t12 d101 refl refl in
    let d120 = next 102 18 120 text (codes "mBIN" ++ replicate 14 0) (0 ∷ 0 ∷ 130 ∷ 129 ∷ tail file) d102 refl refl in
    let d124 = next 120 4 124 text (0 ∷ 0 ∷ 130 ∷ 129 ∷ []) (tail file) d120 refl refl in
    let d128 = next 124 4 128 text (big_bytes 2 (summed file) ++ 0 ∷ 0 ∷ []) (parts file) d124 refl refl in
    let after = next 128 (padded d) (128 + padded d) text (block file.data_fork) (block file.resource_fork ++ block file.comment) d128 (length-block file.data_fork) refl in
    let last = next (128 + padded d) (padded r) (128 + padded d + padded r) text (block file.resource_fork) (block file.comment) after (length-block file.resource_fork) refl in
    let whole_name : text ≡ 0 ∷ n ∷ (filled 63 file.name ++ t2) = ap (λ (xs : List ℕ). 0 ∷ n ∷ xs) d2 in
    let head_is : take 124 text ≡ binary_head file = take_at (binary_head file) (tail file) 124 (length-head file is fits.short) in
    record {
      size = length-text file is fits.short;
      first = refl;
      count = refl;
      some = fits.some;
      short = fits.short;
      other = λ same. fits.first (sym (first_is file.name t2 text whole_name fits.some) ∙ same);
      named = has_name file.name t2 text whole_name fits.characters;
      name = part_there 2 n text file.name (replicate (63 - n) 0 ++ t2) (d2 ∙ append_assoc file.name (replicate (63 - n) 0) t2) refl;
      kind = part_there 65 4 text file.finder.kind t3 d65 is.kind_length;
      creator = part_there 69 4 text file.finder.creator t4 d69 is.creator_length;
      high = byte_there 73 (file.finder.flags / 256) text t5 d73;
      after_high = byte_there 74 0 text (replicate 8 0 ++ t6) d74;
      before_length = byte_there 82 0 text t6 d82;
      data_length = number_there 83 4 d text t7 d83 fits.data_fork;
      resource_length = number_there 87 4 r text t8 d87 fits.resource_fork;
      created = number_there 91 4 file.created text t9 d91 fits.created;
      modified = number_there 95 4 file.modified text t10 d95 fits.modified;
      comment_length = number_there 99 2 c text t11 d99 fits.comment;
      low = byte_there 101 (file.finder.flags % 256) text t12 d101;
      mark = ap (λ (xs : List ℕ). starts_with nat_eq xs (codes "mBIN")) d102;
      second = number_there 120 2 0 text (130 ∷ 129 ∷ tail file) d120 (omega arith);
      sum = number_there 124 2 (summed file) text (0 ∷ 0 ∷ parts file) d124 small ∙ sym (ap crc_of head_is);
      data_fork = part_there 128 d text file.data_fork (replicate (padded d - d) 0 ++ (block file.resource_fork ++ block file.comment))
          (d128 ∙ append_assoc file.data_fork (replicate (padded d - d) 0) (block file.resource_fork ++ block file.comment)) refl;
      resource_fork = part_there (128 + padded d) r text file.resource_fork (replicate (padded r - r) 0 ++ block file.comment)
          (after ∙ append_assoc file.resource_fork (replicate (padded r - r) 0) (block file.comment)) refl;
      comment = part_there (128 + padded d + padded r) c text file.comment (replicate (padded c - c) 0) last refl;
    }

-- The checksum is of two bytes.

head_lt : (file : Parts) → IsFile file → FitsHeader file → AreBytes (binary_head file)
head_lt file is fits =
    let end : List ℕ = 130 ∷ 129 ∷ [] in let after : List ℕ = replicate 16 0 ++ end in let mark : List ℕ = codes "mBIN" ++ after in
    let low : List ℕ = (file.finder.flags % 256) ∷ mark in let comment : List ℕ = big_bytes 2 (length file.comment) ++ low in
    let modified : List ℕ = big_bytes 4 file.modified ++ comment in let created : List ℕ = big_bytes 4 file.created ++ modified in
    let resource : List ℕ = big_bytes 4 (length file.resource_fork) ++ created in let both : List ℕ = big_bytes 4 (length file.data_fork) ++ resource in
    let zeros : List ℕ = replicate 9 0 ++ both in let high : List ℕ = (file.finder.flags / 256) ∷ zeros in
    let flags = is.flags in let short = fits.short in
    let end_are : AreBytes end = cons_lt 130 (129 ∷ []) (omega arith) (cons_lt 129 [] (omega arith) none_lt) in
    let after_are : AreBytes after = append_lt (replicate 16 0) end (zeros_lt 16) end_are in
    let mark_are : AreBytes mark =
    cons_lt 109 (66 ∷ 73 ∷ 78 ∷ after) (omega arith) (cons_lt 66 (73 ∷ 78 ∷ after) (omega arith) (cons_lt 73 (78 ∷ after) (omega arith) (cons_lt 78 after (omega arith) after_are))) in
    let low_are : AreBytes low = cons_lt (file.finder.flags % 256) mark (omega arith) mark_are in
    let comment_are : AreBytes comment = append_lt (big_bytes 2 (length file.comment)) low (two_lt (length file.comment)) low_are in
    let modified_are : AreBytes modified = append_lt (big_bytes 4 file.modified) comment (number_lt file.modified) comment_are in
    let created_are : AreBytes created = append_lt (big_bytes 4 file.created) modified (number_lt file.created) modified_are in
    let resource_are : AreBytes resource = append_lt (big_bytes 4 (length file.resource_fork)) created (number_lt (length file.resource_fork)) created_are in
    let both_are : AreBytes both = append_lt (big_bytes 4 (length file.data_fork)) resource (number_lt (length file.data_fork)) resource_are in
    let zeros_are : AreBytes zeros = append_lt (replicate 9 0) both (zeros_lt 9) both_are in
    let high_are : AreBytes high = cons_lt (file.finder.flags / 256) zeros (omega arith) zeros_are in
    let creator_are : AreBytes (file.finder.creator ++ high) = append_lt file.finder.creator high is.creator high_are in
    let kind_are : AreBytes (file.finder.kind ++ (file.finder.creator ++ high)) = append_lt file.finder.kind (file.finder.creator ++ high) is.kind creator_are in
    let filled_are : AreBytes (filled 63 file.name) = append_lt file.name (replicate (63 - length file.name) 0) is.name (zeros_lt (63 - length file.name)) in
    let name_are : AreBytes (filled 63 file.name ++ (file.finder.kind ++ (file.finder.creator ++ high))) =
    append_lt (filled 63 file.name) (file.finder.kind ++ (file.finder.creator ++ high)) filled_are kind_are in
    cons_lt 0 (length file.name ∷ (filled 63 file.name ++ (file.finder.kind ++ (file.finder.creator ++ high)))) (omega arith)
    (cons_lt (length file.name) (filled 63 file.name ++ (file.finder.kind ++ (file.finder.creator ++ high))) (omega arith) name_are)

pub binary_again : (file : Parts) → IsFile file → FitsHeader file → IsReadAs (MacBinary III) file (binary_text file)
binary_again file is fits =
    read_as (binary_text file) file (says file is fits (fold_lt 0 (binary_head file) (omega arith) (head_lt file is fits)))
