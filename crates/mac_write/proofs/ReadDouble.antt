-- AppleDouble that is written is read again.
use Rattle.std.proofs.Common.{◌≡◌, ℕ, zero, suc, ◌+◌, ◌*◌, ◌≤◌, ◌<◌, Bool, true, false, List, [], ◌∷◌, ◌++◌, length, take, drop, replicate, Option, None, Some, refl, sym, ap, ◌∙◌, append_assoc, length-append, arith}
use Rattle.std.specs.Prelude.{◌==◌, ◌||◌, nat_le, if◌then◌else◌, find, not, option_and_then, unwrap_or}
use Rattle.std.proofs.lemmas.Bool.{cond-true, eqb-true, le-leb, leb-true}
use Rattle.std.proofs.lemmas.List.{append-nil, drop-drop}
use Rattle.byteorder.specs.Endian.{big_bytes, big_from}
use Rattle.mac_files.specs.declared.container.Container.TheVariants.{AppleDouble}
use Rattle.mac_files.specs.declared.contents.Dates.{Dates}
use Rattle.mac_files.specs.declared.contents.FinderInfo.{FinderInfo}
use Rattle.mac_files.specs.declared.fault.Entry.{Entry}
use Rattle.mac_files.specs.declared.part.Part.{Part}
use Rattle.mac_files.specs.Apple.{dates_in, entries_from, entries_of, entry_count, finder_in, list_end, part_of}
use Rattle.mac_files.specs.Faults.{apple_fault}
use Rattle.mac_files.specs.Parts.{has_bytes, lies_within}
use Rattle.mac_write.specs.declared.detail.Detail.TheVariants as detail
use Rattle.mac_write.specs.Lost.{has}
use Rattle.mac_write.specs.Parts.{IsFile, Parts, created_in, modified_in, no_finder, parts_of, told_bytes}
use Rattle.mac_write.specs.Targets.{apple_date, contents, dates_text, double_entries, double_text, finder_text, head, is_apple_date, known_dates, place, places, said}
use Rattle.mac_write.proofs.Held.{neither, number_is}
use Rattle.mac_write.proofs.Places.{next, number_there, part_there}
use Rattle.mac_write.proofs.ReadApple.{FitsApple, HasEntries, date_again, date_small, entry, entry_there, fields_same, none_outside, whole}
use Rattle.mac_write.proofs.ReadBinary.{told_part}
use Rattle.mac_write.proofs.Segments.{from_drop, left_same, number_same}

-- The entries of a list, each an id and bytes.

-- as they are read, from a place of the list on, and with their bytes from an offset on
abbrev laid : ℕ → ℕ → List (ℕ × List ℕ) → List Entry
laid at offset [] = []
laid at offset (e ∷ es) = entry at e.0 offset (length e.1) ∷ laid (at + 12) (offset + length e.1) es

-- four bytes hold each id
abbrev HaveIds : List (ℕ × List ℕ) → Type 0
HaveIds [] = Unit {0}
HaveIds (e ∷ es) = (e.0 < 4294967296) × HaveIds es

-- the bytes of the first with an id
abbrev bytes_with : ℕ → List (ℕ × List ℕ) → List ℕ
bytes_with id [] = []
bytes_with id (e ∷ es) = if e.0 == id then e.1 else bytes_with id es

length-places : (at : ℕ) (es : List (ℕ × List ℕ)) → length (places at es) ≡ 12 * length es
length-places at [] = refl
length-places at (e ∷ es) =
    let rest = length-places (at + length e.1) es in
    let all = length-append (place e.0 at (length e.1)) (places (at + length e.1) es) in omega arith

pub length-contents : (e : ℕ × List ℕ) (es : List (ℕ × List ℕ)) → length (contents (e ∷ es)) ≡ length e.1 + length (contents es)
length-contents e es = length-append e.1 (contents es)

-- the list is read
list_read : (text rest : List ℕ) (at offset : ℕ) (es : List (ℕ × List ℕ)) → drop at text ≡ places offset es ++ rest → HaveIds es
    → offset + length (contents es) < 4294967296 → entries_from text at (length es) ≡ laid at offset es
list_read text rest at offset [] is ids small = refl
list_read text rest at offset (e ∷ es) is ids small =
    let size = length-contents e es in
    let more = places (offset + length e.1) es ++ rest in
    let first : drop at text ≡ place e.0 offset (length e.1) ++ more = is ∙ append_assoc (place e.0 offset (length e.1)) (places (offset + length e.1) es) rest in
    let others = next at 12 (at + 12) text (place e.0 offset (length e.1)) more first refl refl in
    let one = entry_there at e.0 offset (length e.1) text more first ids.0 (omega arith) (omega arith) in
    let all = list_read text rest (at + 12) (offset + length e.1) es others ids.1 (omega arith) in
    ap (λ (x : Entry). x ∷ entries_from text (at + 12) (length es)) one
    ∙ ap (λ (xs : List Entry). entry at e.0 offset (length e.1) ∷ xs) all

-- each lies within the file
all_inside : (total at offset : ℕ) (es : List (ℕ × List ℕ)) → offset + length (contents es) ≤ total
    → find (λ (e : Entry). not (lies_within total e.part)) (laid at offset es) ≡ None
all_inside total at offset [] within = refl
all_inside total at offset (e ∷ es) within =
    let size = length-contents e es in
    none_outside total (entry at e.0 offset (length e.1)) (laid (at + 12) (offset + length e.1) es) (omega arith)
    (all_inside total (at + 12) (offset + length e.1) es (omega arith))

-- what is left after the bytes of the first
rest_there : (text rest : List ℕ) (offset : ℕ) (e : ℕ × List ℕ) (es : List (ℕ × List ℕ)) → drop offset text ≡ contents (e ∷ es) ++ rest
    → drop (offset + length e.1) text ≡ contents es ++ rest
rest_there text rest offset e es is =
    next offset (length e.1) (offset + length e.1) text e.1 (contents es ++ rest) (is ∙ append_assoc e.1 (contents es) rest) refl refl

-- the bytes of a part
told_there : (text rest : List ℕ) (id at offset : ℕ) (es : List (ℕ × List ℕ)) → drop offset text ≡ contents es ++ rest
    → told_bytes (option_and_then (λ (e : Entry). has_bytes e.part) (find (λ (e : Entry). e.id == id) (laid at offset es))) text ≡ bytes_with id es
told_there text rest id at offset [] is = refl
told_there text rest id at offset (e ∷ es) is =
    by_id (e.0 == id) (told_there text rest id (at + 12) (offset + length e.1) es (rest_there text rest offset e es is))
  where
    first : told_bytes (has_bytes (record { offset = offset; length = length e.1 })) text ≡ e.1
    first = told_part offset (length e.1) text e.1 refl (part_there offset (length e.1) text e.1 (contents es ++ rest) (is ∙ append_assoc e.1 (contents es) rest) refl)

    by_id : (b : Bool) → told_bytes (option_and_then (λ (e : Entry). has_bytes e.part) (find (λ (e : Entry). e.id == id) (laid (at + 12) (offset + length e.1) es))) text ≡ bytes_with id es
        → told_bytes (option_and_then (λ (e : Entry). has_bytes e.part) (if b then Some (entry at e.0 offset (length e.1)) else find (λ (e : Entry). e.id == id) (laid (at + 12) (offset + length e.1) es))) text
        ≡ (if b then e.1 else bytes_with id es)
    by_id true others = first
    by_id false others = others

-- what a part says, by its bytes alone
abbrev SaysBy : {X : Type 0} → (List ℕ → Part → Option X) → (List ℕ → Option X) → Type 0
SaysBy of_part of_bytes = (text rest bytes : List ℕ) (offset : ℕ) → drop offset text ≡ bytes ++ rest
    → of_part text (record { offset = offset; length = length bytes }) ≡ of_bytes bytes

none_of : {X : Type 0} (of_bytes : List ℕ → Option X) (bytes : List ℕ) → of_bytes [] ≡ None → length bytes ≡ 0 → None ≡ of_bytes bytes
none_of of_bytes [] none is = sym none
none_of of_bytes (byte ∷ bytes) none is = absurd (omega arith)

said_there : {X : Type 0} (of_part : List ℕ → Part → Option X) (of_bytes : List ℕ → Option X) → SaysBy of_part of_bytes → of_bytes [] ≡ None
    → (text rest : List ℕ) (id at offset : ℕ) (es : List (ℕ × List ℕ)) → drop offset text ≡ contents es ++ rest
    → option_and_then (of_part text) (option_and_then (λ (e : Entry). has_bytes e.part) (find (λ (e : Entry). e.id == id) (laid at offset es))) ≡ of_bytes (bytes_with id es)
said_there of_part of_bytes says none text rest id at offset [] is = sym none
said_there of_part of_bytes says none text rest id at offset (e ∷ es) is =
    by_id (e.0 == id) (said_there of_part of_bytes says none text rest id (at + 12) (offset + length e.1) es (rest_there text rest offset e es is))
  where
    by_none : (b : Bool) → (length e.1 == 0) ≡ b
        → option_and_then (of_part text) (if b then None else Some (record { offset = offset; length = length e.1 })) ≡ of_bytes e.1
    by_none true empty = none_of of_bytes e.1 none (eqb-true (length e.1) 0 empty)
    by_none false some = says text (contents es ++ rest) e.1 offset (is ∙ append_assoc e.1 (contents es) rest)

    by_id : (b : Bool) → option_and_then (of_part text) (option_and_then (λ (e : Entry). has_bytes e.part) (find (λ (e : Entry). e.id == id) (laid (at + 12) (offset + length e.1) es))) ≡ of_bytes (bytes_with id es)
        → option_and_then (of_part text) (option_and_then (λ (e : Entry). has_bytes e.part) (if b then Some (entry at e.0 offset (length e.1)) else find (λ (e : Entry). e.id == id) (laid (at + 12) (offset + length e.1) es)))
        ≡ of_bytes (if b then e.1 else bytes_with id es)
    by_id true others = by_none (length e.1 == 0) refl
    by_id false others = others

-- What the Finder knows, and the dates.

abbrev finder_at : ℕ → List ℕ → FinderInfo
finder_at at text = record { kind = take 4 (drop at text); creator = take 4 (drop (at + 4) text); flags = big_from (at + 8) 2 text }

abbrev finder_of : List ℕ → FinderInfo
finder_of bytes = record { kind = take 4 bytes; creator = take 4 (drop 4 bytes); flags = big_from 8 2 bytes }

abbrev finder_by : List ℕ → Option FinderInfo
finder_by bytes = if nat_le 10 (length bytes) then Some (finder_of bytes) else None

abbrev dates_at : ℕ → List ℕ → Dates
dates_at at text = record { created = big_from at 4 text; modified = big_from (at + 4) 4 text }

abbrev dates_of : List ℕ → Dates
dates_of bytes = record { created = big_from 0 4 bytes; modified = big_from 4 4 bytes }

abbrev dates_by : List ℕ → Option Dates
dates_by bytes = if nat_le 8 (length bytes) then Some (dates_of bytes) else None

-- a number, and some bytes, of a part
number_of : (text rest bytes : List ℕ) (offset i n : ℕ) → drop offset text ≡ bytes ++ rest → i + n ≤ length bytes → big_from (offset + i) n text ≡ big_from i n bytes
number_of text rest bytes offset i n is within =
    from_drop offset i n text ∙ ap (big_from i n) is ∙ number_same i n (bytes ++ rest) bytes (left_same i n bytes rest within)

bytes_of_part : (text rest bytes : List ℕ) (offset i n : ℕ) → drop offset text ≡ bytes ++ rest → i + n ≤ length bytes → take n (drop (offset + i) text) ≡ take n (drop i bytes)
bytes_of_part text rest bytes offset i n is within =
    ap (take n) (sym (drop-drop i offset text) ∙ ap (drop i) is) ∙ left_same i n bytes rest within

says_finder : SaysBy finder_in finder_by
says_finder text rest bytes offset is = by_long (nat_le 10 (length bytes)) refl
  where
    by_long : (b : Bool) → nat_le 10 (length bytes) ≡ b
        → (if b then Some (finder_at offset text) else None) ≡ (if b then Some (finder_of bytes) else None)
    by_long false short = refl
    by_long true long =
        let size = leb-true 10 (length bytes) long in
        let start : offset + 0 ≡ offset = omega arith in
        let kind : take 4 (drop offset text) ≡ take 4 bytes = ap (λ (k : ℕ). take 4 (drop k text)) (sym start) ∙ bytes_of_part text rest bytes offset 0 4 is (omega arith) in
        let creator = bytes_of_part text rest bytes offset 4 4 is (omega arith) in
        let flags = number_of text rest bytes offset 8 2 is (omega arith) in rw (kind, creator, flags) refl

says_dates : SaysBy dates_in dates_by
says_dates text rest bytes offset is = by_long (nat_le 8 (length bytes)) refl
  where
    by_long : (b : Bool) → nat_le 8 (length bytes) ≡ b
        → (if b then Some (dates_at offset text) else None) ≡ (if b then Some (dates_of bytes) else None)
    by_long false short = refl
    by_long true long =
        let size = leb-true 8 (length bytes) long in
        let start : offset + 0 ≡ offset = omega arith in
        let created : big_from offset 4 text ≡ big_from 0 4 bytes = ap (λ (k : ℕ). big_from k 4 text) (sym start) ∙ number_of text rest bytes offset 0 4 is (omega arith) in
        let modified = number_of text rest bytes offset 4 4 is (omega arith) in rw (created, modified) refl

-- The entries of a file.

-- how many bytes the Finder's are
pub length-finder : (file : Parts) → IsFile file → length (finder_text file) ≡ 32
length-finder file is =
    let e = length-append file.finder.kind (file.finder.creator ++ (big_bytes 2 file.finder.flags ++ replicate 22 0)) in
    let f = length-append file.finder.creator (big_bytes 2 file.finder.flags ++ replicate 22 0) in
    let zeros : length (big_bytes 2 file.finder.flags ++ replicate 22 0) ≡ 24 = refl in
    let k = is.kind_length in let c = is.creator_length in omega arith

-- what the name, the comment and the dates are, of which some say nothing
record Three (name comment dates : List ℕ) : Type 0 where
  ids : HaveIds (said 3 name ++ (said 4 comment ++ said 8 dates))
  few : length (said 3 name ++ (said 4 comment ++ said 8 dates)) ≤ 3
  one : bytes_with 1 (said 3 name ++ (said 4 comment ++ said 8 dates)) ≡ []
  three : bytes_with 3 (said 3 name ++ (said 4 comment ++ said 8 dates)) ≡ name
  four : bytes_with 4 (said 3 name ++ (said 4 comment ++ said 8 dates)) ≡ comment
  eight : bytes_with 8 (said 3 name ++ (said 4 comment ++ said 8 dates)) ≡ dates

three_of : (name comment dates : List ℕ) → Three name comment dates
three_of [] [] [] = record { ids = tt; few = omega arith; one = refl; three = refl; four = refl; eight = refl }
three_of [] [] (d ∷ ds) = record { ids = (omega arith, tt); few = omega arith; one = refl; three = refl; four = refl; eight = refl }
three_of [] (c ∷ cs) [] = record { ids = (omega arith, tt); few = omega arith; one = refl; three = refl; four = refl; eight = refl }
three_of [] (c ∷ cs) (d ∷ ds) = record { ids = (omega arith, (omega arith, tt)); few = omega arith; one = refl; three = refl; four = refl; eight = refl }
three_of (n ∷ ns) [] [] = record { ids = (omega arith, tt); few = omega arith; one = refl; three = refl; four = refl; eight = refl }
three_of (n ∷ ns) [] (d ∷ ds) = record { ids = (omega arith, (omega arith, tt)); few = omega arith; one = refl; three = refl; four = refl; eight = refl }
three_of (n ∷ ns) (c ∷ cs) [] = record { ids = (omega arith, (omega arith, tt)); few = omega arith; one = refl; three = refl; four = refl; eight = refl }
three_of (n ∷ ns) (c ∷ cs) (d ∷ ds) = record { ids = (omega arith, (omega arith, (omega arith, tt))); few = omega arith; one = refl; three = refl; four = refl; eight = refl }

-- The dates that are written are read.

created_is : (file : Parts) → is_apple_date file.created ≡ true → created_in AppleDouble (dates_by (known_dates file)) ≡ file.created
created_is file date = by_known (has detail.Dates file) refl
  where
    rest : List ℕ
    rest = big_bytes 4 (apple_date file.modified) ++ (big_bytes 4 2147483648 ++ big_bytes 4 2147483648)

    by_known : (b : Bool) → has detail.Dates file ≡ b → created_in AppleDouble (dates_by (if b then dates_text file else [])) ≡ file.created
    by_known true known =
        ap (λ (n : ℕ). created_in AppleDouble (Some (record { created = n; modified = big_from 4 4 (dates_text file) })))
        (number_there 0 4 (apple_date file.created) (dates_text file) rest refl (date_small file.created date))
        ∙ date_again file.created date
    by_known false none = sym (number_is file.created (neither _ _ none).0)

modified_is : (file : Parts) → is_apple_date file.modified ≡ true → modified_in AppleDouble (dates_by (known_dates file)) ≡ file.modified
modified_is file date = by_known (has detail.Dates file) refl
  where
    by_known : (b : Bool) → has detail.Dates file ≡ b → modified_in AppleDouble (dates_by (if b then dates_text file else [])) ≡ file.modified
    by_known true known =
        ap (λ (n : ℕ). modified_in AppleDouble (Some (record { created = big_from 0 4 (dates_text file); modified = n })))
        (number_there 4 4 (apple_date file.modified) (dates_text file) (big_bytes 4 2147483648 ++ big_bytes 4 2147483648) refl (date_small file.modified date))
        ∙ date_again file.modified date
    by_known false none = sym (number_is file.modified (neither _ _ none).1)

-- what the Finder knows
finder_is : (file : Parts) → IsFile file → finder_by (finder_text file) ≡ Some file.finder
finder_is file is =
    let text = finder_text file in
    let z = big_bytes 2 file.finder.flags ++ replicate 22 0 in
    let size = length-finder file is in
    let long : nat_le 10 (length text) ≡ true = le-leb 10 (length text) (omega arith) in
    let d4 = next 0 4 4 text file.finder.kind (file.finder.creator ++ z) refl is.kind_length refl in
    let d8 = next 4 4 8 text file.finder.creator z d4 is.creator_length refl in
    let kind : take 4 text ≡ file.finder.kind = part_there 0 4 text file.finder.kind (file.finder.creator ++ z) refl is.kind_length in
    let creator = part_there 4 4 text file.finder.creator z d4 is.creator_length in
    let flags = number_there 8 2 file.finder.flags text (replicate 22 0) d8 is.flags in
    cond-true _ _ _ long ∙ rw (kind, creator, flags) refl

-- the file
pub double_again : (file : Parts) → IsFile file → FitsApple file (length (double_text file))
    → (apple_fault (double_text file) ≡ None) × (parts_of AppleDouble (double_text file) ≡ record file { data_fork = [] })
double_again file is fits =
    let text = double_text file in let es = double_entries file in let n = length es in
    let start = 26 + 12 * n in
    let three = three_of file.name file.comment (known_dates file) in
    let ids : HaveIds es = (omega arith, (omega arith, three.ids)) in
    let few : n ≤ 5 = let f = three.few in omega arith in
    let list_size = length-places start es in
    let body_size = length-append (places start es) (contents es) in
    let all_size : length text ≡ 26 + length (places start es ++ contents es) = length-append (head 7 n) (places start es ++ contents es) in
    let small = fits.small in
    let count : entry_count text ≡ n = number_there 24 2 n text (places start es ++ contents es) refl (omega arith) in
    let d26 : drop 26 text ≡ places start es ++ contents es = refl in
    let body : drop start text ≡ contents es ++ [] =
    next 26 (12 * n) start text (places start es) (contents es) d26 list_size refl ∙ sym (append-nil (contents es)) in
    let are : entries_of text ≡ laid 26 start es =
    ap (λ (k : ℕ). entries_from text 26 k) count ∙ list_read text (contents es) 26 start es d26 ids (omega arith) in
    let has : HasEntries text (laid 26 start es) = record {
      are = are;
      list = (let place : list_end text ≡ start = ap (λ (k : ℕ). 26 + 12 * k) count in let long : list_end text ≤ length text = omega arith in long);
      inside = all_inside (length text) 26 start es (omega arith);
    } in
    let told : (id : ℕ) → told_bytes (part_of id text) text ≡ bytes_with id es =
    λ id. ap (λ (xs : List Entry). told_bytes (option_and_then (λ (e : Entry). has_bytes e.part) (find (λ (e : Entry). e.id == id) xs)) text) are
    ∙ told_there text [] id 26 start es body in
    let finder : option_and_then (finder_in text) (part_of 9 text) ≡ Some file.finder =
    ap (λ (xs : List Entry). option_and_then (finder_in text) (option_and_then (λ (e : Entry). has_bytes e.part) (find (λ (e : Entry). e.id == 9) xs))) are
    ∙ said_there finder_in finder_by says_finder refl text [] 9 26 start es body ∙ finder_is file is in
    let dates : option_and_then (dates_in text) (part_of 8 text) ≡ dates_by (known_dates file) =
    ap (λ (xs : List Entry). option_and_then (dates_in text) (option_and_then (λ (e : Entry). has_bytes e.part) (find (λ (e : Entry). e.id == 8) xs))) are
    ∙ said_there dates_in dates_by says_dates refl text [] 8 26 start es body ∙ ap dates_by three.eight in (
      whole text (laid 26 start es) (omega arith) refl has,
      fields_same _ _ _ _ _ _ _ _ _ _ _ _ _ _ (told 3 ∙ three.three) (ap (λ (o : Option FinderInfo). unwrap_or o no_finder) finder)
          (ap (created_in AppleDouble) dates ∙ created_is file fits.created) (ap (modified_in AppleDouble) dates ∙ modified_is file fits.modified)
          (told 4 ∙ three.four) (told 1 ∙ three.one) (told 2),
    )
