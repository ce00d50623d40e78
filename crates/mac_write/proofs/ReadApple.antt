-- AppleSingle and AppleDouble that are written are read again.
use Rattle.std.proofs.Common.{◌≡◌, ◌≢◌, inl, inr, ℕ, ◌+◌, ◌-◌, ◌%◌, ◌≤◌, ◌<◌, Bool, true, false, List, [], ◌∷◌, ◌++◌, length, take, drop, replicate, Option, None, Some, refl, sym, ap, ◌∙◌, append_assoc, length-append, arith}
use Rattle.std.specs.Prelude.{nat_lt, ◌==◌, ◌||◌, ◌&&◌, if◌then◌else◌, find, not, option_and_then, unwrap_or}
use Rattle.std.specs.Option.{option_or}
use Rattle.std.proofs.lemmas.Bool.{cases_lt, cond-true, cond-false, eqb-false, eqb-true, le-ltb, lt-ltb, ltb-true, ne_eqb}
use Rattle.std.proofs.lemmas.List.{append-nil}
use Rattle.byteorder.specs.Endian.{big_bytes, big_from}
use Rattle.mac_files.specs.declared.container.Container.TheVariants.{AppleSingle}
use Rattle.mac_files.specs.declared.contents.FinderInfo.{FinderInfo}
use Rattle.mac_files.specs.declared.fault.Entry.{Entry}
use Rattle.mac_files.specs.declared.fault.ContainerFault.{ContainerFault}
use Rattle.mac_files.specs.declared.fault.ContainerFault.TheVariants.{EndsInHeader, EntriesOutside, EntryOutside, UnknownVersion}
use Rattle.mac_files.specs.declared.part.Part.{Part}
use Rattle.mac_files.specs.Apple.{dates_in, entries_of, entry_at, entry_count, finder_in, list_end, part_of}
use Rattle.mac_files.specs.Faults.{apple_fault, header_fault, list_fault, version_fault}
use Rattle.mac_files.specs.Parts.{has_bytes, lies_within}
use Rattle.mac_write.specs.Parts.{IsFile, Parts, created_in, mac_date, modified_in, no_finder, parts_of, told_bytes}
use Rattle.mac_write.specs.Targets.{apple_date, dates_text, finder_text, head, is_apple_date, place, single_text, told_length, told_places, told_text}
use Rattle.mac_write.proofs.BinaryRead.{lies}
use Rattle.mac_write.proofs.Places.{next, number_there, part_there}
use Rattle.mac_write.proofs.ReadBinary.{told_part}

-- Dates.

date_by : (date : ℕ) → date ≢ 0 → 882045952 < date → date < 5177013248 → mac_date ((date + 1265437696) % 4294967296) ≡ date
date_by date known low high = elim (cases_lt (date + 1265437696) 4294967296) [
  | inl below ↦
      let same : (date + 1265437696) % 4294967296 ≡ date + 1265437696 = omega arith in
      let other : (date + 1265437696 == 2147483648) ≡ false = ne_eqb (date + 1265437696) 2147483648 (λ is. omega arith) in
      let past : nat_lt (date + 1265437696) 2147483648 ≡ false = le-ltb (date + 1265437696) 2147483648 (omega arith) in
      let back : date + 1265437696 - 1265437696 ≡ date = omega arith in
      ap mac_date same ∙ cond-false _ _ _ other ∙ cond-false _ _ _ past ∙ back
  | inr above ↦
      let rest : ℕ = date + 1265437696 - 4294967296 in
      let same : (date + 1265437696) % 4294967296 ≡ rest = omega arith in
      let other : (rest == 2147483648) ≡ false = ne_eqb rest 2147483648 (λ is. omega arith) in
      let before : nat_lt rest 2147483648 ≡ true = lt-ltb rest 2147483648 (omega arith) in
      let back : rest + 3029529600 ≡ date = omega arith in
      ap mac_date same ∙ cond-false _ _ _ other ∙ cond-true _ _ _ before ∙ back
]

split : (a b : Bool) → (a && b) ≡ true → (a ≡ true) × (b ≡ true)
split true b both = (refl, both)
split false b both = absurd (cc both)

or_second : (a b : Bool) → a ≡ false → (a || b) ≡ true → b ≡ true
or_second true b none both = absurd (cc none)
or_second false b none both = both

date_known : (date : ℕ) (none : Bool) → (date == 0) ≡ none → is_apple_date date ≡ true
    → mac_date (if none then 2147483648 else (date + 1265437696) % 4294967296) ≡ date
date_known date true zero_is is = sym (eqb-true date 0 zero_is)
date_known date false zero_is is =
    let both = split _ _ (or_second (date == 0) (nat_lt 882045952 date && nat_lt date 5177013248) zero_is is) in
    date_by date (eqb-false date 0 zero_is) (ltb-true 882045952 date both.0) (ltb-true date 5177013248 both.1)

pub date_again : (date : ℕ) → is_apple_date date ≡ true → mac_date (apple_date date) ≡ date
date_again date is = date_known date (date == 0) refl is

pub date_small : (date : ℕ) → is_apple_date date ≡ true → apple_date date < 4294967296
date_small date is = by_zero (date == 0)
  where
    by_zero : (none : Bool) → (if none then 2147483648 else (date + 1265437696) % 4294967296) < 4294967296
    by_zero true = omega arith
    by_zero false = omega arith

-- What the bytes say of a file whose parts begin at a place: the entries of what is said, and others.

abbrev pub entry : ℕ → ℕ → ℕ → ℕ → Entry
entry at id offset count = record { at = at; id = id; part = record { offset = offset; length = count } }

abbrev comment_at : ℕ → Parts → ℕ
comment_at base file = base + length file.name

abbrev dates_at : ℕ → Parts → ℕ
dates_at base file = base + length file.name + length file.comment

abbrev told_entries : ℕ → Parts → List Entry → List Entry
told_entries base file more =
    entry 26 3 base (length file.name) ∷ entry 38 4 (comment_at base file) (length file.comment) ∷ entry 50 8 (dates_at base file) 16
    ∷ entry 62 9 (dates_at base file + 16) 32 ∷ more

record SaysTold (text : List ℕ) (file : Parts) (base : ℕ) : Type 0 where
  version : big_from 4 4 text ≡ 131072
  name : take (length file.name) (drop base text) ≡ file.name
  comment : take (length file.comment) (drop (comment_at base file) text) ≡ file.comment
  created : big_from (dates_at base file) 4 text ≡ apple_date file.created
  modified : big_from (dates_at base file + 4) 4 text ≡ apple_date file.modified
  kind : take 4 (drop (dates_at base file + 16) text) ≡ file.finder.kind
  creator : take 4 (drop (dates_at base file + 16 + 4) text) ≡ file.finder.creator
  flags : big_from (dates_at base file + 16 + 8) 2 text ≡ file.finder.flags
  size : dates_at base file + 48 ≤ length text

-- an entry of the list, by its bytes
pub entry_there : (at id offset count : ℕ) (text rest : List ℕ) → drop at text ≡ place id offset count ++ rest
    → id < 4294967296 → offset < 4294967296 → count < 4294967296 → entry_at text at ≡ entry at id offset count
entry_there at id offset count text rest is a b c =
    let r2 = big_bytes 4 count ++ rest in let r1 = big_bytes 4 offset ++ r2 in
    let second : drop (at + 4) text ≡ r1 = next at 4 (at + 4) text (big_bytes 4 id) r1 is refl refl in
    let third : drop (at + 8) text ≡ r2 = next (at + 4) 4 (at + 8) text (big_bytes 4 offset) r2 second refl (omega arith) in
    let first_is = number_there at 4 id text r1 is a in
    let second_is = number_there (at + 4) 4 offset text r2 second b in
    let third_is = number_there (at + 8) 4 count text rest third c in
    rw (first_is, second_is, third_is) refl

-- the part of an entry
part_by : (id : ℕ) (text : List ℕ) (entries : List Entry) (found : Part) → entries_of text ≡ entries
    → option_and_then (λ (e : Entry). has_bytes e.part) (find (λ (e : Entry). e.id == id) entries) ≡ has_bytes found → part_of id text ≡ has_bytes found
part_by id text entries found is by =
    ap (λ (es : List Entry). option_and_then (λ (e : Entry). has_bytes e.part) (find (λ (e : Entry). e.id == id) es)) is ∙ by

-- What it says.

finder_told : (text : List ℕ) (file : Parts) (base : ℕ) → SaysTold text file base → finder_in text (record { offset = dates_at base file + 16; length = 32 }) ≡ Some file.finder
finder_told text file base says = rw (says.kind, says.creator, says.flags) refl

dates_told : (text : List ℕ) (file : Parts) (base : ℕ) → SaysTold text file base
    → dates_in text (record { offset = dates_at base file; length = 16 }) ≡ Some (record { created = apple_date file.created; modified = apple_date file.modified })
dates_told text file base says = rw (says.created, says.modified) refl

-- nothing is wrong
none_first : (a b : Option ContainerFault) → a ≡ None → b ≡ None → option_or a b ≡ None
none_first a b is also = ap (λ (o : Option ContainerFault). option_or o b) is ∙ also

pub record HasEntries (text : List ℕ) (entries : List Entry) : Type 0 where
  pub are : entries_of text ≡ entries
  pub list : list_end text ≤ length text
  pub inside : find (λ (e : Entry). not (lies_within (length text) e.part)) entries ≡ None

pub whole : (text : List ℕ) (entries : List Entry) → 26 ≤ length text → big_from 4 4 text ≡ 131072 → HasEntries text entries → apple_fault text ≡ None
whole text entries long version has =
    none_first (header_fault 26 text) _ (cond-false _ (Some (EndsInHeader 26 (length text))) None (le-ltb (length text) 26 long))
    (none_first (version_fault text) _ (ap (λ (n : ℕ). if (n == 65536) || (n == 131072) then None else Some (UnknownVersion n)) version)
    (none_first (list_fault text) _ (cond-false _ (Some (EntriesOutside (entry_count text) (length text))) None (le-ltb (length text) (list_end text) has.list))
    (ap (λ (es : List Entry). entry_told (find (λ (e : Entry). not (lies_within (length text) e.part)) es)) has.are ∙ ap entry_told has.inside)))
  where
    entry_told : Option Entry → Option ContainerFault
    entry_told None = None
    entry_told (Some e) = Some (EntryOutside e (length text))

name_told : (text : List ℕ) (file : Parts) (base : ℕ) (more : List Entry) → SaysTold text file base → entries_of text ≡ told_entries base file more
    → told_bytes (part_of 3 text) text ≡ file.name
name_told text file base more says are =
    ap (λ (o : Option Part). told_bytes o text) (part_by 3 text (told_entries base file more) (record { offset = base; length = length file.name }) are refl)
    ∙ told_part base (length file.name) text file.name refl says.name

comment_told : (text : List ℕ) (file : Parts) (base : ℕ) (more : List Entry) → SaysTold text file base → entries_of text ≡ told_entries base file more
    → told_bytes (part_of 4 text) text ≡ file.comment
comment_told text file base more says are =
    ap (λ (o : Option Part). told_bytes o text) (part_by 4 text (told_entries base file more) (record { offset = comment_at base file; length = length file.comment }) are refl)
    ∙ told_part (comment_at base file) (length file.comment) text file.comment refl says.comment

finder_is : (text : List ℕ) (file : Parts) (base : ℕ) (more : List Entry) → SaysTold text file base → entries_of text ≡ told_entries base file more
    → option_and_then (finder_in text) (part_of 9 text) ≡ Some file.finder
finder_is text file base more says are =
    ap (option_and_then (finder_in text)) (part_by 9 text (told_entries base file more) (record { offset = dates_at base file + 16; length = 32 }) are refl)
    ∙ finder_told text file base says

dates_are : (text : List ℕ) (file : Parts) (base : ℕ) (more : List Entry) → SaysTold text file base → entries_of text ≡ told_entries base file more
    → option_and_then (dates_in text) (part_of 8 text) ≡ Some (record { created = apple_date file.created; modified = apple_date file.modified })
dates_are text file base more says are =
    ap (option_and_then (dates_in text)) (part_by 8 text (told_entries base file more) (record { offset = dates_at base file; length = 16 }) are refl)
    ∙ dates_told text file base says

fork_told : (id at offset : ℕ) (text fork : List ℕ) → part_of id text ≡ has_bytes (record { offset = offset; length = length fork })
    → take (length fork) (drop offset text) ≡ fork → told_bytes (part_of id text) text ≡ fork
fork_told id at offset text fork is there =
    ap (λ (o : Option Part). told_bytes o text) is ∙ told_part offset (length fork) text fork refl there

-- The places of what is said.

record Laid (text : List ℕ) (file : Parts) (base : ℕ) (rest : List ℕ) : Type 0 where
  says : SaysTold text file base
  after : drop (base + told_length file) text ≡ rest

laid : (text : List ℕ) (file : Parts) (base : ℕ) (rest : List ℕ) → drop base text ≡ told_text file ++ rest → IsFile file
    → is_apple_date file.created ≡ true → is_apple_date file.modified ≡ true → big_from 4 4 text ≡ 131072 → base + told_length file ≤ length text
    → Laid text file base rest
laid text file base rest is bytes created modified version size =
    let n = length file.name in let c = length file.comment in
    let z = big_bytes 2 file.finder.flags ++ (replicate 22 0 ++ rest) in
    let t5 = file.finder.creator ++ z in let t4 = file.finder.kind ++ t5 in
    let t3 = dates_text file ++ t4 in let t2 = file.comment ++ t3 in
    let finder : finder_text file ++ rest ≡ t4 =
    append_assoc file.finder.kind (file.finder.creator ++ (big_bytes 2 file.finder.flags ++ replicate 22 0)) rest
    ∙ ap (λ (xs : List ℕ). file.finder.kind ++ xs) (append_assoc file.finder.creator (big_bytes 2 file.finder.flags ++ replicate 22 0) rest) in
    let d0 : drop base text ≡ file.name ++ t2 =
    is ∙ append_assoc file.name (file.comment ++ (dates_text file ++ finder_text file)) rest
    ∙ ap (λ (xs : List ℕ). file.name ++ xs) (append_assoc file.comment (dates_text file ++ finder_text file) rest
    ∙ ap (λ (xs : List ℕ). file.comment ++ (dates_text file ++ xs)) finder) in
    let d1 = next base n (comment_at base file) text file.name t2 d0 refl refl in
    let d2 = next (comment_at base file) c (dates_at base file) text file.comment t3 d1 refl refl in
    let d2b = next (dates_at base file) 4 (dates_at base file + 4) text (big_bytes 4 (apple_date file.created)) (big_bytes 4 (apple_date file.modified) ++ (big_bytes 4 2147483648 ++ (big_bytes 4 2147483648 ++ t4))) d2 refl refl in
    let d3 = next (dates_at base file) 16 (dates_at base file + 16) text (dates_text file) t4 d2 refl refl in
    let d4 = next (dates_at base file + 16) 4 (dates_at base file + 16 + 4) text file.finder.kind t5 d3 bytes.kind_length refl in
    let d5 = next (dates_at base file + 16 + 4) 4 (dates_at base file + 16 + 8) text file.finder.creator z d4 bytes.creator_length (omega arith) in
    let d6 = next (dates_at base file + 16 + 8) 24 (base + told_length file) text (big_bytes 2 file.finder.flags ++ replicate 22 0) rest d5 refl (omega arith) in
    record {
      says = record {
        version = version;
        name = part_there base n text file.name t2 d0 refl;
        comment = part_there (comment_at base file) c text file.comment t3 d1 refl;
        created = number_there (dates_at base file) 4 (apple_date file.created) text (big_bytes 4 (apple_date file.modified) ++ (big_bytes 4 2147483648 ++ (big_bytes 4 2147483648 ++ t4))) d2 (date_small file.created created);
        modified = number_there (dates_at base file + 4) 4 (apple_date file.modified) text (big_bytes 4 2147483648 ++ (big_bytes 4 2147483648 ++ t4)) d2b (date_small file.modified modified);
        kind = part_there (dates_at base file + 16) 4 text file.finder.kind t5 d3 bytes.kind_length;
        creator = part_there (dates_at base file + 16 + 4) 4 text file.finder.creator z d4 bytes.creator_length;
        flags = number_there (dates_at base file + 16 + 8) 2 file.finder.flags text (replicate 22 0 ++ rest) d5 bytes.flags;
        size = omega arith;
      };
      after = d6;
    }

abbrev pub parts : List ℕ → FinderInfo → ℕ → ℕ → List ℕ → List ℕ → List ℕ → Parts
parts n f a m c d r = record { name = n; finder = f; created = a; modified = m; comment = c; data_fork = d; resource_fork = r }

-- the same fields, the same file
pub fields_same : (n n' c c' d d' r r' : List ℕ) (f f' : FinderInfo) (a a' m m' : ℕ) → n ≡ n' → f ≡ f' → a ≡ a' → m ≡ m' → c ≡ c' → d ≡ d' → r ≡ r'
    → parts n f a m c d r ≡ parts n' f' a' m' c' d' r'
fields_same n n' c c' d d' r r' f f' a a' m m' p q s t u v w = rw (p, q, s, t, u, v, w) refl

length-told : (file : Parts) → IsFile file → length (told_text file) ≡ told_length file
length-told file is =
    let a = length-append file.name (file.comment ++ (dates_text file ++ finder_text file)) in
    let b = length-append file.comment (dates_text file ++ finder_text file) in
    let d = length-append (dates_text file) (finder_text file) in
    let e = length-append file.finder.kind (file.finder.creator ++ (big_bytes 2 file.finder.flags ++ replicate 22 0)) in
    let f = length-append file.finder.creator (big_bytes 2 file.finder.flags ++ replicate 22 0) in
    let dates : length (dates_text file) ≡ 16 = refl in
    let zeros : length (big_bytes 2 file.finder.flags ++ replicate 22 0) ≡ 24 = refl in
    let k = is.kind_length in let c = is.creator_length in omega arith

-- one entry more that lies within
pub none_outside : (total : ℕ) (e : Entry) (entries : List Entry) → e.part.offset + e.part.length ≤ total
    → find (λ (e : Entry). not (lies_within total e.part)) entries ≡ None
    → find (λ (e : Entry). not (lies_within total e.part)) (e ∷ entries) ≡ None
none_outside total e entries inside rest =
    ap (λ (b : Bool). if not b then Some e else find (λ (e : Entry). not (lies_within total e.part)) entries) (lies total e.part inside) ∙ rest

-- no entry of what is said has bytes outside
told_inside : (total : ℕ) (file : Parts) (base : ℕ) (more : List Entry) → base + told_length file ≤ total
    → find (λ (e : Entry). not (lies_within total e.part)) more ≡ None
    → find (λ (e : Entry). not (lies_within total e.part)) (told_entries base file more) ≡ None
told_inside total file base more size rest =
    let e9 = entry 62 9 (dates_at base file + 16) 32 in let e8 = entry 50 8 (dates_at base file) 16 in
    let e4 = entry 38 4 (comment_at base file) (length file.comment) in let e3 = entry 26 3 base (length file.name) in
    let i9 : find (λ (e : Entry). not (lies_within total e.part)) (e9 ∷ more) ≡ None = none_outside total e9 more (omega arith) rest in
    let i8 : find (λ (e : Entry). not (lies_within total e.part)) (e8 ∷ e9 ∷ more) ≡ None = none_outside total e8 (e9 ∷ more) (omega arith) i9 in
    let i4 : find (λ (e : Entry). not (lies_within total e.part)) (e4 ∷ e8 ∷ e9 ∷ more) ≡ None = none_outside total e4 (e8 ∷ e9 ∷ more) (omega arith) i8 in
    none_outside total e3 (e4 ∷ e8 ∷ e9 ∷ more) (omega arith) i4

next_same : (a x : Entry) (bs xs : List Entry) → a ≡ x → bs ≡ xs → (a ∷ bs) ≡ (x ∷ xs)
next_same a x bs xs first rest = rw (first, rest) refl

-- the entries of what is said, as the list begins
told_there : (text rest : List ℕ) (file : Parts) (base : ℕ) (others_there more : List Entry) → drop 26 text ≡ told_places base file ++ rest
    → base + told_length file < 4294967296 → others_there ≡ more
    → (entry_at text 26 ∷ entry_at text 38 ∷ entry_at text 50 ∷ entry_at text 62 ∷ others_there) ≡ told_entries base file more
told_there text rest file base others_there more is small others =
    let p3 = place 3 base (length file.name) in let p4 = place 4 (comment_at base file) (length file.comment) in
    let p8 = place 8 (dates_at base file) 16 in let p9 = place 9 (dates_at base file + 16) 32 in
    let d26 : drop 26 text ≡ p3 ++ (p4 ++ (p8 ++ (p9 ++ rest))) = is in
    let d38 = next 26 12 38 text p3 (p4 ++ (p8 ++ (p9 ++ rest))) d26 refl refl in
    let d50 = next 38 12 50 text p4 (p8 ++ (p9 ++ rest)) d38 refl refl in
    let d62 = next 50 12 62 text p8 (p9 ++ rest) d50 refl refl in
    next_same _ _ _ _ (entry_there 26 3 base (length file.name) text (p4 ++ (p8 ++ (p9 ++ rest))) d26 (omega arith) (omega arith) (omega arith))
    (next_same _ _ _ _ (entry_there 38 4 (comment_at base file) (length file.comment) text (p8 ++ (p9 ++ rest)) d38 (omega arith) (omega arith) (omega arith))
    (next_same _ _ _ _ (entry_there 50 8 (dates_at base file) 16 text (p9 ++ rest) d50 (omega arith) (omega arith) (omega arith))
    (next_same _ _ _ _ (entry_there 62 9 (dates_at base file + 16) 32 text rest d62 (omega arith) (omega arith) (omega arith)) others)))

-- The numbers fit.

pub record FitsApple (file : Parts) (count : ℕ) : Type 0 where
  pub created : is_apple_date file.created ≡ true
  pub modified : is_apple_date file.modified ≡ true
  pub small : count < 4294967296

-- AppleSingle.

pub single_again : (file : Parts) → IsFile file → FitsApple file (98 + told_length file + length file.data_fork + length file.resource_fork)
    → (apple_fault (single_text file) ≡ None) × (parts_of AppleSingle (single_text file) ≡ file)
single_again file is fits =
    let text = single_text file in let d = length file.data_fork in let r = length file.resource_fork in
    let at = 98 + told_length file in let second = at + d in
    let forks = file.data_fork ++ file.resource_fork in
    let front = head 0 6 ++ (told_places 98 file ++ (place 1 at d ++ place 2 second r)) in
    let total : length text ≡ 98 + length (told_text file ++ forks) = length-append front (told_text file ++ forks) in
    let told_parts = length-append (told_text file) forks in
    let both = length-append file.data_fork file.resource_fork in
    let told_size = length-told file is in
    let small = fits.small in
    let size : length text ≡ second + r = omega arith in
    let lay : Laid text file 98 forks = laid text file 98 forks refl is fits.created fits.modified refl (omega arith) in
    let more : List Entry = entry 74 1 at d ∷ entry 86 2 second r ∷ [] in
    let rest = place 2 second r ++ (told_text file ++ forks) in
    let d74 : drop 74 text ≡ place 1 at d ++ rest = refl in
    let d86 : drop 86 text ≡ place 2 second r ++ (told_text file ++ forks) = refl in
    let are : entries_of text ≡ told_entries 98 file more =
    told_there text (place 1 at d ++ rest) file 98 (entry_at text 74 ∷ entry_at text 86 ∷ []) more refl (omega arith)
    (next_same _ _ _ _ (entry_there 74 1 at d text rest d74 (omega arith) (omega arith) (omega arith))
    (next_same _ _ _ _ (entry_there 86 2 second r text (told_text file ++ forks) d86 (omega arith) (omega arith) (omega arith)) refl)) in
    let inside : find (λ (e : Entry). not (lies_within (length text) e.part)) (told_entries 98 file more) ≡ None =
    told_inside (length text) file 98 more (omega arith)
    (none_outside (length text) (entry 74 1 at d) (entry 86 2 second r ∷ []) (omega arith) (none_outside (length text) (entry 86 2 second r) [] (omega arith) refl)) in
    let has : HasEntries text (told_entries 98 file more) = record { are = are; list = (let long : 98 ≤ length text = omega arith in long); inside = inside } in
    let there : take d (drop at text) ≡ file.data_fork = part_there at d text file.data_fork file.resource_fork lay.after refl in
    let last = next at d second text file.data_fork file.resource_fork lay.after refl refl in
    let resource_there : take r (drop second text) ≡ file.resource_fork = part_there second r text file.resource_fork [] (last ∙ sym (append-nil file.resource_fork)) refl in
    let name = name_told text file 98 more lay.says are in
    let comment = comment_told text file 98 more lay.says are in
    let finder = finder_is text file 98 more lay.says are in
    let dates = dates_are text file 98 more lay.says are in
    let data_told = fork_told 1 74 at text file.data_fork (part_by 1 text (told_entries 98 file more) (record { offset = at; length = d }) are refl) there in
    let resource = fork_told 2 86 second text file.resource_fork (part_by 2 text (told_entries 98 file more) (record { offset = second; length = r }) are refl) resource_there in
    let created = date_again file.created fits.created in let modified = date_again file.modified fits.modified in (
      whole text (told_entries 98 file more) (omega arith) refl has,
      fields_same _ _ _ _ _ _ _ _ _ _ _ _ _ _ name (ap (λ (o : Option FinderInfo). unwrap_or o no_finder) finder)
          (ap (created_in AppleSingle) dates ∙ created) (ap (modified_in AppleSingle) dates ∙ modified) comment data_told resource,
    )
