-- A file that is a resource fork, of which only some parts are read.
use Rattle.std.proofs.Common.{◌≡◌, ◌∙◌, ◌⊎◌, min, refl, sym, ap, subst, inl, inr, ℕ, zero, suc, ◌≤◌, Bool, true, false, List, [], ◌∷◌, length, take, Option, None, Some, Result, Ok, Err, arith}
use Rattle.std.specs.Prelude.{◌<◌, ◌&&◌, ◌||◌, not, is_none, is_some, slice_get, option_map, if◌then◌else◌, ⊤, MatchOption}
use Rattle.std.specs.List.{AllByRecursion, filter}
use Rattle.std.proofs.lemmas.Bool.{and_right, cases_lt, cond-true, lt-leb}
use Rattle.std.proofs.lemmas.List.{take_all}
use Rattle.fork_bytes.specs.declared.fault.ForkFault.{ForkFault}
use Rattle.fork_bytes.specs.declared.table.Table.{Table}
use Rattle.fork_bytes.specs.Fork.{bytes_at, format_limits}
use Rattle.fork_disk.specs.declared.store.ForkStore.{Ghosts}
use Rattle.fork_disk.specs.Disk.{Rose}
use Rattle.fork_list.specs.declared.find.Wanted.{Wanted}
use Rattle.fork_list.specs.Compressed.{has_marked, unpacked_length}
use Rattle.fork_list.specs.Find.{is_wanted}
use Rattle.fork_list.specs.Listing.{listing}
use Rattle.fork_list.specs.Types.{type_lines}
use Rattle.fork_list.proofs.Placed.{place_size, place_unpacked, listing_at, type_lines_at, wanted_at}
use Rattle.fork_bytes.specs.Reading.{PlacedRow, IsWithin, row_at}
use Rattle.fork_rows.specs.Opening.{OpensAsWithin, Reads, filled}
use Rattle.fork_rows.specs.declared.fault.OpenFault.TheVariants.{Fork}
use Rattle.fork_rows.specs.declared.table.PlacedTable.{PlacedTable}
use Rattle.fork_rows.proofs.Kept.{read_twice}
use Rattle.mac_files.specs.declared.archive.Archive.{Archive}
use Rattle.mac_files.specs.declared.container.Container.{Container}
use Rattle.mac_files.specs.declared.container.Container.TheVariants.{Raw}
use Rattle.mac_files.specs.declared.kind.FileKind.TheVariants.{Container as In}
use Rattle.mac_files.specs.Archives.{archive_of}
use Rattle.mac_files.specs.BinHex.{comment_of, is_bin_hex}
use Rattle.mac_files.specs.Containers.{container_of, has_fork_parts, is_fork_header, is_raw, is_raw_by}
use Rattle.mac_files.specs.Kinds.{first_kind}
use Rattle.mac_files.specs.OldFiles.{fork_said, read_as}
use Rattle.mac_files.proofs.Alone.{alone_fork}
use Rattle.mac_files.proofs.Known.{raw}
use Rattle.fork_answer.specs.Answer.{Answers, IsAsked, Shows, Writes, wanted_row}
use Rattle.fork_answer.specs.InParts.{HasRows, IsForkWith, IsNoForkWith, IsReadAs, IsReadWhole, Never, ShowsRows}
use Rattle.fork_answer.specs.Source.{IsForkIn}
use Rattle.fork_answer.specs.declared.answer.Failure.{Failure}
use Rattle.fork_answer.specs.declared.answer.Failure.TheVariants as failure
use Rattle.fork_answer.specs.declared.request.Choice.{Choice}
use Rattle.fork_answer.specs.declared.request.Request.{Request}
use Rattle.fork_answer.specs.declared.request.Request.TheVariants as request

-- a text that was written is what was asked for
pub shows : {T : Type 0} (asked : Request) (table : Table) (text : List ℕ) (old new : Option (List ℕ)) (result : Result T Failure)
    → IsAsked asked table text → Writes text old new result → Shows asked table old new result
shows asked table text old new (Ok done) is wrote = (text, is, wrote)
shows asked table text old new (Err failure.NotFound) is wrote = absurd wrote
shows asked table text old new (Err failure.HostFull) is wrote = tt
shows asked table text old new (Err (failure.Write fault)) is wrote = (text, is, wrote)
shows asked table text old new (Err (failure.Fork fault)) is wrote = absurd wrote
shows asked table text old new (Err (failure.NoFork fault)) is wrote = absurd wrote

-- a file is known by its length and its first bytes, of which 128 were read, or all
front_read : (file : List ℕ) (n : ℕ) → n ≡ min 128 (length file) → bytes_at n 0 file ≡ take 128 file
front_read file n is = elim (cases_lt 128 (length file)) [
  | inl long ↦ let whole : n ≡ 128 = omega (arith, is, long) in ap (λ (k : ℕ). take k file) whole
  | inr short ↦ take_all n file (omega (arith, is, short)) ∙ sym (take_all 128 file (omega arith))
]

pub known_by_front : (file front : List ℕ) (size n : ℕ) → size ≡ length file → n ≡ min 128 size → front ≡ bytes_at n 0 file → is_raw_by size front ≡ is_raw file
known_by_front file front size n count is read =
    let same : n ≡ min 128 (length file) = is ∙ ap (min 128) count in
    ap (is_raw_by size) (read ∙ front_read file n same) ∙ ap (λ (k : ℕ). is_raw_by k (take 128 file)) count ∙ raw file

-- what is shorter than a header isn't known
not_raw : (file : List ℕ) → length file < 16 → is_raw file ≡ false
unfolding is_fork_header has_fork_parts
not_raw file short = rw (lt-leb 16 (length file) short) (and_right _ _ refl)

pub is_long : (file : List ℕ) → is_raw file ≡ true → 16 ≤ length file
is_long file is = elim (cases_lt (length file) 16) [
  | inl short ↦ let never : false ≡ true = sym (not_raw file short) ∙ is in absurd (cc never)
  | inr long ↦ long
]

-- the fork in a file that is known as a fork is the whole of it
known_fork : (file : List ℕ) → 16 ≤ length file → container_of file ≡ Some Raw → IsForkIn file file
known_fork file long is =
    let P : Option Container → Type 0 = λ known. fork_said (read_as (first_kind known (is_bin_hex file) (archive_of file)) file) ≡ Ok (Some file) in
    subst P (sym is) (alone_fork (In Raw) file (omega (arith, long)) refl)

-- what has a header and is in no container isn't BinHex
known_elsewhere : (file : List ℕ) → 16 ≤ length file → container_of file ≡ None → has_fork_parts (length file) file ≡ true → IsForkIn file file
known_elsewhere file long none parts =
    let P : Option Container → Type 0 = λ known. fork_said (read_as (first_kind known (is_bin_hex file) (archive_of file)) file) ≡ Ok (Some file) in
    let Q : Bool → Type 0 = λ text. fork_said (read_as (first_kind None text (archive_of file)) file) ≡ Ok (Some file) in
    let no_text : is_bin_hex file ≡ false = ap (λ (b : Bool). not b && is_some (comment_of file)) parts in
    subst P (sym none) (subst Q (sym no_text) (elsewhere (archive_of file)))
  where
    elsewhere : (archive : Option Archive) → fork_said (read_as (first_kind None false archive) file) ≡ Ok (Some file)
    elsewhere None = refl
    elsewhere (Some archive) = refl

pub is_fork_in : (file : List ℕ) → 16 ≤ length file → is_raw file ≡ true → IsForkIn file file
is_fork_in file long is = by_header (is_fork_header file) (container_of file) refl refl is
  where
    by_header : (header : Bool) (known : Option Container) → is_fork_header file ≡ header → container_of file ≡ known
        → (header || (is_none known && has_fork_parts (length file) file)) ≡ true → IsForkIn file file
    by_header true known header other is = known_fork file long (cond-true _ _ _ header)
    by_header false None header none is = known_elsewhere file long none is
    by_header false (Some container) header some is = absurd (cc is)

-- a file that is known as a fork, which was opened
pub is_fork_with : (file : List ℕ) (table : PlacedTable) → is_raw file ≡ true → OpensAsWithin format_limits (Ok table) file → IsForkWith file table.rows
is_fork_with file table is opens = record {
  fork = is_fork_in file (is_long file is) is;
  table = (filled file table, opens.table, refl);
  within = opens.within;
}

-- or isn't, since its bytes stand for no table
pub is_no_fork_with : (file : List ℕ) (fault : ForkFault) → is_raw file ≡ true → OpensAsWithin format_limits (Err (Fork fault)) file → IsNoForkWith file fault
is_no_fork_with file fault is opens = record {
  fork = is_fork_in file (is_long file is) is;
  some = λ none. (let long = is_long file is in let count = ap (λ (bytes : List ℕ). length bytes) none in omega (arith, long, count));
  refuses = opens.refuses;
}

-- what is shown of its rows answers for the file
pub answers : {T : Type 0} (file : List ℕ) (rows : List PlacedRow) (asked : Request) (old new : Option (List ℕ)) (result : Result T Failure)
    → IsForkWith file rows → ShowsRows asked rows old new file result → Answers asked file old new result
answers file rows asked old new result is shown = inl (file, is.fork, inl (is.table.0, inr is.table.1, shown is.table.0 is.table.2))

-- what was read is a table's rows, or a fault
pub read_rows : (file : List ℕ) (read : Result (List PlacedRow) ForkFault) (rows : List PlacedRow) → IsReadAs file read → read ≡ Ok rows → IsForkWith file rows
read_rows file read rows told is = let P : Result (List PlacedRow) ForkFault → Type 0 = IsReadAs file in subst P is told

pub read_fault : (file : List ℕ) (read : Result (List PlacedRow) ForkFault) (fault : ForkFault) → IsReadAs file read → read ≡ Err fault → IsNoForkWith file fault
read_fault file read fault told is = let P : Result (List PlacedRow) ForkFault → Type 0 = IsReadAs file in subst P is told

pub refuses : (file : List ℕ) (fault : ForkFault) (asked : Request) (old new : Option (List ℕ)) → IsNoForkWith file fault
    → Answers asked file old new (let result : Result ⊤ Failure = Err (failure.Fork fault) in result)
refuses file fault asked old new is = inl (file, is.fork, inr (fault, is.some, is.refuses, refl))

-- a store is read, and read again
pub reads_twice : {S : Type 0} (store : Ghosts S) (start middle last : S) (P Q R : List ℕ → Type 0) → Reads store start middle P → Reads store middle last Q
    → ((file : List ℕ) → P file → Q file → R file) → Reads store start last R
reads_twice store start middle last P Q R one other both = record {
  keeps = read_twice store start middle last one.keeps other.keeps;
  told = both (store.fork start) one.told (subst Q one.keeps.same other.told);
}

-- the same text was written
pub writes_same : {T : Type 0} (text other : List ℕ) (old new : Option (List ℕ)) (result : Result T Failure) → text ≡ other → Writes text old new result → Writes other old new result
writes_same {T} text other old new result same wrote = let P : List ℕ → Type 0 = λ bytes. Writes bytes old new result in subst P same wrote

-- the list and that of types, of rows with places
list_shows : {T : Type 0} (file : List ℕ) (choice : Choice) (rows : List PlacedRow) (old new : Option (List ℕ)) (result : Result T Failure) → AllByRecursion (IsWithin file) rows → has_marked rows ≡ false
    → Writes (listing place_size place_unpacked choice.letters choice.kinds.items rows) old new result → ShowsRows (request.List choice) rows old new file result
list_shows file choice rows old new result within plain wrote table has =
    let same = ap (listing length unpacked_length choice.letters choice.kinds.items) has ∙ listing_at file choice.letters choice.kinds.items rows within plain in
    shows (request.List choice) table _ old new result (sym same) wrote

types_show : {T : Type 0} (file : List ℕ) (choice : Choice) (rows : List PlacedRow) (old new : Option (List ℕ)) (result : Result T Failure)
    → Writes (type_lines choice.letters choice.kinds.items rows None rows) old new result → ShowsRows (request.Types choice) rows old new file result
types_show file choice rows old new result wrote table has =
    let same = ap (λ (all : List _). type_lines choice.letters choice.kinds.items all None all) has ∙ type_lines_at file choice.letters choice.kinds.items rows None rows in
    shows (request.Types choice) table _ old new result (sym same) wrote

-- what was asked for is a list, or a list of types
pub list_answers : {T : Type 0} (file : List ℕ) (rows listed : List PlacedRow) (asked : Request) (choice : Choice) (old new : Option (List ℕ)) (result : Result T Failure)
    → IsForkWith file rows → asked ≡ request.List choice → listed ≡ rows → has_marked listed ≡ false
    → Writes (listing place_size place_unpacked choice.letters choice.kinds.items listed) old new result → Answers asked file old new result
list_answers file rows listed asked choice old new result is asks same plain wrote =
    let P : Request → Type 0 = λ other. Answers other file old new result in
    let text = writes_same _ _ old new result (ap (listing place_size place_unpacked choice.letters choice.kinds.items) same) wrote in
    let none = ap (λ (all : List PlacedRow). has_marked all) (sym same) ∙ plain in
    subst P (sym asks) (answers file rows (request.List choice) old new result is (list_shows file choice rows old new result is.within none text))

-- all of the file has to be read for a list in which a resource may be compressed
pub list_left : (file : List ℕ) (rows listed : List PlacedRow) (asked : Request) (choice : Choice)
    → IsForkWith file rows → asked ≡ request.List choice → listed ≡ rows → has_marked listed ≡ true → IsReadWhole asked file
list_left file rows listed asked choice is asks same marked =
    let P : Request → Type 0 = λ other. IsReadWhole other file in
    subst P (sym asks) (inr (rows, is, ap (λ (all : List PlacedRow). has_marked all) (sym same) ∙ marked))

pub types_answer : {T : Type 0} (file : List ℕ) (rows listed : List PlacedRow) (asked : Request) (choice : Choice) (old new : Option (List ℕ)) (result : Result T Failure)
    → IsForkWith file rows → asked ≡ request.Types choice → listed ≡ rows → Writes (type_lines choice.letters choice.kinds.items listed None listed) old new result → Answers asked file old new result
types_answer file rows listed asked choice old new result is asks same wrote =
    let P : Request → Type 0 = λ other. Answers other file old new result in
    let text = writes_same _ _ old new result (ap (λ (all : List PlacedRow). type_lines choice.letters choice.kinds.items all None all) same) wrote in
    subst P (sym asks) (answers file rows (request.Types choice) old new result is (types_show file choice rows old new result text))

-- or a resource, of which nothing is said where a read failed
pub get_answers : {T : Type 0} (file : List ℕ) (rows listed : List PlacedRow) (asked : Request) (wanted : Wanted) (old new : Option (List ℕ)) (start middle last : ℕ) (shown : Option (Result T Failure))
    → middle ≡ start → IsForkWith file rows → asked ≡ request.Get wanted → listed ≡ rows → MatchOption shown (Never file ⊎ Rose middle last) (ShowsRows (request.Get wanted) listed old new file)
    → MatchOption shown (IsReadWhole asked file ⊎ Rose start last) (Answers asked file old new)
get_answers file rows listed asked wanted old new start middle last None calm is asks same (inl never) = absurd never
get_answers file rows listed asked wanted old new start middle last None calm is asks same (inr rose) = let P : ℕ → Type 0 = λ n. Rose n last in inr (subst P calm rose)
get_answers file rows listed asked wanted old new start middle last (Some result) calm is asks same shows =
    let P : Request → Type 0 = λ other. Answers other file old new result in
    let Q : List PlacedRow → Type 0 = λ all. ShowsRows (request.Get wanted) all old new file result in
    subst P (sym asks) (answers file rows (request.Get wanted) old new result is (subst Q same shows))

-- the row that is wanted
wanted_in : (file : List ℕ) (wanted : Wanted) (rows : List PlacedRow) (table : Table) → HasRows file rows table
    → wanted_row wanted table.rows ≡ option_map (row_at file) (wanted_row wanted rows)
wanted_in file wanted rows table has =
    ap (λ (all : List _). slice_get (filter (is_wanted wanted) all) wanted.nth) has ∙ wanted_at file wanted rows wanted.nth

pub found_shows : {T : Type 0} (file : List ℕ) (wanted : Wanted) (rows : List PlacedRow) (row : PlacedRow) (old new : Option (List ℕ)) (result : Result T Failure)
    → wanted_row wanted rows ≡ Some row → Writes (row_at file row).datum old new result → ShowsRows (request.Get wanted) rows old new file result
found_shows file wanted rows row old new result found wrote table has =
    shows (request.Get wanted) table _ old new result (row_at file row, wanted_in file wanted rows table has ∙ ap (option_map (row_at file)) found, refl) wrote

pub none_lacks : (file : List ℕ) (wanted : Wanted) (rows : List PlacedRow) (table : Table) → HasRows file rows table
    → wanted_row wanted rows ≡ None → wanted_row wanted table.rows ≡ None
none_lacks file wanted rows table has none = wanted_in file wanted rows table has ∙ ap (option_map (row_at file)) none

-- the row that is found is one of the rows
filter_within : (file : List ℕ) (wanted : Wanted) (rows : List PlacedRow) → AllByRecursion (IsWithin file) rows → AllByRecursion (IsWithin file) (filter (is_wanted wanted) rows)
filter_within file wanted [] within = tt
filter_within file wanted (row ∷ rows) within = kept (is_wanted wanted row) (filter_within file wanted rows within.1)
  where
    kept : (b : Bool) → AllByRecursion (IsWithin file) (filter (is_wanted wanted) rows)
        → AllByRecursion (IsWithin file) (if b then row ∷ filter (is_wanted wanted) rows else filter (is_wanted wanted) rows)
    kept true rest = (within.0, rest)
    kept false rest = rest

get_within : (file : List ℕ) (rows : List PlacedRow) (n : ℕ) (row : PlacedRow) → AllByRecursion (IsWithin file) rows → slice_get rows n ≡ Some row → IsWithin file row
get_within file [] n row within found = absurd (cc found)
get_within file (first ∷ rows) zero row within found = let P : PlacedRow → Type 0 = IsWithin file in let is : first ≡ row = cc in subst P is within.0
get_within file (first ∷ rows) (suc n) row within found = get_within file rows n row within.1 found

pub wanted_within : (file : List ℕ) (wanted : Wanted) (rows : List PlacedRow) (row : PlacedRow) → AllByRecursion (IsWithin file) rows → wanted_row wanted rows ≡ Some row → IsWithin file row
wanted_within file wanted rows row within found = get_within file (filter (is_wanted wanted) rows) wanted.nth row (filter_within file wanted rows within) found
