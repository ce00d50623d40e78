-- What is listed and found of rows is the same with their bytes, and with the places of these.
use Rattle.std.proofs.Common.{◌≡◌, ◌∙◌, refl, sym, ap, ℕ, Bool, true, false, List, [], ◌∷◌, ◌++◌, length, map, take, Option, Some, None, arith}
use Rattle.std.specs.Prelude.{◌+◌, ◌*◌, ◌&&◌, ◌||◌, not, nat_lt, slice_index, if◌then◌else◌, cond, bytes_eq, count_by, slice_get, option_map}
use Rattle.std.specs.List.{AllByRecursion, filter, flat_map}
use Rattle.std.proofs.lemmas.Bool.{or_parts}
use Rattle.std.proofs.lemmas.List.Sums.{sum_by-cons}
use Rattle.std.proofs.lemmas.Option.{slice_get-map}
use Rattle.fork_list.specs.declared.letters.Letters.{Letters}
use Rattle.fork_bytes.specs.Rows.{Row}
use Rattle.fork_bytes.specs.Reading.{PlacedRow, IsWithin, row_at}
use Rattle.fork_bytes.specs.declared.place.Place.{Place}
use Rattle.fork_bytes.proofs.Placing.{length-part}
use Rattle.fork_list.specs.declared.find.Key.{Key}
use Rattle.fork_list.specs.declared.find.Key.TheVariants.{Id, Name}
use Rattle.fork_list.specs.declared.find.Wanted.{Wanted}
use Rattle.fork_list.specs.Compressed.{has_marked, is_plain, signature, unpacked_length}
use Rattle.fork_list.specs.Find.{has_key, is_wanted}
use Rattle.fork_list.specs.Listing.{cells_text, is_chosen, listing, row_line}
use Rattle.fork_list.specs.Types.{type_line, type_lines}

-- how many bytes are at a place
abbrev pub place_size : Place → ℕ
place_size place = place.length

-- nothing is known there of what a compressed resource has unpacked
abbrev pub place_unpacked : ℕ → Place → Option ℕ
place_unpacked attributes place = None

-- what isn't marked isn't compressed
unmarked : (attributes : ℕ) (bytes : List ℕ) → not (is_plain attributes) ≡ false → unpacked_length attributes bytes ≡ None
unmarked attributes bytes plain = known (is_plain attributes) plain
  where
    known : (b : Bool) → not b ≡ false
        → (if b || nat_lt (length bytes) 12 then None
        else if not (bytes_eq (take 4 bytes) signature) then None
        else Some ((slice_index bytes 8 * 256 + slice_index bytes 9) * 65536 + (slice_index bytes 10 * 256 + slice_index bytes 11))) ≡ None
    known true is = refl
    known false is = absurd (cc is)

line_at : (file : List ℕ) (letters : Letters) (kinds : List (List ℕ)) (row : PlacedRow) → IsWithin file row → not (is_plain row.attributes.0) ≡ false
    → row_line length unpacked_length letters kinds (row_at file row) ≡ row_line place_size place_unpacked letters kinds row
line_at file letters kinds row within plain =
    ap (λ (u : Option ℕ). if is_chosen kinds row.kind then cells_text letters row.kind row.id (length (row_at file row).datum) row.attributes row.name u ++ 10 ∷ [] else [])
    (unmarked row.attributes.0 (row_at file row).datum plain)
    ∙ ap (λ (n : ℕ). if is_chosen kinds row.kind then cells_text letters row.kind row.id n row.attributes row.name None ++ 10 ∷ [] else [])
    (length-part row.datum.length row.datum.offset file within)

-- the list, where none may be compressed
pub listing_at : (file : List ℕ) (letters : Letters) (kinds : List (List ℕ)) (rows : List PlacedRow) → AllByRecursion (IsWithin file) rows → has_marked rows ≡ false
    → listing length unpacked_length letters kinds (map (row_at file) rows) ≡ listing place_size place_unpacked letters kinds rows
listing_at file letters kinds [] within plain = refl
listing_at file letters kinds (row ∷ rows) within plain =
    ap (λ (line : List ℕ). line ++ listing length unpacked_length letters kinds (map (row_at file) rows)) (line_at file letters kinds row within.0 (or_parts _ _ plain).0)
    ∙ ap (λ (rest : List ℕ). row_line place_size place_unpacked letters kinds row ++ rest) (listing_at file letters kinds rows within.1 (or_parts _ _ plain).1)

-- how many rows have a type
count_at : (file : List ℕ) (kind : List ℕ) (rows : List PlacedRow) → count_by (λ (row : Row). bytes_eq row.kind kind) (map (row_at file) rows) ≡ count_by (λ (row : PlacedRow). bytes_eq row.kind kind) rows
count_at file kind [] = refl
count_at file kind (row ∷ rows) =
    sum_by-cons (λ (r : Row). cond (bytes_eq r.kind kind) 1 0) (row_at file row) (map (row_at file) rows)
    ∙ ap (λ (n : ℕ). cond (bytes_eq row.kind kind) 1 0 + n) (count_at file kind rows)
    ∙ sym (sum_by-cons (λ (r : PlacedRow). cond (bytes_eq r.kind kind) 1 0) row rows)

type_line_at : (file : List ℕ) (letters : Letters) (kinds : List (List ℕ)) (all : List PlacedRow) (before : Option (List ℕ)) (kind : List ℕ)
    → type_line letters kinds (map (row_at file) all) before kind ≡ type_line letters kinds all before kind
type_line_at file letters kinds all before kind = rw (count_at file kind all) refl

-- the list of types
pub type_lines_at : (file : List ℕ) (letters : Letters) (kinds : List (List ℕ)) (all : List PlacedRow) (before : Option (List ℕ)) (rows : List PlacedRow)
    → type_lines letters kinds (map (row_at file) all) before (map (row_at file) rows) ≡ type_lines letters kinds all before rows
type_lines_at file letters kinds all before [] = refl
type_lines_at file letters kinds all before (row ∷ rows) =
    ap (λ (line : List ℕ). line ++ type_lines letters kinds (map (row_at file) all) (Some row.kind) (map (row_at file) rows)) (type_line_at file letters kinds all before row.kind)
    ∙ ap (λ (rest : List ℕ). type_line letters kinds all before row.kind ++ rest) (type_lines_at file letters kinds all (Some row.kind) rows)

same_key : (file : List ℕ) (key : Key) (row : PlacedRow) → has_key key (row_at file row) ≡ has_key key row
same_key file (Id id) row = refl
same_key file (Name name) row = refl

first_kept : {X Y : Type 0} (f : X → Y) (b : Bool) (x : X) (xs : List X) → cond b (f x ∷ map f xs) (map f xs) ≡ map f (cond b (x ∷ xs) xs)
first_kept f true x xs = refl
first_kept f false x xs = refl

filter_at : (file : List ℕ) (wanted : Wanted) (rows : List PlacedRow) → filter (is_wanted wanted) (map (row_at file) rows) ≡ map (row_at file) (filter (is_wanted wanted) rows)
filter_at file wanted [] = refl
filter_at file wanted (row ∷ rows) =
    ap (λ (b : Bool). let rest = filter (is_wanted wanted) (map (row_at file) rows) in cond (bytes_eq row.kind wanted.kind && b) (row_at file row ∷ rest) rest) (same_key file wanted.key row)
    ∙ ap (λ (rest : List Row). cond (is_wanted wanted row) (row_at file row ∷ rest) rest) (filter_at file wanted rows)
    ∙ first_kept (row_at file) (is_wanted wanted row) row (filter (is_wanted wanted) rows)

-- the row that is wanted
pub wanted_at : (file : List ℕ) (wanted : Wanted) (rows : List PlacedRow) (n : ℕ)
    → slice_get (filter (is_wanted wanted) (map (row_at file) rows)) n ≡ option_map (row_at file) (slice_get (filter (is_wanted wanted) rows) n)
wanted_at file wanted rows n = ap (λ (found : List Row). slice_get found n) (filter_at file wanted rows) ∙ slice_get-map (row_at file) (filter (is_wanted wanted) rows) n
