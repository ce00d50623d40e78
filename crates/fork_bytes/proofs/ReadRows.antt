-- The rows of a written map are read as they were written: their references and their names.
use Rattle.std.proofs.Common.{◌≡◌, ℕ, ◌+◌, ◌<◌, ◌≤◌, ◌==◌, Bool, false, ℤ, pos, negsuc, List, [], ◌∷◌, ◌++◌, length, map, drop, slice_index, Option, None, Some, IfSome, FitsSigned, refl, sym, subst, ap, ◌∙◌, arith, if◌then◌else◌}
use Rattle.std.specs.List.{AllByRecursion}
use Rattle.std.specs.Int.{w16, cast_signed, cast_unsigned}
use Rattle.std.proofs.lemmas.Int.{to_z-of_z}
use Rattle.std.proofs.lemmas.Bool.{ne_eqb}
use Rattle.std.proofs.lemmas.List.{append_assoc, length-append}
use Rattle.byteorder.specs.Endian.{big_bytes}
use Rattle.mac_base.specs.declared.resource.ResAttrs.{ResAttrs}
use Rattle.fork_bytes.specs.Rows.{Row, MapRow}
use Rattle.fork_bytes.specs.Fork.{Reference, number_at, bytes_at, name_list, name_place, name_at, map_row}
use Rattle.fork_bytes.specs.Written.{datum, name_text, names_text, name_offset, reference_text, references_text, NamesFit, PlacesFit}
use Rattle.fork_bytes.specs.Laws.{IsRow}
use Rattle.fork_bytes.proofs.Entries.{datum_long}
use Rattle.fork_bytes.proofs.ReadBack.{number_in, bytes_in, byte_in, after, length-after}
use Rattle.fork_bytes.proofs.ReadEntries.{references_for}
use Rattle.fork_bytes.proofs.ReadData.{row_at, rows_for}

-- the name that an offset in the name list gives
abbrev name_told : List ℕ → ℕ → Option (List ℕ)
name_told resource_map offset = name_at resource_map (if offset == 65535 then None else Some (name_list resource_map + offset))

-- a name
name_is : (resource_map early late : List ℕ) (next base : ℕ) (name : Option (List ℕ)) →
    resource_map ≡ early ++ (name_text name ++ late) → length early ≡ base + next → name_list resource_map ≡ base →
    IfSome name (λ _. next ≤ 65534) → name_told resource_map (name_offset next name) ≡ name
name_is resource_map early late next base None is long start low = refl
name_is resource_map early late next base (Some bytes) is long start low =
    let some : (next == 65535) ≡ false = ne_eqb next 65535 (λ e. absurd (omega arith)) in
    let place : name_list resource_map + next ≡ base + next = omega arith in
    let size : slice_index resource_map (base + next) ≡ length bytes =
    ap (λ (xs : List ℕ). slice_index xs (base + next)) is ∙ byte_in (base + next) (length bytes) early (bytes ++ late) long in
    let after_size = after resource_map early (length bytes ∷ []) (bytes ++ late) is in
    let told : List ℕ → Option (List ℕ) = λ found. Some found in
    ap (λ (b : Bool). name_at resource_map (if b then None else Some (name_list resource_map + next))) some
    ∙ ap (λ (n : ℕ). name_at resource_map (Some n)) place
    ∙ ap (λ (n : ℕ). told (bytes_at n (base + next + 1) resource_map)) size
    ∙ ap (λ (xs : List ℕ). told (bytes_at (length bytes) (base + next + 1) xs)) after_size
    ∙ ap told (bytes_in (length bytes) (base + next + 1) (early ++ (length bytes ∷ [])) bytes late (length-after (base + next) 1 early (length bytes ∷ []) long refl) refl)

-- where there is one, the name lies within the map
abbrev IsWithin : List ℕ → ℕ → Type 0
IsWithin resource_map offset =
    IfSome (if offset == 65535 then None else Some (name_list resource_map + offset)) (λ at. at + 1 + slice_index resource_map at ≤ length resource_map)

name_within : (resource_map early late : List ℕ) (next base : ℕ) (name : Option (List ℕ)) →
    resource_map ≡ early ++ (name_text name ++ late) → length early ≡ base + next → name_list resource_map ≡ base →
    IfSome name (λ _. next ≤ 65534) → IsWithin resource_map (name_offset next name)
name_within resource_map early late next base None is long start low = tt
name_within resource_map early late next base (Some bytes) is long start low =
    let some : (next == 65535) ≡ false = ne_eqb next 65535 (λ e. absurd (omega arith)) in
    let place : name_list resource_map + next ≡ base + next = omega arith in
    let size : slice_index resource_map (base + next) ≡ length bytes =
    ap (λ (xs : List ℕ). slice_index xs (base + next)) is ∙ byte_in (base + next) (length bytes) early (bytes ++ late) long in
    let all = ap (λ (xs : List ℕ). length xs) is ∙ length-append early (length bytes ∷ (bytes ++ late)) in
    let rest = length-append bytes late in
    let P : ℕ → Type 0 = λ at. at + 1 + slice_index resource_map at ≤ length resource_map in
    let Q : Bool → Type 0 = λ b. IfSome (if b then None else Some (name_list resource_map + next)) P in
    let within : P (base + next) = omega arith in
    subst Q (sym some) (subst P (sym place) within)

-- the same parts are the same row
abbrev row_of : List ℕ → ℤ → Option (List ℕ) → ResAttrs → ℕ → MapRow
row_of kind id name attributes place = record { kind = kind; id = id; name = name; attributes = attributes; datum = place }

abbrev attributes_with : ℕ → ResAttrs
attributes_with bits = record { 0 = bits }

same_row : (kind : List ℕ) (a p : ℤ) (b q : Option (List ℕ)) (c r d s : ℕ) → a ≡ p → b ≡ q → c ≡ r → d ≡ s →
    row_of kind a b (attributes_with c) d ≡ row_of kind p q (attributes_with r) s
same_row kind a p b q c r d s first second third fourth =
    ap (λ (x : ℤ). row_of kind x b (attributes_with c) d) first ∙ ap (λ (x : Option (List ℕ)). row_of kind p x (attributes_with c) d) second
    ∙ ap (λ (x : ℕ). row_of kind p q (attributes_with x) d) third ∙ ap (λ (x : ℕ). row_of kind p q (attributes_with r) x) fourth

-- the bits of an id are two bytes
unsigned_low : (id : ℤ) → FitsSigned w16 id → cast_unsigned w16 id < 65536
unsigned_low (pos n) fits = let low = fits.sfits in omega arith
unsigned_low (negsuc n) fits = let low = fits.sfits in omega arith

-- the offset of a name is small
offset_low : (next : ℕ) (name : Option (List ℕ)) → IfSome name (λ _. next ≤ 65534) → name_offset next name < 65536
offset_low next None low = omega arith
offset_low next (Some bytes) low = omega arith

-- what is in the map for a row, and what is known of the row
pub record Stands (resource_map before rest early late : List ℕ) (at next place base : ℕ) (row : Row) : Type 0 where
  pub is : resource_map ≡ before ++ (reference_text next place row ++ rest)
  pub long : length before ≡ at
  pub names : resource_map ≡ early ++ (name_text row.name ++ late)
  pub long_names : length early ≡ base + next
  pub start : name_list resource_map ≡ base
  pub id : FitsSigned w16 row.id
  pub low : IfSome row.name (λ _. next ≤ 65534)
  pub few : place < 16777216

-- the offset of a row's name
offset_is : (resource_map before rest early late : List ℕ) (at next place base : ℕ) (row : Row) → Stands resource_map before rest early late at next place base row →
    number_at 2 (at + 2) resource_map ≡ name_offset next row.name
offset_is resource_map before rest early late at next place base row s =
    let id = big_bytes 2 (cast_unsigned w16 row.id) in let whole = reference_text next place row ++ rest in
    ap (number_at 2 (at + 2)) (after resource_map before id (drop 2 whole) s.is)
    ∙ number_in 2 (name_offset next row.name) (at + 2) (before ++ id) (drop 4 whole) (length-after at 2 before id s.long refl) (offset_low next row.name s.low)

-- one row
row_is : (resource_map before rest early late : List ℕ) (at next place base : ℕ) (row : Row) → Stands resource_map before rest early late at next place base row →
    map_row resource_map (record { kind = row.kind; place = at }) ≡ row_at place row
row_is resource_map before rest early late at next place base row s =
    let whole = reference_text next place row ++ rest in
    let id = big_bytes 2 (cast_unsigned w16 row.id) in let name = big_bytes 2 (name_offset next row.name) in let flags = row.attributes.0 ∷ [] in
    let after_id = after resource_map before id (drop 2 whole) s.is in
    let after_name = after resource_map (before ++ id) name (drop 4 whole) after_id in
    let after_flags = after resource_map ((before ++ id) ++ name) flags (drop 5 whole) after_name in
    let long_id = length-after at 2 before id s.long refl in
    let long_name = length-after (at + 2) 2 (before ++ id) name long_id refl in
    let long_flags = length-after (at + 4) 1 ((before ++ id) ++ name) flags (omega arith) refl in
    let unsigned : cast_unsigned w16 row.id < 65536 = unsigned_low row.id s.id in
    same_row row.kind _ _ _ _ _ _ _ _
    (ap (cast_signed w16) (ap (number_at 2 at) s.is ∙ number_in 2 (cast_unsigned w16 row.id) at before (drop 2 whole) s.long unsigned) ∙ to_z-of_z w16 row.id s.id)
    (ap (name_told resource_map) (offset_is resource_map before rest early late at next place base row s) ∙ name_is resource_map early late next base row.name s.names s.long_names s.start s.low)
    (ap (λ (xs : List ℕ). slice_index xs (at + 4)) after_name ∙ byte_in (at + 4) row.attributes.0 ((before ++ id) ++ name) (drop 5 whole) (omega arith))
    (ap (number_at 3 (at + 5)) after_flags ∙ number_in 3 place (at + 5) (((before ++ id) ++ name) ++ flags) (drop 8 whole) (omega arith) (omega arith))

-- the first reference, and those of the others
references_split : (resource_map before rest : List ℕ) (next place : ℕ) (row : Row) (rows : List Row) → resource_map ≡ before ++ (references_text next place (row ∷ rows) ++ rest) →
    resource_map ≡ before ++ (reference_text next place row ++ (references_text (next + length (name_text row.name)) (place + length (datum row)) rows ++ rest))
references_split resource_map before rest next place row rows is =
    is ∙ ap (λ (xs : List ℕ). before ++ xs) (append_assoc (reference_text next place row) (references_text (next + length (name_text row.name)) (place + length (datum row)) rows) rest)

-- the first name, and those of the others
names_split : (resource_map early late : List ℕ) (row : Row) (rows : List Row) → resource_map ≡ early ++ (names_text (row ∷ rows) ++ late) →
    resource_map ≡ early ++ (name_text row.name ++ (names_text rows ++ late))
names_split resource_map early late row rows is = is ∙ ap (λ (xs : List ℕ). early ++ xs) (append_assoc (name_text row.name) (names_text rows) late)

-- what is in the map for rows, and what is known of them
pub record AllStand (resource_map before rest early late : List ℕ) (at next place base : ℕ) (rows : List Row) : Type 0 where
  pub is : resource_map ≡ before ++ (references_text next place rows ++ rest)
  pub long : length before ≡ at
  pub names : resource_map ≡ early ++ (names_text rows ++ late)
  pub long_names : length early ≡ base + next
  pub start : name_list resource_map ≡ base
  pub each : AllByRecursion IsRow rows
  pub low : NamesFit next rows
  pub places : PlacesFit length place rows

-- of the first
first_stands : (resource_map before rest early late : List ℕ) (at next place base : ℕ) (row : Row) (rows : List Row) →
    AllStand resource_map before rest early late at next place base (row ∷ rows) →
    Stands resource_map before (references_text (next + length (name_text row.name)) (place + length (datum row)) rows ++ rest) early (names_text rows ++ late) at next place base row
first_stands resource_map before rest early late at next place base row rows s =
    record {
      is = references_split resource_map before rest next place row rows s.is;
      long = s.long;
      names = names_split resource_map early late row rows s.names;
      long_names = s.long_names;
      start = s.start;
      id = s.each.0.id;
      low = s.low.0;
      few = s.places.0;
    }

-- of the others
others_stand : (resource_map before rest early late : List ℕ) (at next place base : ℕ) (row : Row) (rows : List Row) →
    AllStand resource_map before rest early late at next place base (row ∷ rows) →
    AllStand resource_map (before ++ reference_text next place row) rest (early ++ name_text row.name) late (at + 12) (next + length (name_text row.name)) (place + length (datum row)) base rows
others_stand resource_map before rest early late at next place base row rows s =
    let text = reference_text next place row in
    let rest_text = references_text (next + length (name_text row.name)) (place + length (datum row)) rows in
    let P : ℕ → Type 0 = λ n. PlacesFit length (place + n) rows in
    let long_name = length-after (base + next) (length (name_text row.name)) early (name_text row.name) s.long_names refl in
    record {
      is = after resource_map before text (rest_text ++ rest) (references_split resource_map before rest next place row rows s.is);
      long = length-after at 12 before text s.long refl;
      names = after resource_map early (name_text row.name) (names_text rows ++ late) (names_split resource_map early late row rows s.names);
      long_names = omega arith;
      start = s.start;
      each = s.each.1;
      low = s.low.1;
      places = subst P (sym (datum_long row)) s.places.1;
    }

-- all rows
pub rows_are : (resource_map before rest early late : List ℕ) (at next place base : ℕ) (rows : List Row) →
    AllStand resource_map before rest early late at next place base rows → map (map_row resource_map) (references_for at rows) ≡ rows_for place rows
rows_are resource_map before rest early late at next place base [] s = refl
rows_are resource_map before rest early late at next place base (row ∷ rows) s =
    let one = row_is resource_map before _ early _ at next place base row (first_stands resource_map before rest early late at next place base row rows s) in
    let others = rows_are resource_map (before ++ reference_text next place row) rest (early ++ name_text row.name) late (at + 12) (next + length (name_text row.name)) (place + length (datum row)) base rows (others_stand resource_map before rest early late at next place base row rows s) in
    ap (λ (r : MapRow). r ∷ map (map_row resource_map) (references_for (at + 12) rows)) one ∙ ap (λ (rs : List MapRow). row_at place row ∷ rs) others

-- all names lie within the map
pub names_within : (resource_map before rest early late : List ℕ) (at next place base : ℕ) (rows : List Row) →
    AllStand resource_map before rest early late at next place base rows →
    AllByRecursion (λ (r : Reference). IfSome (name_place resource_map r.place) (λ a. a + 1 + slice_index resource_map a ≤ length resource_map)) (references_for at rows)
names_within resource_map before rest early late at next place base [] s = tt
names_within resource_map before rest early late at next place base (row ∷ rows) s =
    let first = first_stands resource_map before rest early late at next place base row rows s in
    let told = offset_is resource_map before _ early _ at next place base row first in (
      subst (IsWithin resource_map) (sym told) (name_within resource_map early _ next base row.name first.names first.long_names first.start first.low),
      names_within resource_map (before ++ reference_text next place row) rest (early ++ name_text row.name) late (at + 12) (next + length (name_text row.name)) (place + length (datum row)) base rows (others_stand resource_map before rest early late at next place base row rows s),
    )

-- all references lie within the map
pub references_within : (resource_map before rest early late : List ℕ) (at next place base : ℕ) (rows : List Row) →
    AllStand resource_map before rest early late at next place base rows →
    AllByRecursion (λ (r : Reference). r.place + 12 ≤ length resource_map) (references_for at rows)
references_within resource_map before rest early late at next place base [] s = tt
references_within resource_map before rest early late at next place base (row ∷ rows) s =
    let first = first_stands resource_map before rest early late at next place base row rows s in
    let rest_text = references_text (next + length (name_text row.name)) (place + length (datum row)) rows ++ rest in
    let all = ap (λ (xs : List ℕ). length xs) first.is ∙ length-append before (reference_text next place row ++ rest_text) in
    let own = length-append (reference_text next place row) rest_text in
    let twelve : length (reference_text next place row) ≡ 12 = refl in
    let long = first.long in
    (omega arith, references_within resource_map (before ++ reference_text next place row) rest (early ++ name_text row.name) late (at + 12) (next + length (name_text row.name)) (place + length (datum row)) base rows (others_stand resource_map before rest early late at next place base row rows s))
