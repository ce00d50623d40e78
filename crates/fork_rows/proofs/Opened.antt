-- What the pieces of a fork that were read say of it, and what a fault says.
use Rattle.std.proofs.Common.{◌≡◌, ℕ, ◌≤◌, List, [], ◌∷◌, Ok, Err, length, map, subst, refl, sym, ap, ◌∙◌, arith}
use Rattle.std.specs.List.{AllByRecursion}
use Rattle.fork_bytes.specs.declared.fault.Condition.TheVariants.{Parts, Places, ByteCount}
use Rattle.fork_bytes.specs.declared.fault.ForkFault.TheVariants.{BadMap}
use Rattle.fork_bytes.specs.declared.layout.Header.{Header}
use Rattle.fork_bytes.specs.declared.layout.Limits.{Limits}
use Rattle.fork_bytes.specs.Rows.{MapRow}
use Rattle.fork_bytes.specs.Fork.{bytes_at, header_of, data_of, map_of, map_rows, most_bytes, extra_of, attributes_of, HasPartsWithin, HasData, StandsForWithin, RefusesWithin}
use Rattle.fork_disk.specs.declared.store.ForkStore.{Ghosts}
use Rattle.fork_disk.specs.Stores.{OnlyReads}
use Rattle.fork_bytes.specs.Reading.{PlacedRow, placed_row, placed_rows, row_at, IsMapWithin, IsWithin, FaultsAt, AreFewBytesWithin}
use Rattle.fork_bytes.proofs.Faults.{places_refuse, bytes_refuse, is_fork}
use Rattle.fork_bytes.proofs.Placing.{few_from_placed, few_to_placed, most_by_header, rows_are_within}
use Rattle.fork_bytes.proofs.Whole.{parts_of_fork, map_is, stands}
use Rattle.fork_rows.specs.declared.fault.OpenFault.{OpenFault}
use Rattle.fork_rows.specs.declared.fault.OpenFault.TheVariants.{Fork, Device}
use Rattle.fork_rows.specs.declared.table.PlacedTable.{PlacedTable}
use Rattle.fork_rows.specs.Opening.{Reads, EndsBy, FaultsIn, HasPlacesWithin, OpensAsWithin, RefusesToOpenWithin, filled}
use Rattle.fork_rows.proofs.Kept.{read_twice}

-- What was read of a fork: its header, its map, and the rows that this lists. The map's conditions hold.
pub record Mapped (limits : Limits) (fork : List ℕ) (header : Header) (m : List ℕ) (rows : List MapRow) : Type 0 where
  pub whole : 16 ≤ length fork
  pub head : header ≡ header_of fork
  pub parts : HasPartsWithin limits (length fork) header
  pub bytes : m ≡ bytes_at header.map_length header.map_offset fork
  pub holds : IsMapWithin limits m
  pub listed : rows ≡ map_rows m

-- It was read piece by piece: its length, its header with the extra bytes, its map, and what is read after it.
pub read_in_turn : {S : Type 0} (limits : Limits) (store : Ghosts S) (start counted fronted seen last : S) (n : ℕ) (header : Header) (extra m bytes : List ℕ) (rows : List MapRow) (P : List ℕ → Type 0)
    → OnlyReads store start counted → n ≡ length (store.fork start) → 16 ≤ n
    → Reads store counted fronted (λ fork. (header ≡ header_of fork) × (extra ≡ extra_of fork)) → HasPartsWithin limits n header
    → Reads store fronted seen (λ fork. m ≡ bytes_at header.map_length header.map_offset fork) → bytes ≡ m → IsMapWithin limits bytes → rows ≡ map_rows bytes
    → Reads store seen last P → Reads store start last (λ fork. Mapped limits fork header m rows × (extra ≡ extra_of fork) × P fork)
read_in_turn limits store start counted fronted seen last n header extra m bytes rows P count long whole front parts part same holds listed after =
    let one = read_twice store _ _ _ count front.keeps in let two = read_twice store _ _ _ one part.keeps in
    let Q : ℕ → Type 0 = λ k. HasPartsWithin limits k header in let R : List ℕ → Type 0 = IsMapWithin limits in record {
      keeps = read_twice store _ _ _ two after.keeps;
      told = (
        record {
          whole = omega (arith, long, whole);
          head = front.told.0 ∙ ap header_of count.same;
          parts = subst Q long parts;
          bytes = part.told ∙ ap (bytes_at header.map_length header.map_offset) one.same;
          holds = subst R same holds;
          listed = listed ∙ ap map_rows same;
        },
        front.told.1 ∙ ap extra_of count.same,
        subst P two.same after.told,
      );
    }

parts_of : (limits : Limits) (fork : List ℕ) (header : Header) (m : List ℕ) (rows : List MapRow) → Mapped limits fork header m rows → HasPartsWithin limits (length fork) (header_of fork)
parts_of limits fork header m rows read = parts_of_fork limits fork header read.head read.parts

same_map : (limits : Limits) (fork : List ℕ) (header : Header) (m : List ℕ) (rows : List MapRow) → Mapped limits fork header m rows → m ≡ map_of fork
same_map limits fork header m rows read = map_is fork header read.head m read.bytes

map_holds : (limits : Limits) (fork : List ℕ) (header : Header) (m : List ℕ) (rows : List MapRow) → Mapped limits fork header m rows → IsMapWithin limits (map_of fork)
map_holds limits fork header m rows read = let P : List ℕ → Type 0 = IsMapWithin limits in subst P (same_map limits fork header m rows read) read.holds

same_rows : (limits : Limits) (fork : List ℕ) (header : Header) (m : List ℕ) (rows : List MapRow) → Mapped limits fork header m rows → rows ≡ map_rows (map_of fork)
same_rows limits fork header m rows read = read.listed ∙ ap map_rows (same_map limits fork header m rows read)

-- a row's place is refused
pub places_refused : (limits : Limits) (fork : List ℕ) (header : Header) (m : List ℕ) (rows : List MapRow) → Mapped limits fork header m rows →
    (fault : OpenFault) → FaultsIn Places (HasData (data_of fork) rows → ⊥) fault → RefusesToOpenWithin limits fork fault
places_refused limits fork header m rows read (Fork fault) told =
    let P : List MapRow → Type 0 = λ r. FaultsAt Places (HasData (data_of fork) r → ⊥) fault in
    places_refuse limits fork read.whole (parts_of limits fork header m rows read) (map_holds limits fork header m rows read) fault (subst P (same_rows limits fork header m rows read) told)
places_refused limits fork header m rows read Device told = tt

-- the rows have their bytes in the data
has_data : (limits : Limits) (fork : List ℕ) (header : Header) (m : List ℕ) (rows : List MapRow) → Mapped limits fork header m rows → HasData (data_of fork) rows → HasData (data_of fork) (map_rows (map_of fork))
has_data limits fork header m rows read has = let P : List MapRow → Type 0 = HasData (data_of fork) in subst P (same_rows limits fork header m rows read) has

same_placed : (limits : Limits) (fork : List ℕ) (header : Header) (m : List ℕ) (rows : List MapRow) → Mapped limits fork header m rows → (placed : List PlacedRow) → placed ≡ map (placed_row fork) rows → placed ≡ placed_rows fork
same_placed limits fork header m rows read placed is = is ∙ ap (map (placed_row fork)) (same_rows limits fork header m rows read)

-- how many bytes they may have, by what the header says of the data
most_is : (limits : Limits) (fork : List ℕ) (header : Header) (m : List ℕ) (rows : List MapRow) → Mapped limits fork header m rows → (most : ℕ) → most ≡ most_bytes limits header.data_length →
    most ≡ most_bytes limits (length (data_of fork))
most_is limits fork header m rows read most bound = bound ∙ most_by_header limits fork header read.head read.parts.whole_data

-- the count of bytes is refused
pub bytes_refused : (limits : Limits) (fork : List ℕ) (header : Header) (m : List ℕ) (rows : List MapRow) → Mapped limits fork header m rows → HasData (data_of fork) rows →
    (placed : List PlacedRow) → placed ≡ map (placed_row fork) rows → (most : ℕ) → most ≡ most_bytes limits header.data_length →
    (AreFewBytesWithin most placed → ⊥) → RefusesWithin limits fork (BadMap ByteCount)
bytes_refused limits fork header m rows read has placed is most bound many =
    let P : List PlacedRow → Type 0 = AreFewBytesWithin most in
    bytes_refuse limits fork read.whole (parts_of limits fork header m rows read) (map_holds limits fork header m rows read) (has_data limits fork header m rows read has)
    (λ few. many (subst P (sym (same_placed limits fork header m rows read placed is)) (few_to_placed limits fork (map_rows (map_of fork)) most (most_is limits fork header m rows read most bound) few)))

-- all of them hold
pub has_places : (limits : Limits) (fork : List ℕ) (header : Header) (m : List ℕ) (rows : List MapRow) → Mapped limits fork header m rows → HasData (data_of fork) rows →
    (placed : List PlacedRow) → placed ≡ map (placed_row fork) rows → (most : ℕ) → most ≡ most_bytes limits header.data_length → AreFewBytesWithin most placed →
    (extra : List ℕ) (attributes : ℕ) → extra ≡ extra_of fork → attributes ≡ attributes_of m →
    HasPlacesWithin limits fork (record { rows = placed; extra = extra; map_attributes = attributes })
has_places limits fork header m rows read has placed is most bound few extra attributes following marks =
    let P : List PlacedRow → Type 0 = AreFewBytesWithin most in
    let found = same_placed limits fork header m rows read placed is in (
      is_fork limits fork read.whole (parts_of limits fork header m rows read) (map_holds limits fork header m rows read) (has_data limits fork header m rows read has)
          (few_from_placed limits fork (map_rows (map_of fork)) most (most_is limits fork header m rows read most bound) (subst P found few)),
      ap (λ (r : List PlacedRow). record { rows = r; extra = extra; map_attributes = attributes }) found
          ∙ ap (λ (e : List ℕ). record { rows = placed_rows fork; extra = e; map_attributes = attributes }) following
          ∙ ap (λ (n : ℕ). record { rows = placed_rows fork; extra = extra_of fork; map_attributes = n }) (marks ∙ ap attributes_of (same_map limits fork header m rows read)),
    )

-- rows that end by one place end by each after it
pub all_end : (near far : ℕ) → near ≤ far → (rows : List PlacedRow) → AllByRecursion (EndsBy near) rows → AllByRecursion (EndsBy far) rows
all_end near far before [] all = tt
all_end near far before (row ∷ rows) all = (omega (arith, before, all.0), all_end near far before rows all.1)

-- the fork stands for the table with the bytes at the places
has_table : (limits : Limits) (fork : List ℕ) (table : PlacedTable) → HasPlacesWithin limits fork table → StandsForWithin limits fork (filled fork table)
has_table limits fork table has =
    let P : PlacedTable → Type 0 = λ t. StandsForWithin limits fork (filled fork t) in
    subst P (sym has.1) (stands limits fork (map (row_at fork) (placed_rows fork)) (extra_of fork) (attributes_of (map_of fork)) has.0 refl refl refl)

-- the places lie within the fork
are_within : (limits : Limits) (fork : List ℕ) (table : PlacedTable) → HasPlacesWithin limits fork table → AllByRecursion (IsWithin fork) table.rows
are_within limits fork table has =
    let P : PlacedTable → Type 0 = λ t. AllByRecursion (IsWithin fork) t.rows in
    subst P (sym has.1) (rows_are_within fork (has.0.holds Parts).whole_data (map_rows (map_of fork)) (has.0.holds Places))

-- a fork that was opened, and one that is refused once it has a header
pub opened_as : (limits : Limits) (fork : List ℕ) (table : PlacedTable) → HasPlacesWithin limits fork table → OpensAsWithin limits (Ok table) fork
opened_as limits fork table has = record { rows = has; table = has_table limits fork table has; within = are_within limits fork table has; refuses = tt; end = λ short. tt }

pub refused_as : (limits : Limits) (fork : List ℕ) (fault : OpenFault) → 16 ≤ length fork → RefusesToOpenWithin limits fork fault → OpensAsWithin limits (Err fault) fork
refused_as limits fork fault whole refuses = record { rows = tt; table = tt; within = tt; refuses = refuses; end = λ short. absurd (omega arith) }
