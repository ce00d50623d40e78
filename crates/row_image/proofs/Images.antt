-- The rows of a file, and the resources that say what they are.
use Rattle.std.proofs.Common.{◌≡◌, ℕ, zero, suc, ◌+◌, ◌<◌, ◌≤◌, List, [], ◌∷◌, ◌++◌, length, map, get_or, slice_get, drop, Option, Some, None, refl, sym, subst, ap, ◌∙◌, arith}
use Rattle.std.specs.Prelude.{◌≢◌, AllPairs}
use Rattle.std.specs.List.{AllByRecursion}
use Rattle.std.specs.Option.{option_map}
use Rattle.std.proofs.lemmas.List.{append_assoc, length-map}
use Rattle.std.proofs.lemmas.Option.{get_or_from_slice_get, slice_get_within}
use Rattle.fork_bytes.specs.declared.place.Place.{Place}
use Rattle.fork_bytes.specs.declared.table.Table.{Table}
use Rattle.fork_bytes.specs.declared.fault.Condition.TheVariants.{RowCount}
use Rattle.fork_bytes.specs.declared.layout.TypeCount.{TypeCount}
use Rattle.fork_bytes.specs.Laws.{IsGrouped}
use Rattle.fork_bytes.specs.Rows as fork
use Rattle.fork_bytes.proofs.Steps.{drop_item, each_step}
use Rattle.fork_bytes.specs.Fork.{StandsFor, max_rows, references_of, map_of, map_rows, data_of, row_with, map_row}
use Rattle.fork_bytes.specs.Written.{types_of, counted_before, plain_row, plain_rows}
use Rattle.res_table.specs.declared.row.Row.{Row}
use Rattle.res_table.specs.declared.chain.ResourceTable.{ResourceTable}
use Rattle.res_table.specs.Saved.{bare}
use Rattle.row_image.specs.Infos.{image_text, info_of, info_resource, info_table, info_text}
use Rattle.row_image.specs.Images.{HasImage, IsToldRow}
use Rattle.row_image.specs.Reading as reading
use Rattle.row_image.specs.Reading.{info_in, row_in}
use Rattle.row_image.proofs.Told.{read_again}

-- a row is read of the resource that says it
row_again : (r : Row Place) → IsToldRow r → row_in (plain_row info_text (info_resource r)) ≡ Some r
row_again r told = ap (option_map (reading.row_with (plain_row info_text (info_resource r)))) (read_again (info_of r) told)

pub rows_again : (rows : List (Row Place)) → AllByRecursion IsToldRow rows → map row_in (plain_rows info_text (map info_resource rows)) ≡ map Some rows
rows_again [] told = refl
rows_again (r ∷ rows) told =
    ap (λ (x : Option (Row Place)). x ∷ map row_in (plain_rows info_text (map info_resource rows))) (row_again r told.0)
    ∙ ap (λ (xs : List (Option (Row Place))). Some r ∷ xs) (rows_again rows told.1)

-- rows that are all there are the same
pub same_rows : (a b : List (Row Place)) → map Some a ≡ map Some b → a ≡ b
same_rows [] [] is = refl
same_rows [] (y ∷ b) is = absurd (cc is)
same_rows (x ∷ a) [] is = absurd (cc is)
same_rows (x ∷ a) (y ∷ b) is =
    let others : map Some a ≡ map Some b = cc is in
    let one : x ≡ y = cc is in
    ap (λ (r : Row Place). r ∷ a) one ∙ ap (λ (rest : List (Row Place)). y ∷ rest) (same_rows a b others)

-- where one resource says no row, no rows are said
pub none_said : (resources : List fork.Row) (i : ℕ) (r : fork.Row) → i < length resources → r ≡ get_or resources i r → row_in r ≡ None → (rows : List (Row Place)) → map row_in resources ≡ map Some rows → ⊥
none_said [] i r within is none rows all = omega arith
none_said (x ∷ resources) i r within is none [] all = absurd (cc all)
none_said (x ∷ resources) zero r within is none (y ∷ rows) all =
    let here : row_in x ≡ Some y = cc all in
    let nothing : row_in x ≡ None = ap row_in (sym is) ∙ none in cc
none_said (x ∷ resources) (suc i) r within is none (y ∷ rows) all =
    let others : map row_in resources ≡ map Some rows = cc all in
    none_said resources i r (omega arith) is none rows others

-- resources and the rows that they say have the same types
kind_said : (r : fork.Row) (row : Row Place) → row_in r ≡ Some row → r.kind ≡ row.resource.kind
kind_said r row is = by (info_in r.datum) is
  where
    by : (found : Option _) → option_map (reading.row_with r) found ≡ Some row → r.kind ≡ row.resource.kind
    by None is = absurd (cc is)
    by (Some i) is = let same : reading.row_with r i ≡ row = cc is in ap (λ (x : Row Place). x.resource.kind) same

pub types_said : (resources : List fork.Row) (rows : List (Row Place)) → map row_in resources ≡ map Some rows → types_of resources ≡ types_of (bare rows)
types_said [] [] is = refl
types_said [] (row ∷ rows) is = absurd (cc is)
types_said (r ∷ resources) [] is = absurd (cc is)
types_said (r ∷ resources) (row ∷ rows) is =
    let here : row_in r ≡ Some row = cc is in
    let others : map row_in resources ≡ map Some rows = cc is in
    ap (λ (kind : List ℕ). counted_before kind 1 (types_of resources)) (kind_said r row here)
    ∙ ap (counted_before row.resource.kind 1) (types_said resources rows others)

-- the resources that say rows have their types
pub types_info : (rows : List (Row Place)) → types_of (plain_rows info_text (map info_resource rows)) ≡ types_of (bare rows)
types_info [] = refl
types_info (r ∷ rows) = ap (counted_before r.resource.kind 1) (types_info rows)

-- a fork that is read has not too many rows
pub few_rows : (bytes : List ℕ) (table : Table) → StandsFor bytes table → length table.rows ≤ max_rows
few_rows bytes table stands =
    let few = stands.0.holds RowCount in
    let same = ap (λ (t : Table). length t.rows) stands.1 in
    let one = length-map (map_rows (map_of bytes)) (row_with (data_of bytes)) in
    let two = length-map (references_of (map_of bytes)) (map_row (map_of bytes)) in
    omega (arith, few, same, one, two)

-- resources that are said of rows so far, and those of the others, are all: with one more
pub step_map : {X Y : Type 0} (f : X → Y) (xs : List X) (i : ℕ) (x : X) (made new all : List Y) → slice_get xs i ≡ Some x → new ≡ made ++ f x ∷ []
    → made ++ map f (drop i xs) ≡ all → new ++ map f (drop (i + 1) xs) ≡ all
step_map {X} {Y} f xs i x made new all there is so_far =
    let item = drop_item xs i x (slice_get_within xs i x there) (sym (get_or_from_slice_get xs i x x there)) in
    ap (λ (ys : List Y). ys ++ map f (drop (i + 1) xs)) is
    ∙ append_assoc made (f x ∷ []) (map f (drop (i + 1) xs))
    ∙ ap (λ (ys : List X). made ++ map f ys) (sym item)
    ∙ so_far

pub step_all : {X : Type 0} (P : X → Type 0) (xs : List X) (i : ℕ) (x : X) → slice_get xs i ≡ Some x → P x → AllByRecursion P (drop (i + 1) xs) → AllByRecursion P (drop i xs)
step_all P xs i x there one others = each_step P xs i x (slice_get_within xs i x there) (sym (get_or_from_slice_get xs i x x there)) one others

-- resources of the same types are together by their types
pub grouped_by : (a b : List fork.Row) → types_of a ≡ types_of b → IsGrouped a → IsGrouped b
grouped_by a b same grouped = subst (λ (types : List TypeCount). AllPairs (λ (x y : TypeCount). x.kind ≢ y.kind) types) same grouped

-- there are as many rows as resources that say them
pub long_said : (resources : List fork.Row) (rows : List (Row Place)) → map row_in resources ≡ map Some rows → length rows ≡ length resources
long_said resources rows is =
    let count = ap (λ (xs : List (Option (Row Place))). length xs) is in
    let one = length-map resources row_in in
    let two = length-map rows (λ (r : Row Place). Some r) in omega (arith, count, one, two)

-- what is read of the image of rows
pub image_table : (bytes : List ℕ) (table : Table) (t : ResourceTable Place) → StandsFor bytes table → HasImage t → bytes ≡ image_text t → table ≡ info_table t
image_table bytes table t stands has is =
    let other : StandsFor bytes (info_table t) = subst (λ (b : List ℕ). StandsFor b (info_table t)) (sym is) has.stands in
    stands.1 ∙ sym other.1

pub image_rows : (bytes : List ℕ) (table : Table) (t : ResourceTable Place) → StandsFor bytes table → HasImage t → bytes ≡ image_text t → map row_in table.rows ≡ map Some t.rows
image_rows bytes table t stands has is = ap (λ (x : Table). map row_in x.rows) (image_table bytes table t stands has is) ∙ rows_again t.rows has.told

pub image_again : (bytes : List ℕ) (table : Table) (t : ResourceTable Place) (rows : List (Row Place)) (found : ResourceTable Place) → StandsFor bytes table → HasImage t → bytes ≡ image_text t
    → map row_in table.rows ≡ map Some rows → found.rows ≡ rows → found.extra ≡ table.extra → found.map_attributes ≡ table.map_attributes → found ≡ t
image_again bytes table t rows found stands has is said rows_are extra_is attributes_are =
    let table_is = image_table bytes table t stands has is in
    let same : found.rows ≡ t.rows = rows_are ∙ same_rows rows t.rows (sym said ∙ image_rows bytes table t stands has is) in
    let extra : found.extra ≡ t.extra = extra_is ∙ ap (λ (x : Table). x.extra) table_is in
    let attributes : found.map_attributes ≡ t.map_attributes = attributes_are ∙ ap (λ (x : Table). x.map_attributes) table_is in
    ap (λ (xs : List (Row Place)). let made : ResourceTable Place = record { rows = xs; extra = found.extra; map_attributes = found.map_attributes } in made) same
    ∙ ap (λ (xs : List ℕ). let made : ResourceTable Place = record { rows = t.rows; extra = xs; map_attributes = found.map_attributes } in made) extra
    ∙ ap (λ (n : ℕ). let made : ResourceTable Place = record { rows = t.rows; extra = t.extra; map_attributes = n } in made) attributes
