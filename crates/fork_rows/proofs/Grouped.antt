-- What a map lists is grouped by type, and so are its rows with other data.
use Rattle.std.proofs.Common.{◌≡◌, ◌≢◌, ◌∙◌, refl, sym, ap, subst, ℕ, List, [], ◌∷◌, map, drop, AllPairs}
use Rattle.fork_bytes.specs.declared.layout.TypeCount.{TypeCount}
use Rattle.fork_bytes.specs.Rows.{MapRow}
use Rattle.fork_bytes.specs.Fork.{map_rows, row_with, HasTypes}
use Rattle.fork_bytes.specs.Written.{types_of, counted_before}
use Rattle.fork_bytes.proofs.Grouped.{map_grouped}
use Rattle.fork_bytes.specs.Reading.{PlacedRow, row_at}
use Rattle.mac_base.specs.declared.resource.Resource.{Resource}
use Rattle.fork_rows.specs.Opening.{kinds_in, AreGrouped}

-- the first of some types
abbrev first : List (List ℕ) → List ℕ
first [] = []
first (kind ∷ kinds) = kind

-- runs are known by types alone
pub same_types : {X Y : Type 0} (rows : List (Resource X)) (others : List (Resource Y)) → kinds_in rows ≡ kinds_in others → types_of rows ≡ types_of others
same_types [] [] same = refl
same_types [] (r ∷ others) same = absurd (cc same)
same_types (r ∷ rows) [] same = absurd (cc same)
same_types (r ∷ rows) (s ∷ others) same =
    ap (λ (kind : List ℕ). counted_before kind 1 (types_of rows)) (ap first same) ∙ ap (λ (types : List TypeCount). counted_before s.kind 1 types) (same_types rows others (ap (drop 1) same))

-- rows have their types with any bytes
kinds_at : (fork : List ℕ) (rows : List PlacedRow) → kinds_in (map (row_at fork) rows) ≡ kinds_in rows
kinds_at fork [] = refl
kinds_at fork (r ∷ rows) = ap (λ (kinds : List (List ℕ)). r.kind ∷ kinds) (kinds_at fork rows)

kinds_with : (rows : List MapRow) → kinds_in (map (row_with []) rows) ≡ kinds_in rows
kinds_with [] = refl
kinds_with (r ∷ rows) = ap (λ (kinds : List (List ℕ)). r.kind ∷ kinds) (kinds_with rows)

-- rows of the types that a map lists
pub grouped_in : (resource_map : List ℕ) (rows : List PlacedRow) → HasTypes resource_map → kinds_in rows ≡ kinds_in (map_rows resource_map) → AreGrouped rows
grouped_in resource_map rows types same fork =
    let listed = map (row_with []) (map_rows resource_map) in
    let is : types_of listed ≡ types_of (map (row_at fork) rows) = same_types listed (map (row_at fork) rows) (kinds_with (map_rows resource_map) ∙ sym same ∙ sym (kinds_at fork rows)) in
    subst (λ (types : List TypeCount). AllPairs (λ (a b : TypeCount). a.kind ≢ b.kind) types) is (map_grouped [] resource_map types.distinct)
