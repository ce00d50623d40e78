-- Pieces of rows, one after the other, and how many bytes they have.
use Rattle.std.proofs.Common.{◌≡◌, ℕ, suc, ◌+◌, ◌<◌, ◌≤◌, List, [], ◌∷◌, ◌++◌, length, map, take, drop, get_or, set, sym, ap, subst, ◌∙◌, arith}
use Rattle.std.specs.Prelude.{sum_by}
use Rattle.std.specs.List.{flat_map}
use Rattle.std.proofs.lemmas.Grind.{flat_map-append}
use Rattle.std.proofs.lemmas.List.{append-nil, append_assoc, length-append, length-drop, length-map, length-take-le, map_more, take_all, take-append-drop, take-append-le, take_more_set}
use Rattle.std.proofs.lemmas.List.Sums.{sum_by-cons}
use Rattle.std.proofs.Math.Seq.{take-suc}
use Rattle.fork_bytes.specs.declared.fault.Condition.TheVariants.{RowCount, Places, ByteCount}
use Rattle.fork_bytes.specs.declared.table.Table.{Table}
use Rattle.fork_bytes.specs.Rows.{Row, MapRow}
use Rattle.fork_bytes.specs.Fork.{bytes_at, data_of, map_of, datum_length, map_row, map_rows, references_of, row_with, max_fork, max_rows, HasData, StandsFor}
use Rattle.fork_bytes.proofs.Placing.{length-part}

-- the pieces of one more row
pub pieces_more : {X : Type 0} (f : X → List ℕ) (xs : List X) (i : ℕ) (d : X) → i < length xs → flat_map f (take (i + 1) xs) ≡ flat_map f (take i xs) ++ f (get_or xs i d)
pieces_more f xs i d within =
    let one : i + 1 ≡ suc i = omega arith in
    ap (λ (n : ℕ). flat_map f (take n xs)) one ∙ ap (flat_map f) (take-suc xs i d within) ∙ flat_map-append f (take i xs) (get_or xs i d ∷ []) ∙ ap (λ (ys : List ℕ). flat_map f (take i xs) ++ ys) (append-nil (f (get_or xs i d)))

-- the pieces of some rows are not more than all
pub pieces_of_all : {X : Type 0} (f : X → List ℕ) (xs : List X) (i : ℕ) → length (flat_map f (take i xs)) ≤ length (flat_map f xs)
pieces_of_all f xs i =
    let all = ap (λ (ys : List _). length (flat_map f ys)) (take-append-drop i xs) in
    let both = ap (λ (ys : List ℕ). length ys) (flat_map-append f (take i xs) (drop i xs)) in
    let two = length-append (flat_map f (take i xs)) (flat_map f (drop i xs)) in omega arith

-- how many bytes the pieces of one more row have
pub length_more : {X : Type 0} (f : X → List ℕ) (xs : List X) (i : ℕ) (d : X) → i < length xs →
    length (flat_map f (take (i + 1) xs)) ≡ length (flat_map f (take i xs)) + length (f (get_or xs i d))
length_more f xs i d within = ap (λ (ys : List ℕ). length ys) (pieces_more f xs i d within) ∙ length-append (flat_map f (take i xs)) (f (get_or xs i d))

-- there is room for one more piece
pub piece_fits : {X : Type 0} (f : X → List ℕ) (xs : List X) (i : ℕ) (d : X) (at room : ℕ) (piece : List ℕ) → i < length xs → piece ≡ f (get_or xs i d)
    → at ≡ length (flat_map f (take i xs)) → length (flat_map f xs) ≤ room → at + length piece ≤ room
piece_fits f xs i d at room piece within is place long =
    let more = length_more f xs i d within in let all = pieces_of_all f xs (i + 1) in
    let n = ap (λ (ys : List ℕ). length ys) is in omega arith

-- one more element is put
pub one_put : {X Y : Type 0} (f : X → Y) (xs : List X) (put : List Y) (i : ℕ) → length put ≡ length xs → take i put ≡ map f (take i xs)
    → (d : X) (y : Y) → i < length xs → y ≡ f (get_or xs i d) → take (i + 1) (set put i y) ≡ map f (take (i + 1) xs)
one_put {X} {Y} f xs put i same so_far d y within is =
    take_more_set put i y (omega (arith, within, same)) ∙ ap (λ (ys : List Y). ys ++ y ∷ []) so_far
    ∙ ap (λ (one : Y). map f (take i xs) ++ one ∷ []) is ∙ sym (map_more f xs i d within)

-- The pieces of some rows are put before a place, where there is room for those of all.
pub record ArePut {X : Type 0} (f : X → List ℕ) (xs : List X) (i at : ℕ) (put : List ℕ) : Type 0 where
  pub place : at ≡ length (flat_map f (take i xs))
  pub so_far : take at put ≡ flat_map f (take i xs)
  pub room : length put ≡ length (flat_map f xs)

-- one more piece fits
pub may_put : {X : Type 0} (f : X → List ℕ) (xs : List X) (i at : ℕ) (old : List ℕ) → ArePut f xs i at old
    → (d : X) (piece : List ℕ) → i < length xs → piece ≡ f (get_or xs i d) → at + length piece ≤ length old
may_put f xs i at old put d piece within is = piece_fits f xs i d at _ piece within is put.place (omega (arith, put.room))

-- and is put
pub more_put : {X : Type 0} (f : X → List ℕ) (xs : List X) (i at : ℕ) (old : List ℕ) → ArePut f xs i at old
    → (d : X) (piece new : List ℕ) (end : ℕ) → i < length xs → piece ≡ f (get_or xs i d)
    → new ≡ take at old ++ (piece ++ drop (at + length piece) old) → end ≡ at + length piece → ArePut f xs (i + 1) end new
more_put f xs i at old put d piece new end within is same last =
    let fits = may_put f xs i at old put d piece within is in
    let pieces = pieces_more f xs i d within in
    let both : take at old ++ piece ≡ flat_map f (take (i + 1) xs) = ap (λ (ys : List ℕ). ys ++ piece) put.so_far ∙ ap (λ (ys : List ℕ). flat_map f (take i xs) ++ ys) is ∙ sym pieces in
    let front = length-take-le at old (omega (arith, fits)) in
    let long = length-append (take at old) piece in
    let two = length-append (take at old ++ piece) (drop end old) in
    let back = length-drop end old in
    let joined : new ≡ (take at old ++ piece) ++ drop end old =
    same ∙ ap (λ (n : ℕ). take at old ++ (piece ++ drop n old)) (sym last) ∙ sym (append_assoc (take at old) piece (drop end old)) in
    let count = ap (λ (ys : List ℕ). length ys) joined in
    let counted = ap (λ (ys : List ℕ). length ys) both in
    record {
      place = omega (arith, counted, long, front, last);
      so_far = ap (take end) joined ∙ take-append-le end (take at old ++ piece) (drop end old) (omega (arith, long, front, last))
          ∙ take_all end (take at old ++ piece) (omega (arith, long, front, last)) ∙ both;
      room = omega (arith, count, two, long, front, back, fits, last, put.room);
    }

-- the data of rows that lie within are as long as their lengths say
data_small : (d : List ℕ) (rows : List MapRow) → HasData d rows →
    length (flat_map (λ (row : Row). row.datum) (map (row_with d) rows)) ≤ sum_by (λ (r : MapRow). 4 + datum_length d r.datum) rows
data_small d [] has = omega arith
data_small d (row ∷ rows) has =
    let one = length-part (datum_length d row.datum) (row.datum + 4) d has.0.1 in
    let others = data_small d rows has.1 in
    let both = length-append (bytes_at (datum_length d row.datum) (row.datum + 4) d) (flat_map (λ (r : Row). r.datum) (map (row_with d) rows)) in
    let sum = sum_by-cons (λ (r : MapRow). 4 + datum_length d r.datum) row rows in omega arith

-- what a fork stands for has few rows, and few bytes of data
pub few_rows : (fork : List ℕ) (table : Table) → StandsFor fork table → length table.rows ≤ max_rows
few_rows fork table stands =
    let P : Table → Type 0 = λ t. length t.rows ≤ max_rows in
    let few : length (references_of (map_of fork)) ≤ max_rows = stands.0.holds RowCount in
    let listed = length-map (references_of (map_of fork)) (map_row (map_of fork)) in
    let with_data = length-map (map_rows (map_of fork)) (row_with (data_of fork)) in
    subst P (sym stands.1) (omega arith)

pub few_bytes : (fork : List ℕ) (table : Table) → StandsFor fork table → length (flat_map (λ (row : Row). row.datum) table.rows) ≤ max_fork
few_bytes fork table stands =
    let P : Table → Type 0 = λ t. length (flat_map (λ (row : Row). row.datum) t.rows) ≤ max_fork in
    let few : sum_by (λ (r : MapRow). 4 + datum_length (data_of fork) r.datum) (map_rows (map_of fork)) ≤ max_fork = stands.0.holds ByteCount in
    let less = data_small (data_of fork) (map_rows (map_of fork)) (stands.0.holds Places) in
    subst P (sym stands.1) (omega arith)
