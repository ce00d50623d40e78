-- A fork that is read is salvaged as it is, and nothing of it is lost.
use Rattle.std.proofs.Common.{◌≡◌, ℕ, ◌+◌, ◌≤◌, ◌&&◌, ◌==◌, nat_lt, nat_le, if◌then◌else◌, Bool, true, false, Option, None, Some, Ok, is_ok, IfSome, List, [], ◌∷◌, ◌++◌, length, map, take, slice_index, refl, sym, ap, ◌∙◌, le-leb, le-ltb, arith}
use Rattle.std.specs.List.{AllByRecursion, list_all}
use Rattle.std.specs.Int.{w16, cast_signed}
use Rattle.std.proofs.lemmas.List.{append-nil, take_all}
use Rattle.fork_bytes.specs.declared.fault.Condition.TheVariants.{Parts, Types, References, RowCount, Names, Places}
use Rattle.fork_bytes.specs.Rows.{Row}
use Rattle.fork_bytes.specs.Fork.{number_at, bytes_at, header_of, map_of, data_of, map_row, row_with, name_place, name_at, name_list, datum_length, references_of, Reference, HasPartsWithin, IsForkWithin, format_limits}
use Rattle.fork_bytes.specs.Reading.{HasName, HasDatum}
use Rattle.fork_bytes.proofs.Placing.{bytes_in_part, length-part, length-data}
use Rattle.fork_salvage.specs.declared.plan.Plan.{Plan}
use Rattle.fork_salvage.specs.declared.reference.FoundName.{FoundName}
use Rattle.fork_salvage.specs.declared.reference.FoundName.TheVariants.{Unnamed, Named, Outside}
use Rattle.fork_salvage.specs.Salvage.{told_plan, bytes_found, name_found, has_bytes, is_inside, is_kept, keeps_all, item_with, item_of, items_of, listed, most_listed, references, plan_of, may_be_told, lies_within, parts_at, told_types, runs_of}
use Rattle.fork_salvage.specs.Laws.{name_shown, row_shown, ShowsTable}
use Rattle.fork_salvage.proofs.Cursors.{all_items}
use Rattle.fork_salvage.proofs.Faults.{told_references}
use Rattle.fork_salvage.proofs.Telling.{told_holds}

otherwise : {X : Type 0} (b : Bool) (x y : X) → b ≡ false → (if b then x else y) ≡ y
otherwise b x y isnt = ap (λ (t : Bool). if t then x else y) isnt

chosen : {X : Type 0} (b : Bool) (x y : X) → b ≡ true → (if b then x else y) ≡ x
chosen b x y is = ap (λ (t : Bool). if t then x else y) is

both_three : {a b d : Bool} → a ≡ true → b ≡ true → d ≡ true → (a && b && d) ≡ true
both_three {a} {b} {d} first second third = ap (λ (x : Bool). x && b && d) first ∙ ap (λ (x : Bool). x && d) second ∙ third

-- a reference has its bytes
found : (fork : List ℕ) (r : Reference) → r.place + 12 ≤ length (map_of fork) → HasDatum (data_of fork) (map_row (map_of fork) r) →
    bytes_found fork (told_plan fork) r.place ≡ Ok (record {
      start = (header_of fork).data_offset + number_at 3 (r.place + 5) (map_of fork) + 4;
      length = datum_length (data_of fork) (number_at 3 (r.place + 5) (map_of fork));
    })
found fork r within has =
    let datum = number_at 3 (r.place + 5) (map_of fork) in let count = datum_length (data_of fork) datum in
    otherwise (nat_lt (length (map_of fork)) (r.place + 12)) _ _ (le-ltb _ _ within)
    ∙ otherwise (nat_lt (length (data_of fork)) (datum + 4)) _ _ (le-ltb _ _ has.0)
    ∙ otherwise (nat_lt (length (data_of fork)) (datum + 4 + count)) _ _ (le-ltb _ _ has.1)

-- the name that is found, by whether there is none
abbrev name_by : List ℕ → Bool → ℕ → FoundName
name_by fork none start = let m = map_of fork in
    if none then Unnamed
    else (if nat_le (start + 1 + slice_index m start) (length m)
    then Named (record { start = (header_of fork).map_offset + start + 1; length = slice_index m start }) else Outside ((header_of fork).map_offset + start))

abbrev IsNamed : List ℕ → Bool → ℕ → Type 0
IsNamed fork none start = IfSome (if none then None else Some start) (λ at. at + 1 + slice_index (map_of fork) at ≤ length (map_of fork))

inside_by : (fork : List ℕ) (none : Bool) (start : ℕ) → IsNamed fork none start → is_inside (name_by fork none start) ≡ true
inside_by fork true start has = refl
inside_by fork false start has = ap is_inside (chosen (nat_le (start + 1 + slice_index (map_of fork) start) (length (map_of fork))) _ _ (le-leb _ _ has))

shown_by : (fork : List ℕ) → HasPartsWithin format_limits (length fork) (header_of fork) → (none : Bool) (start : ℕ) → IsNamed fork none start →
    name_shown fork (name_by fork none start) ≡ name_at (map_of fork) (if none then None else Some start)
shown_by fork parts true start has = refl
shown_by fork parts false start has =
    let header = header_of fork in let n = slice_index (map_of fork) start in
    let long = length-part header.map_length header.map_offset fork parts.whole_map in
    let at : header.map_offset + start + 1 ≡ header.map_offset + (start + 1) = omega arith in
    ap (name_shown fork) (chosen (nat_le (start + 1 + n) (length (map_of fork))) _ _ (le-leb _ _ has))
    ∙ ap (λ (k : ℕ). Some (bytes_at n k fork)) at
    ∙ ap Some (sym (bytes_in_part n header.map_length (start + 1) header.map_offset fork (omega (arith, has, long))))

-- what each reference of a fork is
abbrev IsKept : List ℕ → Reference → Type 0
IsKept fork r = (r.place + 12 ≤ length (map_of fork)) × HasName (map_of fork) r × HasDatum (data_of fork) (map_row (map_of fork) r)

kept : (fork : List ℕ) (r : Reference) → IsKept fork r → is_kept fork (told_plan fork) r ≡ true
kept fork r is =
    let m = map_of fork in let offset = number_at 2 (r.place + 2) m in
    let b : has_bytes fork (told_plan fork) r.place ≡ true = ap is_ok (found fork r is.0 is.2) in
    let named : is_inside (name_found fork (told_plan fork) r.place) ≡ true = inside_by fork (offset == 65535) (name_list m + offset) is.1 in
    ap (λ (t : Bool). t && is_inside (name_found fork (told_plan fork) r.place)) b ∙ named

row_same : (fork : List ℕ) → HasPartsWithin format_limits (length fork) (header_of fork) → (r : Reference) → IsKept fork r →
    row_shown fork (item_of fork (told_plan fork) r) ≡ Some (row_with (data_of fork) (map_row (map_of fork) r))
row_same fork parts r is =
    let m = map_of fork in let d = data_of fork in let header = header_of fork in
    let datum = number_at 3 (r.place + 5) m in let count = datum_length d datum in
    let offset = number_at 2 (r.place + 2) m in
    let row : List ℕ → Option (List ℕ) → Row = λ bytes name. record {
      kind = r.kind;
      id = cast_signed w16 (number_at 2 r.place m);
      name = name;
      attributes = record { 0 = slice_index m (r.place + 4) };
      datum = bytes;
    } in
    let long = length-data fork parts.whole_data in
    let last = is.2.1 in
    let at : header.data_offset + datum + 4 ≡ header.data_offset + (datum + 4) = omega arith in
    let bytes : bytes_at count (header.data_offset + datum + 4) fork ≡ bytes_at count (datum + 4) d =
    ap (λ (k : ℕ). bytes_at count k fork) at ∙ sym (bytes_in_part count header.data_length (datum + 4) header.data_offset fork (omega arith)) in
    ap (λ (f : _). row_shown fork (item_with fork (told_plan fork) r f)) (found fork r is.0 is.2)
    ∙ ap (λ (name : Option (List ℕ)). Some (row (bytes_at count (header.data_offset + datum + 4) fork) name))
    (shown_by fork parts (offset == 65535) (name_list m + offset) is.1)
    ∙ ap (λ (b : List ℕ). Some (row b (name_at m (name_place m r.place)))) bytes

-- all of them
all_kept : (fork : List ℕ) (rs : List Reference) → AllByRecursion (IsKept fork) rs →
    list_all (is_kept fork (told_plan fork)) rs ≡ true
all_kept fork [] all = refl
all_kept fork (r ∷ rs) all =
    ap (λ (t : Bool). t && list_all (is_kept fork (told_plan fork)) rs) (kept fork r all.0)
    ∙ all_kept fork rs all.1

rows_same : (fork : List ℕ) → HasPartsWithin format_limits (length fork) (header_of fork) → (rs : List Reference) → AllByRecursion (IsKept fork) rs →
    map (row_shown fork) (map (item_of fork (told_plan fork)) rs) ≡ map Some (map (row_with (data_of fork)) (map (map_row (map_of fork)) rs))
rows_same fork parts [] all = refl
rows_same fork parts (r ∷ rs) all =
    ap (λ (x : Option Row). x ∷ map (row_shown fork) (map (item_of fork (told_plan fork)) rs)) (row_same fork parts r all.0)
    ∙ ap (λ (xs : List (Option Row)). Some (row_with (data_of fork) (map_row (map_of fork) r)) ∷ xs) (rows_same fork parts rs all.1)

join_kept : (fork : List ℕ) (rs : List Reference) → AllByRecursion (λ (r : Reference). r.place + 12 ≤ length (map_of fork)) rs → AllByRecursion (HasName (map_of fork)) rs →
    AllByRecursion (HasDatum (data_of fork)) (map (map_row (map_of fork)) rs) → AllByRecursion (IsKept fork) rs
join_kept fork [] ends named has = tt
join_kept fork (r ∷ rs) ends named has = ((ends.0, named.0, has.0), join_kept fork rs ends.1 named.1 has.1)

-- the map has room for all references
all_listed : (fork : List ℕ) → IsForkWithin format_limits fork → listed fork (told_plan fork) ≡ references_of (map_of fork)
all_listed fork is =
    let told = told_references fork (told_plan fork) refl in let n = most_listed fork (told_plan fork) in
    ap (take n) told ∙ take_all n (references_of (map_of fork)) (is.holds RowCount)

has_items : (fork : List ℕ) → IsForkWithin format_limits fork →
    items_of fork (told_plan fork) (references fork (told_plan fork)) (most_listed fork (told_plan fork)) ≡ map (item_of fork (told_plan fork)) (references_of (map_of fork))
has_items fork is =
    let told = told_references fork (told_plan fork) refl in let n = most_listed fork (told_plan fork) in
    ap (λ (rs : List Reference). items_of fork (told_plan fork) rs n) told ∙ all_items fork (told_plan fork) (references_of (map_of fork)) n (is.holds RowCount)

is_told : (fork : List ℕ) → IsForkWithin format_limits fork → plan_of fork ≡ told_plan fork
is_told fork is =
    let parts = is.holds Parts in let types = is.holds Types in
    let all = join_kept fork (references_of (map_of fork)) (is.holds References) (is.holds Names) (is.holds Places) in
    let lies : lies_within (length fork) (parts_at 0 fork) ≡ true = both_three (le-leb _ _ parts.whole_data) (le-leb _ _ parts.whole_map) (le-leb _ _ parts.map_header) in
    let may = told_holds fork (parts_at 0 fork) (told_types (map_of fork)) refl is.header lies refl types.entries in
    let keeps = ap (list_all (is_kept fork (told_plan fork))) (all_listed fork is) ∙ all_kept fork _ all in
    chosen (may_be_told fork && keeps_all fork (told_plan fork)) _ _ (ap (λ (t : Bool). t && keeps_all fork (told_plan fork)) may ∙ keeps)

pub shows_table : ShowsTable
shows_table fork is =
    let all = join_kept fork (references_of (map_of fork)) (is.holds References) (is.holds Names) (is.holds Places) in
    let plan = told_plan fork in let found = items_of fork plan (references fork plan) (most_listed fork plan) in
    ap (λ (p : Plan). map (row_shown fork) (items_of fork p (references fork p) (most_listed fork p) ++ runs_of fork p)) (is_told fork is)
    ∙ ap (map (row_shown fork)) (append-nil found)
    ∙ ap (map (row_shown fork)) (has_items fork is)
    ∙ rows_same fork (is.holds Parts) _ all
