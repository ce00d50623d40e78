-- What fork_change says of a change is what the definitions make of the rows, or refuse.
use Rattle.std.proofs.Common.{◌≡◌, ℕ, Bool, true, false, List, [], ◌∷◌, ◌⊎◌, inl, inr, Option, None, Some, refl, sym, ap, ◌∙◌, if◌then◌else◌}
use Rattle.std.specs.Prelude.{◌&&◌, ◌||◌, IfErr, IfOk, IfSome, OnOk, Result, Ok, Err, is_some}
use Rattle.std.specs.List.{find, list_any}
use Rattle.std.proofs.lemmas.Bool.{and_from, and_right, both_ways, cond-false, cond-true}
use Rattle.fork_bytes.specs.Rows.{Row}
use Rattle.fork_bytes.specs.declared.table.Table.{Table}
use Rattle.fork_change.specs.Rows.{changed_to, id_of, is_at, is_refused, is_there, put, row_as, row_to_put, with_rows}
use Rattle.fork_change.specs.declared.row.Change.{Change}
use Rattle.fork_change.specs.declared.row.ResourceId.{ResourceId}
use Rattle.fork_change.specs.declared.refusal.Refusal.{Refusal}
use Rattle.fork_change.specs.declared.refusal.Refusal.TheVariants as why
use Rattle.fork_edit.specs.Edits.{Becomes, put_in, set_in}

-- one is there where one is found
any_found : (test : Row → Bool) (rows : List Row) → list_any test rows ≡ is_some (find test rows)
any_found test [] = refl
any_found test (row ∷ rows) = by_case (test row) (any_found test rows)
  where
    by_case : (b : Bool) → list_any test rows ≡ is_some (find test rows) → (b || list_any test rows) ≡ is_some (if b then Some row else find test rows)
    by_case true rest = refl
    by_case false rest = rest

-- rows, or why there are none
abbrev made : List Row → Result (List Row) Refusal
made rows = Ok rows

abbrev refused_by : Refusal → Result (List Row) Refusal
refused_by fault = Err fault

-- a table with these rows
with_new : (table new : Table) (rows : List Row) → new ≡ with_rows table rows → (made rows ≡ made new.rows) × (new ≡ with_rows table new.rows)
with_new table new rows is =
    let same : new.rows ≡ rows = ap (λ (t : Table). t.rows) is in (ap made (sym same), is ∙ ap (with_rows table) (sym same))

pub set_becomes : (table : Table) (what : ResourceId) (change : Change) (result : Result Table Refusal) →
    IfOk result (λ new. IfSome (find (is_at what) table.rows) (λ old. new ≡ with_rows table (changed_to what (row_as change old) table.rows))) →
    OnOk result (is_there what table.rows ≡ true) → OnOk result (is_refused what change.to table.rows ≡ false) →
    (is_there what table.rows ≡ false → result ≡ Err (why.Missing what)) →
    IfErr result (λ fault. fault ≡ why.Missing what → is_there what table.rows ≡ false) →
    IfErr result (λ fault. fault ≡ why.Taken → is_refused what change.to table.rows ≡ true) →
    IfErr result (λ fault. (fault ≡ why.Missing what) ⊎ ((fault ≡ why.Taken) ⊎ (fault ≡ why.HostFull))) →
    Becomes table (set_in what change (find (is_at what) table.rows) table.rows) result
set_becomes table what change result changed there free missing gone refused fault =
    by_case (find (is_at what) table.rows) (any_found (is_at what) table.rows) result changed there free missing gone refused fault
  where
    by_case : (found : Option Row) → is_there what table.rows ≡ is_some found → (result : Result Table Refusal) →
        IfOk result (λ new. IfSome found (λ old. new ≡ with_rows table (changed_to what (row_as change old) table.rows))) →
        OnOk result (is_there what table.rows ≡ true) → OnOk result (is_refused what change.to table.rows ≡ false) →
        (is_there what table.rows ≡ false → result ≡ Err (why.Missing what)) →
        IfErr result (λ fault. fault ≡ why.Missing what → is_there what table.rows ≡ false) →
        IfErr result (λ fault. fault ≡ why.Taken → is_refused what change.to table.rows ≡ true) →
        IfErr result (λ fault. (fault ≡ why.Missing what) ⊎ ((fault ≡ why.Taken) ⊎ (fault ≡ why.HostFull))) → Becomes table (set_in what change found table.rows) result
    by_case None is (Ok new) changed there free missing gone refused fault = absurd (both_ways (is_there what table.rows) is there)
    by_case None is (Err told) changed there free missing gone refused fault =
        let same : why.Missing what ≡ told = cc (missing is) in inr (ap refused_by same)
    by_case (Some old) is (Ok new) changed there free missing gone refused fault =
        let rows = changed_to what (row_as change old) table.rows in
        let both = with_new table new rows changed in
        (cond-false (is_refused what change.to table.rows) (Err why.Taken) (Ok rows) free ∙ both.0, both.1)
    by_case (Some old) is (Err told) changed there free missing gone refused (inl lost) = absurd (both_ways (is_there what table.rows) (gone lost) is)
    by_case (Some old) is (Err told) changed there free missing gone refused (inr (inl taken)) =
        inr (cond-true (is_refused what change.to table.rows) (Err why.Taken) (Ok (changed_to what (row_as change old) table.rows)) (refused taken)
        ∙ ap refused_by (sym taken))
    by_case (Some old) is (Err told) changed there free missing gone refused (inr (inr full)) = inl full

-- what is put has the type and the id that it is to have
id_put : (change : Change) (bytes : List ℕ) (found : Option Row) → id_of (row_to_put change bytes found) ≡ change.to
id_put change bytes None = refl
id_put change bytes (Some row) = refl

pub put_becomes : (table : Table) (change : Change) (bytes : List ℕ) (is_new : Bool) (row : Row) (result : Result Table Refusal) → is_new ≡ true →
    row ≡ row_to_put change bytes (find (is_at change.to) table.rows) → IfOk result (λ new. new ≡ with_rows table (put row table.rows)) →
    OnOk result (is_there (id_of row) table.rows ≡ false) → IfErr result (λ fault. fault ≡ why.Taken → is_there (id_of row) table.rows ≡ true) →
    IfErr result (λ fault. (fault ≡ why.Taken) ⊎ (fault ≡ why.HostFull)) → Becomes table (put_in change bytes is_new table.rows) result
put_becomes table change bytes is_new row result new is put_is free taken fault = by_case result put_is free taken fault
  where
    own : id_of row ≡ change.to
    own = ap id_of is ∙ id_put change bytes (find (is_at change.to) table.rows)

    by_case : (result : Result Table Refusal) → IfOk result (λ new. new ≡ with_rows table (put row table.rows)) →
        OnOk result (is_there (id_of row) table.rows ≡ false) → IfErr result (λ fault. fault ≡ why.Taken → is_there (id_of row) table.rows ≡ true) →
        IfErr result (λ fault. (fault ≡ why.Taken) ⊎ (fault ≡ why.HostFull)) → Becomes table (put_in change bytes is_new table.rows) result
    by_case (Ok after) put_is free taken fault =
        let row' = row_to_put change bytes (find (is_at change.to) table.rows) in
        let both = with_new table after (put row' table.rows) (put_is ∙ ap (λ (r : Row). with_rows table (put r table.rows)) is) in
        let none = ap (λ (w : ResourceId). is_there w table.rows) (sym own) ∙ free in
        (cond-false (is_new && is_there change.to table.rows) (Err why.Taken) (Ok (put row' table.rows)) (and_right is_new (is_there change.to table.rows) none) ∙ both.0, both.1)
    by_case (Err told) put_is free taken (inl is_taken) =
        let there = ap (λ (w : ResourceId). is_there w table.rows) (sym own) ∙ taken is_taken in
        inr (cond-true (is_new && is_there change.to table.rows) (Err why.Taken) (Ok (put (row_to_put change bytes (find (is_at change.to) table.rows)) table.rows))
        (and_from is_new (is_there change.to table.rows) new there) ∙ ap refused_by (sym is_taken))
    by_case (Err told) put_is free taken (inr full) = inl full
