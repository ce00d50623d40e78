-- The table of a file that was read, and why it isn't.
use Rattle.std.proofs.Common.{◌≡◌, refl, sym, ap, ◌∙◌, subst, arith, ℕ, ◌≤◌, ◌<◌, List, [], ◌∷◌, length, map, replicate, Result, Ok, Err, OnOk, IfOk, IfErr, All, ◌⊎◌, inl, inr}
use Rattle.std.specs.List.{AllByRecursion}
use Rattle.std.proofs.lemmas.List.{length-map}
use Rattle.std.proofs.lemmas.List.Elements.{All-cons, All-nil}
use Rattle.mac_base.specs.declared.error.HostFull.{HostFull}
use Rattle.mac_base.specs.declared.error.OsErr.{OsErr}
use Rattle.mac_base.specs.declared.error.OsErr.TheVariants.{EofErr, MapReadErr, IoErr}
use Rattle.fork_disk.specs.declared.faults.RecoverFault.{RecoverFault}
use Rattle.fork_disk.specs.declared.store.ForkStore.{Ghosts}
use Rattle.fork_disk.specs.Crash.{AlwaysFinds}
use Rattle.fork_disk.specs.Disk.{Rose}
use Rattle.fork_disk.specs.OnStore.{RecoversFork}
use Rattle.fork_disk.specs.Stores.{OnlyReads}
use Rattle.fork_bytes.specs.Fork.{max_rows, StandsFor}
use Rattle.fork_bytes.specs.Rows as fork
use Rattle.fork_bytes.specs.declared.fault.ForkFault.TheVariants as bytes
use Rattle.fork_bytes.specs.declared.place.Place.{Place}
use Rattle.fork_bytes.specs.Reading.{PlacedRow, row_at, IsWithin}
use Rattle.fork_rows.specs.declared.fault.OpenFault.{OpenFault}
use Rattle.fork_rows.specs.declared.fault.OpenFault.TheVariants.{Fork, Device}
use Rattle.fork_rows.specs.declared.table.PlacedTable.{PlacedTable}
use Rattle.fork_rows.specs.Opening.{FitsInFork, AreGrouped, filled, RefusesToOpen, CountsFault}
use Rattle.res_table.specs.declared.chain.ResourceTable.{ResourceTable}
use Rattle.res_table.specs.declared.row.Row.{Row}
use Rattle.res_table.specs.Rows.{opened_row}
use Rattle.res_update.specs.Answered.{IsOpening}
use Rattle.res_update.specs.Changes.{FileRow, FileTable}
use Rattle.res_update.specs.Device.{Reads}
use Rattle.res_update.specs.Device as device
use Rattle.res_update.specs.Placed.{bytes_on, row_on, rows_on, table_on, AreInside, IsInside, IsNear}
use Rattle.res_update.proofs.PlaceBytes.{on-inside}
use Rattle.res_files.specs.Opening.{RefusesFile, code_of}
use Rattle.res_files.specs.Stores.{ReadsTable}
use Rattle.res_files.specs.Standing.{AreSmall}
use Rattle.res_files.proofs.Grouped.{opened_grouped}

-- a resource with the bytes at its place
abbrev with_bytes : List ℕ → PlacedRow → fork.Row
with_bytes bytes r = record { kind = r.kind; id = r.id; name = r.name; attributes = r.attributes; datum = bytes_on bytes r.datum }

-- the rows that were read, with their bytes
rows_read : (disk : List ℕ) (rows : List PlacedRow) → AllByRecursion (IsWithin disk) rows → rows_on disk (map opened_row rows) ≡ map opened_row (map (row_at disk) rows)
rows_read disk [] within = refl
rows_read disk (r ∷ rows) within =
    let row_of : List ℕ → FileRow = λ bytes. opened_row (record { kind = r.kind; id = r.id; name = r.name; attributes = r.attributes; datum = bytes }) in
    ap (λ (bytes : List ℕ). row_of bytes ∷ rows_on disk (map opened_row rows)) (on-inside disk r.datum within.0)
    ∙ ap (λ (rs : List FileRow). opened_row (row_at disk r) ∷ rs) (rows_read disk rows within.1)

-- a fork is read
pub reads_fork : (disk : List ℕ) (placed : PlacedTable) (rows : List (Row Place)) → rows ≡ map opened_row placed.rows → AllByRecursion (IsWithin disk) placed.rows → StandsFor disk (filled disk placed)
    → Reads disk (Ok (table_on disk (record { rows = rows; extra = placed.extra; map_attributes = placed.map_attributes })))
reads_fork disk placed rows is within stands =
    let P : List FileRow → Type 0 = λ rs. Reads disk (Ok (record { rows = rs; extra = placed.extra; map_attributes = placed.map_attributes })) in
    subst P (sym (ap (rows_on disk) is ∙ rows_read disk placed.rows within)) (device.fork (filled disk placed) stands)

-- whatever bytes are at the places, the rows are such as an opening gives
rows_opened : (fork : List ℕ) (rows : List PlacedRow) → rows_on fork (map opened_row rows) ≡ map opened_row (map (with_bytes fork) rows)
rows_opened fork [] = refl
rows_opened fork (r ∷ rows) = ap (λ (rs : List FileRow). row_on fork (opened_row r) ∷ rs) (rows_opened fork rows)

pub opens : (fork : List ℕ) (placed : PlacedTable) (rows : List (Row Place)) → rows ≡ map opened_row placed.rows
    → IsOpening (Ok (table_on fork (record { rows = rows; extra = placed.extra; map_attributes = placed.map_attributes })))
opens fork placed rows is = (
  record { rows = map (with_bytes fork) placed.rows; extra = placed.extra; map_attributes = placed.map_attributes },
  ap (λ (rs : List FileRow). let table : FileTable = record { rows = rs; extra = placed.extra; map_attributes = placed.map_attributes } in table) (ap (rows_on fork) is ∙ rows_opened fork placed.rows),
)

pub opens_empty : (fork : List ℕ) → IsOpening (Ok device.empty_table)
opens_empty fork = (record { rows = []; extra = replicate 240 0; map_attributes = 0 }, refl)

-- what is said of the places of all that was read
all_opened : (P : Place → Type 0) (rows : List PlacedRow) → AllByRecursion (λ (r : PlacedRow). P r.datum) rows → All (λ (r : Row Place). P r.resource.datum) (map opened_row rows)
all_opened P [] all = All-nil (λ (r : Row Place). P r.resource.datum)
all_opened P (r ∷ rows) all = All-cons (λ (x : Row Place). P x.resource.datum) (opened_row r) (map opened_row rows) all.0 (all_opened P rows all.1)

pub inside_opened : (disk : List ℕ) (placed : List PlacedRow) (rows : List (Row Place)) → rows ≡ map opened_row placed → AllByRecursion (IsWithin disk) placed → AreInside disk rows
inside_opened disk placed rows is all = subst (AreInside disk) (sym is) (all_opened (IsInside disk) placed all)

pub small_opened : (placed : List PlacedRow) (rows : List (Row Place)) → rows ≡ map opened_row placed → AllByRecursion FitsInFork placed → length placed ≤ max_rows → AreGrouped placed → AreSmall rows
small_opened placed rows is all few grouped = subst AreSmall (sym is) (record {
  few = subst (λ (n : ℕ). n ≤ max_rows) (sym (length-map placed opened_row)) few;
  grouped = opened_grouped placed grouped;
  near = all_opened IsNear placed all;
})

-- no bytes are read as no rows
no_bytes : (disk : List ℕ) → length disk ≡ 0 → disk ≡ []
no_bytes [] none = refl
no_bytes (b ∷ disk) none = absurd (omega (arith, none))

pub reads_empty : (disk : List ℕ) → length disk ≡ 0 → Reads disk (Ok device.empty_table)
reads_empty disk none = device.empty (no_bytes disk none)

-- a fork that isn't opened is a file that isn't
pub refused : (disk : List ℕ) (fault : OpenFault) → (length disk ≡ 0 → ⊥) → RefusesToOpen disk fault → RefusesFile disk fault
refused disk (Fork bytes.EndOfFile) some told = device.short (more disk some) told
  where
    more : (disk : List ℕ) → (length disk ≡ 0 → ⊥) → 0 < length disk
    more [] some = absurd (some refl)
    more (b ∷ disk) some = omega arith
refused disk (Fork (bytes.BadMap condition)) some told = device.damaged told.0 (λ is. told.1.fails (is.holds condition))
refused disk (Fork bytes.HostFull) some told = tt
refused disk Device some told = tt

-- the code of a fault says what the fault does
abbrev code : Result OsErr HostFull → OsErr → OsErr
code (Ok c) other = c
code (Err e) other = other

pub told_by_code : (honest : Type 0) (disk : List ℕ) (before now : ℕ) (fault : OpenFault) (c : OsErr) → Ok c ≡ code_of fault → (honest → RefusesFile disk fault) → CountsFault before now fault
    → (IsOpening (Err c) × (honest → Reads disk (Err c)) × (now ≡ before)) ⊎ ((c ≡ IoErr) × Rose before now)
told_by_code honest disk before now (Fork bytes.EndOfFile) c is told counts =
    let same : c ≡ EofErr = ap (λ r. code r IoErr) is in
    inl (inl same, λ h. subst (λ (e : OsErr). Reads disk (Err e)) (sym same) (told h), counts)
told_by_code honest disk before now (Fork (bytes.BadMap condition)) c is told counts =
    let same : c ≡ MapReadErr = ap (λ r. code r IoErr) is in
    inl (inr same, λ h. subst (λ (e : OsErr). Reads disk (Err e)) (sym same) (told h), counts)
told_by_code honest disk before now (Fork bytes.HostFull) c is told counts = absurd (cc is)
told_by_code honest disk before now Device c is told counts = inr (ap (λ r. code r IoErr) is, counts)

-- what holds in any case holds where there is a value
on_ok : {A E : Type 0} (r : Result A E) (P : Type 0) → P → OnOk r P
on_ok (Ok x) P holds = holds
on_ok (Err e) P holds = tt

-- what is read of a store once it was made ready
pub read_ready : {S T : Type 0} (store : Ghosts S) (old made new : S) (recovery : Result T RecoverFault) (result : Result (ResourceTable Place) OpenFault)
    → RecoversFork store.fork store.is_ready store.is_stable store.is_honest store.history old made store.may_find store.copied recovery → OnlyReads store made new
    → IfOk result (λ table. Reads (store.fork old) (Ok (table_on (store.fork old) table))) → IfOk result (λ table. AreInside (store.fork old) table.rows) → IfErr result (RefusesFile (store.fork old))
    → ReadsTable store old new result
read_ready store old made new recovery result recovers keeps reads inside refuses = record {
  honest = recovers.honest;
  same = keeps.same ∙ recovers.same;
  ready = on_ok result (store.is_ready new) keeps.ready;
  still = λ _. keeps.ready;
  any_moment = subst (λ h. AlwaysFinds store.may_find (store.may_find (store.history old)) (store.history old) h) (sym keeps.calm) recovers.any_moment;
  reads = reads;
  inside = inside;
  refuses = refuses;
}
