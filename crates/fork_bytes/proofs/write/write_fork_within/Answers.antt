use Rattle.std.proofs.Common.{◌≡◌, ◌↔◌, List, ℕ, IfOk, IsErrOf, ap, subst, ◌∙◌}
use Rattle.fork_bytes.specs.declared.fault.WriteFault.TheVariants.{TooBig}
use Rattle.fork_bytes.specs.declared.table.Table.{Table}
use Rattle.fork_bytes.specs.Fork.{StandsForWithin}
use Rattle.fork_bytes.specs.Laws.{IsGrouped}
use Rattle.fork_bytes.specs.Rows.{Row}
use Rattle.fork_bytes.specs.Written.{written, plain_table, FitsWithin, IsSmallWithin, IsTooBigWithin}
use Rattle.fork_bytes.proofs.Plain.{table_same}
use Rattle.fork_bytes.proofs.write.write_fork_within.Goals as goal

pub returns-clause-written : goal.returns-clause-written
returns-clause-written c =
    let table = c.args.table.now in
    let same : plain_table (λ (bytes : List ℕ). bytes) c.as_slice.result.now table.extra table.map_attributes ≡ table =
    ap (λ (rows : List Row). plain_table (λ (bytes : List ℕ). bytes) rows table.extra table.map_attributes) c.as_slice.ensures ∙ table_same table in
    let P : Table → Type 0 = λ t. IfOk c.write_rows_within.result (λ fork. fork.items ≡ written t) in
    subst P same c.write_rows_within.ensures.written

pub returns-clause-small : goal.returns-clause-small
returns-clause-small c =
    let table = c.args.table.now in
    let same : plain_table (λ (bytes : List ℕ). bytes) c.as_slice.result.now table.extra table.map_attributes ≡ table =
    ap (λ (rows : List Row). plain_table (λ (bytes : List ℕ). bytes) rows table.extra table.map_attributes) c.as_slice.ensures ∙ table_same table in
    let P : Table → Type 0 = λ t. IfOk c.write_rows_within.result (λ _. IsSmallWithin c.args.limits t) in
    subst P same c.write_rows_within.ensures.small

pub returns-clause-fits : goal.returns-clause-fits
returns-clause-fits c =
    let table = c.args.table.now in
    let same : plain_table (λ (bytes : List ℕ). bytes) c.as_slice.result.now table.extra table.map_attributes ≡ table =
    ap (λ (rows : List Row). plain_table (λ (bytes : List ℕ). bytes) rows table.extra table.map_attributes) c.as_slice.ensures ∙ table_same table in
    let P : Table → Type 0 = λ t. IfOk c.write_rows_within.result (λ _. FitsWithin c.args.limits t) in
    subst P same c.write_rows_within.ensures.fits

pub returns-clause-stands : goal.returns-clause-stands
returns-clause-stands c =
    let table = c.args.table.now in
    let same : plain_table (λ (bytes : List ℕ). bytes) c.as_slice.result.now table.extra table.map_attributes ≡ table =
    ap (λ (rows : List Row). plain_table (λ (bytes : List ℕ). bytes) rows table.extra table.map_attributes) c.as_slice.ensures ∙ table_same table in
    let P : Table → Type 0 = λ t. IfOk c.write_rows_within.result (λ fork. IsGrouped t.rows → StandsForWithin c.args.limits fork.items t) in
    subst P same c.write_rows_within.ensures.stands

pub returns-clause-too_big : goal.returns-clause-too_big
returns-clause-too_big c =
    let table = c.args.table.now in
    let same : plain_table (λ (bytes : List ℕ). bytes) c.as_slice.result.now table.extra table.map_attributes ≡ table =
    ap (λ (rows : List Row). plain_table (λ (bytes : List ℕ). bytes) rows table.extra table.map_attributes) c.as_slice.ensures ∙ table_same table in
    let P : Table → Type 0 = λ t. IsErrOf c.write_rows_within.result TooBig ↔ IsTooBigWithin c.args.limits t in
    subst P same c.write_rows_within.ensures.too_big
