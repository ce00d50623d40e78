use Rattle.std.proofs.Common.{◌≡◌, ◌≤◌, ◌∙◌, List, ℕ, length, map, replicate, Ok, Err, sym, ap, subst, arith, rules}
use Rattle.std.proofs.lemmas.Result.{err_from_is_err_and}
use Rattle.fork_bytes.specs.declared.place.Place.{Place}
use Rattle.fork_rows.specs.Opening.{OpensAs}
use Rattle.fork_rows.proofs.Kept.{read_twice}
use Rattle.res_table.specs.declared.row.Row.{Row}
use Rattle.res_table.specs.Rows.{opened_row}
use Rattle.res_update.specs.Answered.{IsOpening}
use Rattle.res_update.specs.Device.{Reads}
use Rattle.res_update.specs.Placed.{table_on}
use Rattle.res_files.proofs.TablesRead.{reads_empty, reads_fork, opens, opens_empty, inside_opened, small_opened, refused, read_ready}
use Rattle.res_files.proofs.tables.read_table.Goals as goal

pub returns-then-branch-eq0-clause-opening : goal.returns-then-branch-eq0-clause-opening
returns-then-branch-eq0-clause-opening g c = λ fork.
    let P : List (Row Place) → Type 0 = λ rows. IsOpening (Ok (table_on fork (record { rows = rows; extra = replicate 240 0; map_attributes = 0 }))) in
    subst P (sym c.new.ensures) (opens_empty fork)

pub returns-then-branch-eq0-clause-reads : goal.returns-then-branch-eq0-clause-reads
returns-then-branch-eq0-clause-reads g c = λ honest. (
    let S = g.S.ForkStore in let fork = S.fork c.args.store.now in
    let count = c.in_ok-len.ensures.measures honest in
    let ready = c.in_ok-recover.ensures.recovers count.keeps.honest in
    let none : c.in_ok-len.field-0 ≡ 0 = omega arith in
    let empty : length fork ≡ 0 = sym (count.value ∙ ap (λ (bytes : List ℕ). length bytes) ready.same) ∙ none in
    let P : List (Row Place) → Type 0 = λ rows. Reads fork (Ok (table_on fork (record { rows = rows; extra = replicate 240 0; map_attributes = 0 }))) in
    read_ready S _ _ _ _ _ ready count.keeps (subst P (sym c.new.ensures) (reads_empty fork empty)) (search rules) tt)

pub returns-in_err-table-clause-reads : goal.returns-in_err-table-clause-reads
returns-in_err-table-clause-reads g c = λ honest. (
    let S = g.S.ForkStore in let fork = S.fork c.args.store.now in
    let read = c.in_err-table.ensures.reads honest in
    let count = c.in_ok-len.ensures.measures read.keeps.honest in
    let ready = c.in_ok-recover.ensures.recovers count.keeps.honest in
    let same = count.keeps.same ∙ ready.same in
    let long : c.in_ok-len.field-0 ≡ length fork = count.value ∙ ap (λ (bytes : List ℕ). length bytes) ready.same in
    let more : 1 ≤ c.in_ok-len.field-0 = omega arith in
    let P : List ℕ → Type 0 = OpensAs (Err c.in_err-table.field-0.0) in
    let p = err_from_is_err_and c.from_residual-in_err-table.result c.from_residual-in_err-table.ensures.1 in
    rw (p.1, p.2) (read_ready S _ _ _ _ _ ready (read_twice S _ _ _ count.keeps read.keeps) tt tt
    (refused fork _ (λ none. omega (arith, long, more, none)) (subst P same read.told).refuses)))

pub returns-clause-reads : goal.returns-clause-reads
returns-clause-reads g c = λ honest. (
    let S = g.S.ForkStore in let fork = S.fork c.args.store.now in
    let read = c.in_ok-table.ensures.reads honest in
    let count = c.in_ok-len.ensures.measures read.keeps.honest in
    let ready = c.in_ok-recover.ensures.recovers count.keeps.honest in
    let P : List ℕ → Type 0 = OpensAs (Ok c.in_ok-table.table) in
    let opened = subst P (count.keeps.same ∙ ready.same) read.told in
    let rows = c.in-Ok.ensures ∙ ap (map opened_row) c.into_vec.ensures in
    read_ready S _ _ _ _ _ ready (read_twice S _ _ _ count.keeps read.keeps)
    (reads_fork fork c.in_ok-table.table c.in-Ok.rows rows opened.within opened.table) (inside_opened fork c.in_ok-table.table.rows c.in-Ok.rows rows opened.within) tt)

pub returns-clause-opening : goal.returns-clause-opening
returns-clause-opening g c = λ fork. opens fork c.in_ok-table.table c.in-Ok.rows (c.in-Ok.ensures ∙ ap (map opened_row) c.into_vec.ensures)

pub returns-clause-small : goal.returns-clause-small
returns-clause-small g c =
    small_opened c.in_ok-table.table.rows c.in-Ok.rows (c.in-Ok.ensures ∙ ap (map opened_row) c.into_vec.ensures) c.in_ok-table.ensures.inside c.in_ok-table.ensures.most c.in_ok-table.ensures.grouped
