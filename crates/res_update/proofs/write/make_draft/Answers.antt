use Rattle.std.proofs.Common.{◌≡◌, ◌≤◌, ℕ, List, length, ap, ◌∙◌, sym, subst, arith, rules}
use Rattle.fork_bytes.specs.declared.table.Table.{Table}
use Rattle.fork_bytes.specs.Fork.{max_fork}
use Rattle.fork_bytes.specs.Rows as fork
use Rattle.fork_bytes.specs.Laws.{AreBytes, IsGrouped, IsTable}
use Rattle.fork_bytes.specs.Written.{data_text, plain_table, written, Fits}
use Rattle.fork_bytes.proofs.Plain.{bytes_same, table_same}
use Rattle.fork_bytes.specs.declared.place.Place.{Place}
use Rattle.res_update.specs.Drafts.{draft_bytes, draft_table, rows_with, new_places, kept_ranges}
use Rattle.res_update.proofs.Measuring.{length-over}
use Rattle.res_update.proofs.Placing.{length-places}
use Rattle.res_update.proofs.Shaping.{same_count}
use Rattle.res_update.proofs.write.make_draft.Goals as goal

pub kept_ranges-requires : goal.kept_ranges-requires
kept_ranges-requires g c =
    let f = draft_bytes (g.C.Contents.table c.args.handles.now) c.args.selection in let rows = c.args.table.now.rows in
    let same = c.deref-3.ensures.value ∙ c.in_ok-rows.ensures in
    ap (λ (ps : List Place). length ps) (c.deref-4.ensures.value ∙ c.in_ok-places.ensures ∙ ap (new_places 256) same)
    ∙ length-places 256 (rows_with f 0 rows) ∙ same_count f 0 rows

pub returns-clause-draft : goal.returns-clause-draft
returns-clause-draft g c =
    let t = g.C.Contents.table c.args.handles.now in let table = c.args.table.now in
    let made = c.deref.ensures.value ∙ c.in_ok-rows.ensures in
    let same : plain_table (λ (bytes : List ℕ). bytes) c.deref.result.now table.extra table.map_attributes ≡ draft_table t c.args.selection table =
    ap (λ (rows : List fork.Row). plain_table (λ (bytes : List ℕ). bytes) rows table.extra table.map_attributes) made
    ∙ table_same (draft_table t c.args.selection table) in
    record {
      extra = search rules;
      bytes_are = c.in-Ok.ensures.written ∙ ap written same;
      small = subst (λ (xs : List ℕ). length xs ≤ max_fork) (sym c.in-Ok.ensures.written) c.in-Ok.ensures.small;
      places_are = c.in_ok-places.ensures ∙ ap (new_places 256) (c.deref-3.ensures.value ∙ c.in_ok-rows.ensures);
      kept_are = c.in_ok-kept.ensures ∙ ap (kept_ranges c.args.selection 0 table.rows) c.deref-4.ensures.value;
    }

pub returns-clause-fits : goal.returns-clause-fits
returns-clause-fits g c =
    let t = g.C.Contents.table c.args.handles.now in let table = c.args.table.now in
    let made = c.deref.ensures.value ∙ c.in_ok-rows.ensures in
    let same : plain_table (λ (bytes : List ℕ). bytes) c.deref.result.now table.extra table.map_attributes ≡ draft_table t c.args.selection table =
    ap (λ (rows : List fork.Row). plain_table (λ (bytes : List ℕ). bytes) rows table.extra table.map_attributes) made
    ∙ table_same (draft_table t c.args.selection table) in
    subst Fits same c.in-Ok.ensures.fits

pub returns-clause-table : goal.returns-clause-table
returns-clause-table g c = λ grouped.
    let t = g.C.Contents.table c.args.handles.now in let table = c.args.table.now in
    let made = c.deref.ensures.value ∙ c.in_ok-rows.ensures in
    let same : plain_table (λ (bytes : List ℕ). bytes) c.deref.result.now table.extra table.map_attributes ≡ draft_table t c.args.selection table =
    ap (λ (rows : List fork.Row). plain_table (λ (bytes : List ℕ). bytes) rows table.extra table.map_attributes) made
    ∙ table_same (draft_table t c.args.selection table) in
    let P : Table → Type 0 = λ table. IsGrouped table.rows in
    let bytes = subst AreBytes c.deref-2.ensures.value c.known_bytes.ensures in
    subst IsTable same (c.fork_laws.ensures.whole _ _ bytes (c.in-Ok.ensures.stands (subst P (sym same) grouped)))

pub new_places-requires : goal.new_places-requires
new_places-requires g c =
    let plain : List fork.Row → Table = λ rows. plain_table (λ (bytes : List ℕ). bytes) rows c.args.table.now.extra c.args.table.now.map_attributes in
    let over = length-over (plain c.deref.result.now) in let small = c.in-Ok.ensures.small in
    let same = ap (λ (rows : List fork.Row). length (data_text rows)) (bytes_same c.deref.result.now ∙ c.deref.ensures.value ∙ sym c.deref-3.ensures.value) in
    omega (arith, over, small, same)
