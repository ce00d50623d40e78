use Rattle.std.proofs.Common.{◌<◌, ℕ, List, subst, length, refl, sym, ap, ◌∙◌}
use Rattle.res_table.specs.declared.row.Row.{Row}
use Rattle.res_table.specs.Rows.{with_datum}
use Rattle.res_table.proofs.RowPairs.{kept}
use Rattle.res_table.proofs.KeptRows.{rest_kept, row_changed}
use Rattle.res_table.proofs.ChangedHandles.{handles_kept}
use Rattle.res_table.proofs.rows.Rows.set_datum.Goals as goal

pub invariant_of-self : goal.invariant_of-self
invariant_of-self g c =
    let r = c.index_mut.result.now in let rows = c.self.inside.rows.items in let pairs = c.self.inside.handles.pairs in
    let new = with_datum c.args.datum r in
    let rest = rest_kept c.args.index c.index_mut.result.now c.self.inside.rows.items c.args.self.now c.self.view_is c.requires c.index_mut.ensures.value new _ _ _ refl refl refl (λ told. told) c.self.invariant.2 c.self.invariant.3 c.self.invariant.4 c.self.invariant.5 in
    let all = kept c.args.index r new rows pairs c.self.inside.handles.room c.index_mut.ensures.value refl (c.self.invariant.0, c.self.invariant.1) in
    let handles = c.self.invariant.6 ∙ sym (handles_kept c.args.index r new rows c.index_mut.ensures.value refl) in
    (all.0, all.1, rest.0, rest.1, rest.2, rest.3, handles)

pub returns : goal.returns
returns g c = row_changed c.args.index c.index_mut.result.now c.self.inside.rows.items c.args.self.now c.self.view_is c.requires c.index_mut.ensures.value (with_datum c.args.datum)

pub index_mut-requires : goal.index_mut-requires
index_mut-requires g c = subst (λ (n : ℕ). c.args.index < n) (ap (λ (rows : List (Row _)). length rows) (sym c.self.view_is) ∙ sym c.self.inside.rows.ok.0) c.requires
