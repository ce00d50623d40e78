use Rattle.std.proofs.Common.{ℕ, Option, Some, remove, subst, ◌≡◌, ◌+◌, ◌-◌, ◌<◌, List, length, sym, ap, ◌∙◌, arith, map, slice_get}
use Rattle.std.specs.Prelude.{All}
use Rattle.res_table.specs.declared.row.Row.{Row}
use Rattle.res_table.specs.Indexed.{handle_key, resource_key, pairs_of, IsKept, kinds_of}
use Rattle.res_table.specs.Keyed.{pulled_up, without_key}
use Rattle.res_table.proofs.RowPairs.{order_kept, pairs_removed, row_is}
use Rattle.res_table.specs.Rows.{name_size, names_size, changed_handle}
use Rattle.res_table.proofs.RowKinds.{removed_are, as_many}
use Rattle.res_table.proofs.Resources.{told_removed}
use Rattle.res_table.proofs.Types.{names_less}
use Rattle.res_table.proofs.ChangedHandles.{handles_removed, index_within}
use Rattle.res_table.proofs.rows.Rows.remove.Goals as goal

left_over : (all rest one : ℕ) → all ≡ rest + one → all - one ≡ rest
left_over all rest one is = omega (arith, is)

pub remove-requires : goal.remove-requires
remove-requires g c = record { order = order_kept handle_key c.self.inside.handles.pairs c.self.inside.rows.items c.self.invariant.0 }

pub invariant_of-self : goal.invariant_of-self
invariant_of-self g c =
    let rows = c.self.inside.rows.items in let r = c.remove-row.result in let i = c.args.index in
    let long = ap (λ (rs : List (Row _)). length rs) c.self.view_is in
    let within : i < length rows = subst (λ (n : ℕ). i < n) (sym long) c.requires in
    let count = c.remove-row.ensures.len in let old = c.self.inside.rows.ok.0 in let new = c.remove-row.new.self.ok.0 in
    let few = c.self.invariant.1 in let room = c.remove.ensures.room in let then = c.pull_up.ensures.room in (
      c.pull_up.ensures.pairs ∙ ap (map (pulled_up i)) (c.remove.ensures.pairs ∙ ap (λ (k : Option ℕ). without_key k i c.self.inside.handles.pairs) c.handle_key.ensures ∙ ap (without_key (handle_key r) i) c.self.invariant.0)
          ∙ pairs_removed handle_key i r rows within c.remove-row.ensures.value ∙ ap (pairs_of handle_key) (sym c.remove-row.ensures.items),
      omega arith,
      c.remove-2.ensures ∙ ap (λ (ks : List (List ℕ)). remove ks i) c.self.invariant.2 ∙ removed_are i rows ∙ ap kinds_of (sym c.remove-row.ensures.items),
      c.pull_up-2.ensures.pairs ∙ ap (map (pulled_up i)) (c.remove-3.ensures.pairs ∙ ap (λ (k : ℕ). without_key (Some k) i c.self.inside.resources.pairs) c.resource_key.ensures.key ∙ ap (without_key (resource_key r) i) c.self.invariant.3)
          ∙ pairs_removed resource_key i r rows within c.remove-row.ensures.value ∙ ap (pairs_of resource_key) (sym c.remove-row.ensures.items),
      ap (λ (n : ℕ). c.self.inside.names - n) c.name_size.ensures.size ∙ left_over c.self.inside.names (names_size (remove rows i)) (name_size r) (c.self.invariant.4 ∙ sym (names_less i r rows within c.remove-row.ensures.value)) ∙ ap names_size (sym c.remove-row.ensures.items),
      subst (λ (rs : List (Row _)). All IsKept rs) (sym c.remove-row.ensures.items) (told_removed i rows c.self.invariant.5),
      c.remove-changed.ensures.items ∙ ap (λ (hs : List (Option ℕ)). remove hs i) c.self.invariant.6 ∙ handles_removed i rows ∙ ap (map changed_handle) (sym c.remove-row.ensures.items),
    )

-- the name of the row is among those that are counted
pub overflow_sub-self : goal.overflow_sub-self
overflow_sub-self g c =
    let rows = c.self.inside.rows.items in let r = c.remove-row.result in
    let long = ap (λ (rs : List (Row _)). length rs) c.self.view_is in
    let within : c.args.index < length rows = subst (λ (n : ℕ). c.args.index < n) (sym long) c.requires in
    let less = names_less c.args.index r rows within c.remove-row.ensures.value in let all = c.self.invariant.4 in let one = c.name_size.ensures.size in
    omega arith

pub remove-requires-2 : goal.remove-requires-2
remove-requires-2 g c =
    let rows = c.self.inside.rows.items in
    let long = ap (λ (rs : List (Row _)). length rs) c.self.view_is in
    let count = ap (λ (ks : List (List ℕ)). length ks) c.self.invariant.2 in let many = as_many rows in let inside = c.requires in omega arith

pub returns-clause-row : goal.returns-clause-row
returns-clause-row g c =
    let rows = c.self.inside.rows.items in
    let long = ap (λ (rs : List (Row _)). length rs) c.self.view_is in
    let within : c.args.index < length rows = subst (λ (n : ℕ). c.args.index < n) (sym long) c.requires in
    sym (ap (λ (rs : List (Row _)). slice_get rs c.args.index) c.self.view_is) ∙ row_is c.args.index c.remove-row.result rows within c.remove-row.ensures.value

pub remove-requires-3 : goal.remove-requires-3
remove-requires-3 g c = record { order = order_kept resource_key c.self.inside.resources.pairs c.self.inside.rows.items c.self.invariant.3 }

pub remove-row-requires : goal.remove-row-requires
remove-row-requires g c = subst (λ (n : ℕ). c.args.index < n) (ap (λ (rows : List (Row _)). length rows) (sym c.self.view_is) ∙ sym c.self.inside.rows.ok.0) c.requires

pub remove-changed-requires : goal.remove-changed-requires
remove-changed-requires g c = index_within c.args.index _ c.self.inside.rows.items c.args.self.now c.self.inside.changed.items c.self.inside.changed.ok.0 c.self.invariant.6 c.self.view_is c.requires
