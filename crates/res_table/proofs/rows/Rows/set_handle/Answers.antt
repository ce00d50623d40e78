use Rattle.std.proofs.Common.{◌≡◌, ◌<◌, ℕ, Option, List, get_or, set, length, refl, subst, sym, ap, ◌∙◌, arith}
use Rattle.std.proofs.lemmas.List.{length-set, get_or-set_same}
use Rattle.res_table.specs.declared.row.Row.{Row}
use Rattle.res_table.specs.declared.keyed.Pair.{Pair}
use Rattle.res_table.specs.Rows.{with_handle}
use Rattle.res_table.specs.Keyed.{AreInOrder, with_key, without_key}
use Rattle.res_table.specs.Indexed.{handle_key, pairs_of}
use Rattle.res_table.proofs.RowPairs.{order_kept, replaced_is, replaced_few}
use Rattle.res_table.proofs.Pairs.{order_without}
use Rattle.res_table.proofs.KeptRows.{rest_kept, row_changed}
use Rattle.res_table.proofs.ChangedHandles.{handles_set, index_within}
use Rattle.res_table.proofs.rows.Rows.set_handle.Goals as goal

pub remove-requires : goal.remove-requires
remove-requires g c = record { order = order_kept handle_key c.self.inside.handles.pairs c.self.inside.rows.items c.self.invariant.0 }

pub add-requires-clause-order : goal.add-requires-clause-order
add-requires-clause-order g c =
    let pairs = c.self.inside.handles.pairs in
    subst AreInOrder (sym c.remove.ensures.pairs) (order_without c.handle_key-old.result c.args.index pairs (order_kept handle_key pairs c.self.inside.rows.items c.self.invariant.0))

-- the pairs are those of the rows, of which one has another handle
pairs_are : {D : Type 0} (i : ℕ) (r new now : Row D) (rows : List (Row D)) (ps left : List Pair) (k l : Option ℕ) → i < length rows → r ≡ get_or rows i r → now ≡ get_or (set rows i new) i now → ps ≡ pairs_of handle_key rows
    → left ≡ without_key k i ps → k ≡ handle_key r → l ≡ handle_key now → with_key l i left ≡ pairs_of handle_key (set rows i new)
pairs_are i r new now rows ps left k l within is read all less old then =
    ap (λ (m : Option ℕ). with_key m i left) (then ∙ ap handle_key (read ∙ get_or-set_same rows i new now within))
    ∙ replaced_is handle_key i r new rows ps left within is all (less ∙ ap (λ (m : Option ℕ). without_key m i ps) old)

pub add-requires-clause-room : goal.add-requires-clause-room
add-requires-clause-room g c =
    let rows = c.self.inside.rows.items in let i = c.args.index in let pairs = c.self.inside.handles.pairs in
    let long = ap (λ (rs : List (Row _)). length rs) c.self.view_is in
    let within : i < length rows = subst (λ (n : ℕ). i < n) (sym long) c.requires in
    let new = with_handle c.args.handle c.index_mut.result.now in
    let is = pairs_are i c.index.result.now new c.index-2.result.now rows pairs c.remove.new.self.pairs c.handle_key-old.result c.handle_key-new.result within c.index.ensures c.index-2.ensures
    c.self.invariant.0 c.remove.ensures.pairs c.handle_key-old.ensures c.handle_key-new.ensures in
    let room = c.remove.ensures.room in let few = c.self.invariant.1 in
    replaced_few handle_key i new rows _ c.remove.new.self.room is (omega arith)

pub invariant_of-self : goal.invariant_of-self
invariant_of-self g c =
    let rows = c.self.inside.rows.items in let i = c.args.index in let pairs = c.self.inside.handles.pairs in
    let long = ap (λ (rs : List (Row _)). length rs) c.self.view_is in
    let within : i < length rows = subst (λ (n : ℕ). i < n) (sym long) c.requires in
    let new = with_handle c.args.handle c.index_mut.result.now in
    let is = pairs_are i c.index.result.now new c.index-2.result.now rows pairs c.remove.new.self.pairs c.handle_key-old.result c.handle_key-new.result within c.index.ensures c.index-2.ensures
    c.self.invariant.0 c.remove.ensures.pairs c.handle_key-old.ensures c.handle_key-new.ensures in
    let rest = rest_kept c.args.index c.index_mut.result.now c.self.inside.rows.items c.args.self.now c.self.view_is c.requires c.index_mut.ensures.value new _ _ _ refl refl refl (λ told. told) c.self.invariant.2 c.self.invariant.3 c.self.invariant.4 c.self.invariant.5 in
    let room = c.remove.ensures.room in let last = c.add.ensures.room in let few = c.self.invariant.1 in let n = length-set rows i new in (
      c.add.ensures.pairs ∙ is,
      omega arith,
      rest.0,
      rest.1,
      rest.2,
      rest.3,
      handles_set i new c.index-3.result.now rows c.self.inside.changed.items c.changed_handle.result within c.index-3.ensures c.self.invariant.6 c.changed_handle.ensures,
    )

pub returns : goal.returns
returns g c = row_changed c.args.index c.index_mut.result.now c.self.inside.rows.items c.args.self.now c.self.view_is c.requires c.index_mut.ensures.value (with_handle c.args.handle)

pub index_mut-requires : goal.index_mut-requires
index_mut-requires g c = subst (λ (n : ℕ). c.args.index < n) (ap (λ (rows : List (Row _)). length rows) (sym c.self.view_is) ∙ sym c.self.inside.rows.ok.0) c.requires

pub index-requires-2 : goal.index-requires-2
index-requires-2 g c = subst (λ (n : ℕ). c.args.index < n) (ap (λ (rows : List (Row _)). length rows) (sym c.self.view_is) ∙ sym c.self.inside.rows.ok.0) c.requires

pub index-requires : goal.index-requires
index-requires g c = subst (λ (n : ℕ). c.args.index < n) (ap (λ (rows : List (Row _)). length rows) (sym c.self.view_is) ∙ sym c.self.inside.rows.ok.0) c.requires

pub index-requires-3 : goal.index-requires-3
index-requires-3 g c = subst (λ (n : ℕ). c.args.index < n) (ap (λ (rows : List (Row _)). length rows) (sym c.self.view_is) ∙ sym c.self.inside.rows.ok.0) c.requires

pub index_mut-requires-2 : goal.index_mut-requires-2
index_mut-requires-2 g c = index_within c.args.index _ c.self.inside.rows.items c.args.self.now c.self.inside.changed.items c.self.inside.changed.ok.0 c.self.invariant.6 c.self.view_is c.requires
