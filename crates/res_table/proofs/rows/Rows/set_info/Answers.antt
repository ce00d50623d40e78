use Rattle.std.proofs.Common.{◌≡◌, ◌<◌, ◌≤◌, ◌+◌, ◌-◌, ℕ, ℤ, Some, Option, List, get_or, set, length, subst, sym, ap, ◌∙◌, arith, w16}
use Rattle.std.proofs.lemmas.Int.{to_z-of_z}
use Rattle.std.proofs.lemmas.List.{get_or-set_same}
use Rattle.res_table.specs.declared.row.Row.{Row}
use Rattle.res_table.specs.declared.keyed.Pair.{Pair}
use Rattle.res_table.specs.Info.{with_info}
use Rattle.res_table.specs.Rows.{changed_handle, name_size}
use Rattle.res_table.specs.Keyed.{AreInOrder, with_key, without_key}
use Rattle.res_table.specs.Indexed.{IsTold, most_name_size, resource_key, pairs_of}
use Rattle.res_table.proofs.RowPairs.{kept, order_kept, replaced_is, replaced_few, row_is}
use Rattle.res_table.proofs.Pairs.{order_without}
use Rattle.res_table.proofs.Resources.{names_few}
use Rattle.res_table.proofs.InfoKept.{info_kept}
use Rattle.res_table.proofs.KeptRows.{row_changed}
use Rattle.res_table.proofs.ChangedHandles.{handles_kept}
use Rattle.res_table.proofs.rows.Rows.set_info.Goals as goal

-- a row that was set is read
read_again : {D : Type 0} (i : ℕ) (new now : Row D) (rows : List (Row D)) → i < length rows → now ≡ get_or (set rows i new) i now → now ≡ new
read_again i new now rows within read = read ∙ get_or-set_same rows i new now within

-- a row that is read twice is the same
read_twice : {D : Type 0} (i : ℕ) (a b : Row D) (rows : List (Row D)) → i < length rows → a ≡ get_or rows i a → b ≡ get_or rows i b → a ≡ b
read_twice i a b rows within is same =
    let one = row_is i a rows within is in let other = row_is i b rows within same in cc

-- the pairs are those of the rows, of which one has another key
pairs_are : {D : Type 0} (i : ℕ) (r new now : Row D) (rows : List (Row D)) (ps left : List Pair) (k l : Option ℕ) → i < length rows → r ≡ get_or rows i r → now ≡ new → ps ≡ pairs_of resource_key rows
    → left ≡ without_key k i ps → k ≡ resource_key r → l ≡ resource_key now → with_key l i left ≡ pairs_of resource_key (set rows i new)
pairs_are i r new now rows ps left k l within read again all less old then =
    ap (λ (m : Option ℕ). with_key m i left) (then ∙ ap resource_key again)
    ∙ replaced_is resource_key i r new rows ps left within read all (less ∙ ap (λ (m : Option ℕ). without_key m i ps) old)

pub remove-requires : goal.remove-requires
remove-requires g c = record { order = subst AreInOrder (sym c.reserve.ensures.same) (order_kept resource_key c.self.inside.resources.pairs c.self.inside.rows.items c.self.invariant.3) }

pub add-requires-clause-order : goal.add-requires-clause-order
add-requires-clause-order g c =
    subst AreInOrder (sym c.remove.ensures.pairs) (order_without (Some c.resource_key-old.result) c.args.index c.reserve.new.self.pairs
    (subst AreInOrder (sym c.reserve.ensures.same) (order_kept resource_key c.self.inside.resources.pairs c.self.inside.rows.items c.self.invariant.3)))

pub add-requires-clause-room : goal.add-requires-clause-room
add-requires-clause-room g c =
    let rows = c.self.inside.rows.items in let i = c.args.index in let new = c.set_info.new.self in
    let long = ap (λ (rs : List (Row _)). length rs) c.self.view_is in
    let within : i < length rows = subst (λ (n : ℕ). i < n) (sym long) c.requires.within in
    let is = pairs_are i c.index.result.now new c.index-3.result.now rows c.reserve.new.self.pairs c.remove.new.self.pairs (Some c.resource_key-old.result) (Some c.resource_key-new.result) within c.index.ensures
    (read_again i new c.index-3.result.now rows within c.index-3.ensures) (c.reserve.ensures.same ∙ c.self.invariant.3) c.remove.ensures.pairs (ap (λ (k : ℕ). Some k) c.resource_key-old.ensures.key) (ap (λ (k : ℕ). Some k) c.resource_key-new.ensures.key) in
    let len = c.len.ensures in let ok = c.self.inside.rows.ok.0 in let room = c.in_ok-reserve.ensures.room in let then = c.remove.ensures.room in
    replaced_few resource_key i new rows _ c.remove.new.self.room is (omega (arith, len, ok, room, then))

pub overflow_sub-self : goal.overflow_sub-self
overflow_sub-self g c =
    let rows = c.self.inside.rows.items in let i = c.args.index in let r = c.index_mut.result.now in let new = c.set_info.new.self in
    let long = ap (λ (rs : List (Row _)). length rs) c.self.view_is in
    let within : i < length rows = subst (λ (n : ℕ). i < n) (sym long) c.requires.within in
    let size = sym (c.name_size-less.ensures.size ∙ ap (λ (x : Row _). name_size x) (read_twice i c.index-2.result.now r rows within c.index-2.ensures c.index_mut.ensures.value)) in
    let told = subst (λ (x : Row _). IsTold x) (read_again i new c.index-3.result.now rows within c.index-3.ensures) c.resource_key-new.ensures.told in
    let short = subst (λ (x : Row _). name_size x ≤ most_name_size) (read_again i new c.index-4.result.now rows within c.index-4.ensures) c.name_size-more.ensures.short in
    (info_kept i r new rows _ c.self.inside.names c.name_size-less.result within c.index_mut.ensures.value (ap (λ (x : Row _). x.resource.kind) c.set_info.ensures) size (told, short)
    c.self.invariant.2 c.self.invariant.4 c.self.invariant.5).1

pub overflow_add-self : goal.overflow_add-self
overflow_add-self g c =
    let rows = c.self.inside.rows.items in
    let is = c.self.invariant.4 in let all = names_few rows c.self.invariant.5 in let one = c.name_size-more.ensures.short in let size = c.name_size-more.ensures.size in
    let long = ap (λ (rs : List (Row _)). length rs) c.self.view_is in let few = c.requires.few in omega (arith, is, all, one, size, long, few)

pub returns-clause-set : goal.returns-clause-set
returns-clause-set g c =
    ap (λ (x : Row _). set c.self.inside.rows.items c.args.index x) (c.set_info.ensures ∙ ap (λ (z : ℤ). with_info z c.args.name c.index_mut.result.now) (to_z-of_z w16 c.args.id c.ranges.id))
    ∙ row_changed c.args.index c.index_mut.result.now c.self.inside.rows.items c.args.self.now c.self.view_is c.requires.within c.index_mut.ensures.value (with_info c.args.id c.args.name)

pub invariant_of-self-2 : goal.invariant_of-self-2
invariant_of-self-2 g c =
    let rows = c.self.inside.rows.items in let i = c.args.index in let r = c.index_mut.result.now in let new = c.set_info.new.self in
    let long = ap (λ (rs : List (Row _)). length rs) c.self.view_is in
    let within : i < length rows = subst (λ (n : ℕ). i < n) (sym long) c.requires.within in
    let again = read_again i new c.index-3.result.now rows within c.index-3.ensures in let last = read_again i new c.index-4.result.now rows within c.index-4.ensures in
    let is = pairs_are i c.index.result.now new c.index-3.result.now rows c.reserve.new.self.pairs c.remove.new.self.pairs (Some c.resource_key-old.result) (Some c.resource_key-new.result) within c.index.ensures
    again (c.reserve.ensures.same ∙ c.self.invariant.3) c.remove.ensures.pairs (ap (λ (k : ℕ). Some k) c.resource_key-old.ensures.key) (ap (λ (k : ℕ). Some k) c.resource_key-new.ensures.key) in
    let size = sym (c.name_size-less.ensures.size ∙ ap (λ (x : Row _). name_size x) (read_twice i c.index-2.result.now r rows within c.index-2.ensures c.index_mut.ensures.value)) in
    let told = subst (λ (x : Row _). IsTold x) again c.resource_key-new.ensures.told in
    let short = subst (λ (x : Row _). name_size x ≤ most_name_size) last c.name_size-more.ensures.short in
    let rest = info_kept i r new rows _ c.self.inside.names c.name_size-less.result within c.index_mut.ensures.value (ap (λ (x : Row _). x.resource.kind) c.set_info.ensures) size (told, short)
    c.self.invariant.2 c.self.invariant.4 c.self.invariant.5 in
    let handles = kept i r new rows c.self.inside.handles.pairs c.self.inside.handles.room c.index_mut.ensures.value (ap (λ (x : Row _). x.handle) c.set_info.ensures) (c.self.invariant.0, c.self.invariant.1) in (
      handles.0,
      handles.1,
      rest.0,
      c.add.ensures.pairs ∙ is,
      ap (λ (n : ℕ). c.self.inside.names - c.name_size-less.result + n) (c.name_size-more.ensures.size ∙ ap (λ (x : Row _). name_size x) last) ∙ rest.2,
      rest.3,
      c.self.invariant.6 ∙ sym (handles_kept i r new rows c.index_mut.ensures.value (ap (λ (x : Row _). changed_handle x) c.set_info.ensures)),
    )
