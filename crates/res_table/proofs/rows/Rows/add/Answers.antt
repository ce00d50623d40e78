use Rattle.std.proofs.Common.{rules, true, Option, Some, ◌≡◌, sym, ap, ◌∙◌, ◌≤◌, ◌<◌, ◌+◌, ℕ, List, length, map, subst, arith}
use Rattle.std.specs.Prelude.{insert, vec_len, vec_capacity, is_ok, All}
use Rattle.std.proofs.lemmas.List.Edits.{length-insert}
use Rattle.std.proofs.lemmas.List.Sums.{sum_by-insert}
use Rattle.res_table.specs.declared.row.Row.{Row}
use Rattle.res_table.specs.declared.keyed.Pair.{Pair}
use Rattle.res_table.specs.Indexed.{handle_key, resource_key, pairs_of, IsKept, kinds_of}
use Rattle.res_table.specs.Keyed.{pushed_back, with_key, AreInOrder}
use Rattle.res_table.proofs.RowPairs.{places_below, order_pushed, pushed_is, few_pairs}
use Rattle.res_table.proofs.Resources.{names_few, told_inserted}
use Rattle.res_table.specs.After.{end_of_type}
use Rattle.res_table.specs.Rows.{name_size, names_size, changed_handle}
use Rattle.res_table.proofs.Adding.{insert-at-end, end-within}
use Rattle.fork_bytes.specs.declared.layout.TypeCount.{TypeCount}
use Rattle.res_table.specs.Kinds.{expanded, with_kind}
use Rattle.res_table.proofs.RowKinds.{added_are, as_many}
use Rattle.res_table.proofs.ChangedHandles.{handles_inserted, as_many_handles}
use Rattle.res_table.proofs.rows.Rows.add.Goals as goal

-- src/rows.rt:73:9
pub insert-requires : goal.insert-requires
insert-requires g c = subst (λ n. n ≤ vec_len c.self.inside.rows) (sym (c.end_of_type-at.ensures ∙ ap (end_of_type c.kind-kind.result) (sym c.self.view_is)))
    (subst (λ n. end_of_type c.kind-kind.result c.self.inside.rows.items ≤ n) (sym (c.self.inside.rows.ok.0)) (end-within c.kind-kind.result c.self.inside.rows.items))

-- src/rows.rt:66:5
pub returns-clause-added : goal.returns-clause-added
returns-clause-added g c = c.in_ok-insert.ensures.items
    ∙ ap (λ at. insert c.self.inside.rows.items at c.args.row) (c.end_of_type-at.ensures ∙ ap (λ kind. end_of_type kind c.args.self.now) c.kind-kind.ensures)
    ∙ ap (λ rows. insert rows (end_of_type c.args.row.resource.kind c.args.self.now) c.args.row) c.self.view_is
    ∙ insert-at-end c.args.row c.args.self.now

-- each pair is of a row
of_rows : {D : Type 0} (key : Row D → Option ℕ) (count : ℕ) (rows : List (Row D)) (pairs : List Pair) → count ≡ length rows → pairs ≡ pairs_of key rows → All (λ p. p.place < count) pairs
of_rows key count rows pairs many is = subst (λ (ps : List Pair). All (λ p. p.place < count) ps) (sym is) (places_below key count rows many)

pub push_back-requires : goal.push_back-requires
push_back-requires g c = of_rows handle_key c.len-count.result c.self.inside.rows.items _ (c.len-count.ensures ∙ c.self.inside.rows.ok.0) (c.reserve.ensures.same ∙ c.self.invariant.0)

pub push_back-requires-2 : goal.push_back-requires-2
push_back-requires-2 g c = of_rows resource_key c.len-count.result c.self.inside.rows.items _ (c.len-count.ensures ∙ c.self.inside.rows.ok.0) (c.reserve-3.ensures.same ∙ c.self.invariant.3)

within : {D : Type 0} (kind : List ℕ) (at : ℕ) (rows now : List (Row D)) → rows ≡ now → at ≡ end_of_type kind now → at ≤ length rows
within kind at rows now same is = subst (λ (n : ℕ). n ≤ length rows) (sym (is ∙ ap (end_of_type kind) (sym same))) (end-within kind rows)

-- pairs that have moved
in_order : {D : Type 0} (key : Row D → Option ℕ) (at : ℕ) (rows : List (Row D)) (old moved : List Pair) → moved ≡ map (pushed_back at) old → old ≡ pairs_of key rows → AreInOrder moved
in_order key at rows old moved is all = subst AreInOrder (sym (is ∙ ap (map (pushed_back at)) all)) (order_pushed key at rows)

-- with that of the new row
with_new : {D : Type 0} (key : Row D → Option ℕ) (k : Option ℕ) (at : ℕ) (r : Row D) (rows : List (Row D)) (old moved : List Pair) → k ≡ key r → at ≤ length rows → moved ≡ map (pushed_back at) old → old ≡ pairs_of key rows
    → with_key k at moved ≡ pairs_of key (insert rows at r)
with_new key k at r rows old moved same inside is all =
    ap (λ (m : Option ℕ). with_key m at moved) same ∙ ap (with_key (key r) at) (is ∙ ap (map (pushed_back at)) all) ∙ pushed_is key at r rows inside

-- there is room for it
room_for_new : {D : Type 0} (key : Row D → Option ℕ) (at room : ℕ) (r : Row D) (rows : List (Row D)) (ps : List Pair) → at ≤ length rows → ps ≡ pairs_of key (insert rows at r) → length rows + 1 ≤ room → length ps ≤ room
room_for_new key at room r rows ps inside is more =
    let count = ap (λ (qs : List Pair). length qs) is in let few = few_pairs key 0 (insert rows at r) in let n = length-insert rows at r inside in omega arith

pub add-requires-clause-order : goal.add-requires-clause-order
add-requires-clause-order g c = in_order handle_key c.end_of_type-at.result c.self.inside.rows.items _ _ c.push_back.ensures.pairs (c.reserve.ensures.same ∙ c.self.invariant.0)

pub add-requires-3-clause-order : goal.add-requires-3-clause-order
add-requires-3-clause-order g c = in_order resource_key c.end_of_type-at.result c.self.inside.rows.items _ _ c.push_back-2.ensures.pairs (c.reserve-3.ensures.same ∙ c.self.invariant.3)

pub add-requires-clause-room : goal.add-requires-clause-room
add-requires-clause-room g c =
    let rows = c.self.inside.rows.items in let at = c.end_of_type-at.result in let r = c.args.row in
    let inside = within c.kind-kind.result at rows c.args.self.now c.self.view_is c.end_of_type-at.ensures in
    let is = with_new handle_key c.handle_key-handle.result at r rows _ c.push_back.new.self.pairs c.handle_key-handle.ensures inside c.push_back.ensures.pairs (c.reserve.ensures.same ∙ c.self.invariant.0) in
    let len = c.len-count.ensures in let ok = c.self.inside.rows.ok.0 in let room = c.in_ok-reserve.ensures.room in let then = c.push_back.ensures.room in
    room_for_new handle_key at _ r rows _ inside is (omega (arith, len, ok, room, then))

pub add-requires-3-clause-room : goal.add-requires-3-clause-room
add-requires-3-clause-room g c =
    let rows = c.self.inside.rows.items in let at = c.end_of_type-at.result in let r = c.args.row in
    let inside = within c.kind-kind.result at rows c.args.self.now c.self.view_is c.end_of_type-at.ensures in
    let is = with_new resource_key (Some c.resource_key-key.result) at r rows _ c.push_back-2.new.self.pairs (ap Some c.resource_key-key.ensures.key) inside c.push_back-2.ensures.pairs (c.reserve-3.ensures.same ∙ c.self.invariant.3) in
    let len = c.len-count.ensures in let ok = c.self.inside.rows.ok.0 in let room = c.in_ok-reserve-3.ensures.room in let then = c.push_back-2.ensures.room in
    room_for_new resource_key at _ r rows _ inside is (omega (arith, len, ok, room, then))

pub invariant_of-self-2 : goal.invariant_of-self-2
invariant_of-self-2 g c =
    let rows = c.self.inside.rows.items in let at = c.end_of_type-at.result in let r = c.args.row in
    let inside = within c.kind-kind.result at rows c.args.self.now c.self.view_is c.end_of_type-at.ensures in
    let is = with_new handle_key c.handle_key-handle.result at r rows _ c.push_back.new.self.pairs c.handle_key-handle.ensures inside c.push_back.ensures.pairs (c.reserve.ensures.same ∙ c.self.invariant.0) in
    let keyed = with_new resource_key (Some c.resource_key-key.result) at r rows _ c.push_back-2.new.self.pairs (ap Some c.resource_key-key.ensures.key) inside c.push_back-2.ensures.pairs (c.reserve-3.ensures.same ∙ c.self.invariant.3) in
    let new = c.in_ok-insert.ensures.items in
    let count = ap (λ (rs : List (Row _)). length rs) new in let n = length-insert rows at r inside in
    let len = c.len-count.ensures in let ok = c.self.inside.rows.ok.0 in let room = c.in_ok-reserve.ensures.room in
    let then = c.push_back.ensures.room in let last = c.add.ensures.room in
    let spare = c.in_ok-reserve-4.ensures.ok in
    let one_more : vec_len c.reserve-4.new.self < vec_capacity c.reserve-4.new.self = omega (arith, spare) in
    let done : is_ok c.insert-2.result ≡ true = search (rules, c.insert-2.ensures.succeeds one_more) in (
      c.add.ensures.pairs ∙ is ∙ ap (pairs_of handle_key) (sym new),
      omega (arith, count, n, len, ok, room, then, last),
      c.add-2.ensures ∙ ap (with_kind c.kind-kind.result) (ap (λ (runs : List TypeCount). expanded runs) c.reserve-2.ensures.same ∙ c.self.invariant.2)
          ∙ ap (λ (k : List ℕ). with_kind k (kinds_of rows)) c.kind-kind.ensures ∙ added_are r rows
          ∙ ap kinds_of (sym (new ∙ ap (λ (i : ℕ). insert rows i r) (c.end_of_type-at.ensures ∙ ap (λ (k : List ℕ). end_of_type k c.args.self.now) c.kind-kind.ensures ∙ ap (end_of_type r.resource.kind) (sym c.self.view_is)) ∙ insert-at-end r rows)),
      c.add-3.ensures.pairs ∙ keyed ∙ ap (pairs_of resource_key) (sym new),
      ap (λ (n : ℕ). c.self.inside.names + n) c.name_size.ensures.size ∙ ap (λ (n : ℕ). n + name_size r) c.self.invariant.4 ∙ sym (sum_by-insert name_size rows at r) ∙ ap names_size (sym new),
      subst (λ (rs : List (Row _)). All IsKept rs) (sym new) (told_inserted at r rows (c.resource_key-key.ensures.told, c.name_size.ensures.short) c.self.invariant.5),
      handles_inserted at r rows c.self.inside.changed.items c.reserve-4.new.self.items _ c.changed_handle-changed.result c.reserve-4.ensures.items c.self.invariant.6 c.changed_handle-changed.ensures
          (rw done at c.insert-2.ensures.items) ∙ ap (map changed_handle) (sym new),
    )

pub add-requires-2-clause-small : goal.add-requires-2-clause-small
add-requires-2-clause-small g c =
    let rows = c.self.inside.rows.items in
    let many = ap (λ (runs : List TypeCount). length (expanded runs)) c.reserve-2.ensures.same ∙ ap (λ (kinds : List (List ℕ)). length kinds) c.self.invariant.2 ∙ as_many rows ∙ sym c.self.inside.rows.ok.0 in
    let small = c.self.inside.rows.small in
    omega (arith, many, small)

-- without memory for the row the others are as they were
pub invariant_of-self-in_err-insert : goal.invariant_of-self-in_err-insert
invariant_of-self-in_err-insert g c =
    let same = sym c.in_err-insert.ensures.items in
    let count = ap (λ (rs : List (Row _)). length rs) same in let few = c.self.invariant.1 in let more = c.reserve.ensures.more in (
      c.reserve.ensures.same ∙ c.self.invariant.0 ∙ ap (pairs_of handle_key) same,
      omega arith,
      ap (λ (runs : List TypeCount). expanded runs) c.reserve-2.ensures.same ∙ c.self.invariant.2 ∙ ap kinds_of same,
      c.reserve-3.ensures.same ∙ c.self.invariant.3 ∙ ap (pairs_of resource_key) same,
      c.self.invariant.4 ∙ ap names_size same,
      subst (λ (rs : List (Row _)). All IsKept rs) same c.self.invariant.5,
      c.reserve-4.ensures.items ∙ c.self.invariant.6 ∙ ap (map changed_handle) same,
    )

-- a handle is put in for the row
pub insert-requires-2 : goal.insert-requires-2
insert-requires-2 g c =
    let rows = c.self.inside.rows.items in let at = c.end_of_type-at.result in
    let inside = within c.kind-kind.result at rows c.args.self.now c.self.view_is c.end_of_type-at.ensures in
    let many = as_many_handles rows c.self.inside.changed.items c.self.invariant.6 in
    let same = ap (λ (hs : List (Option ℕ)). length hs) c.reserve-4.ensures.items in let ok = c.reserve-4.new.self.ok.0 in omega (arith, inside, many, same, ok)

-- few rows have short names
pub overflow_add-names : goal.overflow_add-names
overflow_add-names g c =
    let rows = c.self.inside.rows.items in
    let is = c.self.invariant.4 in let all = names_few rows c.self.invariant.5 in let one = c.name_size.ensures.short in let size = c.name_size.ensures.size in
    let long = ap (λ (rs : List (Row _)). length rs) c.self.view_is in let room = c.requires in omega (arith, is, all, one, size, long, room)
