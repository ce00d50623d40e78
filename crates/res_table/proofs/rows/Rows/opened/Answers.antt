use Rattle.std.proofs.Common.{◌++◌, ◌∷◌, [], ◌+◌, ℕ, Option, List, append_assoc, length, length-append, map, subst, sym, ap, ◌∙◌, ◌≡◌, arith}
use Rattle.std.proofs.lemmas.List.{length-map, map-append}
use Rattle.std.specs.Prelude.{All}
use Rattle.std.proofs.lemmas.List.Elements.{All-push}
use Rattle.std.proofs.lemmas.List.Sums.{sum_by_push}
use Rattle.mac_base.specs.declared.resource.Resource.{Resource}
use Rattle.res_table.specs.declared.row.Row.{Row}
use Rattle.res_table.specs.declared.keyed.Pair.{Pair}
use Rattle.res_table.specs.Rows.{opened_row, name_size, names_size, changed_handle}
use Rattle.res_table.specs.Indexed.{handle_key, pairs_of, IsKept, kinds_of}
use Rattle.res_table.specs.Keyed.{key_of_resource, in_order}
use Rattle.fork_bytes.specs.declared.layout.TypeCount.{TypeCount}
use Rattle.res_table.specs.Kinds.{expanded}
use Rattle.res_table.proofs.RowPairs.{opened_pairs, listed, listed_more, listed_are}
use Rattle.res_table.proofs.RowKinds.{as_many, kinds_more}
use Rattle.res_table.proofs.Resources.{names_few}
use Rattle.res_table.proofs.rows.Rows.opened.Goals as goal

-- the pairs as they come, with that of one more row
with_last : {D : Type 0} (k n : ℕ) (r : Row D) (rows : List (Row D)) → k ≡ key_of_resource r.resource.kind r.resource.id → n ≡ length rows → listed 0 rows ++ record { key = k; place = n } ∷ [] ≡ listed 0 (rows ++ r ∷ [])
with_last k n r rows key long =
    ap (λ (m : ℕ). let p : Pair = record { key = m; place = n } in listed 0 rows ++ p ∷ []) key
    ∙ (let e : n ≡ 0 + length rows = omega arith in ap (λ (m : ℕ). let p : Pair = record { key = key_of_resource r.resource.kind r.resource.id; place = m } in listed 0 rows ++ p ∷ []) e)
    ∙ sym (listed_more 0 r rows)

pub loop-resource-preserved : goal.loop-resource-preserved
loop-resource-preserved g c =
    let rows = c.loop-resource.rows.items in let row = c.opened-row.result in let items = c.in_ok-push-4.ensures.items in (
      items ∙ ap (λ (rs : List (Row _)). rs ++ row ∷ []) c.loop-resource.invariant.0
          ∙ ap (λ (r : Row _). map opened_row c.loop-resource.yielded ++ r ∷ []) c.opened-row.ensures ∙ sym (map-append opened_row c.loop-resource.yielded (c.in-Some.resource ∷ [])),
      c.in_ok-push.ensures ∙ ap (λ (ks : List (List ℕ)). ks ++ c.kind.result ∷ []) c.loop-resource.invariant.1
          ∙ ap (λ (k : List ℕ). kinds_of rows ++ k ∷ []) c.kind.ensures ∙ sym (kinds_more rows row) ∙ ap kinds_of (sym items),
      c.in_ok-push-2.ensures.items ∙ ap (λ (ps : List Pair). ps ++ record { key = c.resource_key.result; place = c.len-in-loop-resource.result } ∷ []) c.loop-resource.invariant.2
          ∙ with_last c.resource_key.result c.len-in-loop-resource.result row rows c.resource_key.ensures.key (c.len-in-loop-resource.ensures ∙ c.loop-resource.rows.ok.0) ∙ ap (listed 0) (sym items),
      ap (λ (n : ℕ). c.loop-resource.names + n) c.name_size-names.ensures.size ∙ ap (λ (n : ℕ). n + name_size row) c.loop-resource.invariant.3 ∙ sym (sum_by_push name_size rows row) ∙ ap names_size (sym items),
      subst (λ (rs : List (Row _)). All IsKept rs) (sym items) (All-push IsKept rows row c.loop-resource.invariant.4 (c.resource_key.ensures.told, c.name_size-names.ensures.short)),
      c.in_ok-push-3.ensures.items ∙ ap (λ (hs : List (Option ℕ)). hs ++ c.changed_handle.result ∷ []) c.loop-resource.invariant.5
          ∙ ap (λ (h : Option ℕ). map changed_handle rows ++ h ∷ []) c.changed_handle.ensures ∙ sym (map-append changed_handle rows (row ∷ [])) ∙ ap (map changed_handle) (sym items),
      append_assoc c.loop-resource.yielded (c.in-Some.resource ∷ []) _ ∙ ap (λ (rest : List (Resource _)). c.loop-resource.yielded ++ rest) (sym c.in-Some.ensures.steps.0) ∙ c.loop-resource.invariant.6,
    )

pub invariant_of-result : goal.invariant_of-result
invariant_of-result g c =
    let len = c.len-2.ensures in let room = c.in_ok-reserve.ensures.room in let ok = c.loop-resource.rows.ok.0 in (
      c.reserve.ensures.same ∙ c.new-handles.ensures ∙ sym (ap (pairs_of handle_key) c.loop-resource.invariant.0 ∙ opened_pairs 0 c.loop-resource.yielded),
      omega arith,
      ap (λ (runs : List TypeCount). expanded runs) c.settle.ensures ∙ c.loop-resource.invariant.1,
      c.sorted.ensures ∙ ap in_order c.loop-resource.invariant.2 ∙ listed_are 0 c.loop-resource.rows.items,
      c.loop-resource.invariant.3,
      c.loop-resource.invariant.4,
      c.loop-resource.invariant.5,
    )

pub push-requires : goal.push-requires
push-requires g c =
    let rows = c.loop-resource.rows in
    let many = ap (λ (kinds : List (List ℕ)). length kinds) c.loop-resource.invariant.1 ∙ as_many rows.items ∙ sym rows.ok.0 in
    let small = rows.small in
    omega (arith, many, small)

-- few rows have short names
pub overflow_add-names : goal.overflow_add-names
overflow_add-names g c =
    let now = c.loop-resource in let size = c.name_size-names.ensures.size in let one = c.name_size-names.ensures.short in
    let is = now.invariant.3 in let all = names_few now.rows.items now.invariant.4 in
    let count = ap (λ (rs : List (Row _)). length rs) now.invariant.0 ∙ length-map now.yielded opened_row in
    let part = sym (length-append now.yielded _) ∙ ap (λ (rs : List (Resource _)). length rs) (now.invariant.6 ∙ c.into_iter-resource-iterator.ensures.into_iter_gives.0) in
    let few = c.requires in omega (arith, size, one, is, all, count, part, few)
