use Rattle.std.proofs.Common.{◌+◌, ◌-◌, List, length, subst, ap, arith}
use Rattle.res_table.specs.declared.row.Row.{Row}
use Rattle.res_table.specs.declared.keyed.Pair.{Pair}
use Rattle.res_table.specs.Indexed.{resource_key}
use Rattle.res_table.specs.Rows.{largest_id, AreTaken, IsFree}
use Rattle.res_table.proofs.RowPairs.{few_pairs, order_kept}
use Rattle.res_table.proofs.FreeIds.{ids_taken, id_free}
use Rattle.res_table.proofs.rows.Rows.free_id.Goals as goal

pub first_free_key-requires-clause-order : goal.first_free_key-requires-clause-order
first_free_key-requires-clause-order g c = order_kept resource_key c.self.inside.resources.pairs c.self.inside.rows.items c.self.invariant.3

pub first_free_key-requires-clause-room : goal.first_free_key-requires-clause-room
first_free_key-requires-clause-room g c =
    let rows = c.self.inside.rows.items in
    let count = ap (λ (ps : List Pair). length ps) c.self.invariant.3 in let few = few_pairs resource_key 0 rows in
    let long = c.self.inside.rows.ok.0 in let small = c.self.inside.rows.small in
    let low = c.key_of_resource-zero.ensures.few in let id = c.from.ensures in let most = c.requires in omega (arith, count, few, long, small, low, id, most)

pub returns-then-free-gt-MAX_ID-clause-none : goal.returns-then-free-gt-MAX_ID-clause-none
returns-then-free-gt-MAX_ID-clause-none g c =
    let id = c.from.ensures in let past = c.if-free-gt-MAX_ID.true in
    subst (λ (rows : List (Row _)). AreTaken c.args.kind c.args.id (largest_id + 1) rows) c.self.view_is
    (ids_taken c.args.kind c.self.inside.rows.items c.self.inside.resources.pairs c.key_of_resource-zero.result c.self.invariant.3 c.self.invariant.5 c.key_of_resource-zero.ensures.key c.key_of_resource-zero.ensures.kind
    c.args.id c.first_free_key.result (largest_id + 1) (λ k least less. c.first_free_key.ensures.taken k (omega (arith, id, least)) less) (omega (arith, past)) (omega arith))

pub returns-clause-some : goal.returns-clause-some
returns-clause-some g c =
    let id = c.from.ensures in let few = c.if-free-gt-MAX_ID.false in let least = c.first_free_key.ensures.from in (
      omega (arith, id, least),
      omega (arith, few),
      subst (λ (rows : List (Row _)). AreTaken c.args.kind c.args.id (c.first_free_key.result - c.key_of_resource-zero.result) rows) c.self.view_is
          (ids_taken c.args.kind c.self.inside.rows.items c.self.inside.resources.pairs c.key_of_resource-zero.result c.self.invariant.3 c.self.invariant.5 c.key_of_resource-zero.ensures.key c.key_of_resource-zero.ensures.kind
          c.args.id c.first_free_key.result (c.first_free_key.result - c.key_of_resource-zero.result) (λ k low less. c.first_free_key.ensures.taken k (omega (arith, id, low)) less) (omega (arith, id, least)) (omega (arith, few))),
      subst (λ (rows : List (Row _)). IsFree c.args.kind (c.first_free_key.result - c.key_of_resource-zero.result) rows) c.self.view_is
          (id_free c.args.kind c.self.inside.rows.items c.self.inside.resources.pairs c.key_of_resource-zero.result c.self.invariant.3 c.self.invariant.5 c.key_of_resource-zero.ensures.key c.key_of_resource-zero.ensures.kind
          c.first_free_key.result c.first_free_key.ensures.free (omega (arith, id, least)) (omega (arith, few))),
    )
