use Rattle.std.proofs.Common.{List, sym, ap, ◌∙◌}
use Rattle.std.specs.List.{list_any}
use Rattle.res_table.specs.declared.row.Row.{Row}
use Rattle.res_table.specs.Indexed.{resource_key}
use Rattle.res_table.specs.Rows.{is_of_type}
use Rattle.res_table.proofs.RowPairs.{order_kept}
use Rattle.res_table.proofs.TypeKeys.{none_of_type, first_tells}
use Rattle.res_table.proofs.rows.Rows.has_type.Goals as goal

pub from_key-requires : goal.from_key-requires
from_key-requires g c = order_kept resource_key c.self.inside.resources.pairs c.self.inside.rows.items c.self.invariant.3

pub returns-in-Some : goal.returns-in-Some
returns-in-Some g c =
    sym (first_tells c.args.kind c.self.inside.rows.items c.self.inside.resources.pairs c.from_key.result.now c.key_of_resource-first.result c.self.invariant.3 c.self.invariant.5
    c.key_of_resource-first.ensures.key c.key_of_resource-first.ensures.kind c.from_key.ensures c.in-Some.pair.now
    (order_kept resource_key c.self.inside.resources.pairs c.self.inside.rows.items c.self.invariant.3) c.in-Some.ensures.item.3.0 c.in-Some.ensures.item.1)
    ∙ ap (λ (rows : List (Row _)). list_any (is_of_type c.args.kind) rows) c.self.view_is

pub returns-in-None : goal.returns-in-None
returns-in-None g c =
    sym (none_of_type c.args.kind c.self.inside.rows.items c.self.inside.resources.pairs c.from_key.result.now c.key_of_resource-first.result c.self.invariant.3 c.self.invariant.5
    c.key_of_resource-first.ensures.key c.key_of_resource-first.ensures.kind c.from_key.ensures c.in-None.ensures.item.3)
    ∙ ap (λ (rows : List (Row _)). list_any (is_of_type c.args.kind) rows) c.self.view_is
