use Rattle.std.proofs.Common.{◌≡◌, ◌+◌, ◌||◌, drop, sym, ap, ◌∙◌, arith}
use Rattle.std.specs.List.{list_any}
use Rattle.std.proofs.lemmas.List.{drop_all}
use Rattle.res_table.specs.Rows.{has_changed}
use Rattle.res_table.specs.Indexed.{handle_key}
use Rattle.res_table.proofs.RowPairs.{order_kept}
use Rattle.res_table.proofs.Changed.{is_changed_pair, all_tell, place_within, none_from, by_row}
use Rattle.res_table.proofs.rows.Rows.has_changed.Goals.{After-is_changed}
use Rattle.res_table.proofs.rows.Rows.has_changed.Goals as goal

pub from_key-pair-items-requires : goal.from_key-pair-items-requires
from_key-pair-items-requires g c = order_kept handle_key c.self.inside.handles.pairs c.self.inside.rows.items c.self.invariant.0

pub loop-pair-init : goal.loop-pair-init
loop-pair-init g c =
    all_tell c.args.handle c.key_of_handle-key.result c.self.inside.rows.items c.self.inside.handles.pairs c.from_key-pair-items.result.now
    c.key_of_handle-key.ensures c.self.invariant.0 c.from_key-pair-items.ensures

pub returns-then-pair-key : goal.returns-then-pair-key
returns-then-pair-key g c =
    sym (none_from c.args.handle c.key_of_handle-key.result c.self.inside.rows.items c.self.inside.handles.pairs c.from_key-pair-items.result.now
    c.key_of_handle-key.ensures c.self.invariant.0 c.from_key-pair-items.ensures c.loop-pair.pair-index _ c.loop-pair-test.true c.if-pair-key.true)
    ∙ c.loop-pair.invariant ∙ ap (has_changed c.args.handle) c.self.view_is

pub index-requires : goal.index-requires
index-requires g c =
    let within = place_within c.args.handle c.key_of_handle-key.result c.self.inside.rows.items c.self.inside.handles.pairs c.from_key-pair-items.result.now
    c.key_of_handle-key.ensures c.self.invariant.0 c.from_key-pair-items.ensures c.loop-pair.pair-index (record { key = 0; place = 0 }) c.loop-pair-test.true in
    let ok = c.self.inside.rows.ok.0 in omega (arith, within, ok)

-- this row and the pairs after it decide
with_row : (g : _) (c : After-is_changed g)
    → (c.is_changed.result || list_any (is_changed_pair c.key_of_handle-key.result c.self.inside.rows.items) (drop (c.loop-pair.pair-index + 1) c.from_key-pair-items.result.now))
    ≡ has_changed c.args.handle c.self.inside.rows.items
with_row g c =
    sym (by_row c.args.handle c.key_of_handle-key.result c.self.inside.rows.items c.self.inside.handles.pairs c.from_key-pair-items.result.now
    c.key_of_handle-key.ensures c.self.invariant.0 c.from_key-pair-items.ensures c.loop-pair.pair-index _ c.index.result.now c.is_changed.result
    c.loop-pair-test.true c.if-pair-key.false c.index.ensures c.is_changed.ensures)
    ∙ c.loop-pair.invariant

pub returns-then-is_changed : goal.returns-then-is_changed
returns-then-is_changed g c = rw c.if-is_changed.true at (with_row g (goal.at.returns-then-is_changed g c).After-is_changed) ∙ ap (has_changed c.args.handle) c.self.view_is

pub loop-pair-preserved : goal.loop-pair-preserved
loop-pair-preserved g c = rw c.if-is_changed.false at (with_row g (goal.at.loop-pair-preserved g c).After-is_changed)

pub returns : goal.returns
returns g c =
    sym (ap (list_any (is_changed_pair c.key_of_handle-key.result c.self.inside.rows.items)) (drop_all c.loop-pair.pair-index c.from_key-pair-items.result.now c.loop-pair-test.false))
    ∙ c.loop-pair.invariant ∙ ap (has_changed c.args.handle) c.self.view_is
