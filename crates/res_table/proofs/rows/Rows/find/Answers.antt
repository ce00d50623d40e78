use Rattle.std.proofs.Common.{w16, ◌≡◌, ◌==◌, ℕ, ℤ, position, true, false, sym, ap, ◌∙◌, arith}
use Rattle.std.proofs.lemmas.Int.{to_z-of_z}
use Rattle.res_table.specs.Rows.{is_resource}
use Rattle.res_table.specs.Keyed.{key_of_resource, first_place}
use Rattle.res_table.specs.Indexed.{resource_key, pairs_of}
use Rattle.res_table.proofs.RowPairs.{order_kept}
use Rattle.res_table.proofs.Resources.{none_found, one_found, found_within, key_found}
use Rattle.res_table.proofs.rows.Rows.find.Goals as goal

pub find-requires : goal.find-requires
find-requires g c = order_kept resource_key c.self.inside.resources.pairs c.self.inside.rows.items c.self.invariant.3

pub returns-in_err-index : goal.returns-in_err-index
returns-in_err-index g c =
    let rows = c.self.inside.rows.items in
    let key = c.key_of_resource.ensures.key ∙ ap (key_of_resource c.args.kind) (to_z-of_z w16 c.args.id c.ranges.id) in
    let none = sym (c.find.ensures ∙ ap (first_place c.key_of_resource.result) c.self.invariant.3 ∙ ap (λ (k : ℕ). first_place k (pairs_of resource_key rows)) key) ∙ c.in_err-index.was in
    c.from_residual.ensures ∙ sym (none_found c.args.kind c.args.id rows none) ∙ ap (position (is_resource c.args.kind c.args.id)) c.self.view_is

pub index-requires : goal.index-requires
index-requires g c =
    let rows = c.self.inside.rows.items in
    let inside = found_within c.key_of_resource.result c.in_ok-index.index rows (sym (c.find.ensures ∙ ap (first_place c.key_of_resource.result) c.self.invariant.3) ∙ c.in_ok-index.was) in
    let ok = c.self.inside.rows.ok.0 in omega arith

pub prove-unreachable-requires : goal.prove-unreachable-requires
prove-unreachable-requires g c =
    let rows = c.self.inside.rows.items in let r = c.index.result.now in
    let some = sym (c.find.ensures ∙ ap (first_place c.key_of_resource.result) c.self.invariant.3) ∙ c.in_ok-index.was in
    let is = key_found c.key_of_resource.result c.in_ok-index.index r rows some c.index.ensures in
    let told : false ≡ true =
    sym c.if-prove.true ∙ c.has_key_of.ensures.key ∙ ap (λ (k : ℕ). key_of_resource r.resource.kind r.resource.id == k) (sym c.key_of_resource.ensures.key) ∙ is in
    cc told

pub returns : goal.returns
returns g c =
    let rows = c.self.inside.rows.items in
    let key = c.key_of_resource.ensures.key ∙ ap (key_of_resource c.args.kind) (to_z-of_z w16 c.args.id c.ranges.id) in
    let some = sym (c.find.ensures ∙ ap (first_place c.key_of_resource.result) c.self.invariant.3 ∙ ap (λ (k : ℕ). first_place k (pairs_of resource_key rows)) key) ∙ c.in_ok-index.was in
    let is = sym (c.has_key_of.ensures.resource ∙ ap (λ (z : ℤ). is_resource c.args.kind z c.index.result.now) (to_z-of_z w16 c.args.id c.ranges.id)) ∙ c.if-prove.false in
    sym (one_found c.args.kind c.args.id c.in_ok-index.index c.index.result.now rows some c.index.ensures is) ∙ ap (position (is_resource c.args.kind c.args.id)) c.self.view_is
