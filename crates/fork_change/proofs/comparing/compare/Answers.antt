use Rattle.std.proofs.Common.{◌≡◌, ◌≢◌, ◌↔◌, [], false, map, rules}
use Rattle.std.specs.Prelude.{IfNone, IfSome, IsTrue, slice_get}
use Rattle.fork_change.specs.declared.comparing.Differences.{Differences}
use Rattle.fork_change.specs.Differences.{attributes_diff, diff, shown}
use Rattle.fork_change.proofs.Tables.{none_differ}
use Rattle.fork_change.proofs.comparing.compare.Goals as goal

pub returns-clause-none : goal.returns-clause-none
returns-clause-none c =
    let first = c.args.first.now in let second = c.args.second.now in
    let found : Differences =
    record { rows = c.in_ok-rows.rows; is_reordered = c.is_reordered-is_reordered.result; map_attributes = c.attributes_of.result; extra = c.first_difference.result } in
    let rows : map shown found.rows.items ≡ diff first.rows second.rows = search rules in
    let order : IsTrue found.is_reordered ↔ ((found.rows.items ≡ []) × (first.rows ≢ second.rows)) = search rules in
    let kept : found.is_reordered ≡ false → found.rows.items ≡ [] → first.rows ≡ second.rows = search rules in
    let attributes : found.map_attributes ≡ attributes_diff first.map_attributes second.map_attributes = search rules in
    let none : IfNone found.extra (first.extra ≡ second.extra) = search rules in
    let differs : IfSome found.extra (λ at. slice_get first.extra at ≢ slice_get second.extra at) = search rules in
    none_differ first second found rows order kept attributes none differs
