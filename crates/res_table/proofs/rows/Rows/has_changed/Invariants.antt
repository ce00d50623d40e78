use Rattle.std.proofs.Common.{◌≡◌, drop}
use Rattle.std.specs.List.{list_any}
use Rattle.res_table.specs.Rows.{has_changed}
use Rattle.res_table.proofs.Changed.{is_changed_pair}
use Rattle.res_table.proofs.rows.Rows.has_changed.Given as goal

-- the pairs that are left decide
abbrev pub invariant-loop-pair : goal.invariant-loop-pair
invariant-loop-pair g l = list_any (is_changed_pair l.key l.self-inside.rows.items) (drop l.pair-index l.pair-items) ≡ has_changed l.fn.handle l.self-inside.rows.items
