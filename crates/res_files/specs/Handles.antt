-- Rows that have one of some handles.
use Rattle.std.specs.Prelude.{ℕ, Bool, false, ◌==◌, List}
use Rattle.std.specs.List.{list_any}
use Rattle.std.specs.Option.{option_map_or}
use Rattle.res_table.specs.declared.row.Row.{Row}

-- whether a row has one of these handles
abbrev pub is_among : {D : Type 0} → List ℕ → Row D → Bool
is_among handles r = option_map_or (λ h. list_any (λ x. x == h) handles) r.handle false
