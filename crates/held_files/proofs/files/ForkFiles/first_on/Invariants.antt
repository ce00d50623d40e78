use Rattle.std.proofs.Common.{◌≡◌, ◌-◌, length, drop}
use Rattle.std.specs.Prelude.{filter_map, find}
use Rattle.mac_base.specs.ZoneSizes.{shape_of}
use Rattle.res_update.specs.Changes.{rows_of}
use Rattle.held_files.specs.Elsewhere.{handle_reached, is_on}
use Rattle.held_files.proofs.files.ForkFiles.first_on.Given as goal

-- the rows that are left have the same first one
abbrev pub invariant-loop-found : goal.invariant-loop-found
invariant-loop-found l = find (is_on (shape_of l.zone) l.side) (filter_map (handle_reached l.reach) (drop l.from (rows_of l.number l.files.files)))
    ≡ find (is_on (shape_of l.zone) l.side) (filter_map (handle_reached l.reach) (rows_of l.number l.files.files))

-- the rows that are left
abbrev pub decreases-loop-found : goal.decreases-loop-found
decreases-loop-found l = length (rows_of l.number l.files.files) - l.from
