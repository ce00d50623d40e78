-- All resources of a fork at once.
use Rattle.std.specs.Prelude.{ℕ, ◌==◌, ◌&&◌, if◌then◌else◌, List, length, map, Result, Ok, Err}
use Rattle.std.specs.List.{flat_map}
use Rattle.mac_base.specs.declared.error.OsErr.{OsErr}
use Rattle.mac_base.specs.declared.error.OsErr.TheVariants.{ParamErr}
use Rattle.fork_bytes.specs.Rows.{Row}
use Rattle.fork_c.specs.declared.all.MfSizes.{MfSizes}
use Rattle.fork_c.specs.declared.rows.MfRow.{MfRow}
use Rattle.fork_c.specs.Told.{name_of, shown_row}

-- rows as C is shown them, the bytes of all names one after the other, and those of all data
abbrev pub Parts : Type 0
Parts = List MfRow × List ℕ × List ℕ

-- those of a fork's rows
abbrev pub parts_of : List Row → Parts
parts_of rows = (map shown_row rows, flat_map name_of rows, flat_map (λ (row : Row). row.datum) rows)

-- how many rows there are, and how many bytes of names and of data
abbrev pub sizes_of : Parts → MfSizes
sizes_of parts = record { rows = length parts.0; names = length parts.1; contents = length parts.2 }

-- the sizes of a fork's rows
abbrev pub sizes_in : List Row → Result MfSizes OsErr
sizes_in rows = Ok (sizes_of (parts_of rows))

-- all rows, where C has room for just as many with just as many bytes, or paramErr
abbrev pub parts_in : MfSizes → List Row → Result Parts OsErr
parts_in room rows = let sizes = sizes_of (parts_of rows) in
    if (sizes.rows == room.rows) && (sizes.names == room.names) && (sizes.contents == room.contents) then Ok (parts_of rows) else Err ParamErr
