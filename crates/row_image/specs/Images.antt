-- Rows of files that can be said as forks.
use Rattle.std.specs.Prelude.{◌<◌, ◌^◌, IfSome}
use Rattle.std.specs.List.{AllByRecursion}
use Rattle.fork_bytes.specs.declared.place.Place.{Place}
use Rattle.fork_bytes.specs.Fork.{StandsFor}
use Rattle.fork_bytes.specs.Laws.{IsGrouped}
use Rattle.fork_bytes.specs.Written.{IsTooBig}
use Rattle.res_table.specs.declared.row.Row.{Row}
use Rattle.res_table.specs.declared.chain.OpenFile.{OpenFile}
use Rattle.res_table.specs.declared.chain.ResourceTable.{ResourceTable}
use Rattle.res_table.specs.Rows.{opened_row}
use Rattle.res_table.specs.Saved.{bare}
use Rattle.row_image.specs.declared.info.RowInfo.{RowInfo}
use Rattle.row_image.specs.Infos.{image_text, info_of, info_table}

-- four bytes hold each number that is said of a row
pub record IsTold (i : RowInfo) : Type 0 where
  pub offset : i.place.offset < 2 ^ 32
  pub length : i.place.length < 2 ^ 32
  pub handle : IfSome i.handle (λ h. h < 2 ^ 32)

-- so they hold what is said of a row
abbrev pub IsToldRow : Row Place → Type 0
IsToldRow r = IsTold (info_of r)

-- the rows of a file can be said as a fork
pub record HasImage (t : ResourceTable Place) : Type 0 where
  pub told : AllByRecursion IsToldRow t.rows
  pub fits : ¬ IsTooBig (info_table t)
  pub stands : StandsFor (image_text t) (info_table t)

-- the rows of each type of an open file are together
abbrev pub IsGroupedFile : OpenFile Place → Type 0
IsGroupedFile f = IsGrouped (bare f.table.rows)

-- the rows of an open file can be said as a fork
abbrev pub HasImages : OpenFile Place → Type 0
HasImages f = HasImage f.table

-- a row as it is when its file is opened: it has no handle, and isn't changed
abbrev pub as_opened : Row Place → Row Place
as_opened r = opened_row r.resource
