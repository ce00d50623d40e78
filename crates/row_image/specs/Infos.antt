-- The rows of a file as a fork, whose resources say where the bytes of the rows are, and their handles.
use Rattle.std.specs.Prelude.{ℕ, List, [], ◌++◌, map, Option, None, Some}
use Rattle.byteorder.specs.Endian.{big_bytes}
use Rattle.fork_bytes.specs.declared.place.Place.{Place}
use Rattle.fork_bytes.specs.declared.table.Table.{Table}
use Rattle.fork_bytes.specs.Written.{plain_table, written}
use Rattle.mac_base.specs.declared.resource.Resource.{Resource}
use Rattle.res_table.specs.declared.row.Row.{Row}
use Rattle.res_table.specs.declared.chain.ResourceTable.{ResourceTable}
use Rattle.row_image.specs.declared.info.RowInfo.{RowInfo}

-- a handle, or no bytes where there is none
abbrev pub handle_text : Option ℕ → List ℕ
handle_text None = []
handle_text (Some h) = big_bytes 4 h

-- where the bytes of a row are, how many there are, and its handle
abbrev pub info_text : RowInfo → List ℕ
info_text i = big_bytes 4 i.place.offset ++ (big_bytes 4 i.place.length ++ handle_text i.handle)

-- what is said so of a row
abbrev pub info_of : Row Place → RowInfo
info_of r = record { place = r.resource.datum; handle = r.handle }

-- the resource that says it, with all else that the row is
abbrev pub info_resource : Row Place → Resource RowInfo
info_resource r = record {
  kind = r.resource.kind;
  id = r.resource.id;
  name = r.resource.name;
  attributes = r.resource.attributes;
  datum = info_of r;
}

-- the table of such resources
abbrev pub info_table : ResourceTable Place → Table
info_table t = plain_table info_text (map info_resource t.rows) t.extra t.map_attributes

-- the rows of a table as a fork
unfoldable pub image_text : ResourceTable Place → List ℕ
image_text t = written (info_table t)
