-- Rows, as a fork has them.
use Rattle.std.specs.Prelude.{ℕ, List}
use Rattle.mac_base.specs.declared.resource.Resource.{Resource}

-- a resource with its bytes
abbrev pub Row : Type 0
Row = Resource (List ℕ)

-- a resource as the map lists it: the datum is where its data are
abbrev pub MapRow : Type 0
MapRow = Resource ℕ
