-- A path of the host, as clauses see it.
use Rattle.std.specs.Prelude.{◌≡◌, ℕ, List}
use Rattle.std.specs.Path.{path_buf_bytes}
use Rattle.file_replace.specs.declared.host_place.FileReplacer.{FileReplacer}
use Rattle.file_replace.specs.declared.host_place.There.{There}
use Rattle.file_replace.specs.Beneath.{OpensFolder}
use Rattle.file_replace.specs.Spot.{Spot}

-- its path, what that has to have, and its folder
abbrev pub spot_of : {W : Type 0} → FileReplacer W → Spot
spot_of place = record { path = path_buf_bytes place.path; there = place.there; folder = place.folder; begun = place.begun.events }

-- a place of this path, which has to have this, and whose folder is that of the path
abbrev pub IsSpot : List ℕ → There → Spot → Type 0
IsSpot path there spot = (spot.path ≡ path) × (spot.there ≡ there) × OpensFolder path spot.folder spot.begun
