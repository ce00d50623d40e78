-- Where a new file is made: beside a path, by a number.
use Rattle.std.specs.Prelude.{◌≡◌, ℕ, List, [], ◌++◌, codes, unwrap_or}
use Rattle.std.specs.Fmt.{decimal}
use Rattle.std.specs.Path.{path_join, path_parent}

-- the name of a new file, by its number
abbrev pub new_name : ℕ → List ℕ
new_name number = codes ".resfork-" ++ decimal number ++ codes ".new"

-- a path beside a path, by its number
abbrev pub path_beside : List ℕ → ℕ → List ℕ
path_beside path number = path_join (unwrap_or (path_parent path) []) (new_name number)

-- a path that is beside some path in this way
abbrev pub IsMadePath : List ℕ → Type 0
IsMadePath made = (path : List ℕ) × (number : ℕ) × (made ≡ path_beside path number)
