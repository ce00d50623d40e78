-- No two resources are unpacked to one file.
use Rattle.std.specs.Prelude.{◌≡◌, ◌≢◌, ◌<◌, ◌≤◌, ◌^◌, ◌==◌, ◌&&◌, ℕ, Bool, true, not, nat_le, List, [], ◌∷◌, ◌++◌, length, slice_index, codes, All, IfSome, FitsSigned}
use Rattle.std.specs.Int.{w16}
use Rattle.std.specs.List.{AllByRecursion, list_all, list_any}
use Rattle.fork_bytes.specs.Rows.{Row}
use Rattle.fork_folder.specs.Names.{folded}
use Rattle.fork_folder.specs.Unpacked.{Unpacked, unpacked}

-- the path of a file: `/` is 47
abbrev pub path_of : Unpacked → List ℕ
path_of file = file.folder ++ 47 ∷ file.name

-- paths that a file system distinguishes which has no regard to case
abbrev pub AreApart : Unpacked → Unpacked → Type 0
AreApart file other = folded (path_of file) ≢ folded (path_of other)

-- each file has a path of its own
abbrev pub HaveOwnPaths : List Unpacked → Type 0
HaveOwnPaths [] = Unit {0}
HaveOwnPaths (file ∷ files) = AllByRecursion (AreApart file) files × HaveOwnPaths files

-- a row whose type has four bytes, whose id fits, and whose name is of bytes
pub record IsNamed (row : Row) : Type 0 where
  pub four : length row.kind ≡ 4
  pub bytes : All (λ byte. byte < 256) row.kind
  pub id : FitsSigned w16 row.id
  pub name : IfSome row.name (λ name. All (λ byte. byte < 256) name)

-- the resources of a fork have paths of their own
abbrev pub IsOneToOne : Type 0
IsOneToOne = (kinds : List (List ℕ)) (rows : List Row) → AllByRecursion IsNamed rows → length rows < 2 ^ 32 → HaveOwnPaths (unpacked kinds rows)

-- a byte that names may have: printable ASCII, but nothing that means something to a file system
abbrev pub is_safe : ℕ → Bool
is_safe byte = nat_le 32 byte && (nat_le byte 126 && not (list_any (λ other. byte == other) (codes "/\\:*?\"<>|")))

-- a name that file systems take: such bytes, at most 255 of them, and the first is no dot
pub record IsSafe (name : List ℕ) : Type 0 where
  pub bytes : list_all is_safe name ≡ true
  pub short : length name ≤ 255
  pub shown : slice_index name 0 ≢ 46

-- the names of a file and of its folder are such
abbrev pub HasSafeNames : Unpacked → Type 0
HasSafeNames file = IsSafe file.folder × IsSafe file.name

-- the resources of a fork have such names
abbrev pub AreSafe : Type 0
AreSafe = (kinds : List (List ℕ)) (rows : List Row) → AllByRecursion IsNamed rows → length rows < 2 ^ 32 → AllByRecursion HasSafeNames (unpacked kinds rows)
