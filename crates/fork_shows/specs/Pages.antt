-- The files of a page.
use Rattle.std.specs.Prelude.{◌≡◌, ℕ, List, [], ◌∷◌, ◌++◌}
use Rattle.std.specs.Borrow.{Bor}
use Rattle.fork_bytes.specs.Rows.{Row}
use Rattle.fork_page.specs.Pages.{AddsFile}
use Rattle.path_text.specs.FileNames.{shown_name}

-- the file of this name was added to a page, with what it is and its resources
abbrev pub AddsNamed : List ℕ → List ℕ → List ℕ → Type 0
AddsNamed name old new = (facts : List ℕ) × (rows : List Row) × AddsFile (shown_name name) facts rows old new

-- each of these files was added, in their order
unfoldable pub AddsFiles : List (Bor (List ℕ)) → List ℕ → List ℕ → Type 0
AddsFiles [] old new = new ≡ old
AddsFiles (file ∷ files) old new = (mid : List ℕ) × AddsNamed file.now old mid × AddsFiles files mid new

-- a page has each of these files: between its head and its foot
abbrev pub HasFiles : List (Bor (List ℕ)) → List ℕ → Type 0
HasFiles files page = (head : List ℕ) × (last : List ℕ) × (foot : List ℕ) × AddsFiles files head last × (page ≡ last ++ foot)
