-- What happened to the stores of the resource files, of which a crash may undo some.
use Rattle.std.specs.Prelude.{◌≡◌, ◌≢◌, ℕ, ◌-◌, ◌≤◌, List, [], slice_get}
use Rattle.std.specs.Option.{option_map_or}

-- what happened to the store of the file of a number, where this gives what happened to a store
abbrev pub history_of : {S Event : Type 0} → (S → List Event) → ℕ → List S → List Event
history_of history number stores = option_map_or history (slice_get stores (number - 1)) []

-- the stores of other files are the same
abbrev pub OthersStay : {S : Type 0} → ℕ → List S → List S → Type 0
OthersStay number old new = (other : ℕ) → 1 ≤ other → other ≢ number → slice_get new (other - 1) ≡ slice_get old (other - 1)
