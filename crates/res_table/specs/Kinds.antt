-- The types of rows, in order: one for each row.
use Rattle.std.specs.Prelude.{ℕ, zero, suc, ◌+◌, slice_get, Bool, true, false, not, ◌&&◌, if◌then◌else◌, List, [], ◌∷◌, ◌++◌, replicate, bytes_eq, nat_lt, Option, None, Some}
use Rattle.std.specs.List.{list_any}
use Rattle.std.specs.Option.{option_map_or}
use Rattle.fork_bytes.specs.declared.layout.TypeCount.{TypeCount}

-- runs, and how many there is room for
pub record KindRuns : Type 0 where
  pub runs : List TypeCount
  pub room : ℕ

-- the type of a run
abbrev pub kind_of : TypeCount → List ℕ
kind_of counted = counted.kind

-- whether a run has rows of a type
abbrev pub is_run_of : List ℕ → TypeCount → Bool
is_run_of kind run = bytes_eq run.kind kind && nat_lt 0 run.count

-- the types that runs stand for: each as often as it is counted
abbrev pub expanded : List TypeCount → List (List ℕ)
expanded [] = []
expanded (run ∷ runs) = replicate run.count run.kind ++ expanded runs

-- whether one of some types is this one
abbrev pub has_kind : List ℕ → List (List ℕ) → Bool
has_kind kind ks = list_any (λ k. bytes_eq k kind) ks

-- how many of some types are this one
abbrev pub count_of : List ℕ → List (List ℕ) → ℕ
count_of kind [] = 0
count_of kind (k ∷ ks) = if bytes_eq k kind then count_of kind ks + 1 else count_of kind ks

-- the type of a run, if it has rows
abbrev pub kind_in : TypeCount → Option (List ℕ)
kind_in run = if nat_lt 0 run.count then Some run.kind else None

-- whether a type differs from the one before it, if there is one
abbrev pub is_other : Option (List ℕ) → List ℕ → Bool
is_other last kind = not (option_map_or (λ k. bytes_eq k kind) last false)

-- how many of some types differ from the one before them, where this one is before the first
abbrev pub changes : Option (List ℕ) → List (List ℕ) → ℕ
changes last [] = 0
changes last (k ∷ ks) = if is_other last k then suc (changes (Some k) ks) else changes (Some k) ks

-- whether each run has rows, and of another type than the run before it, where this type is before the first
abbrev pub are_types : Option (List ℕ) → List TypeCount → Bool
are_types last [] = true
are_types last (run ∷ runs) = (nat_lt 0 run.count && is_other last run.kind) && are_types (Some run.kind) runs

-- the indexes of those of some types that are this one, where the first is at `at`
abbrev pub places_of : ℕ → List ℕ → List (List ℕ) → List ℕ
places_of at kind [] = []
places_of at kind (k ∷ ks) = if bytes_eq k kind then at ∷ places_of (at + 1) kind ks else places_of (at + 1) kind ks

-- the index after the last that is this one, where the first is at `at`; `end` where none is
abbrev pub end_of : List ℕ → ℕ → ℕ → List (List ℕ) → ℕ
end_of kind end at [] = end
end_of kind end at (k ∷ ks) = end_of kind (if bytes_eq k kind then at + 1 else end) (at + 1) ks

-- some types with one more, after the last of the same, or last
abbrev pub with_kind : List ℕ → List (List ℕ) → List (List ℕ)
with_kind kind [] = kind ∷ []
with_kind kind (k ∷ ks) = if bytes_eq k kind && not (has_kind kind ks) then k ∷ kind ∷ ks else k ∷ with_kind kind ks

-- the i-th of some things, counted from 1
abbrev pub ith : {X : Type 0} → ℕ → List X → Option X
ith zero xs = None
ith (suc i) xs = slice_get xs i
