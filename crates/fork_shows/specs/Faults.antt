-- Which type has no resource.
use Rattle.std.specs.Prelude.{◌≡◌, ℕ, List, Option, None, Some, Result, Ok, Err, ⊤}
use Rattle.file_acts.specs.declared.message.Problem.{Problem}
use Rattle.file_acts.specs.declared.message.Problem.TheVariants as problem

-- that there is no resource of a type, if one is missing
abbrev pub IsToldOfKinds : {T : Type 0} → Option (List ℕ) → Result T Problem → Type 0
IsToldOfKinds (Some kind) told = told ≡ Err (problem.NoKind kind)
IsToldOfKinds None (Ok done) = ⊤
IsToldOfKinds None (Err why) = ⊥
