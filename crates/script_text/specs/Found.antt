-- What a search answers.
use Rattle.std.specs.Prelude.{Option, Some, None}

-- what was found is such a thing; where nothing was found there is no such thing
abbrev pub Finds : {X : Type 0} → Option X → (X → Type 0) → Type 0
Finds {X} None P = (x : X) → ¬ P x
Finds (Some x) P = P x
