-- What only asks and makes removes nothing.
use Rattle.std.proofs.Common.{List, ℕ, inl, inr, refl, sym, subst}
use Rattle.std.specs.declared.fs.File.{File}
use Rattle.host_paths.specs.Asked.{AsksBoth, Log}
use Rattle.host_paths.specs.Left.{OnlyBeside, RemovesNone, Swept}

pub keeps_asked : (path : List ℕ) (file : File) (old mid new : Log) → AsksBoth path file mid new → RemovesNone old mid → RemovesNone old new
keeps_asked path file old mid new (inl asked) kept = λ users swept. subst (λ log. Swept users log) (sym asked.1) (kept users swept, refl)
keeps_asked path file old mid new (inr asked) kept = λ users swept. subst (λ log. Swept users log) (sym asked.2) ((kept users swept, refl), refl)

-- more was done in this way
pub beside_still : (path : List ℕ) (old mid new : Log) → OnlyBeside path old mid → RemovesNone mid new → OnlyBeside path old new
beside_still path old mid new begun kept = (begun.0, begun.1, begun.2, λ swept. kept begun.0 (begun.3 swept))
