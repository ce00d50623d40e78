-- Messages that are written in parts.
use Rattle.std.specs.Prelude.{◌≡◌, ℕ, Bool, MatchBool, List, Option}
use Rattle.script_run.specs.Counting.{Counting, RoseByOne, Took}
use Rattle.script_run.specs.Run.{IsProperFront}

-- A writer took this text, where it took all; else it failed, and took a proper front of it.
pub record Says {M : Type 0} (notes : M → Option (List ℕ)) (old new : Counting M) (whole : Bool) (text : List ℕ) : Type 0 where
  pub written : List ℕ
  pub took : Took notes old written new
  pub bytes : MatchBool whole (written ≡ text) (IsProperFront written text)
  pub failures : MatchBool whole (new.failures ≡ old.failures) (RoseByOne old.failures new.failures)
