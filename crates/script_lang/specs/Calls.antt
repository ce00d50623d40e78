-- How many calls an answer of the grow-zone procedure may have.
use Rattle.std.specs.Prelude.{ℕ}

-- an answer has at most this many calls
abbrev pub most_calls : ℕ
most_calls = 8
