-- How many variables a script may name.
use Rattle.std.specs.Prelude.{ℕ, ◌^◌}

-- a script has at most this many names: a line assigns one at most
abbrev pub most_names : ℕ
most_names = 2 ^ 16
