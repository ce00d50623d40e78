-- Lines with the name of a file before each.
use Rattle.std.specs.Prelude.{ℕ, ◌==◌, Bool, true, if◌then◌else◌, List, [], ◌∷◌, ◌++◌}

-- a text with these bytes before each of its lines; whether a line begins here
abbrev pub lines_after : List ℕ → Bool → List ℕ → List ℕ
lines_after front begins [] = []
lines_after front begins (byte ∷ bytes) = (if begins then front else []) ++ byte ∷ lines_after front (byte == 10) bytes

-- a text with these bytes before each of its lines
abbrev pub each_line : List ℕ → List ℕ → List ℕ
each_line front text = lines_after front true text
