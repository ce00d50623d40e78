-- What is before and after the bytes of a character between double quotes.
use Rattle.std.specs.Prelude.{ℕ, ◌==◌, ◌||◌, nat_lt, if◌then◌else◌, List, [], codes}

-- before the digits of one that does harm: in ASCII there are two
abbrev pub before_digits : ℕ → List ℕ
before_digits code = if nat_lt code 16 then codes "\\x0" else if nat_lt code 128 then codes "\\x" else codes "\\u{"

-- and after them
abbrev pub after_digits : ℕ → List ℕ
after_digits code = if nat_lt code 128 then [] else codes "}"

-- before another one: a quote and a backslash have a backslash before them
abbrev pub mark_before : ℕ → List ℕ
mark_before character = if character == 34 || character == 92 then codes "\\" else []
