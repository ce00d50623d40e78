-- What PackBits packs (Inside Macintosh: Operating System Utilities, "PackBits"; Technical Note 1023).
use Rattle.std.specs.Prelude.{ℕ, zero, suc, ◌+◌, ◌-◌, ◌*◌, ◌==◌, nat_lt, if◌then◌else◌, List, [], ◌∷◌, ◌++◌, length, take, drop}

-- a piece so many times
abbrev pub repeated : ℕ → List ℕ → List ℕ
repeated zero piece = []
repeated (suc times) piece = piece ++ repeated times piece

-- what a code stands for, with what follows it: below 128 one unit more than it says, as they are; above it the next
-- unit, as often as 257 is more than it; 128, which is -128, nothing
abbrev pub run : ℕ → ℕ → List ℕ → List ℕ
run unit code rest =
    if nat_lt code 128 then take (unit * (code + 1)) rest
    else if code == 128 then []
    else repeated (257 - code) (take unit rest)

-- how many bytes after a code belong to it
abbrev pub used : ℕ → ℕ → ℕ
used unit code = if nat_lt code 128 then unit * (code + 1) else if code == 128 then 0 else unit

-- what packed bytes stand for, of at most so many codes, until there are as many bytes as are wanted
abbrev pub unpacked : ℕ → ℕ → ℕ → List ℕ → List ℕ
unpacked unit wanted zero bytes = []
unpacked unit wanted (suc most) [] = []
unpacked unit wanted (suc most) (code ∷ rest) =
    if wanted == 0 then []
    else run unit code rest ++ unpacked unit (wanted - length (run unit code rest)) most (drop (used unit code) rest)
