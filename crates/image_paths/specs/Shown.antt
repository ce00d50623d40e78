-- Names as they are printed in paths.
use Rattle.std.specs.Prelude.{ℕ, ◌==◌, if◌then◌else◌, List, [], ◌∷◌}
use Rattle.std.specs.List.{flat_map}
use Rattle.fork_list.specs.declared.letters.Letters.{Letters}
use Rattle.fork_list.specs.Quoted.{escaped}

-- a slash is a colon, and a colon `\x3A`; others are as in names of resources, but a single quote is itself
abbrev pub letter : Letters → ℕ → List ℕ
letter letters byte =
    if byte == 47 then 58 ∷ [] else if byte == 58 then 92 ∷ 120 ∷ 51 ∷ 65 ∷ []
    else if byte == 39 then 39 ∷ [] else escaped letters 39 byte

abbrev pub name_text : Letters → List ℕ → List ℕ
name_text letters name = flat_map (letter letters) name
