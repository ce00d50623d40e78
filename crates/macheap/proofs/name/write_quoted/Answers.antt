use Rattle.std.proofs.Common.{[], ◌∷◌, ℕ, List, refl}
use Rattle.macheap.proofs.Saying.{first_cut, says, second_cut, third_said}
use Rattle.macheap.proofs.name.write_quoted.Goals as goal

-- a double quote
abbrev quote : List ℕ
quote = 34 ∷ []

pub returns-then-not-write_whole : goal.returns-then-not-write_whole
returns-then-not-write_whole g c =
    let one = c.if-not-write_whole.ensures in
    first_cut g.M.Write.contents _ _ quote _ quote _ refl (says g.M.Write.contents _ _ _ quote one.written one.failures)

pub returns-then-not-write_characters : goal.returns-then-not-write_characters
returns-then-not-write_characters g c =
    let one = c.if-not-write_whole.ensures in
    second_cut g.M.Write.contents _ _ _ quote _ quote _ refl (says g.M.Write.contents _ _ _ quote one.written one.failures) c.if-not-write_characters.ensures

pub returns : goal.returns
returns g c =
    let one = c.if-not-write_whole.ensures in
    let three = c.write_whole-2.ensures in
    third_said g.M.Write.contents _ _ _ _ _ quote _ quote _ refl (says g.M.Write.contents _ _ _ quote one.written one.failures) c.if-not-write_characters.ensures (says g.M.Write.contents _ _ _ quote three.written three.failures)
