use Rattle.macheap.proofs.Saying.{first_cut, says, second_cut, third_said}
use Rattle.macheap.proofs.name.write_character.Goals as goal

pub returns-then-not-write_whole : goal.returns-then-not-write_whole
returns-then-not-write_whole g c =
    let p = c.quoted-pieces.result in
    let one = c.if-not-write_whole.ensures in
    first_cut g.M.Write.contents _ _ p.before.now p.code.now p.after.now _ c.quoted-pieces.ensures (says g.M.Write.contents _ _ _ _ one.written one.failures)

pub returns-then-not-write_whole-2 : goal.returns-then-not-write_whole-2
returns-then-not-write_whole-2 g c =
    let p = c.quoted-pieces.result in
    let one = c.if-not-write_whole.ensures in
    let two = c.if-not-write_whole-2.ensures in
    second_cut g.M.Write.contents _ _ _ p.before.now p.code.now p.after.now _ c.quoted-pieces.ensures (says g.M.Write.contents _ _ _ _ one.written one.failures) (says g.M.Write.contents _ _ _ _ two.written two.failures)

pub returns : goal.returns
returns g c =
    let p = c.quoted-pieces.result in
    let one = c.if-not-write_whole.ensures in
    let two = c.if-not-write_whole-2.ensures in
    let three = c.write_whole-3.ensures in
    third_said g.M.Write.contents _ _ _ _ _ p.before.now p.code.now p.after.now _ c.quoted-pieces.ensures
    (says g.M.Write.contents _ _ _ _ one.written one.failures)
    (says g.M.Write.contents _ _ _ _ two.written two.failures)
    (says g.M.Write.contents _ _ _ _ three.written three.failures)
