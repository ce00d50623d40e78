use Rattle.std.proofs.Common.{arith}
use Rattle.place_numbers.proofs.Noted.{still-noted}
use Rattle.place_numbers.proofs.level.Level.copy_down.Goals as goal

pub invariant_of-self : goal.invariant_of-self
invariant_of-self g c =
    let inside = c.requires.inside in let order = c.requires.order in let is = c.self.view_is in
    still-noted c.self.inside.words c.copy_down.new.self (g.U.Marks.marks c.self.inside.used) (g.U.Marks.marks c.note_words.new.used) c.args.from c.args.to c.args.count
    c.requires.some (rw is (omega (arith, inside, order))) (rw is (omega (arith, inside, order))) c.copy_down.ensures c.self.invariant c.note_words.ensures
