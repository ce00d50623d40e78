use Rattle.place_numbers.proofs.Marked.{set-written}
use Rattle.place_numbers.proofs.level.note.Goals as goal

pub returns-then-get-some : goal.returns-then-get-some
returns-then-get-some g c = set-written (g.U.Marks.marks c.args.used.now) (g.U.Marks.marks c.put.new.self) c.args.word c.from.result c.args.some c.requires c.from.ensures c.put.ensures
