use Rattle.std.proofs.Common.{List, ℕ, Ok, subst}
use Rattle.file_replace.specs.Held.{PutsOver}
use Rattle.file_replace.proofs.held.Held.back_up.Goals as goal

pub returns-in-Ok : goal.returns-in-Ok
returns-in-Ok g c =
    (c.in-Ok.field-0, subst (λ (path : List ℕ). PutsOver g.B.FolderWorld.held path c.args.self.now.rights c.args.bytes.now (Ok c.in-Ok.field-0) c.args.log.now.events c.put_over.new.log.events) c.in_ok-name.ensures c.in-Ok.ensures)
