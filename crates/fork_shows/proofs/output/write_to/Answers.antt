use Rattle.std.proofs.Common.{ℕ, List, Option, subst, sym}
use Rattle.std.specs.Borrow.{Bor}
use Rattle.std.specs.Prelude.{IfOk}
use Rattle.file_acts.specs.Saved.{JustSaved}
use Rattle.fork_shows.specs.Written.{IsWritten}
use Rattle.fork_shows.proofs.Written.{later, printed}
use Rattle.fork_shows.proofs.output.write_to.Goals as goal

pub returns-in-Some-clause-written : goal.returns-in-Some-clause-written
returns-in-Some-clause-written c = subst (λ (to : Option (Bor (List ℕ))). IfOk c.save_to.result (λ done. IsWritten to c.args.bytes.now c.save_to.new.acts.events)) (sym c.in-Some.is)
    (later (JustSaved c.args.bytes.now c.save_to.new.acts.events) c.save_to.result c.save_to.ensures.saves)

pub returns-in-None-clause-written : goal.returns-in-None-clause-written
returns-in-None-clause-written c = subst (λ (to : Option (Bor (List ℕ))). IfOk c.print.result (λ done. IsWritten to c.args.bytes.now c.print.new.acts.events)) (sym c.in-None.is)
    (printed c.args.bytes.now c.print.result c.args.acts.now.events c.print.new.acts.events c.print.ensures.prints)
