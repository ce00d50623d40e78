use Rattle.std.proofs.Common.{◌≡◌, ◌||◌, not, Bool, true, false, List, ℕ, subst, sym, refl}
use Rattle.std.specs.Prelude.{IfOk}
use Rattle.file_acts.specs.Saved.{JustRead}
use Rattle.fork_saves.specs.Changing.{ChangesSource, EndsBy, source_bytes}
use Rattle.fork_saves.specs.declared.source.Source.{Source}
use Rattle.fork_saves.proofs.change.change_source.Goals as goal

other_written : (dry other : Bool) → false ≡ not (dry || other) → dry ≡ false → other ≡ true
other_written dry true is none = refl
other_written false false is none = is
other_written true false is none = sym none

pub returns-in-Read-clause-does : goal.returns-in-Read-clause-does
unfolding ChangesSource
returns-in-Read-clause-does c = subst (λ (it : Source). ChangesSource c.args.target.now it c.args.from.now c.args.edit c.change_into.result c.args.acts.now.events c.change_into.new.acts.events) (sym c.in-Read.is) (rw c.deref.ensures.value at c.change_into.ensures.does)

pub returns-in-Held-clause-does : goal.returns-in-Held-clause-does
unfolding ChangesSource
returns-in-Held-clause-does c = subst (λ (it : Source). ChangesSource c.args.target.now it c.args.from.now c.args.edit c.renew_by.result c.args.acts.now.events c.renew_by.new.acts.events) (sym c.in-Held.is) (rw c.deref-in-Held.ensures.value at c.renew_by.ensures.does)

pub returns-in-Read-clause-saved : goal.returns-in-Read-clause-saved
returns-in-Read-clause-saved c = λ for read. subst (λ (it : Source). IfOk c.change_into.result (λ _. EndsBy (source_bytes it) c.args.from.now c.args.edit c.change_into.new.acts.events)) (sym c.in-Read.is)
    (subst (λ (old : List ℕ). IfOk c.change_into.result (λ _. EndsBy old c.args.from.now c.args.edit c.change_into.new.acts.events)) c.deref.ensures.value
    (c.change_into.ensures.saved (for, other_written c.args.target.now.is_dry _ (rw c.in-Read.is at c.requires) for.0)))

pub returns-in-Held-clause-saved : goal.returns-in-Held-clause-saved
returns-in-Held-clause-saved c = λ for read. subst (λ (it : Source). IfOk c.renew_by.result (λ _. EndsBy (source_bytes it) c.args.from.now c.args.edit c.renew_by.new.acts.events)) (sym c.in-Held.is)
    (subst (λ (old : List ℕ). IfOk c.renew_by.result (λ _. EndsBy old c.args.from.now c.args.edit c.renew_by.new.acts.events)) c.deref-in-Held.ensures.value
    (c.renew_by.ensures.saved (subst (λ (old : List ℕ). JustRead old c.args.acts.now.events) (sym c.deref-in-Held.ensures.value) (rw c.in-Held.is at read))))
