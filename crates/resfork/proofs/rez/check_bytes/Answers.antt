use Rattle.std.proofs.Common.{◌≡◌, Bool, true, false, not, refl, sym, ◌∙◌}
use Rattle.resfork.proofs.rez.check_bytes.Goals.{else-is_container-via-then-is_container+in_ok-keeps_others+else-not-branch, else-is_container-via-else-is_container}
use Rattle.resfork.proofs.rez.check_bytes.Goals as goal

not_true : (b : Bool) → true ≡ not b → b ≡ false
not_true false is = refl
not_true true is = is

not_both : {P : Type 0} (b : Bool) → b ≡ false → false ≡ not b → P
not_both false is other = let no : ⊥ = cc in absurd no
not_both true is other = let no : ⊥ = cc in absurd no

pub returns-then-not-branch : goal.returns-then-not-branch
returns-then-not-branch c = not_true _ (sym c.if-is_container.true ∙ c.is_container.ensures)

pub returns-in-Nothing : goal.returns-in-Nothing
returns-in-Nothing c = (
  λ alone. elim c.else-is_container.branch [ else-is_container-via-then-is_container+in_ok-keeps_others+else-not-branch w ↦ w.in_ok-keeps_others.ensures w.if-not-branch.false | else-is_container-via-else-is_container w ↦ not_both _ alone (sym w.if-is_container.false ∙ c.is_container.ensures) ],
  rw c.as_slice.ensures at (rw c.in-Nothing.is at c.in_ok-lost_of.ensures),
)

pub returns-in-Resources : goal.returns-in-Resources
returns-in-Resources c = rw c.as_slice.ensures at (rw c.in-Resources.is at c.in_ok-lost_of.ensures)
