use Rattle.std.proofs.Common.{◌≡◌, ◌-◌, ◌+◌, suc, None, Some, reverse, sym, ◌∙◌, arith}
use Rattle.std.specs.Prelude.{find}
use Rattle.std.proofs.lemmas.Bool.{ne_eqb}
use Rattle.volume_names.specs.Paths.{is_folder_with}
use Rattle.volume_names.proofs.Upwards.{at_root, no_folder, goes_up, too_deep}
use Rattle.volume_names.proofs.folders.path_of.Goals as goal

pub returns-then-below-eq-ROOT : goal.returns-then-below-eq-ROOT
returns-then-below-eq-ROOT c = λ entries has.
    let step = c.loop-step.step in
    let left : 256 - step ≡ suc (256 - (step + 1)) = omega (arith, c.loop-step-test.true) in
    rw c.reverse.ensures.items (sym (c.loop-step.invariant entries has)
    ∙ at_root entries (reverse c.loop-step.names.items) (256 - step) (256 - (step + 1)) c.loop-step.below left c.if-below-eq-ROOT.true)

pub returns-in_default : goal.returns-in_default
returns-in_default c = λ entries has.
    let step = c.loop-step.step in
    let left : 256 - step ≡ suc (256 - (step + 1)) = omega (arith, c.loop-step-test.true) in
    let found = rw c.in_default.is at c.get.ensures.value in
    let none : find (is_folder_with c.loop-step.below) entries ≡ None = sym (has.each c.loop-step.below) ∙ sym found in
    sym (c.loop-step.invariant entries has)
    ∙ no_folder entries (reverse c.loop-step.names.items) (256 - step) (256 - (step + 1)) c.loop-step.below left (ne_eqb c.loop-step.below 2 c.if-below-eq-ROOT.false) none

pub loop-step-preserved : goal.loop-step-preserved
loop-step-preserved c = λ entries has.
    let step = c.loop-step.step in
    let left : 256 - step ≡ suc (256 - (step + 1)) = omega (arith, c.loop-step-test.true) in
    let found = rw c.in-Some.is at c.get.ensures.value in
    let is : find (is_folder_with c.loop-step.below) entries ≡ Some c.in-Some.folder.now = sym (has.each c.loop-step.below) ∙ sym found in
    rw c.in_ok-push.ensures.items (sym (goes_up entries c.loop-step.names.items (256 - step) (256 - (step + 1)) c.loop-step.below c.in-Some.folder.now left
    (ne_eqb c.loop-step.below 2 c.if-below-eq-ROOT.false) is) ∙ c.loop-step.invariant entries has)

pub returns : goal.returns
returns c = λ entries has.
    sym (c.loop-step.invariant entries has) ∙ too_deep entries (reverse c.loop-step.names.items) (256 - c.loop-step.step) c.loop-step.below (omega (arith, c.loop-step-test.false))
