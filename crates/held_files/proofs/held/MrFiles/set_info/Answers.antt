use Rattle.std.proofs.Common.{◌≡◌, ◌∙◌, sym, subst, rules, List, ℕ, ℤ, Option, Some, option_copied, SFits, to_z, of_z, w16}
use Rattle.std.proofs.lemmas.Int.{to_z-of_z}
use Rattle.mac_base.specs.Outcomes.{done_outcome}
use Rattle.held_zone.specs.Told.{code_told}
use Rattle.held_files.specs.Forks.{ForksState}
use Rattle.held_files.specs.Info.{SetInfoTold, SetsInfo}
use Rattle.held_files.proofs.held.MrFiles.set_info.Goals as goal

pub returns : goal.returns
returns c =
    let name : Option (List ℕ) = option_copied c.args.name in
    let before = c.in-Some.files.value in
    let after = c.set_info-set.new.self in
    let fits : SFits w16 c.done.result = search rules in
    let code : to_z w16 (of_z w16 c.done.result) ≡ code_told (Some (done_outcome c.set_info-set.result)) = to_z-of_z w16 c.done.result fits ∙ c.done.ensures in
    let Sets : ℤ → ForksState → Type 0 = λ id old. SetsInfo c.args.handle id name old c.set_info-set.result after in
    let sets : Sets c.args.id before = subst (λ (id : ℤ). Sets id before) (to_z-of_z w16 c.args.id c.ranges.id)
    (subst (λ (old : ForksState). Sets (to_z w16 (of_z w16 c.args.id)) old) c.deref_mut.ensures.value c.set_info-set.ensures) in
    let Told : Option ForksState → Option ForksState → Type 0 = λ old new. SetInfoTold c.args.handle c.args.id name old (to_z w16 (of_z w16 c.done.result)) new in
    let told : Told (Some before) (Some after) = (c.set_info-set.result, code, sets) in
    subst (λ (old : Option ForksState). Told old c.put.new.self.held.files) (sym c.in-Some.ensures.given)
    (subst (λ (new : Option ForksState). Told (Some before) new) (sym c.put.ensures) told)
