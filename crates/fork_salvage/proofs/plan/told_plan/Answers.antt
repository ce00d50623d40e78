use Rattle.std.proofs.Common.{◌≡◌, ℕ, List, ◌+◌, ◌*◌, ◌<◌, ◌≤◌, length, subst, sym, ◌∙◌}
use Rattle.fork_salvage.specs.Salvage.{told_types}
use Rattle.fork_salvage.proofs.Telling.{told_holds, told_fails, none_holds}
use Rattle.fork_salvage.proofs.plan.told_plan.Goals as goal

pub returns-in_err-types-clause-none : goal.returns-in_err-types-clause-none
returns-in_err-types-clause-none c =
    let P : List ℕ → Type 0 = λ m. length m < (told_types m).place + 2 + 8 * (told_types m).count in
    none_holds c.from_residual.result _ (told_fails c.args.fork.now c.parts_at-parts.result c.parts_at-parts.ensures.parts c.if-fork-lt-HEADER_LENGTH.false
    (sym c.lies_within.ensures ∙ c.if-not-lies_within.false) (subst P c.of.ensures c.in_err-types.ensures.none))

pub returns-clause-told : goal.returns-clause-told
returns-clause-told c =
    let P : List ℕ → Type 0 = λ m. c.in_ok-types.types ≡ told_types m in
    let Q : List ℕ → Type 0 = λ m. c.in_ok-types.types.place + 2 + 8 * c.in_ok-types.types.count ≤ length m in
    told_holds c.args.fork.now c.parts_at-parts.result c.in_ok-types.types c.parts_at-parts.ensures.parts c.if-fork-lt-HEADER_LENGTH.false
    (sym c.lies_within.ensures ∙ c.if-not-lies_within.false) (subst P c.of.ensures c.in_ok-types.ensures.types) (subst Q c.of.ensures c.in_ok-types.ensures.inside)
