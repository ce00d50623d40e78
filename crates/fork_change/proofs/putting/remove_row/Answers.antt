use Rattle.std.proofs.Common.{◌≡◌, [], List, None, Some, sym, subst, ◌∙◌}
use Rattle.std.specs.List.{position}
use Rattle.fork_bytes.specs.Rows.{Row}
use Rattle.fork_change.specs.Rows.{is_at}
use Rattle.fork_change.proofs.Standing.{none_first, none_there, removed_at}
use Rattle.fork_change.proofs.putting.remove_row.Goals as goal

pub returns-in-Some : goal.returns-in-Some
returns-in-Some c =
    let test = is_at c.args.what.now in
    let P : List Row → Type 0 = λ rows. position test rows ≡ Some c.in-Some.at in
    c.remove.ensures.items
    ∙ removed_at test c.args.rows.now.items c.in-Some.at c.remove.result (subst P c.deref.ensures.value (sym c.find_at.ensures.place ∙ c.in-Some.is))

pub returns-in_default : goal.returns-in_default
returns-in_default c =
    let test = is_at c.args.what.now in
    let P : List Row → Type 0 = λ rows. position test rows ≡ None in
    sym (none_first test [] c.args.rows.now.items (none_there test c.args.rows.now.items (subst P c.deref.ensures.value (sym c.find_at.ensures.place ∙ c.in_default.is))))
