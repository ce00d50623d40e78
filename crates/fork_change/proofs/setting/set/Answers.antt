use Rattle.std.proofs.Common.{◌≡◌, List, true, false, subst}
use Rattle.std.proofs.lemmas.Bool.{both_ways}
use Rattle.fork_bytes.specs.Rows.{Row}
use Rattle.fork_change.specs.Rows.{is_at, is_there}
use Rattle.fork_change.proofs.Standing.{none_found, there_found}
use Rattle.fork_change.proofs.setting.set.Goals as goal

pub returns-in_default-clause-taken : goal.returns-in_default-clause-taken
returns-in_default-clause-taken c there =
    let P : List Row → Type 0 = λ rows. is_there c.args.what.now rows ≡ false in
    let none = subst P c.as_slice.ensures (none_found (is_at c.args.what.now) c.as_slice.result.now c.in_default.ensures) in
    absurd (both_ways (is_there c.args.what.now c.args.table.rows) none there)

pub returns-then-is_refused-clause-missing : goal.returns-then-is_refused-clause-missing
returns-then-is_refused-clause-missing c none =
    let P : List Row → Type 0 = λ rows. is_there c.args.what.now rows ≡ true in
    let there = subst P c.as_slice.ensures (there_found (is_at c.args.what.now) c.as_slice.result.now c.in-Some.old.now c.in-Some.ensures) in
    absurd (both_ways (is_there c.args.what.now c.args.table.rows) none there)

pub returns-in_err-new-clause-missing : goal.returns-in_err-new-clause-missing
returns-in_err-new-clause-missing c none =
    let P : List Row → Type 0 = λ rows. is_there c.args.what.now rows ≡ true in
    let there = subst P c.as_slice.ensures (there_found (is_at c.args.what.now) c.as_slice.result.now c.in-Some.old.now c.in-Some.ensures) in
    absurd (both_ways (is_there c.args.what.now c.args.table.rows) none there)

pub returns-in_err-set_row-clause-missing : goal.returns-in_err-set_row-clause-missing
returns-in_err-set_row-clause-missing c none =
    let P : List Row → Type 0 = λ rows. is_there c.args.what.now rows ≡ true in
    let there = subst P c.as_slice.ensures (there_found (is_at c.args.what.now) c.as_slice.result.now c.in-Some.old.now c.in-Some.ensures) in
    absurd (both_ways (is_there c.args.what.now c.args.table.rows) none there)

pub returns-clause-missing : goal.returns-clause-missing
returns-clause-missing c none =
    let P : List Row → Type 0 = λ rows. is_there c.args.what.now rows ≡ true in
    let there = subst P c.as_slice.ensures (there_found (is_at c.args.what.now) c.as_slice.result.now c.in-Some.old.now c.in-Some.ensures) in
    absurd (both_ways (is_there c.args.what.now c.args.table.rows) none there)

pub returns-clause-there : goal.returns-clause-there
returns-clause-there c =
    let P : List Row → Type 0 = λ rows. is_there c.args.what.now rows ≡ true in
    let there = subst P c.as_slice.ensures (there_found (is_at c.args.what.now) c.as_slice.result.now c.in-Some.old.now c.in-Some.ensures) in
    there

pub returns-in_default-clause-gone : goal.returns-in_default-clause-gone
returns-in_default-clause-gone c missing =
    let P : List Row → Type 0 = λ rows. is_there c.args.what.now rows ≡ false in
    subst P c.as_slice.ensures (none_found (is_at c.args.what.now) c.as_slice.result.now c.in_default.ensures)
