use Rattle.std.proofs.Common.{◌≡◌, ◌∙◌, sym, ap, arith, Option, None, Some, option_copied}
use Rattle.fork_answer.specs.Answer.{wanted_row}
use Rattle.fork_answer.proofs.InParts.{found_shows, none_lacks, wanted_within, writes_same}
use Rattle.fork_rows.proofs.Kept.{unread}
use Rattle.fork_answer.proofs.parts.get_part.Goals as goal

pub returns-in_default-clause-shows : goal.returns-in_default-clause-shows
returns-in_default-clause-shows g c = λ honest. (
    let known = c.requires honest in
    let none : wanted_row c.args.wanted.now c.args.rows.now ≡ None = sym c.find_row.ensures ∙ ap (λ (found : Option _). option_copied found) c.in_default.is in
    record { keeps = unread g.S.ForkStore c.args.store.now honest known.0; told = λ table has. none_lacks _ c.args.wanted.now c.args.rows.now table has none })

pub read_part-requires : goal.read_part-requires
read_part-requires g c = λ honest. (
    let known = c.requires honest in
    let found : wanted_row c.args.wanted.now c.args.rows.now ≡ Some c.in-Some.row.now = sym c.find_row.ensures ∙ ap (λ (found : Option _). option_copied found) c.in-Some.is in
    let within = wanted_within (g.S.ForkStore.fork c.args.store.now) c.args.wanted.now c.args.rows.now c.in-Some.row.now known.1 found in
    (known.0, omega arith))

pub returns-in-Ok-clause-shows : goal.returns-in-Ok-clause-shows
returns-in-Ok-clause-shows g c = λ honest. (
    let file = g.S.ForkStore.fork c.args.store.now in
    let read = c.in-Ok.ensures.reads honest in
    let found : wanted_row c.args.wanted.now c.args.rows.now ≡ Some c.in-Some.row.now = sym c.find_row.ensures ∙ ap (λ (found : Option _). option_copied found) c.in-Some.is in
    record {
      keeps = read.keeps;
      told = found_shows file c.args.wanted.now c.args.rows.now c.in-Some.row.now _ _ _ found (writes_same _ _ _ _ _ (c.deref.ensures.value ∙ read.told) c.write.ensures.writes);
    })
