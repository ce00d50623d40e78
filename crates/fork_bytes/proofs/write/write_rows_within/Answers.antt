use Rattle.std.proofs.Common.{rules, ◌≡◌, ◌<◌, ◌≤◌, ◌++◌, List, ℕ, length, refl, ap, subst, sym, ◌∙◌, arith}
use Rattle.fork_bytes.specs.Fork.{StandsForWithin}
use Rattle.fork_bytes.specs.Laws.{IsTable}
use Rattle.fork_bytes.specs.Written.{written, plain_table}
use Rattle.fork_bytes.proofs.Plain.{plain_header, plain_few, plain_small, plain_fits, plain_big, plain_each}
use Rattle.fork_bytes.proofs.ReadAgain.{read_again_within}
use Rattle.fork_bytes.proofs.Sized.{none_at, not_too_big}
use Rattle.fork_bytes.proofs.write.write_rows_within.Goals as goal

pub returns-in_default-clause-too_big : goal.returns-in_default-clause-too_big
returns-in_default-clause-too_big g c =
    let limits = c.args.limits in let text = g.D.Datum.text in let rows = c.args.rows.now in let extra = c.args.extra.now in let attributes = c.args.map_attributes in
    let long : length extra ≡ 240 = search rules in
    let none = none_at c.header_of_rows.result c.in_default.is c.header_of_rows.ensures.none in
    (λ is. plain_big limits text rows extra attributes long c.header_of_rows.ensures.four none, λ big. refl)

pub returns-in_default-with_capacity-clause-too_big : goal.returns-in_default-with_capacity-clause-too_big
returns-in_default-with_capacity-clause-too_big g c =
    let limits = c.args.limits in let text = g.D.Datum.text in let rows = c.args.rows.now in let extra = c.args.extra.now in let attributes = c.args.map_attributes in
    let long : length extra ≡ 240 = search rules in
    let small = plain_small limits text rows extra attributes long c.header_of_rows.ensures.four c.in-Some.ensures.fit in
    let fits = plain_fits limits text rows extra attributes c.in-Some.ensures.fit in
    (λ is. absurd (cc is), λ big. absurd (not_too_big limits (plain_table text rows extra attributes) small fits big))

pub push_fork-requires-clause-header : goal.push_fork-requires-clause-header
push_fork-requires-clause-header g c = c.in-Some.ensures.header ∙ plain_header g.D.Datum.text c.args.rows.now

pub push_fork-requires-clause-low : goal.push_fork-requires-clause-low
push_fork-requires-clause-low g c = c.in-Some.ensures.fit.lists

pub push_fork-requires-clause-names : goal.push_fork-requires-clause-names
push_fork-requires-clause-names g c = c.in-Some.ensures.fit.names

pub push_fork-requires-clause-small : goal.push_fork-requires-clause-small
push_fork-requires-clause-small g c =
    let few = plain_few c.args.limits g.D.Datum.text c.args.rows.now c.in-Some.ensures.fit in let most = c.requires in omega arith

pub returns-in-Ok-push_fork-clause-small : goal.returns-in-Ok-push_fork-clause-small
returns-in-Ok-push_fork-clause-small g c =
    let limits = c.args.limits in let text = g.D.Datum.text in let rows = c.args.rows.now in let extra = c.args.extra.now in let attributes = c.args.map_attributes in
    let long : length extra ≡ 240 = search rules in
    plain_small limits text rows extra attributes long c.header_of_rows.ensures.four c.in-Some.ensures.fit

pub returns-in-Ok-push_fork-clause-fits : goal.returns-in-Ok-push_fork-clause-fits
returns-in-Ok-push_fork-clause-fits g c = plain_fits c.args.limits g.D.Datum.text c.args.rows.now c.args.extra.now c.args.map_attributes c.in-Some.ensures.fit

pub returns-in-Ok-push_fork-clause-stands : goal.returns-in-Ok-push_fork-clause-stands
returns-in-Ok-push_fork-clause-stands g c grouped =
    let limits = c.args.limits in let text = g.D.Datum.text in let rows = c.args.rows.now in let extra = c.args.extra.now in let attributes = c.args.map_attributes in
    let long : length extra ≡ 240 = search rules in
    let small = plain_small limits text rows extra attributes long c.header_of_rows.ensures.four c.in-Some.ensures.fit in
    let fits = plain_fits limits text rows extra attributes c.in-Some.ensures.fit in
    let table = plain_table text rows extra attributes in
    let two : attributes < 65536 = search rules in
    let most : limits.fork ≤ 4294967295 = search rules in
    let is_table : IsTable table = record { rows = plain_each text rows c.in-Some.ensures.rows; grouped = grouped; extra = long; map_attributes = two } in
    let P : List ℕ → Type 0 = λ fork. StandsForWithin limits fork table in
    let is : c.push_fork.new.fork.items ≡ written table = c.in-Ok-push_fork.ensures ∙ ap (λ (xs : List ℕ). xs ++ written table) c.in-Ok.ensures.items in
    subst P (sym is) (read_again_within limits table most c.requires is_table fits small)

pub returns-in-Ok-push_fork-clause-too_big : goal.returns-in-Ok-push_fork-clause-too_big
returns-in-Ok-push_fork-clause-too_big g c =
    let limits = c.args.limits in let text = g.D.Datum.text in let rows = c.args.rows.now in let extra = c.args.extra.now in let attributes = c.args.map_attributes in
    let long : length extra ≡ 240 = search rules in
    let small = plain_small limits text rows extra attributes long c.header_of_rows.ensures.four c.in-Some.ensures.fit in
    let fits = plain_fits limits text rows extra attributes c.in-Some.ensures.fit in
    (λ is. absurd (cc is), λ big. absurd (not_too_big limits (plain_table text rows extra attributes) small fits big))

pub returns-in-Err-clause-too_big : goal.returns-in-Err-clause-too_big
returns-in-Err-clause-too_big g c =
    let limits = c.args.limits in let text = g.D.Datum.text in let rows = c.args.rows.now in let extra = c.args.extra.now in let attributes = c.args.map_attributes in
    let long : length extra ≡ 240 = search rules in
    let small = plain_small limits text rows extra attributes long c.header_of_rows.ensures.four c.in-Some.ensures.fit in
    let fits = plain_fits limits text rows extra attributes c.in-Some.ensures.fit in
    (λ is. absurd (cc is), λ big. absurd (not_too_big limits (plain_table text rows extra attributes) small fits big))
