use Rattle.std.proofs.Common.{◌≤◌, ◌∙◌, List, length, subst, sym, ap, arith}
use Rattle.std.specs.List.{AllByRecursion}
use Rattle.std.proofs.lemmas.List.{length-map}
use Rattle.std.proofs.lemmas.Result.{err_from_is_err_and}
use Rattle.fork_bytes.specs.declared.fault.Condition.TheVariants.{RowCount, Types}
use Rattle.fork_bytes.specs.declared.fault.ForkFault.{ForkFault}
use Rattle.fork_bytes.specs.Fork.{references_of, map_row, attributes_of, most_rows, RefusesWithin}
use Rattle.fork_bytes.specs.Rows.{MapRow}
use Rattle.fork_bytes.specs.Reading.{PlacedRow, AreFewBytesWithin}
use Rattle.fork_bytes.proofs.Room.{most_of, most_bytes_of}
use Rattle.fork_rows.proofs.Grouped.{grouped_in}
use Rattle.fork_rows.proofs.Opened.{all_end, read_in_turn, places_refused, bytes_refused, has_places, opened_as, refused_as}
use Rattle.fork_rows.specs.Opening.{AreGrouped, EndsBy, kinds_in}
use Rattle.fork_rows.proofs.open.read_rows_within.Goals as goal

pub returns-in_err-rows-clause-reads : goal.returns-in_err-rows-clause-reads
returns-in_err-rows-clause-reads g c = λ honest. (
    let found = c.in_err-rows.ensures.reads honest in
    let part = c.in_ok-map.ensures.reads found.keeps.honest in
    let front = c.in_ok-front.ensures.reads part.keeps.honest in
    let count = c.in_ok-fork_length.ensures.measures front.keeps.honest in
    let whole : 16 ≤ c.in_ok-fork_length.fork_length = omega arith in
    let read = read_in_turn c.args.limits g.S.ForkStore _ _ _ _ _ _ _ _ _ _ _ _ count.keeps count.value whole front c.in_ok-check_parts.ensures.parts
    part c.deref.ensures.value c.in_ok-read_map.ensures.holds c.in_ok-read_map.ensures.rows found in
    let p = err_from_is_err_and c.from_residual-in_err-rows.result c.from_residual-in_err-rows.ensures.1 in
    record { keeps = read.keeps; told = rw (p.1, p.2) (refused_as c.args.limits _ _ read.told.0.whole (places_refused c.args.limits _ _ _ _ read.told.0 c.in_err-rows.field-0.0 read.told.2)) })

pub returns-in_err-check_bytes-clause-reads : goal.returns-in_err-check_bytes-clause-reads
returns-in_err-check_bytes-clause-reads g c = λ honest. (
    let found = c.in_ok-rows.ensures.reads honest in
    let part = c.in_ok-map.ensures.reads found.keeps.honest in
    let front = c.in_ok-front.ensures.reads part.keeps.honest in
    let count = c.in_ok-fork_length.ensures.measures front.keeps.honest in
    let whole : 16 ≤ c.in_ok-fork_length.fork_length = omega arith in
    let read = read_in_turn c.args.limits g.S.ForkStore _ _ _ _ _ _ _ _ _ _ _ _ count.keeps count.value whole front c.in_ok-check_parts.ensures.parts
    part c.deref.ensures.value c.in_ok-read_map.ensures.holds c.in_ok-read_map.ensures.rows found in
    let refuses = bytes_refused c.args.limits _ _ _ _ read.told.0 read.told.2.1 c.deref-2.result.now (c.deref-2.ensures.value ∙ read.told.2.0) _ c.most_bytes.ensures.most c.in_err-check_bytes.ensures.fails in
    let P : ForkFault → Type 0 = RefusesWithin c.args.limits (g.S.ForkStore.fork c.args.store.now) in
    let p = err_from_is_err_and c.from_residual-in_err-check_bytes.result c.from_residual-in_err-check_bytes.ensures.1 in
    record { keeps = read.keeps; told = rw (p.1, p.2) (refused_as c.args.limits _ _ read.told.0.whole (subst P (sym c.in_err-check_bytes.ensures.fault) refuses)) })

pub returns-clause-reads : goal.returns-clause-reads
returns-clause-reads g c = λ honest. (
    let found = c.in_ok-rows.ensures.reads honest in
    let part = c.in_ok-map.ensures.reads found.keeps.honest in
    let front = c.in_ok-front.ensures.reads part.keeps.honest in
    let count = c.in_ok-fork_length.ensures.measures front.keeps.honest in
    let whole : 16 ≤ c.in_ok-fork_length.fork_length = omega arith in
    let read = read_in_turn c.args.limits g.S.ForkStore _ _ _ _ _ _ _ _ _ _ _ _ count.keeps count.value whole front c.in_ok-check_parts.ensures.parts
    part c.deref.ensures.value c.in_ok-read_map.ensures.holds c.in_ok-read_map.ensures.rows found in
    let P : List PlacedRow → Type 0 = AreFewBytesWithin c.most_bytes.result in
    let few = subst P (c.deref-2.ensures.value ∙ sym c.new.ensures) c.in_ok-check_bytes.ensures.few in
    let marks = c.read_attributes.ensures ∙ ap attributes_of c.deref-3.ensures.value in
    record { keeps = read.keeps; told = opened_as c.args.limits _ _ (has_places c.args.limits _ _ _ _ read.told.0 read.told.2.1 c.new.result (c.new.ensures ∙ read.told.2.0) _ c.most_bytes.ensures.most few _ _ read.told.1 marks) })

pub returns-clause-inside : goal.returns-clause-inside
returns-clause-inside g c =
    let parts = c.in_ok-check_parts.ensures.parts in
    let within = parts.whole_data in let short = parts.small in
    let P : List PlacedRow → Type 0 = AllByRecursion (EndsBy c.args.limits.fork) in
    subst P (sym c.new.ensures) (all_end _ _ (omega arith) c.in_ok-rows.rows.items c.in_ok-rows.ensures.inside)

pub returns-clause-most : goal.returns-clause-most
returns-clause-most g c =
    let few : length (references_of c.deref.result.now) ≤ most_rows c.args.limits (length c.deref.result.now) = c.in_ok-read_map.ensures.holds RowCount in
    let most = most_of c.args.limits (length c.deref.result.now) in
    let listed = ap (λ (r : List MapRow). length r) c.in_ok-read_map.ensures.rows ∙ length-map (references_of c.deref.result.now) (map_row c.deref.result.now) in
    let placed = ap (λ (r : List PlacedRow). length r) c.new.ensures ∙ c.in_ok-rows.ensures.count in
    omega arith

pub returns-clause-grouped : goal.returns-clause-grouped
returns-clause-grouped g c =
    let P : List PlacedRow → Type 0 = AreGrouped in
    subst P (sym c.new.ensures) (grouped_in c.deref.result.now c.in_ok-rows.rows.items (c.in_ok-read_map.ensures.holds Types) (c.in_ok-rows.ensures.kinds ∙ ap (λ (rows : List MapRow). kinds_in rows) c.in_ok-read_map.ensures.rows))

pub returns-clause-few : goal.returns-clause-few
returns-clause-few g c =
    let P : List PlacedRow → Type 0 = AreFewBytesWithin c.args.limits.bytes in
    let few = c.in_ok-check_bytes.ensures.few in let bound = most_bytes_of c.args.limits c.in_ok-front.front.header.data_length in
    subst P (sym c.new.ensures) (subst P c.deref-2.ensures.value (omega arith))
