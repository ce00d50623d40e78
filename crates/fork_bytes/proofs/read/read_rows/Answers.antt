use Rattle.std.proofs.Common.{◌≡◌, List, ℕ, map, subst, sym, ap, ◌∙◌, rules}
use Rattle.std.proofs.lemmas.Result.{IfErr-weaker}
use Rattle.fork_bytes.specs.declared.fault.Condition.TheVariants.{Places, ByteCount}
use Rattle.fork_bytes.specs.declared.fault.ForkFault.TheVariants.{BadMap}
use Rattle.fork_bytes.specs.declared.fault.ForkFault.{ForkFault}
use Rattle.fork_bytes.specs.Rows.{Row, MapRow}
use Rattle.fork_bytes.specs.Fork.{data_of, map_of, map_rows, row_with, HasData, RefusesWithin}
use Rattle.fork_bytes.specs.Reading.{IsMapWithin, RefusesMapWithin, FaultsAt}
use Rattle.fork_bytes.proofs.Faults.{map_refuses, places_refuse, bytes_refuse, is_fork}
use Rattle.fork_bytes.proofs.Placing.{FewInRows, few_from_rows, few_to_rows, most_by_header}
use Rattle.fork_bytes.proofs.Whole.{parts_of_fork, map_is, map_is_long}
use Rattle.fork_bytes.proofs.read.read_rows.Goals as goal

pub read_map-requires : goal.read_map-requires
read_map-requires c = map_is_long c.args.limits c.args.fork.now c.args.header c.requires.header c.requires.parts c.map_bytes.result.now c.map_bytes.ensures

pub returns-in_err-rows-clause-refuses : goal.returns-in_err-rows-clause-refuses
returns-in_err-rows-clause-refuses c =
    let fork = c.args.fork.now in let parts = parts_of_fork c.args.limits fork c.args.header c.requires.header c.requires.parts in
    let same = map_is fork c.args.header c.requires.header c.map_bytes.result.now c.map_bytes.ensures in
    IfErr-weaker c.from_residual.result (RefusesMapWithin c.args.limits c.map_bytes.result.now) _
    (λ fault told. (let P : List ℕ → Type 0 = λ m. RefusesMapWithin c.args.limits m fault in map_refuses c.args.limits fork c.requires.whole parts fault (subst P same told))) (search rules)

pub returns-in_err-rows-2-clause-refuses : goal.returns-in_err-rows-2-clause-refuses
returns-in_err-rows-2-clause-refuses c =
    let fork = c.args.fork.now in let parts = parts_of_fork c.args.limits fork c.args.header c.requires.header c.requires.parts in
    let same = map_is fork c.args.header c.requires.header c.map_bytes.result.now c.map_bytes.ensures in
    let Q : List ℕ → Type 0 = IsMapWithin c.args.limits in
    let holds = subst Q same c.in_ok-rows.ensures.holds in
    let rows = c.in_ok-rows.ensures.rows ∙ ap map_rows same in
    IfErr-weaker c.from_residual-in_err-rows-2.result (FaultsAt Places (HasData (data_of fork) c.in_ok-rows.rows.items → ⊥)) _
    (λ fault told. (let P : List MapRow → Type 0 = λ r. FaultsAt Places (HasData (data_of fork) r → ⊥) fault in
    places_refuse c.args.limits fork c.requires.whole parts holds fault (subst P rows told)))
    (search rules)

pub returns-in_err-check_data-clause-refuses : goal.returns-in_err-check_data-clause-refuses
returns-in_err-check_data-clause-refuses c =
    let fork = c.args.fork.now in let parts = parts_of_fork c.args.limits fork c.args.header c.requires.header c.requires.parts in
    let same = map_is fork c.args.header c.requires.header c.map_bytes.result.now c.map_bytes.ensures in
    let read = c.in_ok-rows.ensures.rows ∙ ap map_rows same in
    let Q : List ℕ → Type 0 = IsMapWithin c.args.limits in
    let holds = subst Q same c.in_ok-rows.ensures.holds in
    let P : List MapRow → Type 0 = HasData (data_of fork) in
    let places = subst P read c.in_ok-rows-2.ensures.has in
    let rows = c.deref.ensures.value ∙ c.in_ok-rows-2.ensures.rows ∙ ap (map (row_with (data_of fork))) read in
    let R : List Row → Type 0 = FewInRows c.most_bytes.result in
    let most = c.most_bytes.ensures.most ∙ most_by_header c.args.limits fork c.args.header c.requires.header c.requires.parts.whole_data in
    let refuses = bytes_refuse c.args.limits fork c.requires.whole parts holds places (λ few. c.in_err-check_data.ensures.fails (subst R (sym rows) (few_to_rows c.args.limits (data_of fork) (map_rows (map_of fork)) _ most places few))) in
    IfErr-weaker c.from_residual-in_err-check_data.result (λ fault. fault ≡ BadMap ByteCount) _ (λ fault is. (let S : ForkFault → Type 0 = RefusesWithin c.args.limits fork in subst S (sym is) refuses)) (search rules)

pub returns-clause-rows : goal.returns-clause-rows
returns-clause-rows c =
    let fork = c.args.fork.now in
    let same = map_is fork c.args.header c.requires.header c.map_bytes.result.now c.map_bytes.ensures in
    let read = c.in_ok-rows.ensures.rows ∙ ap map_rows same in c.in_ok-rows-2.ensures.rows ∙ ap (map (row_with (data_of fork))) read

pub returns-clause-fork : goal.returns-clause-fork
returns-clause-fork c =
    let fork = c.args.fork.now in let parts = parts_of_fork c.args.limits fork c.args.header c.requires.header c.requires.parts in
    let same = map_is fork c.args.header c.requires.header c.map_bytes.result.now c.map_bytes.ensures in
    let read = c.in_ok-rows.ensures.rows ∙ ap map_rows same in
    let Q : List ℕ → Type 0 = IsMapWithin c.args.limits in
    let holds = subst Q same c.in_ok-rows.ensures.holds in
    let P : List MapRow → Type 0 = HasData (data_of fork) in
    let places = subst P read c.in_ok-rows-2.ensures.has in
    let rows = c.deref.ensures.value ∙ c.in_ok-rows-2.ensures.rows ∙ ap (map (row_with (data_of fork))) read in
    let R : List Row → Type 0 = FewInRows c.most_bytes.result in
    let most = c.most_bytes.ensures.most ∙ most_by_header c.args.limits fork c.args.header c.requires.header c.requires.parts.whole_data in
    is_fork c.args.limits fork c.requires.whole parts holds places (few_from_rows c.args.limits (data_of fork) (map_rows (map_of fork)) _ most places (subst R rows c.in_ok-check_data.ensures.few))
