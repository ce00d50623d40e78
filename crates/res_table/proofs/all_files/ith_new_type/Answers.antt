use Rattle.std.proofs.Common.{◌≡◌, ◌<◌, ◌+◌, ◌∷◌, ℕ, List, Option, Some, None, if◌then◌else◌, sym, ap, ◌∙◌, arith, drop, filter, length, not}
use Rattle.std.proofs.lemmas.List.{length-map}
use Rattle.std.specs.Option.{option_and_then, option_map_or}
use Rattle.res_table.specs.declared.row.Row.{Row}
use Rattle.res_table.specs.declared.chain.OpenFile.{OpenFile}
use Rattle.res_table.specs.Rows.{ith}
use Rattle.res_table.specs.Saved.{kind_of, row_types}
use Rattle.res_table.specs.AllFiles.{has_type, types_in}
use Rattle.res_table.proofs.AllFiles.{looked_at, left_to_go}
use Rattle.res_table.proofs.all_files.ith_new_type.Goals.{in-Some+else-left-eq1, in_default}
use Rattle.res_table.proofs.all_files.ith_new_type.Goals as goal

-- the types that are left, by what is found at the next
seen : {D : Type 0} (rows : List (Row D)) (later : List (OpenFile D)) (index end : ℕ) (found : Option (List ℕ)) → index < end → end ≡ length (row_types rows)
    → found ≡ option_and_then (λ kind. if not (has_type kind later) then Some kind else None) (ith (index + 1) (types_in rows))
    → filter (λ kind. not (has_type kind later)) (drop index (types_in rows))
    ≡ option_map_or (λ x. x ∷ filter (λ kind. not (has_type kind later)) (drop (index + 1) (types_in rows))) found (filter (λ kind. not (has_type kind later)) (drop (index + 1) (types_in rows)))
seen rows later index end found below many is =
    let same = length-map (row_types rows) kind_of in
    looked_at (λ kind. not (has_type kind later)) (types_in rows) index found (omega (arith, below, many, same)) is

pub returns-then-left-eq1 : goal.returns-then-left-eq1
returns-then-left-eq1 g c =
    ap (λ (n : ℕ). ith n (c.in-Some.kind ∷ filter (λ kind. not (has_type kind c.args.later.now)) (drop (c.loop-index.index + 1) (types_in c.args.rows.now)))) (sym c.if-left-eq1.true)
    ∙ ap (ith c.loop-index.left) (sym (seen c.args.rows.now c.args.later.now c.loop-index.index c.count_types-index-end.result _ c.loop-index-test.true c.count_types-index-end.ensures.types (sym c.in-Some.is ∙ c.new_type.ensures))) ∙ c.loop-index.invariant

pub loop-index-preserved : goal.loop-index-preserved
loop-index-preserved g c = elim c.match-new_type.branch [
  | in-Some+else-left-eq1 w ↦
      ap (λ (n : ℕ). ith n (filter (λ kind. not (has_type kind c.args.later.now)) (drop (c.loop-index.index + 1) (types_in c.args.rows.now)))) (w.left-is ∙ w.saturating_sub-left.ensures)
      ∙ left_to_go w.in-Some.kind _ c.loop-index.left w.if-left-eq1.false ∙ ap (ith c.loop-index.left) (sym (seen c.args.rows.now c.args.later.now c.loop-index.index c.count_types-index-end.result _ c.loop-index-test.true c.count_types-index-end.ensures.types (sym w.in-Some.is ∙ c.new_type.ensures))) ∙ c.loop-index.invariant
  | in_default w ↦
      ap (λ (n : ℕ). ith n (filter (λ kind. not (has_type kind c.args.later.now)) (drop (c.loop-index.index + 1) (types_in c.args.rows.now)))) w.left-is
      ∙ ap (ith c.loop-index.left) (sym (seen c.args.rows.now c.args.later.now c.loop-index.index c.count_types-index-end.result _ c.loop-index-test.true c.count_types-index-end.ensures.types (sym w.in_default.is ∙ c.new_type.ensures))) ∙ c.loop-index.invariant
]
