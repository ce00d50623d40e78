use Rattle.std.proofs.Common.{length, drop, ◌+◌, ℕ, List, sym, ap, subst, arith}
use Rattle.std.proofs.lemmas.List.{drop_all}
use Rattle.mac_base.specs.declared.resource.Resource.{Resource}
use Rattle.std.specs.List.{AllByRecursion}
use Rattle.fork_bytes.specs.Laws.{IsRow}
use Rattle.fork_bytes.specs.Written.{names_text, NamesFit}
use Rattle.fork_bytes.proofs.Steps.{names_step, each_step, some_name, no_name, fit_step, fit_not}
use Rattle.fork_bytes.proofs.sizes.names_length.Goals.{in-Some+else-next-gt-MAX_NAME_OFFSET, in_default}
use Rattle.fork_bytes.proofs.sizes.names_length.Goals as goal

pub loop-row-init : goal.loop-row-init
loop-row-init g c = (omega arith, (λ fit. fit, λ fit. fit), omega arith, λ each. each)

pub returns-then-next-gt-MAX_NAME_OFFSET-clause-none : goal.returns-then-next-gt-MAX_NAME_OFFSET-clause-none
returns-then-next-gt-MAX_NAME_OFFSET-clause-none g c fit =
    fit_not c.args.rows.now c.loop-row.row-index c.loop-row.next c.row-item.result c.in-Some.name c.loop-row-test.true c.row-item.is c.in-Some.is c.if-next-gt-MAX_NAME_OFFSET.true
    (c.loop-row.invariant.1.0 fit)

pub loop-row-preserved : goal.loop-row-preserved
loop-row-preserved g c =
    let rows = c.args.rows.now in let i = c.loop-row.row-index in let row = c.row-item.result in
    let within = c.loop-row-test.true in let is = c.row-item.is in
    let step = names_step rows i row within is in let all = c.loop-row.invariant.0 in
    let told = c.loop-row.invariant.1 in let few = c.loop-row.invariant.2 in
    let each_with : IsRow row → AllByRecursion IsRow (drop (i + 1) rows) → AllByRecursion IsRow rows = λ one others. c.loop-row.invariant.3 (each_step IsRow rows i row within is one others) in
    elim c.match-row.branch [
      | in-Some+else-next-gt-MAX_NAME_OFFSET w ↦
          let low = w.if-next-gt-MAX_NAME_OFFSET.false in
          let named = some_name row.name w.in-Some.name c.loop-row.next w.in-Some.is low in let name_length = named.1 in
          let long = ap (λ (xs : List ℕ). length xs) w.as_slice.ensures.bytes in let short = w.as_slice.ensures.short in let next = w.next-is in
          let fits = fit_step rows i c.loop-row.next c.match-row.next row within is named.0 (omega arith) in
          (omega arith, (λ fit. fits.0 (told.0 fit), λ fit. told.1 (fits.1 fit)), omega arith, each_with c.known.ensures)
      | in_default w ↦
          let named = no_name row.name c.loop-row.next w.in_default.is in let name_length = named.1 in let next = w.next-is in
          let fits = fit_step rows i c.loop-row.next c.match-row.next row within is named.0 (omega arith) in
          (omega arith, (λ fit. fits.0 (told.0 fit), λ fit. told.1 (fits.1 fit)), omega arith, each_with c.known.ensures)
    ]

pub returns-clause-some : goal.returns-clause-some
returns-clause-some g c =
    let none = ap (λ (rest : List (Resource _)). length (names_text rest)) (drop_all c.loop-row.row-index c.args.rows.now (omega (arith, c.loop-row-test.false))) in
    let all = c.loop-row.invariant.0 in omega arith

pub returns-clause-fit : goal.returns-clause-fit
returns-clause-fit g c =
    let Q : List (Resource _) → Type 0 = NamesFit c.loop-row.next in
    c.loop-row.invariant.1.1 (subst Q (sym (drop_all c.loop-row.row-index c.args.rows.now (omega (arith, c.loop-row-test.false)))) tt)

pub returns-clause-rows : goal.returns-clause-rows
returns-clause-rows g c =
    let Q : List (Resource _) → Type 0 = AllByRecursion IsRow in
    c.loop-row.invariant.3 (subst Q (sym (drop_all c.loop-row.row-index c.args.rows.now (omega (arith, c.loop-row-test.false)))) tt)
