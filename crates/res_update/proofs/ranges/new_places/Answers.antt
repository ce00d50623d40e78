use Rattle.std.proofs.Common.{◌≡◌, ◌+◌, ◌<◌, ◌++◌, ◌∷◌, [], ℕ, List, length, drop, get_or, sym, ap, ◌∙◌, append_assoc, arith}
use Rattle.fork_bytes.specs.Rows as fork
use Rattle.fork_bytes.proofs.Steps.{data_step, drop_item}
use Rattle.fork_bytes.specs.declared.place.Place.{Place}
use Rattle.res_update.specs.Drafts.{new_places}
use Rattle.res_update.proofs.ranges.new_places.Goals as goal

-- the place of the row is put after the others
one_more : (rows : List fork.Row) (i at n : ℕ) (r : fork.Row) (places new all : List Place) → i < length rows → r ≡ get_or rows i r → n ≡ length r.datum → new ≡ places ++ record { offset = at + 4; length = n } ∷ []
    → places ++ new_places at (drop i rows) ≡ all → new ++ new_places (at + 4 + n) (drop (i + 1) rows) ≡ all
one_more rows i at n r places new all less is long put old =
    let place : ℕ → Place = λ m. record { offset = at + 4; length = m } in
    ap (λ (ps : List Place). ps ++ new_places (at + 4 + n) (drop (i + 1) rows)) put
    ∙ append_assoc places (place n ∷ []) (new_places (at + 4 + n) (drop (i + 1) rows))
    ∙ ap (λ m. places ++ place m ∷ new_places (at + 4 + m) (drop (i + 1) rows)) long
    ∙ sym (ap (λ (rest : List fork.Row). places ++ new_places at rest) (drop_item rows i r less is))
    ∙ old

pub loop-row-preserved : goal.loop-row-preserved
loop-row-preserved c =
    let rows = c.args.rows.now in let i = c.loop-row.row-index in let row = c.row-item.result in
    let long = c.count.ensures in
    let step = data_step rows i row c.loop-row-test.true c.row-item.is in let all = c.loop-row.invariant.1 in (
      one_more rows i c.loop-row.end _ row c.loop-row.places.items c.push.new.self.items _ c.loop-row-test.true c.row-item.is long c.in_ok-push.ensures.items c.loop-row.invariant.0,
      omega (arith, long, step, all),
    )

pub overflow_add-end : goal.overflow_add-end
overflow_add-end c =
    let long = c.count.ensures in
    let step = data_step c.args.rows.now c.loop-row.row-index c.row-item.result c.loop-row-test.true c.row-item.is in let all = c.loop-row.invariant.1 in let few = c.requires in
    omega (arith, long, step, all, few)

pub overflow_cast-place : goal.overflow_cast-place
overflow_cast-place c =
    let long = c.count.ensures in
    let step = data_step c.args.rows.now c.loop-row.row-index c.row-item.result c.loop-row-test.true c.row-item.is in let all = c.loop-row.invariant.1 in let few = c.requires in
    omega (arith, long, step, all, few)
