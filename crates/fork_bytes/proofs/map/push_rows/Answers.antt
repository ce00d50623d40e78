use Rattle.std.proofs.Common.{◌+◌, ◌*◌, ◌-◌, ◌++◌, ◌∷◌, [], List, map, ap, ◌∙◌, arith}
use Rattle.std.proofs.lemmas.Result.{IfErr-weaker, err_from_is_err_and}
use Rattle.fork_bytes.specs.declared.fault.Condition.TheVariants.{Names}
use Rattle.fork_bytes.specs.Rows.{MapRow}
use Rattle.fork_bytes.specs.Fork.{map_row, Reference}
use Rattle.fork_bytes.specs.Reading.{HasName, FaultsAt}
use Rattle.fork_bytes.proofs.Lists.{reference_start, reference_step, reference_end, references_at, made_step, made_end, all_start, all_step, all_fails, all_holds}
use Rattle.fork_bytes.proofs.Faults.{faults_less}
use Rattle.fork_bytes.proofs.map.push_rows.Goals as goal

pub loop-i-init : goal.loop-i-init
loop-i-init c =
    let e = c.args.entry in let m = c.args.map.now in
    let start = reference_start e.kind e.count e.start in
    (ap (λ (xs : List Reference). c.args.rows.now.items ++ map (map_row m) xs) start, all_start (HasName m) _ _ start)

pub returns-in_err-row-clause-refuses : goal.returns-in_err-row-clause-refuses
returns-in_err-row-clause-refuses c =
    let e = c.args.entry in let m = c.args.map.now in let i = c.loop-i.i in
    let here : Reference = record { kind = e.kind; place = e.start + 12 * i } in
    let rest = references_at e.kind (e.count - (i + 1)) (e.start + 12 * (i + 1)) in
    let split = reference_step e.kind e.count i e.start c.loop-i-test.true in
    let less = λ (fails : HasName m here → ⊥). all_fails (HasName m) _ _ (here ∷ []) rest c.loop-i.invariant.1 split (λ all. fails all.0) in
    let p = err_from_is_err_and c.from_residual.result c.from_residual.ensures.1 in
    IfErr-weaker c.from_residual.result (FaultsAt Names (HasName m here → ⊥)) _ (λ fault at. faults_less Names _ _ less fault at) (rw (p.1, p.2) c.in_err-row.ensures.refuses)

pub loop-i-preserved : goal.loop-i-preserved
loop-i-preserved c =
    let e = c.args.entry in let m = c.args.map.now in let i = c.loop-i.i in
    let here : Reference = record { kind = e.kind; place = e.start + 12 * i } in
    let rest = references_at e.kind (e.count - (i + 1)) (e.start + 12 * (i + 1)) in
    let split = reference_step e.kind e.count i e.start c.loop-i-test.true in
    let added = c.in_ok-push.ensures.added ∙ ap (λ (r : MapRow). c.loop-i.rows.items ++ r ∷ []) c.in_ok-row.ensures.row in
    (made_step (map_row m) c.loop-i.rows.items _ _ _ (here ∷ []) rest c.loop-i.invariant.0 split added, all_step (HasName m) _ _ (here ∷ []) rest c.loop-i.invariant.1 split (c.in_ok-row.ensures.has, tt))

pub returns-clause-rows : goal.returns-clause-rows
returns-clause-rows c =
    let e = c.args.entry in let m = c.args.map.now in let i = c.loop-i.i in
    made_end (map_row m) _ _ _ c.loop-i.invariant.0 (reference_end e.kind e.count i (e.start + 12 * i) (omega (arith, c.loop-i-test.false)))

pub returns-clause-names : goal.returns-clause-names
returns-clause-names c =
    let e = c.args.entry in let m = c.args.map.now in let i = c.loop-i.i in
    all_holds (HasName m) _ _ c.loop-i.invariant.1 (reference_end e.kind e.count i (e.start + 12 * i) (omega (arith, c.loop-i-test.false)))
