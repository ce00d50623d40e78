use Rattle.std.proofs.Common.{◌≡◌, ◌∷◌, drop, ◌+◌, ◌-◌, sym, ap, ◌∙◌, arith}
use Rattle.mac_base.specs.declared.resource.Resource.{Resource}
use Rattle.fork_bytes.specs.Written.{types_of}
use Rattle.std.proofs.lemmas.List.{drop_more}
use Rattle.fork_bytes.proofs.Counted.{run_more, run_apart, run_last, said_of_found}
use Rattle.fork_bytes.proofs.sizes.run_end.Goals as goal

pub loop-end-init : goal.loop-end-init
loop-end-init g c =
    let within = c.requires in let one : c.args.start + 1 - c.args.start ≡ 1 = omega arith in
    (omega arith, omega arith, rw one (ap types_of (drop_more c.args.rows.now c.args.start c.index-rows-start.result within)))

pub loop-end-preserved : goal.loop-end-preserved
loop-end-preserved g c =
    let within = c.loop-end-test.true in
    let before = c.loop-end.invariant.0 in
    let more : c.loop-end.end + 1 - c.args.start ≡ c.loop-end.end - c.args.start + 1 = omega arith in
    (omega arith, omega arith, rw more (c.loop-end.invariant.2 ∙ run_more c.args.rows.now _ c.loop-end.end c.index-rows-end.result _ within (sym c.eq.ensures ∙ c.if-eq.true)))

pub returns-else-eq-clause-run : goal.returns-else-eq-clause-run
returns-else-eq-clause-run g c =
    let rows = c.args.rows.now in let n = c.loop-end.end - c.args.start in
    said_of_found (λ (row : Resource _). types_of (drop c.args.start rows) ≡ record { kind = row.kind; count = n } ∷ types_of (drop c.loop-end.end rows)) rows c.args.start c.index-rows-start.result c.requires
    (c.loop-end.invariant.2 ∙ run_apart rows n c.loop-end.end c.index-rows-end.result _ c.loop-end-test.true (sym c.eq.ensures ∙ c.if-eq.false))

pub returns-after-loop-end-clause-run : goal.returns-after-loop-end-clause-run
returns-after-loop-end-clause-run g c =
    let rows = c.args.rows.now in let n = c.loop-end.end - c.args.start in
    said_of_found (λ (row : Resource _). types_of (drop c.args.start rows) ≡ record { kind = row.kind; count = n } ∷ types_of (drop c.loop-end.end rows)) rows c.args.start c.index-rows-start.result c.requires
    (c.loop-end.invariant.2 ∙ run_last rows n c.loop-end.end _ (omega (arith, c.loop-end-test.false)))
