use Rattle.std.proofs.Common.{length, List, ℕ, ap, sym, subst, ◌∙◌, arith}
use Rattle.std.proofs.lemmas.List.{drop_all}
use Rattle.mac_base.specs.declared.resource.Resource.{Resource}
use Rattle.fork_bytes.specs.Written.{types_of}
use Rattle.fork_bytes.proofs.Counted.{types_at_run, four_at_run}
use Rattle.fork_bytes.proofs.Lengths.{AreFour}
use Rattle.fork_bytes.proofs.sizes.type_count.Goals as goal

pub loop-at-init : goal.loop-at-init
loop-at-init g c = (omega arith, omega arith, omega arith, λ four. four)

pub loop-at-preserved : goal.loop-at-preserved
loop-at-preserved g c =
    let run = types_at_run c.args.rows.now c.loop-at.at c.run_end-at.result c.loop-at-test.true c.run_end-at.ensures.run in
    let all = c.loop-at.invariant.0 in let few = c.loop-at.invariant.1 in let some = c.run_end-at.ensures.some in
    let kind = ap (λ (xs : List ℕ). length xs) (sym c.bytes-four.ensures.same) ∙ c.bytes-four.ensures.four in (
      omega arith,
      omega arith,
      c.run_end-at.ensures.within,
      λ four. c.loop-at.invariant.3 (four_at_run c.args.rows.now c.loop-at.at c.run_end-at.result _ c.loop-at-test.true c.run_end-at.ensures.run kind four),
    )

pub returns-clause-types : goal.returns-clause-types
returns-clause-types g c =
    let none = ap (λ (rest : List (Resource _)). length (types_of rest)) (drop_all c.loop-at.at c.args.rows.now (omega (arith, c.loop-at-test.false))) in
    let all = c.loop-at.invariant.0 in omega arith

pub returns-clause-four : goal.returns-clause-four
returns-clause-four g c =
    let P : List (Resource _) → Type 0 = λ rest. AreFour (types_of rest) in
    c.loop-at.invariant.3 (subst P (sym (drop_all c.loop-at.at c.args.rows.now (omega (arith, c.loop-at-test.false)))) tt)
