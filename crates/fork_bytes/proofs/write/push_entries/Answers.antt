use Rattle.std.proofs.Common.{◌≡◌, ◌++◌, get_or, drop, ℕ, ◌+◌, ◌-◌, ◌*◌, List, sym, ap, ◌∙◌, arith}
use Rattle.std.proofs.lemmas.List.{drop_all}
use Rattle.byteorder.specs.Endian.{big_bytes}
use Rattle.mac_base.specs.declared.resource.Resource.{Resource}
use Rattle.fork_bytes.specs.Written.{types_of, entries_text}
use Rattle.fork_bytes.proofs.Steps.{appended, all_added}
use Rattle.fork_bytes.proofs.Entries.{entry_step}
use Rattle.fork_bytes.proofs.write.push_entries.Goals as goal

pub loop-at-init : goal.loop-at-init
loop-at-init g c =
    let at : c.args.first + 12 * 0 ≡ c.args.first = omega arith in
    (ap (λ (n : ℕ). c.args.fork.now.items ++ entries_text n (types_of c.args.rows.now)) at, omega arith)

pub loop-at-preserved : goal.loop-at-preserved
loop-at-preserved g c =
    let rows = c.args.rows.now in let at = c.loop-at.at in let end = c.run_end-end.result in let old = c.loop-at.fork.items in
    let kind = (get_or rows at c.index-rows-at.result).kind in
    let low = c.requires in
    let entry = big_bytes 2 (end - at - 1) ++ big_bytes 2 (c.args.first + 12 * at) in
    let step = entry_step rows at end c.args.first c.index-rows-at.result c.loop-at-test.true c.run_end-end.ensures.some c.run_end-end.ensures.within (omega arith) c.run_end-end.ensures.run in (
      appended _ old (kind ++ entry) (entries_text (c.args.first + 12 * end) (types_of (drop end rows))) _ c.in_ok-push_entry.ensures
          (ap (λ (xs : List ℕ). old ++ xs) (sym step) ∙ c.loop-at.invariant.0),
      c.run_end-end.ensures.within,
    )

pub returns : goal.returns
returns g c =
    all_added _ (entries_text (c.args.first + 12 * c.loop-at.at) (types_of (drop c.loop-at.at c.args.rows.now))) _
    (ap (λ (rest : List (Resource _)). entries_text (c.args.first + 12 * c.loop-at.at) (types_of rest)) (drop_all c.loop-at.at c.args.rows.now (omega (arith, c.loop-at-test.false)))) c.loop-at.invariant.0
