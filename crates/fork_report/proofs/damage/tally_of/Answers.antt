use Rattle.std.proofs.Common.{◌≡◌, ◌∙◌, Bool, ℕ, ◌+◌, [], ◌∷◌, length, sym, subst, arith}
use Rattle.std.specs.Prelude.{filter_map}
use Rattle.fork_answer.specs.Salvaged.{found_in, readable}
use Rattle.fork_salvage.specs.Salvage.{items}
use Rattle.fork_report.proofs.Counts.{Counted, all_counted, all_told, item_counted, many_found, none_found, one_at_most, run_counted, runs_found}
use Rattle.fork_report.proofs.damage.tally_of.Goals as goal

pub loop-found-preserved : goal.loop-found-preserved
loop-found-preserved c =
    let one = one_at_most c.in-Some.item in
    let sum : c.saturating_add-readable.result ≡ c.loop-found.readable + length (filter_map found_in (c.in-Some.item ∷ [])) = omega (arith, one, c.readable_in.ensures) in
    let counted = item_counted (items c.args.fork.now) _ _ c.in-Some.item _ _ _ c.in-Some.ensures (sym c.is_run.ensures ∙ c.if-is_run.false) c.loop-found.invariant in
    let whole : ℕ → Bool → Type 0 = λ n b. Counted (items c.args.fork.now) c.next.new.self n (c.loop-found.found + 1) b in
    subst (λ (n : ℕ). whole n c.says_more-more.result) (sym sum)
    (subst (λ (b : Bool). whole (c.loop-found.readable + length (filter_map found_in (c.in-Some.item ∷ []))) b) (sym c.says_more-more.ensures) counted)

pub returns-then-is_run : goal.returns-then-is_run
returns-then-is_run c =
    runs_found (length (readable c.args.fork.now)) (length (items c.args.fork.now)) _ _ (run_counted (items c.args.fork.now) _ _ c.in-Some.item _ _ _ c.in-Some.ensures (sym c.is_run.ensures ∙ c.if-is_run.true) c.loop-found.invariant)

pub returns-then-found-eq0 : goal.returns-then-found-eq0
returns-then-found-eq0 c =
    let whole = all_counted (items c.args.fork.now) _ _ _ _ c.in_default.ensures.0 c.loop-found.invariant in
    none_found _ _ _ _ (sym whole.0 ∙ c.if-found-eq0.true)

pub returns-else-found-eq0 : goal.returns-else-found-eq0
returns-else-found-eq0 c =
    all_told (items c.args.fork.now) _ _ _ _ c.in_default.ensures.0 c.if-found-eq0.false c.loop-found-test.true c.loop-found.invariant

pub returns : goal.returns
returns c =
    let seen = c.loop-found.invariant.seen in let end = c.loop-found-test.false in
    many_found (length (readable c.args.fork.now)) (length (items c.args.fork.now)) _ _ (omega arith)
