use Rattle.std.proofs.Common.{rules, arith, ap, length, inl, inr}
use Rattle.host_paths.specs.Following.{CantFollow, at_first, and_over, no_answer, no_name, too_many, no_memory_for_next}
use Rattle.host_paths.proofs.Failing.{failed_with}
use Rattle.host_paths.proofs.links.follow.Goals as goal

pub loop-turn-init : goal.loop-turn-init
loop-turn-init c = record { over = at_first _ (search rules); asks = λ asked. asked; two = omega arith }

pub loop-turn-preserved : goal.loop-turn-preserved
loop-turn-preserved c =
    let e = c.in_ok-here-2.ensures.after in record {
      over = and_over _ e.0 _ c.in_ok-found.found _ _ c.loop-turn.invariant.over (search rules) e.1 (let noted = e.2 in let found = c.in_ok-found.ensures in cc);
      asks = search rules;
      two = let more = ap length e.2 in let one = ap length c.found_at.ensures in let before = c.loop-turn.invariant.two in omega (arith, more, one, before);
    }

pub returns-in_err-found-clause-fails : goal.returns-in_err-found-clause-fails
returns-in_err-found-clause-fails c =
    failed_with _ _ (λ kind. CantFollow c.args.path.now kind c.args.log.now.events c.found_at.new.log.events) c.from_residual-in_err-found.ensures.1
    (no_answer _ _ c.loop-turn.invariant.over (let noted = c.in_err-found.ensures in let text = c.as_str.ensures in cc))

pub returns-in_err-here-2-clause-fails : goal.returns-in_err-here-2-clause-fails
returns-in_err-here-2-clause-fails c =
    failed_with _ _ (λ kind. CantFollow c.args.path.now kind c.args.log.now.events c.after_link.new.log.events) c.from_residual-in_err-here-2.ensures.1
    (elim (c.in_err-here-2.ensures.fails) [
      | inl noted ↦ no_name _ c.in_ok-found.found _ c.loop-turn.invariant.over (search rules) (let found = c.in_ok-found.ensures in cc)
      | inr full ↦ no_memory_for_next _ full.0 c.in_ok-found.found _ c.loop-turn.invariant.over (search rules) (let noted = full.1 in let found = c.in_ok-found.ensures in cc) full.2
    ])

pub returns-clause-fails : goal.returns-clause-fails
returns-clause-fails c =
    too_many _ c.loop-turn.invariant.over (let before = c.loop-turn.invariant.two in let end = c.loop-turn.auto._turn-end in let last = c.loop-turn-test.false in omega (arith, before, end, last)) c.into.ensures
