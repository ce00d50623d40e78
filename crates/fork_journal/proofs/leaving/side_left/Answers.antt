use Rattle.std.proofs.Common.{◌≡◌, ℕ, ◌+◌, List, drop, get_or, refl, sym, ◌∙◌, ap, arith, subst}
use Rattle.std.specs.List.{each_same}
use Rattle.std.specs.Prelude.{Option}
use Rattle.std.specs.Option.{unwrap_or}
use Rattle.std.proofs.lemmas.List.{drop_all}
use Rattle.fork_journal.specs.declared.mem_pair.Call.{Call}
use Rattle.fork_journal.specs.declared.leaving.Choice.{Choice}
use Rattle.fork_journal.specs.declared.leaving.Replayed.{Replayed}
use Rattle.fork_journal.specs.Leaving.{left_by, whole, AreLeft}
use Rattle.fork_journal.proofs.Choosing.{own_more, other_more, own_then, other_then, same_left}
use Rattle.fork_journal.proofs.leaving.side_left.Goals as goal
use Rattle.fork_journal.proofs.leaving.side_left.Goals.{then-is_call_on+in_ok-follow, else-is_call_on}

pub loop-index-preserved : goal.loop-index-preserved
loop-index-preserved c = elim c.if-is_call_on.branch [
  | then-is_call_on+in_ok-follow w ↦ (
    λ end later.
        let after = subst (λ (now : Replayed). AreLeft c.args.side (drop (c.loop-index.index + 1) c.args.calls.now) now.read.items now.left.items end) w.now-is later in
        c.loop-index.invariant.0 end (own_more c.args.side c.args.calls.now c.loop-index.index _ c.index-calls-index.result _ _ _ _ end c.loop-index-test.true c.index-calls-index.is (sym w.if-is_call_on.ensures) w.in_ok-follow.ensures.read w.in_ok-follow.ensures.left after),
    let choice : w.unwrap_or-choice.result ≡ get_or c.args.choices.now c.loop-index.index whole =
        w.unwrap_or-choice.ensures ∙ ap (λ (o : Option Choice). unwrap_or o whole) w.copied.ensures ∙ w.get.ensures.lookup.4 (omega arith) whole in
        subst (λ (now : Replayed). left_by c.args.side (drop (c.loop-index.index + 1) c.args.calls.now) (drop (c.loop-index.index + 1) c.args.choices.now) now.read.items now.left.items
        ≡ left_by c.args.side c.args.calls.now c.args.choices.now c.args.first.now c.args.first.now) (sym w.now-is)
        (own_then c.args.side c.args.calls.now c.args.choices.now c.loop-index.index _ c.index-calls-index.result _ _ _ _ _ c.loop-index-test.true c.index-calls-index.is (sym w.if-is_call_on.ensures)
        choice w.in_ok-follow.ensures.read w.in_ok-follow.ensures.by_choice ∙ c.loop-index.invariant.1),
  )
  | else-is_call_on w ↦ (
    λ end later.
        let after = subst (λ (now : Replayed). AreLeft c.args.side (drop (c.loop-index.index + 1) c.args.calls.now) now.read.items now.left.items end) w.now-is later in
        c.loop-index.invariant.0 end (other_more c.args.side c.args.calls.now c.loop-index.index _ c.index-calls-index.result _ _ end c.loop-index-test.true c.index-calls-index.is (sym w.if-is_call_on.ensures) after),
    subst (λ (now : Replayed). left_by c.args.side (drop (c.loop-index.index + 1) c.args.calls.now) (drop (c.loop-index.index + 1) c.args.choices.now) now.read.items now.left.items
        ≡ left_by c.args.side c.args.calls.now c.args.choices.now c.args.first.now c.args.first.now) (sym w.now-is)
        (other_then c.args.side c.args.calls.now c.args.choices.now c.loop-index.index _ c.index-calls-index.result _ _ c.loop-index-test.true c.index-calls-index.is (sym w.if-is_call_on.ensures) ∙ c.loop-index.invariant.1),
  )
]

pub loop-index-init : goal.loop-index-init
loop-index-init c =
    let read = each_same _ _ c.in_ok-to_vec.ensures.ok in
    let left = each_same _ _ c.in_ok-to_vec-2.ensures.ok in (
      λ end later. subst (λ (t : List ℕ). AreLeft c.args.side c.args.calls.now t c.args.first.now end) read
          (subst (λ (t : List ℕ). AreLeft c.args.side c.args.calls.now c.in_ok-to_vec.field-0.items t end) left later),
      same_left c.args.side c.args.calls.now c.args.choices.now c.args.choices.now _ _ _ _ refl read left,
    )

pub returns-clause-possible : goal.returns-clause-possible
returns-clause-possible c =
    let now = c.loop-index.now in
    c.loop-index.invariant.0 _ (subst (λ (t : List Call). AreLeft c.args.side t now.read.items now.left.items now.left.items) (sym (drop_all _ _ c.loop-index-test.false)) refl)

pub returns-clause-left : goal.returns-clause-left
returns-clause-left c =
    let now = c.loop-index.now in
    subst (λ (t : List Call). left_by c.args.side t (drop c.loop-index.index c.args.choices.now) now.read.items now.left.items ≡ left_by c.args.side c.args.calls.now c.args.choices.now c.args.first.now c.args.first.now)
    (drop_all _ _ c.loop-index-test.false) c.loop-index.invariant.1
