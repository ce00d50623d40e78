use Rattle.std.proofs.Common.{◌≡◌, ◌+◌, ℕ, List, [], ◌∷◌, ◌++◌, length, take, inl, inr, refl, sym, subst, ◌∙◌}
use Rattle.std.specs.List.{concat}
use Rattle.std.proofs.lemmas.List.{append-nil}
use Rattle.std.proofs.lemmas.Option.{slice_get_read}
use Rattle.script_lang.specs.Text.{no_memory_text}
use Rattle.script_run.specs.Counting.{Took}
use Rattle.script_run.specs.Run.{IsProperFront, opening_turn, turn_stopped, turns_of}
use Rattle.script_run.specs.Turns.{Idle, moments_of, turn_at}
use Rattle.script_run.proofs.Known.{Took-then}
use Rattle.script_run.proofs.Left.{left_from, none_left}
use Rattle.script_run.proofs.Ending.{IsRun-step, all_told, concat-push, none_told, ran_of, reply_cut}
use Rattle.script_run.proofs.Noting.{opening-noted, run-noted, same-turns-noted}
use Rattle.script_run.proofs.Turning.{line-goes, stopped-goes}
use Rattle.script_run.proofs.running.run_lines.Goals as goal

pub returns-in_default-clause-ends : goal.returns-in_default-clause-ends
returns-in_default-clause-ends g c =
    let told = c.tell_no_memory.ensures.ends in
    let start = c.args.machine.now in
    let left = c.open_first.new.self in
    let turn = Idle left.toolbox no_memory_text in (
      told.0,
      told.1,
      (
        moments_of [] start.toolbox (turn ∷ []),
        opening-noted g.S.ForkStore c.args.writer.now.passed c.args.moments.now start c.open_first.new.moments turn left c.args.writer.now.passed c.in_default.ensures.notes refl refl,
        λ input is. none_told g.S.ForkStore start input _ [] (turn ∷ []) _ told.0 (inr (inl (left, refl, refl, c.in_default.ensures.unchanged, refl))) told.2,
      ),
    )

pub returns-then-not-write_whole-clause-ends : goal.returns-then-not-write_whole-clause-ends
returns-then-not-write_whole-clause-ends g c =
    let w = c.if-not-write_whole.ensures.written in
    let start = c.args.machine.now in
    let machine = c.open_first.new.self in
    let text = c.open_first.new.text in
    let opens = c.in-Ok.ensures.opens in
    let turn = opening_turn machine opens.0 text in
    let front : IsProperFront w.0 text = rw (← c.as_slice.ensures) w.2 in (
      w.0,
      w.1,
      (
        moments_of [] start.toolbox (turn ∷ []),
        opening-noted g.S.ForkStore c.args.writer.now.passed c.args.moments.now start c.open_first.new.moments turn machine c.args.writer.now.passed c.in-Ok.ensures.notes refl refl,
        λ input is. reply_cut g.S.ForkStore start input _ (ran_of g.S.ForkStore start input c.args.script.now 0 (text ∷ []) machine is (machine, opens, refl)) [] text w.0 refl refl front,
      ),
    )

pub loop-line-init : goal.loop-line-init
loop-line-init g c =
    let w = c.if-not-write_whole.ensures.written in
    let start = c.args.machine.now in
    let machine = c.open_first.new.self in
    let text = c.open_first.new.text in
    let opens = c.in-Ok.ensures.opens in
    let whole : w.0 ≡ text ++ [] = w.2 ∙ c.as_slice.ensures ∙ sym (append-nil text) in (
      text ∷ [],
      subst (λ (t : List ℕ). Took g.W.Write.contents c.args.writer.now t c.write_whole.new.writer) whole w.1,
      (machine, opens, refl),
      c.if-not-write_whole.ensures.failures,
      opening-noted g.S.ForkStore c.args.writer.now.passed c.args.moments.now start c.open_first.new.moments (opening_turn machine opens.0 text) machine c.args.writer.now.passed c.in-Ok.ensures.notes refl refl,
    )

pub returns-in_default-run_line-clause-ends : goal.returns-in_default-run_line-clause-ends
returns-in_default-run_line-clause-ends g c =
    let told = c.tell_no_memory-in_default-run_line.ensures.ends in
    let i = c.loop-line.invariant in
    let start = c.args.machine.now in
    let lines = take c.loop-line.line-index c.args.script.now in
    let line = c.line-item.result in
    let had = c.loop-line.machine in
    let left = c.run_line.new.self in
    let stopped = c.in_default-run_line.ensures.stops in
    let turn = turn_stopped g.S.ForkStore had line.number line.statement left stopped in
    let turns = turns_of g.S.ForkStore start lines i.0 had i.2 ++ turn ∷ [] in (
      concat i.0 ++ told.0,
      Took-then _ _ _ _ _ _ i.1 told.1,
      (
        moments_of [] start.toolbox turns,
        run-noted g.S.ForkStore c.args.writer.now.passed c.args.moments.now start lines i.0 had i.2 c.loop-line.moments c.run_line.new.moments turn left c.loop-line.writer.passed i.4 c.in_default-run_line.ensures.notes i.1.passed
            (stopped-goes g.S.ForkStore had line.number line.statement left stopped).1,
        λ input is. none_told g.S.ForkStore start input _ i.0 turns _ told.0
            (inr (inr (ran_of g.S.ForkStore start input c.args.script.now c.loop-line.line-index i.0 had is i.2, line, _, left, left_from c.args.script.now c.loop-line.line-index line c.loop-line-test.true c.line-item.is, stopped, refl, refl, refl))) told.2,
      ),
    )

pub returns-in_default-run_line-clause-write_fault : goal.returns-in_default-run_line-clause-write_fault
returns-in_default-run_line-clause-write_fault g c = λ fault. rw (← c.loop-line.invariant.3) (c.tell_no_memory-in_default-run_line.ensures.write_fault fault)

pub returns-in_default-run_line-clause-no_write_failed : goal.returns-in_default-run_line-clause-no_write_failed
returns-in_default-run_line-clause-no_write_failed g c = λ other. c.tell_no_memory-in_default-run_line.ensures.no_write_failed other ∙ c.loop-line.invariant.3

pub returns-then-not-write_whole-2-clause-ends : goal.returns-then-not-write_whole-2-clause-ends
returns-then-not-write_whole-2-clause-ends g c =
    let w = c.if-not-write_whole-2.ensures.written in
    let i = c.loop-line.invariant in
    let start = c.args.machine.now in
    let lines = c.args.script.now in
    let these = take c.loop-line.line-index lines in
    let line = c.line-item.result in
    let had = c.loop-line.machine in
    let machine = c.run_line.new.self in
    let text = c.run_line.new.text in
    let does = c.in-Ok-run_line.ensures.does in
    let at = slice_get_read lines (length lines) c.loop-line.line-index line refl c.loop-line-test.true c.line-item.is in
    let run = IsRun-step g.S.ForkStore start lines c.loop-line.line-index i.0 had line text machine at i.2 does in
    let turn = turn_at g.S.ForkStore had line.number line.statement text machine does in
    let noted = run-noted g.S.ForkStore c.args.writer.now.passed c.args.moments.now start these i.0 had i.2 c.loop-line.moments c.run_line.new.moments turn machine c.loop-line.writer.passed i.4 c.in-Ok-run_line.ensures.notes i.1.passed
    (line-goes g.S.ForkStore had line.number line.statement text machine does).1 in
    let turns = turns_of g.S.ForkStore start (take (c.loop-line.line-index + 1) lines) (i.0 ++ text ∷ []) machine run.0 in
    let front : IsProperFront w.0 text = rw (← c.as_slice-in-loop-line.ensures) w.2 in (
      concat i.0 ++ w.0,
      Took-then _ _ _ _ _ _ i.1 w.1,
      (
        moments_of [] start.toolbox turns,
        same-turns-noted g.S.ForkStore c.args.writer.now.passed c.args.moments.now start (turns_of g.S.ForkStore start these i.0 had i.2 ++ turn ∷ []) turns c.run_line.new.moments run.1 noted,
        λ input is. reply_cut g.S.ForkStore start input _ (ran_of g.S.ForkStore start input lines (c.loop-line.line-index + 1) (i.0 ++ text ∷ []) machine is run.0) i.0 text w.0 refl refl front,
      ),
    )

pub returns-then-not-write_whole-2-clause-write_fault : goal.returns-then-not-write_whole-2-clause-write_fault
returns-then-not-write_whole-2-clause-write_fault g c = λ fault. rw (← c.loop-line.invariant.3) c.if-not-write_whole-2.ensures.failures

pub loop-line-preserved : goal.loop-line-preserved
loop-line-preserved g c =
    let w = c.if-not-write_whole-2.ensures.written in
    let i = c.loop-line.invariant in
    let start = c.args.machine.now in
    let lines = c.args.script.now in
    let these = take c.loop-line.line-index lines in
    let line = c.line-item.result in
    let had = c.loop-line.machine in
    let machine = c.run_line.new.self in
    let text = c.run_line.new.text in
    let does = c.in-Ok-run_line.ensures.does in
    let whole : w.0 ≡ text = w.2 ∙ c.as_slice-in-loop-line.ensures in
    let at = slice_get_read lines (length lines) c.loop-line.line-index line refl c.loop-line-test.true c.line-item.is in
    let run = IsRun-step g.S.ForkStore start lines c.loop-line.line-index i.0 had line text machine at i.2 does in
    let turn = turn_at g.S.ForkStore had line.number line.statement text machine does in
    let noted = run-noted g.S.ForkStore c.args.writer.now.passed c.args.moments.now start these i.0 had i.2 c.loop-line.moments c.run_line.new.moments turn machine c.loop-line.writer.passed i.4 c.in-Ok-run_line.ensures.notes i.1.passed
    (line-goes g.S.ForkStore had line.number line.statement text machine does).1 in
    let turns = turns_of g.S.ForkStore start (take (c.loop-line.line-index + 1) lines) (i.0 ++ text ∷ []) machine run.0 in
    let both : concat i.0 ++ w.0 ≡ concat (i.0 ++ text ∷ []) = rw whole (sym (concat-push i.0 text)) in (
      i.0 ++ text ∷ [],
      subst (λ (t : List ℕ). Took g.W.Write.contents c.args.writer.now t c.write_whole-in-loop-line.new.writer) both (Took-then _ _ _ _ _ _ i.1 w.1),
      run.0,
      c.if-not-write_whole-2.ensures.failures ∙ i.3,
      same-turns-noted g.S.ForkStore c.args.writer.now.passed c.args.moments.now start (turns_of g.S.ForkStore start these i.0 had i.2 ++ turn ∷ []) turns c.run_line.new.moments run.1 noted,
    )

pub returns-clause-ends : goal.returns-clause-ends
returns-clause-ends g c =
    let i = c.loop-line.invariant in
    let start = c.args.machine.now in
    let lines = c.args.script.now in (
      concat i.0,
      i.1,
      (
        moments_of [] start.toolbox (turns_of g.S.ForkStore start (take c.loop-line.line-index lines) i.0 c.loop-line.machine i.2),
        i.4,
        λ input is. all_told g.S.ForkStore start input _ (ran_of g.S.ForkStore start input lines c.loop-line.line-index i.0 c.loop-line.machine is i.2) (none_left lines c.loop-line.line-index c.loop-line-test.false) refl,
      ),
    )

pub returns-clause-no_write_failed : goal.returns-clause-no_write_failed
returns-clause-no_write_failed g c = λ other. c.loop-line.invariant.3
