use Rattle.std.proofs.Common.{rules, length, ◌<◌}
use Rattle.script_text.proofs.AnswerLaws.{too_many}
use Rattle.script_text.proofs.answer.written_calls.Goals as goal
use Rattle.script_text.proofs.answer.written_calls.Goals.{then-not-branch-via-then-not-branch, then-not-branch-via-else-not-branch+then-len-gt-MAX_CALLS}

pub returns-then-not-branch : goal.returns-then-not-branch
returns-then-not-branch c =
    elim c.then-not-branch.branch [
      | then-not-branch-via-then-not-branch w ↦
          let none = rw w.if-not-branch.true at c.in_ok-read_calls.ensures in
          λ others few. none others few.0
      | then-not-branch-via-else-not-branch+then-len-gt-MAX_CALLS w ↦
          let are = rw w.if-not-branch.false at c.in_ok-read_calls.ensures in
          let many : 8 < length c.read_calls.new.calls.items = search (rules, c.read_calls.new.calls.ok, w.len.ensures, w.if-len-gt-MAX_CALLS.true) in
          λ others few. too_many _ _ _ are many others few
    ]
