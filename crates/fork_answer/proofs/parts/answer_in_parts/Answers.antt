use Rattle.std.proofs.Common.{◌∙◌, inl, sym}
use Rattle.fork_answer.proofs.InParts.{get_answers, list_answers, list_left, read_fault, read_rows, reads_twice, refuses, types_answer}
use Rattle.fork_answer.proofs.parts.answer_in_parts.Goals as goal

pub returns-in-Err-clause-answer : goal.returns-in-Err-clause-answer
returns-in-Err-clause-answer g c = λ honest. (
    let read = c.in_ok-placed.ensures.rows honest in
    let wrote = g.W.Write.contents c.args.output.now in
    record { keeps = read.keeps; told = refuses _ c.in-Err.fault c.args.request.now wrote wrote (read_fault _ _ _ read.told c.in-Err.is) })

pub returns-then-has_marked-clause-answer : goal.returns-then-has_marked-clause-answer
returns-then-has_marked-clause-answer g c = λ honest. (
    let read = c.in_ok-placed.ensures.rows honest in
    let is = read_rows _ _ _ read.told c.in-Ok.is in
    record { keeps = read.keeps; told = inl (list_left _ _ _ _ c.in-List.choice is c.in-List.is c.as_slice-rows.ensures (sym c.has_marked.ensures ∙ c.if-has_marked.true)) })

pub returns-in-List-clause-answer : goal.returns-in-List-clause-answer
returns-in-List-clause-answer g c = λ honest. (
    let read = c.in_ok-placed.ensures.rows honest in
    let is = read_rows _ _ _ read.told c.in-Ok.is in
    record { keeps = read.keeps; told = list_answers _ _ _ _ c.in-List.choice _ _ _ is c.in-List.is c.as_slice-rows.ensures (sym c.has_marked.ensures ∙ c.if-has_marked.false) c.list.ensures.writes })

pub returns-in-Types-clause-answer : goal.returns-in-Types-clause-answer
returns-in-Types-clause-answer g c = λ honest. (
    let read = c.in_ok-placed.ensures.rows honest in
    let is = read_rows _ _ _ read.told c.in-Ok.is in
    record { keeps = read.keeps; told = types_answer _ _ _ _ c.in-Types.choice _ _ _ is c.in-Types.is c.as_slice-rows.ensures c.list_types.ensures.writes })

pub returns-clause-answer : goal.returns-clause-answer
returns-clause-answer g c = λ honest. (
    let shown = c.get_part.ensures.shows honest in
    let read = c.in_ok-placed.ensures.rows shown.keeps.honest in
    reads_twice g.S.ForkStore _ _ _ _ _ _ read shown
    (λ file told parts. get_answers file _ _ _ c.in-Get.wanted _ _ _ _ _ _ c.in_ok-placed.ensures.cause (read_rows file _ _ told c.in-Ok.is) c.in-Get.is c.as_slice-rows.ensures parts))
