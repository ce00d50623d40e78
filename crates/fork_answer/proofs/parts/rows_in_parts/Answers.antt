use Rattle.std.proofs.Common.{◌≡◌, ◌∙◌, Err, subst, sym}
use Rattle.fork_bytes.specs.Fork.{format_limits}
use Rattle.fork_rows.specs.declared.fault.OpenFault.{OpenFault}
use Rattle.fork_rows.specs.declared.fault.OpenFault.TheVariants.{Fork}
use Rattle.fork_rows.specs.Opening.{OpensAsWithin}
use Rattle.fork_answer.proofs.InParts.{is_fork_with, is_no_fork_with, reads_twice}
use Rattle.fork_answer.proofs.parts.rows_in_parts.Goals as goal

pub returns-in-Ok-clause-rows : goal.returns-in-Ok-clause-rows
returns-in-Ok-clause-rows g c = λ honest. (
    let opened = c.in-Ok.ensures.reads honest in
    let known = c.in_ok-is_fork_alone.ensures.raw opened.keeps.honest in
    reads_twice g.S.ForkStore _ _ _ _ _ _ known opened
    (λ file is opens. is_fork_with file c.in-Ok.table (sym is ∙ c.if-not-branch.false) opens))

pub returns-in-Err-Fork-clause-rows : goal.returns-in-Err-Fork-clause-rows
returns-in-Err-Fork-clause-rows g c = λ honest. (
    let opened = c.in-Err-Fork.ensures.reads honest in
    let known = c.in_ok-is_fork_alone.ensures.raw opened.keeps.honest in
    let field = c.in-Err-Fork.field-0-is in
    let why : c.in-Err-Fork.field-0 ≡ Fork c.in-Err-Fork.fault = cc in
    reads_twice g.S.ForkStore _ _ _ _ _ _ known opened
    (λ file is opens.
    let P : OpenFault → Type 0 = λ fault. OpensAsWithin format_limits (Err fault) file in
    is_no_fork_with file c.in-Err-Fork.fault (sym is ∙ c.if-not-branch.false) (subst P why opens)))
