use Rattle.std.proofs.Common.{◌≡◌, true, false, [], refl, arith}
use Rattle.script_run.proofs.Known.{Took-none}
use Rattle.macheap.specs.Program.{lacks_memory}
use Rattle.macheap.proofs.Ending.{full_told, no_memory_told, words_told}
use Rattle.macheap.proofs.program.refuse.Goals as goal

pub returns-then-lacks_memory-clause-ends : goal.returns-then-lacks_memory-clause-ends
returns-then-lacks_memory-clause-ends g c =
    let is = c.lacks_memory.ensures in
    let so = c.if-lacks_memory.true in
    let yes : lacks_memory c.args.error.now ≡ true = grind (arith, is, so) in
    let e = c.tell_no_memory.ensures.ends in
    let told = no_memory_told _ _ e.0 _ e.2 c.tell_no_memory.ensures.write_fault c.status.ensures in
    (e.0, [], e.1, Took-none _ _, full_told c.args.error.now _ yes (told.0, told.1, refl))

pub returns-clause-ends : goal.returns-clause-ends
returns-clause-ends g c =
    let is = c.lacks_memory.ensures in
    let so = c.if-lacks_memory.false in
    let isnt : lacks_memory c.args.error.now ≡ false = grind (arith, is, so) in
    let e = c.tell_bad_words.ensures in
    ([], e.2, Took-none _ _, e.3, words_told c.args.error.now _ isnt (record { status = refl; unwritten = refl; text = e.0; some = e.1; says = e.4 }))
