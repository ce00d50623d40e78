use Rattle.res_manager.proofs.OnlyRead.{only_read}
use Rattle.res_manager.proofs.partial.read_partial.Goals as goal

pub returns-in-Ok-read_part-clause-same : goal.returns-in-Ok-read_part-clause-same
returns-in-Ok-read_part-clause-same g c =
    let read = c.read_part.ensures in
    only_read g.S.ForkStore c.args.memory.now c.args.files.now c.read_part.new.self read.files read.loads read.count read.keeps

pub returns-in-Err-read_part-clause-same : goal.returns-in-Err-read_part-clause-same
returns-in-Err-read_part-clause-same g c =
    let read = c.read_part.ensures in
    only_read g.S.ForkStore c.args.memory.now c.args.files.now c.read_part.new.self read.files read.loads read.count read.keeps
