use Rattle.res_table.specs.OpenFiles.{row_at}
use Rattle.res_files.proofs.RowBytes.{whole_read, whole_within}
use Rattle.res_files.proofs.files.ResourceFiles.read.Goals as goal

pub read_part-requires : goal.read_part-requires
read_part-requires g c = record { within = whole_within (row_at c.args.place c.args.self.now.files) c.args.buffer.now c.requires.long }

pub returns-clause-reads : goal.returns-clause-reads
returns-clause-reads g c = λ honest.
    whole_read c.read_part.result (row_at c.args.place c.args.self.now.files) c.args.buffer.now c.read_part.new.buffer c.requires.long (c.read_part.ensures.reads honest)
