use Rattle.place_numbers.proofs.Shifts.{put-here, put-before, put-after}
use Rattle.place_numbers.proofs.word.with_bits.Goals as goal

pub returns-clause-here : goal.returns-clause-here
returns-clause-here c = put-here c.args.place c.args.count c.requires.inside c.args.word c.args.bits

pub returns-clause-before : goal.returns-clause-before
returns-clause-before c = put-before c.args.place c.args.count c.requires.inside c.args.word c.args.bits

pub returns-clause-after : goal.returns-clause-after
returns-clause-after c = put-after c.args.place c.args.count c.requires.inside c.args.word c.args.bits
