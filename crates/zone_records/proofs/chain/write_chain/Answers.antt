use Rattle.std.proofs.Common.{◌+◌, ◌-◌, ◌*◌, refl, arith}
use Rattle.zone_records.proofs.Words.{chain-starts, chain-more, chain-ends}
use Rattle.zone_records.proofs.chain.write_chain.Goals as goal

pub loop-index-init : goal.loop-index-init
loop-index-init c = chain-starts c.args.heads c.args.first c.args.last c.args.words.now c.requires.long c.requires.low c.requires.even c.requires.sayable

pub loop-index-preserved : goal.loop-index-preserved
loop-index-preserved c = chain-more c.args.heads c.args.first c.args.last c.args.words.now c.requires.long c.requires.low c.requires.even c.requires.sayable c.loop-index.index c.loop-index.next c.loop-index.words c.loop-index.invariant
    c.loop-index-test.true (4 * (63 - c.loop-index.index)) c.word-word.result (c.args.first + 4 * (63 - c.loop-index.index)) c.write_u32.new.buf _ refl c.word-word.ensures refl c.write_u32.ensures refl

pub returns : goal.returns
returns c = chain-ends c.args.heads c.args.first c.args.last c.args.words.now c.requires.long c.requires.low c.requires.even c.requires.sayable c.loop-index.index c.loop-index.next c.loop-index.words c.loop-index.invariant (omega arith)
