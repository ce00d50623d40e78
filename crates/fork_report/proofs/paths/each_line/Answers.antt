use Rattle.fork_report.proofs.Lined.{byte_end, byte_step}
use Rattle.fork_report.proofs.paths.each_line.Goals as goal

pub loop-byte-preserved : goal.loop-byte-preserved
loop-byte-preserved c =
    rw c.in_ok-push_byte.ensures (byte_step c.args.front.now _ _ c.args.text.now _ _ _ c.loop-byte-test.true c.loop-byte.invariant)

pub returns : goal.returns
returns c = byte_end c.args.front.now _ _ c.args.text.now _ _ c.loop-byte-test.false c.loop-byte.invariant
