use Rattle.fork_drawings.specs.Palettes.{colour_of}
use Rattle.fork_drawings.proofs.Steps.{one_more}
use Rattle.fork_drawings.proofs.palette.palette.Goals as goal

pub loop-value-preserved : goal.loop-value-preserved
loop-value-preserved c =
    one_more (colour_of c.args.colours c.args.bytes.now) c.loop-value.value c.loop-value.all.items c.push.new.self.items c.colour_of.result c.loop-value.invariant
    c.in_ok-push.ensures.items c.colour_of.ensures
