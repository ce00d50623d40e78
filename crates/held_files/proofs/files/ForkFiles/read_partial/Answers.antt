use Rattle.held_calls.specs.Holding.{loans_of}
use Rattle.held_files.proofs.Reading.{reads-seen}
use Rattle.held_zone.proofs.Made.{state}
use Rattle.held_files.proofs.files.ForkFiles.read_partial.Goals as goal

pub returns : goal.returns
returns c =
    let session = c.session.inside in
    reads-seen c.self.inside.zones (state session.memory (loans_of session.loans) session.answers.left session.answers.asks session.waiting.items session.guest session.purges) c.self.inside.files c.args.session.now c.args.self.now c.session.view_is c.self.view_is
    c.read_partial.new.files c.args.handle c.args.offset c.args.buffer.now c.read_partial.new.buffer c.read_partial.result c.read_partial.ensures.reads c.read_partial.ensures.same
