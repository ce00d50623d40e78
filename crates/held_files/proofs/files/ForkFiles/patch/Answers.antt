use Rattle.held_calls.specs.Holding.{loans_of}
use Rattle.held_files.proofs.Patching.{full-seen, patches-seen}
use Rattle.held_zone.proofs.Made.{state}
use Rattle.held_zone.specs.State.{State}
use Rattle.held_files.proofs.files.ForkFiles.patch.Goals as goal
use Rattle.held_files.proofs.files.ForkFiles.patch.Goals.{in-Ok, in-Err}

pub returns : goal.returns
returns c =
    let session = c.session.inside in let on = c.self.inside.files in let new_on = c.patch.new.files in let call = c.args.call.now in
    let zone : State = state session.memory (loans_of session.loans) session.answers.left session.answers.asks session.waiting.items session.guest session.purges in
    elim c.match-patch.branch [
      | in-Ok w ↦ rw w.result-is (patches-seen c.self.inside.zones zone on c.args.session.now c.args.self.now c.session.view_is c.self.view_is new_on call w.in-Ok.end w.in-Ok.ensures.patches w.in-Ok.ensures.leaves.saved c.patch.ensures.refused)
      | in-Err w ↦ rw w.result-is (full-seen c.self.inside.zones zone on c.args.session.now c.args.self.now c.session.view_is c.self.view_is new_on call w.in-Err.ensures.late w.in-Err.ensures.same w.in-Err.ensures.works)
    ]
