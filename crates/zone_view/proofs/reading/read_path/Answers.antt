use Rattle.std.proofs.Common.{subst}
use Rattle.zone_view.specs.Reading.{Acts, IsReading}
use Rattle.zone_view.proofs.Noted.{was_read}
use Rattle.zone_view.proofs.reading.read_path.Goals as goal

pub returns : goal.returns
returns c =
    let old : Acts = record { calls = c.acts.inside.calls.events; reads = c.acts.inside.reads.events } in
    let new : Acts = record { calls = c.opened.new.calls.events; reads = c.read_noted.new.reads.events } in
    subst (λ (acts : Acts). IsReading c.args.path.now c.read_noted.result acts new) c.acts.view_is
    (was_read c.args.path.now c.in_ok-file.file c.read_noted.result old new c.in_ok-file.ensures c.read_noted.ensures.noted c.read_noted.ensures.few c.read_noted.ensures.fault)
