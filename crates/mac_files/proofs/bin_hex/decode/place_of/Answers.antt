use Rattle.std.proofs.Common.{◌∙◌, ap, sym, slice_index}
use Rattle.mac_files.specs.BinHex.{Reading, places_of}
use Rattle.mac_files.specs.BinHexLeft.{runs_left}
use Rattle.mac_files.proofs.BinHexRuns.{place_in_run}
use Rattle.mac_files.proofs.bin_hex.decode.place_of.Goals as goal

pub returns-then-before-run : goal.returns-then-before-run
returns-then-before-run c =
    let takes = rw c.in-Ok-Some.field-0-is at c.in-Ok-Some.ensures.takes in
    place_in_run c.in-Ok-Some.run'.count c.loop-run.before (record { value = c.in-Ok-Some.run'.value; at = c.in-Ok-Some.run'.at }) (runs_left c.next_run.new.self) c.if-before-run.true
    ∙ ap (λ (r : Reading). slice_index (places_of r) c.loop-run.before) (sym takes)
    ∙ c.loop-run.invariant.place
