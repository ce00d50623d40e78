use Rattle.std.proofs.Common.{◌∙◌, ap, refl, sym, arith}
use Rattle.mac_files.specs.declared.bin_hex.digits.Placed.{Placed}
use Rattle.mac_files.specs.BinHex.{Reading}
use Rattle.mac_files.proofs.BinHexRuns.{run_counted, run_kept}
use Rattle.mac_files.proofs.bin_hex.decode.decode.Goals as goal

pub loop-run-init : goal.loop-run-init
loop-run-init c = record {
  bytes = rw (c.in_ok-bytes.ensures.items, c.new-runs.ensures.all) refl;
  ending = rw c.new-runs.ensures.all refl;
  room = rw c.new-runs.ensures.all (omega (arith, c.in_ok-bytes.ensures.exact, c.in_ok-bytes.ensures.len, c.requires));
  text = c.new-runs.ensures.same_text;
}

pub loop-run-preserved : goal.loop-run-preserved
loop-run-preserved c =
    let takes = rw c.in-Ok-Some.field-0-is at c.in-Ok-Some.ensures.takes in
    let run = c.in-Ok-Some.run' in
    let x : Placed = record { value = run.value; at = run.at } in
    record {
      bytes = rw c.push_run.ensures.items (run_kept _ _ run.count x _ _ takes c.loop-run.invariant.bytes);
      ending = sym (ap (λ (r : Reading). r.ending) takes) ∙ c.loop-run.invariant.ending;
      room = omega (arith, run_counted run.count x _ _ takes, c.push_run.ensures.room, c.push_run.ensures.len, c.loop-run.invariant.room);
      text = c.in-Ok-Some.ensures.same_text ∙ c.loop-run.invariant.text;
    }
