use Rattle.std.proofs.Common.{List, refl, sym, subst}
use Rattle.fork_disk.specs.Record.{Event}
use Rattle.fork_journal.specs.Crash.{MayLeave}
use Rattle.fork_journal.specs.Files.{none_other}
use Rattle.script_tests.specs.Honest.{both_after}
use Rattle.script_tests.proofs.Honest.{both_told_honest, told_honest}
use Rattle.script_tests.proofs.files.files_can_be_honest.Goals as goal

pub returns : goal.returns
returns c = record {
  files = λ first store told. told_honest (first store.disk.number) store.disk.log.events told;
  pairs = λ first files fork journal told. record {
    fork_synced = fork;
    journal_synced = journal;
    answers = both_told_honest (first files.run files.number) files.log.events told;
  };
  left = λ first crash store none may. let held = both_after (first store.pair.run store.pair.number) in (
    (held store.pair.log.events, subst (λ (calls : List Event). MayLeave crash.history (held calls)) (sym none) may, refl),
    none_other held store.pair.log.events none,
  );
}
