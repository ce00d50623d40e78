use Rattle.std.proofs.Common.{ℕ, List, subst}
use Rattle.hfs_tree.proofs.Learned.{keeps_both}
use Rattle.image_open.specs.Opening.{StatesFile}
use Rattle.image_open.proofs.Files.{reads_opened}
use Rattle.image_open.proofs.opened.read_path.Goals as goal

pub returns-in-Ok : goal.returns-in-Ok
returns-in-Ok g c = λ honest.
    let second = c.file_of.ensures honest in
    let first = rw c.in-Ok.is at (c.open_path-after.ensures second.keeps.honest) in
    let file = g.D.ForkDisk.seen c.args.disk in
    record {
      keeps = keeps_both g.D.ForkDisk _ _ _ first.keeps second.keeps;
      known = reads_opened c.args.text.now file c.args.limit c.in-Ok.opened c.file_of.result.1 first.known
          (subst (λ (f : List ℕ). StatesFile c.in-Ok.opened c.args.limit c.file_of.result.1 f) first.keeps.same second.known);
    }
