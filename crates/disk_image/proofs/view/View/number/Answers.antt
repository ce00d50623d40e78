use Rattle.std.proofs.Common.{◌≡◌, ℕ, List, [], ◌∷◌, length, take, refl, ap, ◌∙◌, arith}
use Rattle.std.proofs.lemmas.List.{length-take-le}
use Rattle.fork_disk.specs.Disk.{bytes_at}
use Rattle.disk_image.specs.Devices.{bytes_in}
use Rattle.disk_image.proofs.Views.{view_length, number_is, no_number}
use Rattle.disk_image.proofs.view.View.number.Goals as goal
use Rattle.disk_image.proofs.view.View.number.Goals.{then-at-self-via-then-at-self, then-at-self-via-else-at-self+then-count-self}

pub returns-then-at-self-clause-reads : goal.returns-then-at-self-clause-reads
returns-then-at-self-clause-reads g c = λ honest.
    let file = g.D.ForkDisk.seen c.args.disk.now in
    let long = view_length c.args.self.now file c.requires.sound (c.requires.size honest) in
    record {
      keeps = record { honest = honest; same = refl; stable = λ stable. stable };
      known = no_number c.args.count c.args.at (bytes_in c.args.self.now file) (elim c.then-at-self.branch [
        | then-at-self-via-then-at-self w ↦ omega (arith, long, w.if-at-self.true, c.requires.some)
        | then-at-self-via-else-at-self+then-count-self w ↦ omega (arith, long, w.if-at-self.false, w.if-count-self.true)
      ]);
    }

pub returns-clause-reads : goal.returns-clause-reads
returns-clause-reads g c = λ honest.
    let read = c.in_ok-read.ensures.reads honest in
    let file = g.D.ForkDisk.seen c.args.disk.now in
    let bytes = bytes_in c.args.self.now file in
    let long = view_length c.args.self.now file c.requires.sound (c.requires.size read.keeps.honest) in
    let zeros : List ℕ = 0 ∷ 0 ∷ 0 ∷ 0 ∷ 0 ∷ 0 ∷ 0 ∷ 0 ∷ [] in
    let wanted : length (take c.args.count zeros) ≡ c.args.count = length-take-le c.args.count zeros (omega (arith, c.requires.few)) in
    let is : c.read.new.buffer ≡ bytes_at c.args.count c.args.at bytes = read.known ∙ ap (λ (k : ℕ). bytes_at k c.args.at bytes) wanted in
    record {
      keeps = read.keeps;
      known = c.read_uint.ensures
          ∙ number_is c.args.count c.args.at c.read.new.buffer _ bytes is (omega (arith, long, c.if-at-self.false, c.if-count-self.false));
    }
