use Rattle.std.proofs.Common.{◌≡◌, List, ℕ, map, IfOk, subst}
use Rattle.std.proofs.lemmas.Result.{IfOk-weaker}
use Rattle.hfs_tree.proofs.Learned.{keeps_both}
use Rattle.image_files.specs.Contents.{placed_now, placed_read}
use Rattle.image_files.proofs.Reading.{image_volumes}
use Rattle.image_files.proofs.read.read_contents.Goals as goal

pub contents_with-requires : goal.contents_with-requires
contents_with-requires g c = c.read_volumes-after.ensures.there c.in-Ok.image.size c.in-Ok.ensures.there

pub returns : goal.returns
returns g c = record {
  reads = λ honest.
      let second = c.read_volumes-after.ensures.reads honest in
      let first = c.in-Ok.ensures.reads second.keeps.honest in
      let file = g.D.ForkDisk.seen c.args.disk in
      let contents = c.in-Ok.image.contents in
      let volumes = subst (λ (f : List ℕ). IfOk c.read_volumes-after.result.1 (λ v. map (placed_read f) v.items ≡ map (placed_now f) contents.volumes.items)) first.keeps.same second.known in
      record {
        keeps = keeps_both g.D.ForkDisk _ _ _ first.keeps second.keeps;
        known = c.contents_with.ensures file first.known.size first.known.known
            (IfOk-weaker c.read_volumes-after.result.1 _ _ (λ v same. image_volumes file contents v.items first.known.read same) volumes);
      };
}
