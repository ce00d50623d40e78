use Rattle.std.proofs.Common.{◌≡◌, ℕ, List, Ok, Err, ap, sym, ◌∙◌}
use Rattle.disk_ranges.specs.Ranges.{bytes_of}
use Rattle.hfs_tree.proofs.Learned.{keeps_both}
use Rattle.disk_image.specs.Devices.{bytes_in, device_of}
use Rattle.disk_image.specs.Images.{contents_in}
use Rattle.disk_image.specs.Known.{known_as}
use Rattle.disk_image.proofs.Opened.{no_disk, a_disk}
use Rattle.disk_image.proofs.Views.{whole_is}
use Rattle.disk_image.proofs.image.read_file.Goals as goal

pub returns-in-Err-clause-reads : goal.returns-in-Err-clause-reads
returns-in-Err-clause-reads g c = λ honest.
    let second = c.in_ok-view.ensures.reads honest in
    let first = c.in_ok-known.ensures.reads second.keeps.honest in
    let file = g.D.ForkDisk.seen c.args.disk.now in
    let known = c.in_ok-known.known in
    let all : bytes_in c.in_ok-whole.whole file ≡ file = rw c.in_ok-whole.ensures.ranges (whole_is c.args.size file (c.requires first.keeps.honest)) in
    let none : device_of file known ≡ Err c.in-Err.fault = ap (λ (f : List ℕ). device_of f known) (sym first.keeps.same) ∙ (rw c.in-Err.is at second.known) in
    record {
      keeps = keeps_both g.D.ForkDisk _ _ _ first.keeps second.keeps;
      known = no_disk file known c.in-Err.fault (first.known ∙ ap known_as all) none;
    }

pub returns-in-Ok-2-clause-reads : goal.returns-in-Ok-2-clause-reads
returns-in-Ok-2-clause-reads g c = λ honest.
    let fourth = c.in_ok-contents.ensures.reads honest in
    let third = c.in_ok-inner.ensures.reads fourth.keeps.honest in
    let second = c.in_ok-view.ensures.reads third.keeps.honest in
    let first = c.in_ok-known.ensures.reads second.keeps.honest in
    let file = g.D.ForkDisk.seen c.args.disk.now in
    let known = c.in_ok-known.known in
    let view = c.in-Ok.view in
    let all : bytes_in c.in_ok-whole.whole file ≡ file = rw c.in_ok-whole.ensures.ranges (whole_is c.args.size file (c.requires first.keeps.honest)) in
    let two = keeps_both g.D.ForkDisk _ _ _ first.keeps second.keeps in
    let three = keeps_both g.D.ForkDisk _ _ _ two third.keeps in
    let some : device_of file known ≡ Ok view.ranges.items = ap (λ (f : List ℕ). device_of f known) (sym first.keeps.same) ∙ (rw c.in-Ok.is at second.known) in
    let inside : c.in_ok-inner.inner ≡ known_as (bytes_of view.ranges.items file) = third.known ∙ ap (λ (f : List ℕ). known_as (bytes_in view f)) two.same in
    record {
      keeps = keeps_both g.D.ForkDisk _ _ _ three fourth.keeps;
      known = record {
        size = c.requires first.keeps.honest;
        known = first.known ∙ ap known_as all;
        read = a_disk file known c.in_ok-inner.inner view.ranges.items (Ok (contents_in file c.in-Ok-2.contents)) (first.known ∙ ap known_as all) some inside
            (rw three.same at (rw c.in-Ok-2.is at fourth.known));
      };
    }

pub returns-clause-reads : goal.returns-clause-reads
returns-clause-reads g c = λ honest.
    let fourth = c.in_ok-contents.ensures.reads honest in
    let third = c.in_ok-inner.ensures.reads fourth.keeps.honest in
    let second = c.in_ok-view.ensures.reads third.keeps.honest in
    let first = c.in_ok-known.ensures.reads second.keeps.honest in
    let file = g.D.ForkDisk.seen c.args.disk.now in
    let known = c.in_ok-known.known in
    let view = c.in-Ok.view in
    let all : bytes_in c.in_ok-whole.whole file ≡ file = rw c.in_ok-whole.ensures.ranges (whole_is c.args.size file (c.requires first.keeps.honest)) in
    let two = keeps_both g.D.ForkDisk _ _ _ first.keeps second.keeps in
    let three = keeps_both g.D.ForkDisk _ _ _ two third.keeps in
    let some : device_of file known ≡ Ok view.ranges.items = ap (λ (f : List ℕ). device_of f known) (sym first.keeps.same) ∙ (rw c.in-Ok.is at second.known) in
    let inside : c.in_ok-inner.inner ≡ known_as (bytes_of view.ranges.items file) = third.known ∙ ap (λ (f : List ℕ). known_as (bytes_in view f)) two.same in
    record {
      keeps = keeps_both g.D.ForkDisk _ _ _ three fourth.keeps;
      known = a_disk file known c.in_ok-inner.inner view.ranges.items (Err c.in-Err-2.fault) (first.known ∙ ap known_as all) some inside
          (rw three.same at (rw c.in-Err-2.is at fourth.known));
    }
