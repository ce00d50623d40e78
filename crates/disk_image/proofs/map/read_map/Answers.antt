use Rattle.std.proofs.Common.{◌≡◌, ◌+◌, ℕ, List, length, true, false, ap, sym, ◌∙◌}
use Rattle.hfs_tree.proofs.Learned.{keeps_both}
use Rattle.disk_image.specs.Devices.{bytes_in}
use Rattle.disk_image.specs.Known.{number_at}
use Rattle.disk_image.specs.Maps.{has_room, parts_from}
use Rattle.disk_image.proofs.MapsRead.{unmarked_map, crowded_map, map_is, room_few, room_inside}
use Rattle.disk_image.proofs.Views.{view_length}
use Rattle.disk_image.proofs.map.read_map.Goals as goal

pub returns-then-not-marked-clause-reads : goal.returns-then-not-marked-clause-reads
returns-then-not-marked-clause-reads g c = λ honest.
    let read = c.in_ok-marked.ensures.reads honest in
    record {
      keeps = read.keeps;
      known = unmarked_map (bytes_in c.args.view.now (g.D.ForkDisk.seen c.args.disk.now)) c.args.grid (sym read.known ∙ c.if-not-marked.true);
    }

pub returns-then-not-has_room-clause-reads : goal.returns-then-not-has_room-clause-reads
returns-then-not-has_room-clause-reads g c = λ honest.
    let second = c.in_ok-count.ensures.reads honest in
    let first = c.in_ok-marked.ensures.reads second.keeps.honest in
    let view = c.args.view.now in
    let grid = c.args.grid in
    let count = c.in_ok-count.count in
    let file = g.D.ForkDisk.seen c.args.disk.now in
    let long = view_length view file c.requires.sound (c.requires.size first.keeps.honest) in
    let counts : count ≡ number_at 4 (grid.step + 4) (bytes_in view file) = second.known ∙ ap (λ (f : List ℕ). number_at 4 (grid.step + 4) (bytes_in view f)) first.keeps.same in
    let room : has_room (length (bytes_in view file)) grid count ≡ false = ap (λ (k : ℕ). has_room k grid count) long ∙ sym c.has_room.ensures ∙ c.if-not-has_room.true in
    record {
      keeps = keeps_both g.D.ForkDisk _ _ _ first.keeps second.keeps;
      known = crowded_map (bytes_in view file) grid count (sym first.known ∙ c.if-not-marked.false) counts room;
    }

pub read_parts-requires-clause-few : goal.read_parts-requires-clause-few
read_parts-requires-clause-few g c = room_few c.args.view.now.size c.args.grid c.in_ok-count.count (sym c.has_room.ensures ∙ c.if-not-has_room.false)

pub read_parts-requires-clause-room : goal.read_parts-requires-clause-room
read_parts-requires-clause-room g c = room_inside c.args.view.now.size c.args.grid c.in_ok-count.count (sym c.has_room.ensures ∙ c.if-not-has_room.false)

pub returns-clause-reads : goal.returns-clause-reads
returns-clause-reads g c = λ honest.
    let third = c.read_parts.ensures.reads honest in
    let second = c.in_ok-count.ensures.reads third.keeps.honest in
    let first = c.in_ok-marked.ensures.reads second.keeps.honest in
    let view = c.args.view.now in
    let grid = c.args.grid in
    let count = c.in_ok-count.count in
    let file = g.D.ForkDisk.seen c.args.disk.now in
    let long = view_length view file c.requires.sound (c.requires.size first.keeps.honest) in
    let both = keeps_both g.D.ForkDisk _ _ _ first.keeps second.keeps in
    let counts : count ≡ number_at 4 (grid.step + 4) (bytes_in view file) = second.known ∙ ap (λ (f : List ℕ). number_at 4 (grid.step + 4) (bytes_in view f)) first.keeps.same in
    let room : has_room (length (bytes_in view file)) grid count ≡ true = ap (λ (k : ℕ). has_room k grid count) long ∙ sym c.has_room.ensures ∙ c.if-not-has_room.false in
    record {
      keeps = keeps_both g.D.ForkDisk _ _ _ both third.keeps;
      known = rw (map_is (bytes_in view file) grid count (sym first.known ∙ c.if-not-marked.false) counts room ∙ sym (ap (λ (f : List ℕ). parts_from (bytes_in view f) grid 1 count) both.same)) third.known;
    }
