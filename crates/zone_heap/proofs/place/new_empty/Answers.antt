use Rattle.zone_heap.proofs.Placing.{taken-sound, taken-fixed, taken-loans}
use Rattle.zone_heap.proofs.place.new_empty.Goals as goal

pub returns-clause-loans : goal.returns-clause-loans
returns-clause-loans c = taken-loans c.args.zone.now c.take.new.self c.take.result c.requires.sound.sound c.requires.sound.fixed c.take.ensures

pub returns-clause-sound : goal.returns-clause-sound
returns-clause-sound c = record {
  sound = taken-sound c.args.zone.now c.take.new.self c.take.result c.requires.sound.sound c.take.ensures;
  fixed = taken-fixed c.args.zone.now c.take.new.self c.take.result c.requires.sound.sound c.requires.sound.fixed c.take.ensures;
}
