-- What is known at each moment of a run.
use Rattle.std.proofs.Common.{List, [], ◌∷◌, ◌++◌, refl}
use Rattle.mac_base.specs.HeadKind.{Shape}
use Rattle.mac_base.specs.Sound.{Sound}
use Rattle.mac_base.specs.ZoneSizes.{ArePossible, ZoneSizes, shape_of}
use Rattle.zone_laws.proofs.SoundNew.{sound-new}
use Rattle.zone_laws.specs.Act.{Act, Does, Done, AreDone, Moment, moment_after, new_zone}
use Rattle.zone_laws.specs.Headline.{Shows}
use Rattle.zone_laws.specs.LastPut.{LastPut, put_by_act, put_in}
use Rattle.zone_laws.specs.LastSet.{HasFlags, LastSet, set_by_act, set_in}
use Rattle.zone_laws.proofs.Loaned.{LoansHeld, act-flags, act-leaves}

module _ (s : Shape) where
  -- what is known at a moment of a run
  pub record Standing (at : Moment) (put : LastPut) (set : LastSet) : Type 0 where
    pub sound : Sound s at.heap
    pub held : LoansHeld at
    pub shows : Shows at put
    pub flags : HasFlags at.heap.table set

  pub stand-act : (act : Act) (old new : Moment) (put : LastPut) (set : LastSet) → Standing old put set → Does s act old new → Standing new (put_by_act act put) (set_by_act act set)
  stand-act act old new put set stands does =
      let left = act-leaves s old new put stands.sound stands.held stands.shows act does in
      record { sound = left.sound; held = left.held_too; shows = left.shown; flags = act-flags s act old new set stands.sound does stands.flags }

  pub stand-run : (from : Moment) (acts : List Done) (put : LastPut) (set : LastSet) → Standing from put set → AreDone s from acts → Standing (moment_after from acts) (put_in acts put) (set_in acts set)
  stand-run from [] put set stands is = stands
  stand-run from (d ∷ later) put set stands is = stand-run d.left later (put_by_act d.act put) (set_by_act d.act set) (stand-act d.act from d.left put set stands is.0) is.1

  -- the first acts of a run, and those after them
  pub run-first : (from : Moment) (first acts : List Done) → AreDone s from (first ++ acts) → AreDone s from first
  run-first from [] acts is = tt
  run-first from (d ∷ later) acts is = (is.0, run-first d.left later acts is.1)

  pub run-later : (from : Moment) (first acts : List Done) → AreDone s from (first ++ acts) → AreDone s (moment_after from first) acts
  run-later from [] acts is = is
  run-later from (d ∷ later) acts is = run-later d.left later acts is.1

-- this is known of a new zone
pub stand-new : (z : ZoneSizes) (put : LastPut) (set : LastSet) → ArePossible z → Standing (shape_of z) (new_zone z) put set
stand-new z put set possible = record {
  sound = sound-new z possible;
  held = record { fixed = λ x l. absurd (cc l); loaned = λ x. refl; long = λ x l. absurd (cc l) };
  shows = λ x block. absurd (cc block);
  flags = λ h full. absurd (cc full);
}
