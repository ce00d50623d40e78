use Rattle.std.proofs.Common.{◌<◌, ℕ, List, [], subst, ◌∙◌, arith}
use Rattle.fork_bytes.specs.Fork.{map_of}
use Rattle.fork_bytes.specs.Reading.{HasName}
use Rattle.fork_salvage.proofs.Faults.{loop_start, loop_step, map_told}
use Rattle.fork_salvage.proofs.first.find_bad_name.Goals as goal

pub loop-reference-init : goal.loop-reference-init
loop-reference-init c =
    let first = c.new-cursor.ensures.first in let none = c.new-cursor.ensures.none in let start = c.new-cursor.ensures.start in (
      record { next = omega arith; small = omega arith; types = λ (some : 0 < c.new-cursor.result.list.count). absurd (omega arith) },
      loop_start (HasName (map_of c.args.fork.now)) c.args.fork.now c.args.plan.now c.new-cursor.result c.requires.told.told c.requires.references none first,
    )

pub loop-reference-preserved : goal.loop-reference-preserved
loop-reference-preserved c = (
  c.in-Some.ensures.cursor,
  loop_step (HasName (map_of c.args.fork.now)) (map_of c.args.fork.now) _ _ _ c.loop-reference.invariant.1 c.in-Some.ensures.left (let Q : List ℕ → Type 0 = λ m. HasName m (record { kind = []; place = c.in-Some.reference.place }) in subst Q (c.of.ensures ∙ map_told c.args.fork.now c.args.plan.now c.requires.told.told) c.in_default-name_gap.ensures.none),
)
