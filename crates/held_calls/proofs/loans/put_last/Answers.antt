use Rattle.held_calls.proofs.Places.{put_after}
use Rattle.held_calls.proofs.loans.put_last.Goals as goal

pub returns : goal.returns
returns c = put_after c.args.places.now c.free_place-free.result c.args.held c.rotate_left.new.self c.replace.new.dest c.free_place-free.ensures c.rotate_left.ensures.after c.replace.ensures.after
