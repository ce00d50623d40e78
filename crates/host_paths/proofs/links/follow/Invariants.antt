use Rattle.std.specs.Path.{path_buf_bytes}
use Rattle.std.proofs.Common.{◌≡◌, ◌+◌, ◌*◌, length}
use Rattle.host_paths.specs.Asked.{KeepsAsking}
use Rattle.host_paths.specs.Following.{LeadsOver}
use Rattle.host_paths.proofs.links.follow.Given as goal

-- the path leads to the one that is reached, nothing but that was asked, and each link took two calls
abbrev pub invariant-loop-turn : goal.invariant-loop-turn
invariant-loop-turn l = record {
  over : LeadsOver l.path l.initial.log.events (path_buf_bytes l.here) l.log.events;
  asks : KeepsAsking l.initial.log.events l.log.events;
  two : length l.log.events ≡ length l.initial.log.events + 2 * l._turn;
}
