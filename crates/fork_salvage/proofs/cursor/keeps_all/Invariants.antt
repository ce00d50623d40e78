use Rattle.std.proofs.Common.{◌≡◌, ◌-◌, take}
use Rattle.std.specs.List.{list_all}
use Rattle.fork_salvage.specs.Salvage.{is_kept, keeps_all}
use Rattle.fork_salvage.specs.Plans.{IsCursor, left_of}
use Rattle.fork_salvage.proofs.cursor.keeps_all.Given as goal

-- all are kept exactly where those that are left are
abbrev pub invariant-loop-turn : goal.invariant-loop-turn
invariant-loop-turn l = IsCursor l.plan l.cursor
    × (keeps_all l.fork l.plan ≡ list_all (is_kept l.fork l.plan) (take (l.most - l._turn) (left_of l.fork l.plan l.cursor)))
