use Rattle.std.proofs.Common.{◌≡◌, ◌+◌}
use Rattle.file_facts.specs.Dates.{days_of_months}
use Rattle.file_facts.proofs.date.month_of.Given as goal

-- the days of the months before it, and those that are left, are all
abbrev pub invariant-loop-before : goal.invariant-loop-before
invariant-loop-before l = l.days ≡ days_of_months l.leap l.before + l.rest
