use Rattle.std.proofs.Common.{◌≡◌, reverse, length}
use Rattle.type_source.specs.Types.{meaning_of}
use Rattle.type_source.proofs.types.meaning_of.Given as goal

-- what is left says the same of the type that is sought now
abbrev pub invariant-loop-last : goal.invariant-loop-last
invariant-loop-last l = meaning_of (reverse l.rest) l.kind l.id ≡ meaning_of (reverse l.types) l.fn.kind l.fn.id

abbrev pub decreases-loop-last : goal.decreases-loop-last
decreases-loop-last l = length l.rest
