use Rattle.std.proofs.Common.{◌≡◌, ◌++◌, drop}
use Rattle.std.specs.Prelude.{string_bytes}
use Rattle.fork_report.specs.Digests.{digest_listing}
use Rattle.fork_report.proofs.digest.digest_listing.Given as goal

-- the lines so far, and those of the rows that are left, are all
abbrev pub invariant-loop-row : goal.invariant-loop-row
invariant-loop-row l =
    string_bytes l.text ++ digest_listing l.letters l.kinds (drop l.row-index l.rows) ≡ digest_listing l.letters l.kinds l.rows
