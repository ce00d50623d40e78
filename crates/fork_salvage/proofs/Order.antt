-- The conditions that hold before a search for a fault.
use Rattle.std.proofs.Common.{◌≡◌, ℕ, ◌≤◌, List, length, Option, None, Some, IfSome, IfNone}
use Rattle.std.specs.List.{AllByRecursion}
use Rattle.fork_bytes.specs.declared.fault.Condition.{Condition}
use Rattle.fork_bytes.specs.declared.fault.Condition.TheVariants.{Parts, Types, References, RowCount, Names, Places, ByteCount}
use Rattle.fork_bytes.specs.declared.fault.ForkFault.TheVariants.{BadMap}
use Rattle.fork_bytes.specs.Fork.{map_of, references_of, HoldsWithin, IsForkWithin, rank, RefusesWithin, format_limits}
use Rattle.fork_salvage.specs.declared.fault.Fault.{Fault}
use Rattle.fork_salvage.specs.Fault.{IsFault, HasBytes, refusal_of}
use Rattle.fork_salvage.proofs.Conditions.{HoldBelow, none_below, next_below, all_hold, data_hold, refuses_at}

pub below_types : (fork : List ℕ) → HoldsWithin format_limits Parts fork → HoldBelow fork 1
below_types fork parts = next_below fork Parts (none_below fork) parts

pub below_references : (fork : List ℕ) → HoldsWithin format_limits Parts fork → HoldsWithin format_limits Types fork → HoldBelow fork 2
below_references fork parts types = next_below fork Types (below_types fork parts) types

pub below_rows : (fork : List ℕ) → HoldsWithin format_limits Parts fork → HoldsWithin format_limits Types fork → HoldsWithin format_limits References fork → HoldBelow fork 3
below_rows fork parts types references = next_below fork References (below_references fork parts types) references

pub below_names : (fork : List ℕ) → HoldsWithin format_limits Parts fork → HoldsWithin format_limits Types fork → HoldsWithin format_limits References fork → HoldsWithin format_limits RowCount fork → HoldBelow fork 4
below_names fork parts types references rows = next_below fork RowCount (below_rows fork parts types references) rows

pub below_places : (fork : List ℕ) → HoldsWithin format_limits Parts fork → HoldsWithin format_limits Types fork → HoldsWithin format_limits References fork → HoldsWithin format_limits RowCount fork → HoldsWithin format_limits Names fork → HoldBelow fork 5
below_places fork parts types references rows names = next_below fork Names (below_names fork parts types references rows) names

pub below_sum : (fork : List ℕ) → HoldsWithin format_limits Parts fork → HoldsWithin format_limits Types fork → HoldsWithin format_limits References fork → HoldsWithin format_limits RowCount fork → HoldsWithin format_limits Names fork →
    AllByRecursion (HasBytes fork) (references_of (map_of fork)) → HoldBelow fork 6
below_sum fork parts types references rows names bytes = next_below fork Places (below_places fork parts types references rows names) (data_hold fork bytes)

-- a fault that is found, and none
pub refuses_found : (fork : List ℕ) (found : Option Fault) (c : Condition) → IfSome found (IsFault fork) → IfSome found (λ f. refusal_of f ≡ BadMap c) →
    16 ≤ length fork → HoldBelow fork (rank c) → IfSome found (λ f. RefusesWithin format_limits fork (refusal_of f))
refuses_found fork None c is says long below = tt
refuses_found fork (Some f) c is says long below = refuses_at fork f c is says long below

pub fork_unless : (fork : List ℕ) (found : Option Fault) → IfNone found (HoldsWithin format_limits ByteCount fork) → 16 ≤ length fork → HoldBelow fork 6 → IfNone found (IsForkWithin format_limits fork)
fork_unless fork None holds long below = all_hold fork long (next_below fork ByteCount below holds)
fork_unless fork (Some f) holds long below = tt
