-- How many rows a map has room for.
use Rattle.std.proofs.Common.{ℕ, ◌*◌, ◌≤◌, arith}
use Rattle.fork_bytes.specs.declared.layout.Limits.{Limits}
use Rattle.fork_bytes.specs.declared.layout.Lists.{Lists}
use Rattle.fork_bytes.specs.declared.layout.Lists.TheVariants.{MayOverlap, HaveRoom}
use Rattle.fork_bytes.specs.Fork.{rows_by, most_rows, bytes_by, most_bytes}

-- rows are few in a map that has 12 bytes of each
pub few_by : (lists : Lists) (rows n map_length : ℕ) → n ≤ rows → 12 * n ≤ map_length → n ≤ rows_by lists rows map_length
few_by MayOverlap rows n map_length few room = few
few_by HaveRoom rows n map_length few room = omega arith

-- no map has more than the limit
no_more : (lists : Lists) (rows map_length : ℕ) → rows_by lists rows map_length ≤ rows
no_more MayOverlap rows map_length = omega arith
no_more HaveRoom rows map_length = omega arith

pub most_of : (limits : Limits) (map_length : ℕ) → most_rows limits map_length ≤ limits.rows
most_of limits map_length = no_more limits.lists limits.rows map_length

-- all bytes of rows that share none are few enough in their data
pub few_bytes_by : (lists : Lists) (bytes sum data_length : ℕ) → sum ≤ bytes → sum ≤ data_length → sum ≤ bytes_by lists bytes data_length
few_bytes_by MayOverlap bytes sum data_length few inside = few
few_bytes_by HaveRoom bytes sum data_length few inside = omega arith

-- in no data are they more than the limit
no_more_bytes : (lists : Lists) (bytes data_length : ℕ) → bytes_by lists bytes data_length ≤ bytes
no_more_bytes MayOverlap bytes data_length = omega arith
no_more_bytes HaveRoom bytes data_length = omega arith

pub most_bytes_of : (limits : Limits) (data_length : ℕ) → most_bytes limits data_length ≤ limits.bytes
most_bytes_of limits data_length = no_more_bytes limits.lists limits.bytes data_length
