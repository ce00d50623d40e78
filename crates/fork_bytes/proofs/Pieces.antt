-- A fork that is read piece by piece: what its pieces say is what the fork says.
use Rattle.std.proofs.Common.{◌≡◌, ℕ, List, drop, arith}
use Rattle.byteorder.specs.Numbers.{big_from-take}
use Rattle.fork_bytes.specs.Fork.{number_at, bytes_at}

-- a number in a piece that was read for it
pub number_of_piece : (n at : ℕ) (fork : List ℕ) → number_at n 0 (bytes_at n at fork) ≡ number_at n at fork
number_of_piece n at fork = big_from-take 0 n n (drop at fork) (omega arith)
