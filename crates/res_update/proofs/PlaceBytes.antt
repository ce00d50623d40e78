-- The bytes at a place of a fork.
use Rattle.std.proofs.Common.{◌≡◌, arith, ℕ, ◌+◌, List, ◌++◌, length, drop, replicate}
use Rattle.std.proofs.lemmas.List.{length-append, length-replicate, length-drop, length-take-le, take-append-le}
use Rattle.fork_bytes.specs.Fork.{bytes_at}
use Rattle.fork_bytes.specs.declared.place.Place.{Place}
use Rattle.res_update.specs.Placed.{bytes_on, IsInside}

-- they are as many as the place says
pub length-on : (fork : List ℕ) (place : Place) → length (bytes_on fork place) ≡ place.length
length-on fork place =
    let n = place.length in let rest = drop place.offset fork in let none : List ℕ = replicate n 0 in
    let zeros : length none ≡ n = length-replicate n 0 in
    let whole : length (rest ++ none) ≡ length rest + length none = length-append rest none in
    length-take-le n (rest ++ none) (omega arith)

-- where the place lies within the fork, they are those of the fork
pub on-inside : (fork : List ℕ) (place : Place) → IsInside fork place → bytes_on fork place ≡ bytes_at place.length place.offset fork
on-inside fork place inside =
    let rest = length-drop place.offset fork in
    take-append-le place.length (drop place.offset fork) (replicate place.length 0) (omega arith)
