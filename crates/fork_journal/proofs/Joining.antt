-- A call done in part, after the other calls of its step.
use Rattle.std.proofs.Common.{◌≡◌, ℕ, ◌+◌, ◌≤◌, List, ◌++◌, length, take, drop, sym, ◌∙◌, ap, arith, length-append, length-take}
use Rattle.std.proofs.lemmas.List.{take-take, take_at, append_assoc}
use Rattle.fork_disk.specs.Disk.{put_at, Torn}

abbrev Bytes : Type 0
Bytes = List ℕ

pub gate_joins : (x y z : Bytes) → drop 1 y ≡ drop 1 x → Torn 0 1 y z → drop 1 z ≡ drop 1 x
gate_joins x y z same torn = torn.after ∙ same

-- what is before a place stays where a write begins there or after it, or where a cut does
front_stays : (n at : ℕ) (y z : Bytes) → n ≤ at → take at z ≡ take at y → take n z ≡ take n y
front_stays n at y z within same =
    sym (take-take n at z within) ∙ ap (λ (l : Bytes). take n l) same ∙ take-take n at y within

pub front_joins : (n at : ℕ) → n ≤ at → (x y z : Bytes) → take n y ≡ take n x → take at z ≡ take at y → take n z ≡ take n x
front_joins n at within x y z same then = front_stays n at y z within then ∙ same

-- bytes that were written at an offset, and what is cut after them
pub cut_after : (old bytes : Bytes) (at n : ℕ) (written cut : Bytes) → at ≤ length old → n ≡ at + length bytes → written ≡ put_at at bytes old → cut ≡ take n written → cut ≡ take at old ++ bytes
cut_after old bytes at n written cut within is holds cuts =
    let size : length (take at old ++ bytes) ≡ n = simp (length-append, length-take) (omega arith) in
    cuts ∙ ap (λ (l : Bytes). take n l) holds ∙ take_at (take at old ++ bytes) _ n size

length_of : (old bytes : Bytes) → 1 ≤ length old → length bytes ≡ 4 → length (take 1 old ++ bytes) ≡ 5
length_of old bytes some four = omega (arith, length-append (take 1 old) bytes, length-take 1 old)

pub long_enough : (old bytes new : Bytes) → 1 ≤ length old → length bytes ≡ 4 → new ≡ put_at 1 bytes old → 5 ≤ length new
long_enough old bytes new some four is =
    omega (arith, ap length is, length-append (take 1 old ++ bytes) (drop (1 + length bytes) old), length_of old bytes some four)

-- a length that was written after the gate, and a fork after that
pub text_put : (old bytes fork told : Bytes) → 1 ≤ length old → length bytes ≡ 4 → told ≡ put_at 1 bytes old → take 5 told ++ fork ≡ take 1 old ++ (bytes ++ fork)
text_put old bytes fork told some four tells =
    let front : take 5 told ≡ take 1 old ++ bytes = ap (λ (l : Bytes). take 5 l) tells ∙ take_at (take 1 old ++ bytes) _ 5 (length_of old bytes some four) in
    ap (λ (l : Bytes). l ++ fork) front ∙ append_assoc (take 1 old) bytes fork

-- bytes that were written within reach as far as they are long
pub put_reaches : (at : ℕ) (bytes old new : Bytes) → at ≤ length old → new ≡ put_at at bytes old → at + length bytes ≤ length new
put_reaches at bytes old new within is =
    omega (arith, ap length is, length-append (take at old ++ bytes) (drop (at + length bytes) old), length-append (take at old) bytes, length-take at old)
