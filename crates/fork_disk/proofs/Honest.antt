-- The premise of a real file can be met: a file that does what it answers, and answers what it holds, is honest.
use Rattle.std.proofs.Common.{◌≡◌, ℕ, zero, suc, Bool, true, false, List, [], ◌∷◌, length, take, refl, arith}
use Rattle.std.specs.Prelude.{⊤}
use Rattle.fork_disk.specs.Disk.{bytes_at, put_at, Torn, CutShort}
use Rattle.fork_disk.specs.Record.{Event, call_of, number_of, is_done, Fits, Settles, IsHonest}

-- what such a file holds after a call: a write or a cut that failed has done nothing
abbrev pub stepped : ℕ → ℕ → Bool → List ℕ → List ℕ → List ℕ
stepped zero n ok bytes old = old
stepped (suc zero) at ok bytes old = old
stepped (suc (suc zero)) at true bytes old = put_at at bytes old
stepped (suc (suc zero)) at false bytes old = old
stepped (suc (suc (suc zero))) len true bytes old = take len old
stepped (suc (suc (suc zero))) len false bytes old = old
stepped (suc (suc (suc (suc more)))) n ok bytes old = old

-- what it holds after these calls, the newest first
abbrev pub after : List ℕ → List Event → List ℕ
after start [] = start
after start (e ∷ past) = stepped (call_of e) (number_of e) (is_done e) e.1 (after start past)

-- a crash leaves what it holds
abbrev pub leaves : List ℕ → List Event → List ℕ → Type 0
leaves start calls left = left ≡ after start calls

-- what it answers: its length and its bytes
abbrev pub Tells : ℕ → ℕ → Bool → List ℕ → List ℕ → Type 0
Tells zero n ok bytes old = n ≡ length old
Tells (suc zero) at ok bytes old = bytes ≡ bytes_at (length bytes) at old
Tells (suc (suc more)) n ok bytes old = ⊤

-- what a write and a cut leave that did nothing
pub torn_not : (at n : ℕ) (old : List ℕ) → Torn at n old old
torn_not at n old = record { before = refl; after = refl; no_shorter = omega arith; no_longer = omega arith }

pub cut_not : (n : ℕ) (old : List ℕ) → CutShort n old old
cut_not n old = record { before = refl; no_shorter = omega arith; no_longer = omega arith }

fits : (kind n : ℕ) (ok : Bool) (bytes old : List ℕ) → Tells kind n ok bytes old → Fits kind n ok bytes old (stepped kind n ok bytes old)
fits zero n ok bytes old tells = (refl, λ _. tells)
fits (suc zero) at ok bytes old tells = (refl, λ _. tells)
fits (suc (suc zero)) at true bytes old tells = refl
fits (suc (suc zero)) at false bytes old tells = torn_not at (length bytes) old
fits (suc (suc (suc zero))) len true bytes old tells = refl
fits (suc (suc (suc zero))) len false bytes old tells = cut_not len old
fits (suc (suc (suc (suc more)))) n ok bytes old tells = refl

settles : (kind : ℕ) (ok : Bool) (old new : Type 0) → new → Settles kind ok old new
settles zero ok old new is = λ _. is
settles (suc zero) ok old new is = λ _. is
settles (suc (suc zero)) ok old new is = tt
settles (suc (suc (suc zero))) ok old new is = tt
settles (suc (suc (suc (suc more)))) ok old new is = (λ _. is, λ _. is)

-- before the first call it is honest, whatever it holds
pub honest_first : (start : List ℕ) → IsHonest (after start) (leaves start) []
honest_first start = tt

-- and it stays honest at each call
pub honest_next : (start : List ℕ) (e : Event) (past : List Event) → IsHonest (after start) (leaves start) past → Tells (call_of e) (number_of e) (is_done e) e.1 (after start past)
    → IsHonest (after start) (leaves start) (e ∷ past)
honest_next start e past honest tells =
    (honest, fits (call_of e) (number_of e) (is_done e) e.1 (after start past) tells, settles (call_of e) (is_done e) _ _ (λ left is. is))
