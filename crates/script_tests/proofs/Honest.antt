-- Files that answer what they hold are honest.
use Rattle.std.proofs.Common.{◌≡◌, ◌≤◌, ℕ, zero, suc, nat_le, Bool, true, false}
use Rattle.std.proofs.Common.{List, [], ◌∷◌, length, take, refl, arith}
use Rattle.std.proofs.lemmas.Bool.{false≢true}
use Rattle.std.proofs.lemmas.Bool.Decides.{nat_tests}
use Rattle.fork_disk.proofs.Honest.{after, honest_first, honest_next, leaves, stepped}
use Rattle.fork_disk.specs.Disk.{CutShort, Torn, put_at}
use Rattle.fork_disk.specs.Record.{Event, IsHonest, call_of, is_done, number_of}
use Rattle.fork_journal.specs.Crash.{Contents, OnSide, side_of}
use Rattle.fork_journal.specs.Files as pair
use Rattle.fork_journal.specs.Outcome.{cut_outcome, write_outcome}
use Rattle.fork_journal.specs.Record.{with_side}
use Rattle.fork_journal.specs.declared.pair.Side.{Side}
use Rattle.fork_journal.specs.declared.pair.Side.TheVariants.{Fork, Journal}
use Rattle.script_tests.specs.Honest.{AreBothTold, AreTold, TellsOf, both_after}

pub told_honest : (first : List ℕ) (calls : List Event) → AreTold first calls
    → IsHonest (after first) (leaves first) calls
told_honest first [] told = honest_first first
told_honest first (e ∷ past) told = honest_next first e past (told_honest first past told.0) told.1

on_side : (side : Side) (R : List ℕ → List ℕ → Type 0) (bytes : List ℕ) (c : Contents) → R (side_of side c) bytes
    → OnSide side R c (with_side side bytes c)
on_side Fork R bytes c holds = (holds, refl)
on_side Journal R bytes c holds = (holds, refl)

same : (side : Side) (c : Contents) → with_side side (side_of side c) c ≡ c
same Fork c = refl
same Journal c = refl

written : (at : ℕ) (bytes old : List ℕ) → at ≤ length old → Torn at (length bytes) old (put_at at bytes old)
written at bytes old within = let fits : nat_le at (length old) ≡ true = grind (arith, nat_tests) in
    write_outcome at bytes old true fits

torn_not : (at n : ℕ) (old : List ℕ) → Torn at n old old
torn_not at n old = record { before = refl; after = refl; no_shorter = omega arith; no_longer = omega arith }

cut_not : (n : ℕ) (old : List ℕ) → CutShort n old old
cut_not n old = record { before = refl; no_shorter = omega arith; no_longer = omega arith }

-- what such a file does fits its answer, while the other file stays
both_fit : (kind : ℕ) (side : Side) (n : ℕ) (ok : Bool) (bytes : List ℕ) (old : Contents)
    → TellsOf kind n ok bytes (side_of side old)
    → pair.Fits kind side n ok bytes old (with_side side (stepped kind n ok bytes (side_of side old)) old)
both_fit zero side n ok bytes old tells = (same side old, λ _. tells)
both_fit (suc zero) side at ok bytes old tells = (same side old, λ _. tells)
both_fit (suc (suc zero)) side at true bytes old tells = (
  on_side side (Torn at (length bytes)) _ old (written at bytes (side_of side old) tells),
  λ _. on_side side (λ before now. now ≡ put_at at bytes before) _ old refl,
)
both_fit (suc (suc zero)) side at false bytes old tells = (
  on_side side (Torn at (length bytes)) _ old (torn_not at (length bytes) (side_of side old)),
  λ done. absurd (false≢true done),
)
both_fit (suc (suc (suc zero))) side len true bytes old tells = (
  on_side side (CutShort len) _ old (cut_outcome len (side_of side old)),
  λ _. on_side side (λ before now. now ≡ take len before) _ old refl,
)
both_fit (suc (suc (suc zero))) side len false bytes old tells = (
  on_side side (CutShort len) _ old (cut_not len (side_of side old)),
  λ done. absurd (false≢true done),
)
both_fit (suc (suc (suc (suc more)))) side n ok bytes old tells = same side old

pub both_told_honest : (first : Contents) (calls : List Event) → AreBothTold first calls → pair.IsHonest (both_after first) calls
both_told_honest first [] told = tt
both_told_honest first (e ∷ past) told = (
  both_told_honest first past told.0,
  both_fit (call_of e) (pair.side_in e) (number_of e) (is_done e) e.1 (both_after first past) told.1,
)
