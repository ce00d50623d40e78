-- A crash may leave a pair in memory as it reads.
use Rattle.std.proofs.Common.{◌≡◌, ◌≤◌, ℕ, ◌+◌, nat_le, Bool, true, false, if◌then◌else◌, List, [], ◌∷◌, ◌++◌, length, take, drop, refl, sym, ◌∙◌, ap, subst, arith, length-append, length-take, length-drop}
use Rattle.std.proofs.lemmas.List.{take_at, drop_at, take-take, append_assoc}
use Rattle.std.proofs.lemmas.Bool.Decides.{nat_tests}
use Rattle.fork_journal.specs.declared.pair.Side.{Side}
use Rattle.fork_journal.specs.declared.pair.Side.TheVariants.{Fork, Journal}
use Rattle.fork_journal.specs.declared.mem_pair.Call.{Call}
use Rattle.fork_journal.specs.declared.mem_pair.Call.TheVariants as calls
use Rattle.fork_disk.proofs.Honest.{torn_not}
use Rattle.fork_disk.specs.Disk.{Torn, CutShort}
use Rattle.fork_journal.specs.Crash.{Contents, MayLeave, OnSide, side_of}
use Rattle.fork_journal.specs.Record.{with_side, Kept, after_call, after_calls, found}

-- a side that changed so, while the other stays
pub on_side : (side : Side) (R : List ℕ → List ℕ → Type 0) (bytes : List ℕ) (c : Contents) → R (side_of side c) bytes → OnSide side R c (with_side side bytes c)
on_side Fork R bytes c holds = (holds, refl)
on_side Journal R bytes c holds = (holds, refl)

-- a write that was done whole is one of the outcomes of a write
pub whole_write : (at : ℕ) (bytes old : List ℕ) → at ≤ length old → Torn at (length bytes) old (take at old ++ bytes ++ drop (at + length bytes) old)
whole_write at bytes old within =
    let front : length (take at old) ≡ at = omega (arith, length-take at old) in
    let size : length (take at old ++ bytes) ≡ at + length bytes = omega (arith, length-append (take at old) bytes, front) in
    let all : length (take at old ++ bytes ++ drop (at + length bytes) old) ≡ at + length bytes + length (drop (at + length bytes) old) = omega (arith, length-append (take at old ++ bytes) (drop (at + length bytes) old), size) in
    record {
      before = ap (λ (l : List ℕ). take at l) (append_assoc (take at old) bytes (drop (at + length bytes) old)) ∙ take_at (take at old) (bytes ++ drop (at + length bytes) old) at front;
      after = drop_at (take at old ++ bytes) (drop (at + length bytes) old) (at + length bytes) size;
      no_shorter = omega (arith, all, length-drop (at + length bytes) old);
      no_longer = omega (arith, all, length-drop (at + length bytes) old);
    }

pub write_outcome : (at : ℕ) (bytes old : List ℕ) (fits : Bool) → nat_le at (length old) ≡ fits → Torn at (length bytes) old (if fits then take at old ++ bytes ++ drop (at + length bytes) old else old)
write_outcome at bytes old true is = let within : at ≤ length old = grind (arith, nat_tests) in whole_write at bytes old within
write_outcome at bytes old false is = torn_not at (length bytes) old

pub cut_outcome : (n : ℕ) (old : List ℕ) → CutShort n old (take n old)
cut_outcome n old = record {
  before = take-take n n old (omega arith);
  no_shorter = omega (arith, length-take n old);
  no_longer = omega (arith, length-take n old);
}

call_outcome : (call : Call) (kept : Kept) → MayLeave kept.history kept.contents → MayLeave (after_call call kept).history (after_call call kept).contents
call_outcome (calls.Write side at bytes) kept now =
    (kept.contents, now, on_side side (Torn at (length bytes.items)) _ kept.contents (write_outcome at bytes.items (side_of side kept.contents) (nat_le at (length (side_of side kept.contents))) refl))
call_outcome (calls.Cut side n) kept now = (kept.contents, now, on_side side (CutShort n) _ kept.contents (cut_outcome n (side_of side kept.contents)))
call_outcome (calls.Sync side) kept now = (now, λ _. refl)

calls_outcome : (list : List Call) (kept : Kept) → MayLeave kept.history kept.contents → MayLeave (after_calls list kept).history (after_calls list kept).contents
calls_outcome [] kept now = now
calls_outcome (call ∷ later) kept now = calls_outcome later (after_call call kept) (call_outcome call kept now)

-- a pair in memory reads as its calls made it, so as a crash may leave it
pub read_outcome : (fork journal now_fork now_journal : List ℕ) (list : List Call) → now_fork ≡ (after_calls list (found fork journal)).contents.fork → now_journal ≡ (after_calls list (found fork journal)).contents.journal
    → MayLeave (after_calls list (found fork journal)).history (record { fork = now_fork; journal = now_journal })
read_outcome fork journal now_fork now_journal list fork_is journal_is =
    let kept = after_calls list (found fork journal) in
    let same : kept.contents ≡ record { fork = now_fork; journal = now_journal } = λ i. record { fork = sym fork_is i; journal = sym journal_is i } in
    subst (λ (c : Contents). MayLeave kept.history c) same (calls_outcome list (found fork journal) refl)
