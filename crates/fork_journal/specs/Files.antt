-- The calls on a pair of files with their answers, and which answers an honest pair gives.
use Rattle.std.specs.Prelude.{⊤, slice_index, IsTrue}
use Rattle.std.proofs.Common.{◌≡◌, ℕ, zero, suc, Bool, true, false, List, [], ◌∷◌, length, take, refl, sym, ap, ap₂, subst, ◌∙◌}
use Rattle.fork_disk.specs.Crash.{Finds}
use Rattle.fork_disk.specs.Disk.{bytes_at, put_at, Torn, CutShort}
use Rattle.fork_disk.specs.Record as files
use Rattle.fork_journal.specs.declared.pair.Side.{Side}
use Rattle.fork_journal.specs.declared.pair.Side.TheVariants.{Fork, Journal}
use Rattle.fork_journal.specs.Crash.{Contents, History, Wrote, Cut, Synced, Failed, MayLeave, OnSide, side_of}
use Rattle.fork_journal.specs.Recovery.{MayFind, settled_fork}

-- the side of a number, as it is noted
abbrev pub side_at : ℕ → Side
side_at zero = Fork
side_at (suc more) = Journal

-- the file of a side
abbrev pub file_on : {File : Type 0} → Side → File → File → File
file_on Fork fork journal = fork
file_on Journal fork journal = journal

abbrev pub side_in : files.Event → Side
side_in e = side_at (slice_index e.0 3)

-- The answer of a call fits a pair that held the old bytes before it and holds the new ones after it. A write or a cut
-- changes only its own range, and may have been done in part where it failed. A call that failed says nothing else.
abbrev pub Fits : ℕ → Side → ℕ → Bool → List ℕ → Contents → Contents → Type 0
Fits zero side n ok bytes old new = (new ≡ old) × (IsTrue ok → n ≡ length (side_of side old))
Fits (suc zero) side at ok bytes old new = (new ≡ old) × (IsTrue ok → bytes ≡ bytes_at (length bytes) at (side_of side old))
Fits (suc (suc zero)) side at ok bytes old new = OnSide side (Torn at (length bytes)) old new × (IsTrue ok → OnSide side (λ before now. now ≡ put_at at bytes before) old new)
Fits (suc (suc (suc zero))) side len ok bytes old new = OnSide side (CutShort len) old new × (IsTrue ok → OnSide side (λ before now. now ≡ take len before) old new)
Fits (suc (suc (suc (suc more)))) side n ok bytes old new = new ≡ old

-- the answers of these calls, the newest first, are those of a pair that held such bytes after each of them
abbrev pub IsHonest : (List files.Event → Contents) → List files.Event → Type 0
IsHonest held [] = ⊤
IsHonest held (e ∷ past) = IsHonest held past × Fits (files.call_of e) (side_in e) (files.number_of e) (files.is_done e) e.1 (held past) (held (e ∷ past))

-- what a call adds to what a crash may undo
abbrev pub happened : ℕ → Side → ℕ → Bool → List ℕ → Contents → History → History
happened zero side n ok bytes old past = past
happened (suc zero) side at ok bytes old past = past
happened (suc (suc zero)) side at ok bytes old past = Wrote side at (length bytes) ∷ past
happened (suc (suc (suc zero))) side len ok bytes old past = Cut side len ∷ past
happened (suc (suc (suc (suc more)))) side n true bytes old past = Synced side (side_of side old) ∷ past
happened (suc (suc (suc (suc more)))) side n false bytes old past = Failed side ∷ past

-- What happened to the pair since its files were opened: the disk might have anything then, and both were synced before
-- the first of these calls.
abbrev pub history_of : (List files.Event → Contents) → List files.Event → History
history_of held [] = Synced Journal (held []).journal ∷ Synced Fork (held []).fork ∷ []
history_of held (e ∷ past) = happened (files.call_of e) (side_in e) (files.number_of e) (files.is_done e) e.1 (held past) (history_of held past)

same_outcome : (history : History) (old new : Contents) → new ≡ old → MayLeave history old → MayLeave history new
same_outcome history old new same may = subst (λ (c : Contents). MayLeave history c) (sym same) may

step_outcome : (call : ℕ) (side : Side) (n : ℕ) (ok : Bool) (bytes : List ℕ) (old new : Contents) (past : History) → MayLeave past old → Fits call side n ok bytes old new
    → MayLeave (happened call side n ok bytes old past) new
step_outcome zero side n ok bytes old new past may fits = same_outcome past old new fits.0 may
step_outcome (suc zero) side at ok bytes old new past may fits = same_outcome past old new fits.0 may
step_outcome (suc (suc zero)) side at ok bytes old new past may fits = (old, may, fits.0)
step_outcome (suc (suc (suc zero))) side len ok bytes old new past may fits = (old, may, fits.0)
step_outcome (suc (suc (suc (suc more)))) side n true bytes old new past may fits = (same_outcome past old new fits may, λ _. ap (λ (c : Contents). side_of side c) fits)
step_outcome (suc (suc (suc (suc more)))) side n false bytes old new past may fits = same_outcome past old new fits may

-- an honest pair reads as a crash may leave it
pub reads_outcome : (held : List files.Event → Contents) (calls : List files.Event) → IsHonest held calls → MayLeave (history_of held calls) (held calls)
reads_outcome held [] honest = ((tt, λ _. refl), λ _. refl)
reads_outcome held (e ∷ past) honest =
    step_outcome (files.call_of e) (side_in e) (files.number_of e) (files.is_done e) e.1 (held past) (held (e ∷ past)) (history_of held past) (reads_outcome held past honest.0) honest.1

-- both files were synced, so as long as nothing was asked of the pair a start finds no other fork
pub none_other : (held : List files.Event → Contents) (log : List files.Event) → log ≡ [] → Finds MayFind (λ found. found ≡ settled_fork (held log)) (history_of held log)
none_other held log none = subst (λ (calls : List files.Event). Finds MayFind (λ found. found ≡ settled_fork (held calls)) (history_of held calls)) (sym none)
    (λ found may. may.2 ∙ ap₂ (λ (fork journal : List ℕ). settled_fork (record { fork = fork; journal = journal })) (may.1.0.1 refl) (may.1.1 refl))
