-- What a crash may leave, where little happened.
use Rattle.std.proofs.Common.{◌≡◌, inl, List, sym, subst}
use Rattle.fork_disk.specs.Crash.{AlwaysFinds, Finds, FoundBeforeOr, at_first}

-- where nothing happened, what may be found is what might have been found before
pub nothing_happens : {Event Found : Type 0} (may_find : List Event → Found → Type 0) (P : Found → Type 0) (old new : List Event)
    → Finds may_find P old → new ≡ old → AlwaysFinds may_find P old new
nothing_happens may_find P old new finds same = subst (λ (h : List _). AlwaysFinds may_find P old h) (sym same) (at_first finds)

pub finds_before : {Event Found : Type 0} (may_find : List Event → Found → Type 0) (old new : List Event) → new ≡ old → AlwaysFinds may_find (may_find old) old new
finds_before may_find old new same = nothing_happens may_find (may_find old) old new (λ found may. may) same

pub finds_before_or : {Event Found : Type 0} (may_find : List Event → Found → Type 0) (this : Found) (old new : List Event) → new ≡ old
    → AlwaysFinds may_find (FoundBeforeOr may_find old this) old new
finds_before_or may_find this old new same = nothing_happens may_find (FoundBeforeOr may_find old this) old new (λ found may. inl may) same
