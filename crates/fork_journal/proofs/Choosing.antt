-- A crash may leave what is left of each side by itself.
use Rattle.std.proofs.Common.{◌≡◌, ℕ, ◌+◌, ◌<◌, nat_le, get_or, Bool, true, false, if◌then◌else◌, List, [], ◌∷◌, length, drop, refl, sym, ◌∙◌, ap, arith, subst}
use Rattle.std.specs.Prelude.{Result, Ok, Err, IfOk}
use Rattle.std.proofs.lemmas.List.{drop_more, drop-drop, get_or-drop}
use Rattle.fork_disk.specs.Disk.{Torn, CutShort}
use Rattle.fork_journal.specs.declared.pair.Side.{Side}
use Rattle.fork_journal.specs.declared.pair.Side.TheVariants.{Fork, Journal}
use Rattle.fork_journal.specs.declared.mem_pair.Call.{Call}
use Rattle.fork_journal.specs.declared.mem_pair.Call.TheVariants as calls
use Rattle.fork_journal.specs.Crash.{Contents, Found, Wrote, Cut, Synced, Failed, History, has_failed, MayLeave, side_of}
use Rattle.fork_journal.specs.Record.{Kept, after_call, after_calls, found}
use Rattle.fork_journal.specs.declared.leaving.Choice.{Choice}
use Rattle.fork_journal.specs.Leaving.{is_on, read_then, read_after, call_by, left_by, whole, IsLeft, IsLeftOn, AreLeft}
use Rattle.fork_journal.specs.Outcome.{write_outcome, cut_outcome}
use Rattle.fork_journal.proofs.Settling.{never}

abbrev Bytes : Type 0
Bytes = List ℕ

-- what a crash may leave of one side
abbrev SideLeft : Side → History → Bytes → Type 0
SideLeft side [] bytes = ⊥
SideLeft side (Found c ∷ past) bytes = bytes ≡ side_of side c
SideLeft Fork (Wrote Fork at n ∷ past) bytes = (d : Bytes) × SideLeft Fork past d × Torn at n d bytes
SideLeft Fork (Wrote Journal at n ∷ past) bytes = SideLeft Fork past bytes
SideLeft Journal (Wrote Fork at n ∷ past) bytes = SideLeft Journal past bytes
SideLeft Journal (Wrote Journal at n ∷ past) bytes = (d : Bytes) × SideLeft Journal past d × Torn at n d bytes
SideLeft Fork (Cut Fork n ∷ past) bytes = (d : Bytes) × SideLeft Fork past d × CutShort n d bytes
SideLeft Fork (Cut Journal n ∷ past) bytes = SideLeft Fork past bytes
SideLeft Journal (Cut Fork n ∷ past) bytes = SideLeft Journal past bytes
SideLeft Journal (Cut Journal n ∷ past) bytes = (d : Bytes) × SideLeft Journal past d × CutShort n d bytes
SideLeft Fork (Synced Fork was ∷ past) bytes = SideLeft Fork past bytes × (has_failed Fork past ≡ false → bytes ≡ was)
SideLeft Fork (Synced Journal was ∷ past) bytes = SideLeft Fork past bytes
SideLeft Journal (Synced Fork was ∷ past) bytes = SideLeft Journal past bytes
SideLeft Journal (Synced Journal was ∷ past) bytes = SideLeft Journal past bytes × (has_failed Journal past ≡ false → bytes ≡ was)
SideLeft Fork (Failed failed ∷ past) bytes = SideLeft Fork past bytes
SideLeft Journal (Failed failed ∷ past) bytes = SideLeft Journal past bytes

both_left : (history : History) (fork journal : Bytes) → SideLeft Fork history fork → SideLeft Journal history journal → MayLeave history (record { fork = fork; journal = journal })
both_left [] fork journal first second = tt
both_left (Found c ∷ past) fork journal first second = λ i. record { fork = first i; journal = second i }
both_left (Wrote Fork at n ∷ past) fork journal first second = (record { fork = first.0; journal = journal }, both_left past first.0 journal first.1 second, (first.2, refl))
both_left (Wrote Journal at n ∷ past) fork journal first second = (record { fork = fork; journal = second.0 }, both_left past fork second.0 first second.1, (second.2, refl))
both_left (Cut Fork n ∷ past) fork journal first second = (record { fork = first.0; journal = journal }, both_left past first.0 journal first.1 second, (first.2, refl))
both_left (Cut Journal n ∷ past) fork journal first second = (record { fork = fork; journal = second.0 }, both_left past fork second.0 first second.1, (second.2, refl))
both_left (Synced Fork was ∷ past) fork journal first second = (both_left past fork journal first.0 second, first.1)
both_left (Synced Journal was ∷ past) fork journal first second = (both_left past fork journal first second.0, second.1)
both_left (Failed failed ∷ past) fork journal first second = both_left past fork journal first second

-- one call more
stays : (side : Side) (history : History) (old left : Bytes) → SideLeft side history old → left ≡ old → SideLeft side history left
stays side history old left before same = subst (λ (b : Bytes). SideLeft side history b) (sym same) before

-- a side as it reads is one of its outcomes
module _ (kept : Kept) (old left : Bytes) where
  step_left : (side : Side) (call : Call) → SideLeft side kept.history (side_of side kept.contents) → SideLeft side kept.history old → IsLeftOn side call (side_of side kept.contents) old left → SideLeft side (after_call call kept).history left
  step_left Fork (calls.Write Fork at bytes) reads before step = (old, before, step.own refl)
  step_left Fork (calls.Write Journal at bytes) reads before step = stays Fork kept.history old left before (step.other refl)
  step_left Fork (calls.Cut Fork n) reads before step = (old, before, step.own refl)
  step_left Fork (calls.Cut Journal n) reads before step = stays Fork kept.history old left before (step.other refl)
  step_left Fork (calls.Sync Fork) reads before step = (stays Fork kept.history kept.contents.fork left reads (step.own refl), λ _. step.own refl)
  step_left Fork (calls.Sync Journal) reads before step = stays Fork kept.history old left before (step.other refl)
  step_left Journal (calls.Write Fork at bytes) reads before step = stays Journal kept.history old left before (step.other refl)
  step_left Journal (calls.Write Journal at bytes) reads before step = (old, before, step.own refl)
  step_left Journal (calls.Cut Fork n) reads before step = stays Journal kept.history old left before (step.other refl)
  step_left Journal (calls.Cut Journal n) reads before step = (old, before, step.own refl)
  step_left Journal (calls.Sync Fork) reads before step = stays Journal kept.history old left before (step.other refl)
  step_left Journal (calls.Sync Journal) reads before step = (stays Journal kept.history kept.contents.journal left reads (step.own refl), λ _. step.own refl)

is_own : (side : Side) (call : Call) (read old left : Bytes) → is_on side call ≡ true → IsLeft call read old left → IsLeftOn side call read old left
is_own side call read old left own step = record { own = λ _. step; other = λ not. never (is_on side call) own not }

is_other : (side : Side) (call : Call) (read old : Bytes) → is_on side call ≡ false → IsLeftOn side call read old old
is_other side call read old not = record { own = λ own. never (is_on side call) own not; other = λ _. refl }

-- a call that was done whole
read_step : (side : Side) (call : Call) (kept : Kept) → IsLeftOn side call (side_of side kept.contents) (side_of side kept.contents) (side_of side (after_call call kept).contents)
read_step Fork (calls.Write Fork at bytes) kept = is_own Fork (calls.Write Fork at bytes) kept.contents.fork kept.contents.fork _ refl (write_outcome at bytes.items kept.contents.fork (nat_le at (length kept.contents.fork)) refl)
read_step Fork (calls.Write Journal at bytes) kept = is_other Fork (calls.Write Journal at bytes) kept.contents.fork kept.contents.fork refl
read_step Fork (calls.Cut Fork n) kept = is_own Fork (calls.Cut Fork n) kept.contents.fork kept.contents.fork _ refl (cut_outcome n kept.contents.fork)
read_step Fork (calls.Cut Journal n) kept = is_other Fork (calls.Cut Journal n) kept.contents.fork kept.contents.fork refl
read_step Fork (calls.Sync Fork) kept = is_own Fork (calls.Sync Fork) kept.contents.fork kept.contents.fork _ refl refl
read_step Fork (calls.Sync Journal) kept = is_other Fork (calls.Sync Journal) kept.contents.fork kept.contents.fork refl
read_step Journal (calls.Write Fork at bytes) kept = is_other Journal (calls.Write Fork at bytes) kept.contents.journal kept.contents.journal refl
read_step Journal (calls.Write Journal at bytes) kept = is_own Journal (calls.Write Journal at bytes) kept.contents.journal kept.contents.journal _ refl (write_outcome at bytes.items kept.contents.journal (nat_le at (length kept.contents.journal)) refl)
read_step Journal (calls.Cut Fork n) kept = is_other Journal (calls.Cut Fork n) kept.contents.journal kept.contents.journal refl
read_step Journal (calls.Cut Journal n) kept = is_own Journal (calls.Cut Journal n) kept.contents.journal kept.contents.journal _ refl (cut_outcome n kept.contents.journal)
read_step Journal (calls.Sync Fork) kept = is_other Journal (calls.Sync Fork) kept.contents.journal kept.contents.journal refl
read_step Journal (calls.Sync Journal) kept = is_own Journal (calls.Sync Journal) kept.contents.journal kept.contents.journal _ refl refl

read_is : (side : Side) (call : Call) (kept : Kept) → read_after side call (side_of side kept.contents) ≡ side_of side (after_call call kept).contents
read_is Fork (calls.Write Fork at bytes) kept = refl
read_is Fork (calls.Write Journal at bytes) kept = refl
read_is Fork (calls.Cut Fork n) kept = refl
read_is Fork (calls.Cut Journal n) kept = refl
read_is Fork (calls.Sync Fork) kept = refl
read_is Fork (calls.Sync Journal) kept = refl
read_is Journal (calls.Write Fork at bytes) kept = refl
read_is Journal (calls.Write Journal at bytes) kept = refl
read_is Journal (calls.Cut Fork n) kept = refl
read_is Journal (calls.Cut Journal n) kept = refl
read_is Journal (calls.Sync Fork) kept = refl
read_is Journal (calls.Sync Journal) kept = refl

calls_left : (side : Side) (list : List Call) (kept : Kept) (old left : Bytes) → SideLeft side kept.history (side_of side kept.contents) → SideLeft side kept.history old
    → AreLeft side list (side_of side kept.contents) old left → SideLeft side (after_calls list kept).history left
calls_left side [] kept old left reads before are = stays side kept.history old left before are
calls_left side (call ∷ later) kept old left reads before are =
    calls_left side later (after_call call kept) are.0 left
    (step_left kept (side_of side kept.contents) (side_of side (after_call call kept).contents) side call reads reads (read_step side call kept))
    (step_left kept old are.0 side call reads before are.1)
    (subst (λ (read : Bytes). AreLeft side later read are.0 left) (read_is side call kept) are.2)

-- what is left of both sides by themselves is what a crash may leave of the pair
pub outcome_left : (list : List Call) (first_fork first_journal fork journal : Bytes) → AreLeft Fork list first_fork first_fork fork → AreLeft Journal list first_journal first_journal journal
    → MayLeave (after_calls list (found first_fork first_journal)).history (record { fork = fork; journal = journal })
outcome_left list first_fork first_journal fork journal first second =
    let start = found first_fork first_journal in
    both_left (after_calls list start).history fork journal (calls_left Fork list start first_fork fork refl refl first) (calls_left Journal list start first_journal journal refl refl second)

-- one call of a list of calls
one_more : (side : Side) (list : List Call) (i : ℕ) (d call : Call) (read old next left : Bytes) → i < length list → call ≡ get_or list i d → IsLeftOn side call read old next
    → AreLeft side (drop (i + 1) list) (read_after side call read) next left → AreLeft side (drop i list) read old left
one_more side list i d call read old next left within is step later =
    subst (λ (l : List Call). AreLeft side l read old left) (sym (drop_more list i d within ∙ ap (λ (c : Call). c ∷ drop (i + 1) list) (sym is))) (next, step, later)

pub own_more : (side : Side) (list : List Call) (i : ℕ) (d call : Call) (read old next read_next left : Bytes) → i < length list → call ≡ get_or list i d → is_on side call ≡ true
    → read_next ≡ read_then call read → IsLeft call read old next → AreLeft side (drop (i + 1) list) read_next next left → AreLeft side (drop i list) read old left
own_more side list i d call read old next read_next left within is own reads step later =
    let reads_on : read_next ≡ read_after side call read = reads ∙ sym (ap (λ (b : Bool). if b then read_then call read else read) own) in
    one_more side list i d call read old next left within is (is_own side call read old next own step) (subst (λ (r : Bytes). AreLeft side (drop (i + 1) list) r next left) reads_on later)

pub other_more : (side : Side) (list : List Call) (i : ℕ) (d call : Call) (read old left : Bytes) → i < length list → call ≡ get_or list i d → is_on side call ≡ false
    → AreLeft side (drop (i + 1) list) read old left → AreLeft side (drop i list) read old left
other_more side list i d call read old left within is not later =
    let reads_on : read ≡ read_after side call read = sym (ap (λ (b : Bool). if b then read_then call read else read) not) in
    one_more side list i d call read old old left within is (is_other side call read old not) (subst (λ (r : Bytes). AreLeft side (drop (i + 1) list) r old left) reads_on later)

-- the same choices and bytes under other names
pub same_left : (side : Side) (list : List Call) (choices others : List Choice) (read read_too old old_too : Bytes) → choices ≡ others → read ≡ read_too → old ≡ old_too
    → left_by side list choices read old ≡ left_by side list others read_too old_too
same_left side list choices others read read_too old old_too same reads olds = λ j. left_by side list (same j) (reads j) (olds j)

-- one call of a list of calls, by its choice
one_then : (side : Side) (list : List Call) (choices : List Choice) (i : ℕ) (d call : Call) (read old read_next next : Bytes) → i < length list → call ≡ get_or list i d
    → read_next ≡ read_after side call read → next ≡ (if is_on side call then call_by call (get_or choices i whole) read old else old)
    → left_by side (drop (i + 1) list) (drop (i + 1) choices) read_next next ≡ left_by side (drop i list) (drop i choices) read old
one_then side list choices i d call read old read_next next within is reads left =
    let here : i + 0 ≡ i = omega arith in
    let first : get_or (drop i choices) 0 whole ≡ get_or choices i whole = get_or-drop i choices 0 whole ∙ ap (λ (n : ℕ). get_or choices n whole) here in
    let left_on : next ≡ (if is_on side call then call_by call (get_or (drop i choices) 0 whole) read old else old) = left ∙ ap (λ (k : Choice). if is_on side call then call_by call k read old else old) (sym first) in
    let begins : drop i list ≡ call ∷ drop (i + 1) list = drop_more list i d within ∙ ap (λ (c : Call). c ∷ drop (i + 1) list) (sym is) in
    same_left side (drop (i + 1) list) _ _ _ _ _ _ (sym (drop-drop 1 i choices)) reads left_on ∙ sym (ap (λ (l : List Call). left_by side l (drop i choices) read old) begins)

pub own_then : (side : Side) (list : List Call) (choices : List Choice) (i : ℕ) (d call : Call) (choice : Choice) (read old read_next next : Bytes) → i < length list → call ≡ get_or list i d → is_on side call ≡ true
    → choice ≡ get_or choices i whole → read_next ≡ read_then call read → next ≡ call_by call choice read old
    → left_by side (drop (i + 1) list) (drop (i + 1) choices) read_next next ≡ left_by side (drop i list) (drop i choices) read old
own_then side list choices i d call choice read old read_next next within is own chosen reads left =
    let reads_on : read_next ≡ read_after side call read = reads ∙ sym (ap (λ (b : Bool). if b then read_then call read else read) own) in
    let left_on : next ≡ (if is_on side call then call_by call (get_or choices i whole) read old else old) =
    left ∙ ap (λ (k : Choice). call_by call k read old) chosen ∙ sym (ap (λ (b : Bool). if b then call_by call (get_or choices i whole) read old else old) own) in
    one_then side list choices i d call read old read_next next within is reads_on left_on

pub other_then : (side : Side) (list : List Call) (choices : List Choice) (i : ℕ) (d call : Call) (read old : Bytes) → i < length list → call ≡ get_or list i d → is_on side call ≡ false
    → left_by side (drop (i + 1) list) (drop (i + 1) choices) read old ≡ left_by side (drop i list) (drop i choices) read old
other_then side list choices i d call read old within is not =
    let reads_on : read ≡ read_after side call read = sym (ap (λ (b : Bool). if b then read_then call read else read) not) in
    let left_on : old ≡ (if is_on side call then call_by call (get_or choices i whole) read old else old) = sym (ap (λ (b : Bool). if b then call_by call (get_or choices i whole) read old else old) not) in
    one_then side list choices i d call read old read old within is reads_on left_on

-- the same calls and bytes under other names
pub renamed : (side : Side) (list was : List Call) (first was_first left : Bytes) → was ≡ list → was_first ≡ first → AreLeft side was was_first was_first left → AreLeft side list first first left
renamed side list was first was_first left same first_same are =
    subst (λ (l : List Call). AreLeft side l first first left) same (subst (λ (b : Bytes). AreLeft side was b b left) first_same are)

-- what holds of both sides' bytes holds of a pair that was made of them
pub made_of : {T E : Type 0} (r : Result T E) (fork_of journal_of : T → Bytes) (P : Contents → Type 0) (fork journal : Bytes) → IfOk r (λ t. fork_of t ≡ fork) → IfOk r (λ t. journal_of t ≡ journal)
    → P (record { fork = fork; journal = journal }) → IfOk r (λ t. P (record { fork = fork_of t; journal = journal_of t }))
made_of (Ok t) fork_of journal_of P fork journal fork_is journal_is holds = subst P (λ i. record { fork = sym fork_is i; journal = sym journal_is i }) holds
made_of (Err e) fork_of journal_of P fork journal fork_is journal_is holds = tt
