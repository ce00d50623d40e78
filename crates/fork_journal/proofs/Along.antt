-- How what a crash may leave goes on from call to call.
use Rattle.std.proofs.Common.{◌≡◌, inl, inr, ℕ, false, List, ◌∷◌, Result, Ok, Err, refl, sym, ◌∙◌, subst}
use Rattle.std.specs.Prelude.{OnOk}
use Rattle.fork_journal.specs.declared.pair.Side.{Side}
use Rattle.fork_journal.specs.declared.pair.Side.TheVariants.{Fork, Journal}
use Rattle.fork_disk.specs.Crash.{at_first, and_then}
use Rattle.fork_disk.specs.Disk.{Torn, CutShort}
use Rattle.fork_journal.specs.Crash.{Contents, Event, Wrote, Cut, Synced, Failed, History, side_of, other, has_failed, OnSide, MayLeave, Follows, AlwaysLeaves, LeftWith, Settles}

abbrev pub Bytes : Type 0
Bytes = List ℕ

-- what is so where a call succeeded gives what else is so there
pub is_ok : {T E A B : Type 0} (r : Result T E) → (A → B) → OnOk r A → OnOk r B
is_ok (Ok t) gives a = gives a
is_ok (Err e) gives a = tt

-- two steps of one side in a row
pub on_side_then : (side : Side) (R S T : Bytes → Bytes → Type 0) → ((x y z : Bytes) → R x y → S y z → T x z) → (a b c : Contents) → OnSide side R a b → OnSide side S b c → OnSide side T a c
on_side_then Fork R S T joins a b c first second = (joins a.fork b.fork c.fork first.0 second.0, second.1 ∙ first.1)
on_side_then Journal R S T joins a b c first second = (joins a.journal b.journal c.journal first.0 second.0, second.1 ∙ first.1)

pub on_side_same : (side : Side) (R : Bytes → Bytes → Type 0) → ((x : Bytes) → R x x) → (a : Contents) → OnSide side R a a
on_side_same Fork R same a = (same a.fork, refl)
on_side_same Journal R same a = (same a.journal, refl)

on_side_to : (side : Side) (R : Bytes → Bytes → Type 0) (bytes : Bytes) (a c : Contents) → OnSide side R a c → side_of side c ≡ bytes → OnSide side (λ was now. now ≡ bytes) a c
on_side_to Fork R bytes a c step is = (is, step.1)
on_side_to Journal R bytes a c step is = (is, step.1)

module _ (P : Contents → Type 0) where
  -- a crash now leaves what has P
  pub leaves_now : (old new : History) → AlwaysLeaves P old new → (c : Contents) → MayLeave new c → P c
  leaves_now old new (at_first here) = here
  leaves_now old new (and_then so_far here) = here

  pub along_same : (old mid new : History) → AlwaysLeaves P old mid → new ≡ mid → AlwaysLeaves P old new
  along_same old mid new so_far same = subst (λ (h : History). AlwaysLeaves P old h) (sym same) so_far

  pub along_event : (event : Event) (old mid new : History) → AlwaysLeaves P old mid → Follows event mid new → ((c : Contents) → MayLeave (event ∷ mid) c → P c) → AlwaysLeaves P old new
  along_event event old mid new so_far (inl is) here = along_same old (event ∷ mid) new (and_then so_far here) is
  along_event event old mid new so_far (inr same) here = along_same old mid new so_far same

  pub along_write : (side : Side) (at n : ℕ) (old mid new : History) → AlwaysLeaves P old mid → Follows (Wrote side at n) mid new
      → ((d c : Contents) → P d → OnSide side (Torn at n) d c → P c) → AlwaysLeaves P old new
  along_write side at n old mid new so_far event step =
      along_event (Wrote side at n) old mid new so_far event (λ c left. step left.0 c (leaves_now old mid so_far left.0 left.1) left.2)

  pub along_cut : (side : Side) (n : ℕ) (old mid new : History) → AlwaysLeaves P old mid → Follows (Cut side n) mid new
      → ((d c : Contents) → P d → OnSide side (CutShort n) d c → P c) → AlwaysLeaves P old new
  along_cut side n old mid new so_far event step =
      along_event (Cut side n) old mid new so_far event (λ c left. step left.0 c (leaves_now old mid so_far left.0 left.1) left.2)

  pub along_sync : (side : Side) (bytes : Bytes) (old mid new : History) → AlwaysLeaves P old mid → new ≡ Synced side bytes ∷ mid → AlwaysLeaves P old new
  along_sync side bytes old mid new so_far is =
      along_event (Synced side bytes) old mid new so_far (inl is) (λ c left. leaves_now old mid so_far c left.0)

  pub along_failed : (side : Side) (old mid new : History) → AlwaysLeaves P old mid → Follows (Failed side) mid new → AlwaysLeaves P old new
  along_failed side old mid new so_far event = along_event (Failed side) old mid new so_far event (leaves_now old mid so_far)

  -- two stretches in a row
  pub along_then : (old mid new : History) → AlwaysLeaves P old mid → AlwaysLeaves P mid new → AlwaysLeaves P old new
  along_then old mid new first (at_first here) = first
  along_then old mid new first (and_then {event} {past} so_far here) = and_then (along_then old mid past first so_far) here

pub along_weaker : (P Q : Contents → Type 0) (old new : History) → ((c : Contents) → P c → Q c) → AlwaysLeaves P old new → AlwaysLeaves Q old new
along_weaker P Q old new gives (at_first here) = at_first (λ c left. gives c (here c left))
along_weaker P Q old new gives (and_then {event} {past} so_far here) = and_then (along_weaker P Q old past gives so_far) (λ c left. gives c (here c left))

-- what a step of one side did, and that the other stayed
pub own_side : (side : Side) (R : Bytes → Bytes → Type 0) (a c : Contents) → OnSide side R a c → R (side_of side a) (side_of side c)
own_side Fork R a c step = step.0
own_side Journal R a c step = step.0

pub other_side : (side : Side) (R : Bytes → Bytes → Type 0) (a c : Contents) → OnSide side R a c → side_of (other side) c ≡ side_of (other side) a
other_side Fork R a c step = step.1
other_side Journal R a c step = step.1

-- a step of one side after others of it
pub then_step : (side : Side) (R S T : Bytes → Bytes → Type 0) → ((x y z : Bytes) → R x y → S y z → T x z) → (start mid : History) → AlwaysLeaves (LeftWith side R start) start mid
    → (c : Contents) → LeftWith side S mid c → LeftWith side T start c
then_step side R S T joins start mid first c left =
    let was = leaves_now (LeftWith side R start) start mid first left.0 left.1 in
    (was.0, was.1, on_side_then side R S T joins was.0 left.0 c was.2 left.2)

pub then_settles : (side : Side) (R : Bytes → Bytes → Type 0) (bytes put : Bytes) (start mid new : History) → bytes ≡ put → AlwaysLeaves (LeftWith side R start) start mid → Settles side bytes mid new → Settles side put start new
then_settles side R bytes put start mid new is first settles c left =
    then_step side R (λ was now. now ≡ bytes) (λ was now. now ≡ put) (λ x y z same now. now ∙ is) start mid first c (settles c left)

-- a stretch of steps of one side
module _ (side : Side) (R : Bytes → Bytes → Type 0) (start : History) where
  abbrev pub P : Contents → Type 0
  P = LeftWith side R start

  pub begins : ((x : Bytes) → R x x) → AlwaysLeaves P start start
  begins same = at_first (λ c left. (c, left, on_side_same side R same c))

  pub writes : (at n : ℕ) (mid new : History) → ((x y z : Bytes) → R x y → Torn at n y z → R x z) → AlwaysLeaves P start mid → Follows (Wrote side at n) mid new → AlwaysLeaves P start new
  writes at n mid new joins so_far event =
      along_write P side at n start mid new so_far event (λ d c was step. (was.0, was.1, on_side_then side R (Torn at n) R joins was.0 d c was.2 step))

  pub cuts : (n : ℕ) (mid new : History) → ((x y z : Bytes) → R x y → CutShort n y z → R x z) → AlwaysLeaves P start mid → Follows (Cut side n) mid new → AlwaysLeaves P start new
  cuts n mid new joins so_far event =
      along_cut P side n start mid new so_far event (λ d c was step. (was.0, was.1, on_side_then side R (CutShort n) R joins was.0 d c was.2 step))

  pub settles : (bytes was_read : Bytes) (mid new : History) → AlwaysLeaves P start mid → has_failed side mid ≡ false → new ≡ Synced side was_read ∷ mid → was_read ≡ bytes → Settles side bytes start new
  settles bytes was_read mid new so_far trusted is same c left =
      let here : MayLeave (Synced side was_read ∷ mid) c = subst (λ (h : History). MayLeave h c) is left in
      let was = leaves_now P start mid so_far c here.0 in
      (was.0, was.1, on_side_to side R bytes was.0 c was.2 (here.1 trusted ∙ same))
