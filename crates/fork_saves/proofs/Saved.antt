-- How a save with a good end follows from the calls that were noted.
use Rattle.std.proofs.Common.{◌≡◌, ◌⊎◌, inl, inr, ℕ, Bool, true, false, List, [], ◌∷◌, Option, Some, None, Result, Ok, Err, refl, sym, ◌∙◌, ap, subst}
use Rattle.std.specs.Path.{path_buf_bytes}
use Rattle.std.specs.Prelude.{IfOk}
use Rattle.file_replace.specs.declared.calls.HeldCall.{HeldCall}
use Rattle.file_replace.specs.declared.calls.HeldCall.TheVariants as held
use Rattle.file_replace.specs.declared.calls.Call.TheVariants as calls
use Rattle.file_replace.specs.declared.destination.Destination.{Destination}
use Rattle.file_replace.specs.declared.destination.Destination.TheVariants as destinations
use Rattle.file_replace.specs.declared.destination.OpenStream.{OpenStream}
use Rattle.file_replace.specs.declared.held.Held.{Held}
use Rattle.file_replace.specs.declared.host_place.There.{There}
use Rattle.file_replace.specs.declared.host_place.There.TheVariants as places
use Rattle.file_replace.specs.declared.place.FolderSync.{FolderSync}
use Rattle.file_replace.specs.declared.prepared.Outcome.{Outcome}
use Rattle.file_replace.specs.declared.prepared.Outcome.TheVariants.{Unchanged, Written}
use Rattle.file_replace.specs.declared.prepared.Prepared.{Prepared}
use Rattle.file_replace.specs.declared.prepared.Prepared.TheVariants as prepared
use Rattle.file_replace.specs.declared.replacement.Step.TheVariants.{SyncFolder}
use Rattle.file_replace.specs.declared.rights.Owner.{Owner}
use Rattle.file_replace.specs.declared.told.NotReplaced.{NotReplaced}
use Rattle.file_replace.specs.declared.rights.Rights.{Rights}
use Rattle.file_replace.specs.Calls.{HeldAt}
use Rattle.file_replace.specs.Held.{BacksUp, IsForStream, MakesOver, MakesPrepared, PreparesAt, PreparesHeld, PutsInTurn, PutsPrepared, PutsTwo}
use Rattle.file_replace.specs.OnPlace.{answered}
use Rattle.file_replace.specs.Place.{Answered}
use Rattle.file_replace.specs.Replacing.{after_check, prepared_calls}
use Rattle.file_acts.specs.declared.acts.Act.TheVariants as act
use Rattle.file_acts.specs.declared.message.Problem.{Problem}
use Rattle.file_acts.specs.declared.message.Problem.TheVariants as problem
use Rattle.file_acts.specs.Acts.{Log, Prints}
use Rattle.file_acts.specs.Saved.{AreGood, ArePut, IsGood, IsPut, JustRead, JustSaved, SeenIsSaved, ShowsSaved}
use Rattle.fork_saves.specs.Saving.{AreRenewed, IsOf}

-- the calls of a file that was put are those that made it, and those of its rename
put_calls : (bytes : List ℕ) (rights : Option Rights) (now : Owner) (answer : FolderSync) (made all : List Answered) → made ≡ prepared_calls rights now bytes []
    → all ≡ answered (calls.SyncFolder answer) true [] ∷ after_check SyncFolder made → IsPut bytes all
put_calls bytes rights now answer made all before is = (rights, answer, (now, is ∙ ap (λ (m : List Answered). answered (calls.SyncFolder answer) true [] ∷ after_check SyncFolder m) before))

-- what is prepared of bytes is of these
made_of : {F : Type 0} (there : HeldAt) (path : List ℕ) (has : There) (rights : Option Rights) (names : ℕ) (bytes : List ℕ) (p : Prepared F) (old new : List HeldCall)
    → MakesPrepared there path has rights names bytes (Ok p) old new → IsOf bytes p
made_of there path has rights names bytes prepared.Unchanged old new made = made
made_of there path has rights names bytes (prepared.File file) old new made = (rights, made.2.1.0.0, made.2.1.0.1.1)
made_of there path has rights names bytes (prepared.Stream stream) old new made = absurd made

for_stream : {F : Type 0} (to : OpenStream) (bytes : List ℕ) (p : Prepared F) → IsForStream to bytes p → IsOf bytes p
for_stream to bytes prepared.Unchanged is = absurd is
for_stream to bytes (prepared.File file) is = absurd is
for_stream to bytes (prepared.Stream stream) is = is.1

prepared_of : {F : Type 0} (there : HeldAt) (to : Destination) (bytes : List ℕ) (p : Prepared F) (old new : List HeldCall) → PreparesAt there to bytes (Ok p) old new → IsOf bytes p
prepared_of there (destinations.Existing it) bytes p old new made = made_of there (path_buf_bytes it.path) (places.This it.file) (Some it.rights) it.names bytes p old new made
prepared_of there (destinations.New it) bytes p old new made = made_of there (path_buf_bytes it.path) places.Nothing None 1 bytes p old new made
prepared_of there (destinations.Stream stream) bytes p old new made = for_stream stream bytes p made.0

pub prepared_if : {F : Type 0} (there : HeldAt) (to : Destination) (bytes : List ℕ) (result : Result (Prepared F) NotReplaced) (old new : List HeldCall) → PreparesAt there to bytes result old new
    → IfOk result (IsOf bytes)
prepared_if there to bytes (Ok p) old new made = prepared_of there to bytes p old new made
prepared_if there to bytes (Err why) old new made = tt

-- a file is made by good calls
made_good : {F : Type 0} (there : HeldAt) (path : List ℕ) (has : There) (rights : Option Rights) (names : ℕ) (bytes : List ℕ) (p : Prepared F) (old new : List HeldCall)
    → MakesPrepared there path has rights names bytes (Ok p) old new → AreGood old → AreGood new
made_good there path has rights names bytes prepared.Unchanged old new made good = absurd made
made_good there path has rights names bytes (prepared.File file) old new made good = subst AreGood (sym made.1) (refl, good)
made_good there path has rights names bytes (prepared.Stream stream) old new made good = absurd made

-- what is prepared of bytes, and put, is put for good
pub put_good : {F : Type 0} (there : HeldAt) (bytes : List ℕ) (p : Prepared F) (outcome : Outcome) (old new : List HeldCall) → IsOf bytes p → PutsPrepared there p (Ok outcome) old new
    → AreGood old → ArePut bytes new
put_good there bytes prepared.Unchanged outcome old new of put good = absurd of
put_good there bytes (prepared.File file) Unchanged old new of put good = absurd put
put_good there bytes (prepared.File file) (Written answer) old new of put good = subst (λ (log : List HeldCall). ArePut bytes log) (sym put.1)
    (put_calls bytes of.0 of.1 answer file.place.log.events put.0 of.2 put.2, good)
put_good there bytes (prepared.Stream stream) Unchanged old new of put good = absurd put
put_good there bytes (prepared.Stream stream) (Written answer) old new of put good = subst (λ (log : List HeldCall). ArePut bytes log) (sym put.1) ((refl, of), good)

all_good : (bytes : List ℕ) (all : List HeldCall) → ArePut bytes all → AreGood all
all_good bytes [] put = absurd put
all_good bytes (held.Asked asked ∷ past) put = absurd put.0
all_good bytes (held.OpenFolder wanted is_done ∷ past) put = absurd put.0
all_good bytes (held.Put path at ∷ past) put = ((bytes, put.0), put.1)
all_good bytes (held.Stream path is_done out ∷ past) put = (put.0.0, put.1)

in_turn : {F G : Type 0} (there also : HeldAt) (bytes others : List ℕ) (p : Prepared F) (q : Prepared G) (outcomes : Outcome × Outcome) (old new : List HeldCall) → IsOf bytes p → IsOf others q
    → PutsInTurn there also p q (Ok outcomes) old new → AreGood old → ArePut others new
in_turn there also bytes others p q outcomes old new of to put good = put_good also others q outcomes.1 put.0 new to put.2 (all_good bytes put.0 (put_good there bytes p outcomes.0 old put.0 of put.1 good))

-- two that are prepared, and put, are put for good
pub two_good : {F G : Type 0} (there also : HeldAt) (bytes others : List ℕ) (p : Prepared F) (q : Prepared G) (outcomes : Outcome × Outcome) (old new : List HeldCall) → IsOf bytes p → IsOf others q
    → PutsTwo there also p q (Ok outcomes) old new → AreGood old → ArePut others new
two_good there also bytes others prepared.Unchanged q outcomes old new of to put good = absurd of
two_good there also bytes others (prepared.File first) prepared.Unchanged outcomes old new of to put good = absurd to
two_good there also bytes others (prepared.File first) (prepared.File second) (Unchanged, other) old new of to put good = absurd put
two_good there also bytes others (prepared.File first) (prepared.File second) (Written answer, Unchanged) old new of to put good = absurd put
two_good there also bytes others (prepared.File first) (prepared.File second) (Written answer, Written other) old new of to put good =
    subst (λ (log : List HeldCall). ArePut others log) (sym put.2)
    (put_calls others to.0 to.1 other second.place.log.events put.1 to.2 put.3.1, ((bytes, put_calls bytes of.0 of.1 answer first.place.log.events put.0 of.2 put.3.0), good))
two_good {F} {G} there also bytes others (prepared.File first) (prepared.Stream second) outcomes old new of to put good = in_turn {F = F} {G = G} there also bytes others (prepared.File first) (prepared.Stream second) outcomes old new of to put good
two_good {F} {G} there also bytes others (prepared.Stream first) q outcomes old new of to put good = in_turn {F = F} {G = G} there also bytes others (prepared.Stream first) q outcomes old new of to put good

-- the backup that was put is put for good
backed_up : (there : HeldAt) (it : Held) (bytes : List ℕ) (old new : List HeldCall) → BacksUp {T = Unit} there it bytes (Ok tt) old new → AreGood old → AreGood new
backed_up there it bytes old new up good = elim up.1 [ inl shut ↦ absurd shut | inr put ↦ subst AreGood (sym put.1) ((bytes, (Some it.rights, up.0, put.2)), (refl, good)) ]

made_over : {F : Type 0} (there backup : HeldAt) (keeps : Bool) (it : Held) (before after : List ℕ) (p : Prepared F) (old new : List HeldCall) → MakesOver there backup keeps it before after (Ok p) old new
    → AreGood old → IsOf after p × AreGood new
made_over there backup false it before after p old new made good = (made_of there (path_buf_bytes it.path) (places.This it.file) (Some it.rights) it.names after p old new made, made_good there (path_buf_bytes it.path) (places.This it.file) (Some it.rights) it.names after p old new made good)
made_over there backup true it before after p old new made good = elim made [
  | inl not ↦ absurd not
  | inr both ↦ (made_of there (path_buf_bytes it.path) (places.This it.file) (Some it.rights) it.names after p both.0 new both.2, made_good there (path_buf_bytes it.path) (places.This it.file) (Some it.rights) it.names after p both.0 new both.2 (backed_up backup it before old both.0 both.1 good))
]

unchanged_put : {F : Type 0} (there : HeldAt) (p : Prepared F) (outcome : Outcome) (old new : List HeldCall) → p ≡ prepared.Unchanged → PutsPrepared there p (Ok outcome) old new → new ≡ old
unchanged_put there prepared.Unchanged Unchanged old new is put = put
unchanged_put there prepared.Unchanged (Written answer) old new is put = absurd put
unchanged_put there (prepared.File file) outcome old new is put = cc
unchanged_put there (prepared.Stream stream) outcome old new is put = cc

-- a file that is held had the new bytes already, or they were put in its place for good
pub renewed_good : {F : Type 0} (there backup : HeldAt) (keeps : Bool) (it : Held) (before after : List ℕ) (p : Prepared F) (outcome : Outcome) (none mid new : List HeldCall) → none ≡ []
    → PreparesHeld there backup keeps it before after (Ok p) none mid → PutsPrepared there p (Ok outcome) mid new → AreRenewed before after new
renewed_good there backup keeps it before after p outcome none mid new empty prepares put = elim prepares [
  | inl same ↦ inl (same.0, (unchanged_put there p outcome mid new (cc) put) ∙ (same.2 ∙ empty))
  | inr made ↦ inr (let both = made_over there backup keeps it before after p none mid made.1 (subst AreGood (sym empty) tt) in put_good there after p outcome mid new both.0 put both.1)
]

-- calls that put bytes for good are noted
pub saved_put : (bytes : List ℕ) (all : List HeldCall) (old new : Log) → new ≡ act.Saved all ∷ old → ArePut bytes all → JustSaved bytes new
saved_put bytes [] old new is put = absurd put
saved_put bytes (call ∷ before) old new is put = subst (λ (log : Log). JustSaved bytes log) (sym is) put

pub saved_two : {F G : Type 0} (there also : HeldAt) (bytes others : List ℕ) (p : Prepared F) (q : Prepared G) (outcomes : Outcome × Outcome) (none all : List HeldCall) (old new : Log) → none ≡ []
    → PutsTwo there also p q (Ok outcomes) none all → new ≡ act.Saved all ∷ old → IsOf bytes p → IsOf others q → JustSaved others new
saved_two there also bytes others p q outcomes none all old new empty put is of to =
    saved_put others all old new is (two_good there also bytes others p q outcomes none all of to put (subst AreGood (sym empty) tt))

pub saved_renewed : (before after : List ℕ) (all : List HeldCall) (old new : Log) → new ≡ act.Saved all ∷ old → JustRead before old → AreRenewed before after all → JustSaved after new
saved_renewed before after all old new is read (inl same) =
    subst (λ (log : Log). JustSaved after log) (sym (is ∙ ap (λ (none : List HeldCall). act.Saved none ∷ old) same.1)) (subst (λ (bytes : List ℕ). JustRead bytes old) same.0 read)
saved_renewed before after all old new is read (inr put) = saved_put after all old new is put

-- what is printed after a save is so
pub printed_seen : {T : Type 0} (bytes text : List ℕ) (result : Result T Problem) (old new : Log) → Prints text result old new → JustSaved bytes old → ShowsSaved old new
printed_seen bytes text (Ok done) old new is saved seen = subst SeenIsSaved (sym is) ((bytes, saved), seen)
printed_seen bytes text (Err (problem.Print error)) old new is saved seen = subst SeenIsSaved (sym is) ((bytes, saved), seen)
printed_seen bytes text (Err other) old new is saved seen = absurd is
