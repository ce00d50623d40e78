-- Why a path wasn't opened.
use Rattle.std.proofs.Common.{◌≡◌, Result, Ok, Err, List, ℕ, [], ◌∷◌, true, subst}
use Rattle.std.specs.Prelude.{IfErr, IfOk}
use Rattle.host_paths.specs.Asked.{Log, OnlyAsks, is_regular}
use Rattle.host_paths.specs.declared.host.Answer.TheVariants.{Is}
use Rattle.host_paths.specs.declared.host.Found.{Found}
use Rattle.host_paths.specs.declared.host.HostCall.TheVariants.{Over}
use Rattle.file_replace.specs.Opening.{Holds, HoldsAnother, IsUnopened, OpensHeld}
use Rattle.file_replace.specs.declared.held.Held.{Held}
use Rattle.file_replace.specs.declared.told.NotReplaced.{NotReplaced}
use Rattle.file_replace.specs.declared.told.NotReplaced.TheVariants as refusals

-- where one condition of a path that moved follows from another
pub unopened_since : {Moves Also : Type 0} → (Moves → Also) → (refusal : NotReplaced) (new : Log) → IsUnopened Moves refusal new → IsUnopened Also refusal new
unopened_since also (refusals.Open error) new is = is
unopened_since also refusals.NotAFile new is = is
unopened_since also refusals.InUse new is = is
unopened_since also refusals.Moved new is = also is
unopened_since also (refusals.Stopped stop) new is = is
unopened_since also (refusals.NoBackup name stop) new is = is
unopened_since also (refusals.Stream error) new is = is
unopened_since also refusals.HostFull new is = is

-- which wasn't for its having moved
pub never_moved : (Moves : Type 0) (refusal : NotReplaced) (new : Log) → IsUnopened ⊥ refusal new → IsUnopened Moves refusal new
never_moved Moves refusal new is = unopened_since (λ no. absurd no) refusal new is

-- a path that isn't held for another reason than that it is no file
pub held_refused : (path : List ℕ) (refusal : NotReplaced) (new : Log) → IsUnopened ((found : Found) × (is_regular found.kind ≡ true) × HoldsAnother path found (Over path (Is found) ∷ []) new) refusal new → OnlyAsks new → OpensHeld path (Err refusal) new
held_refused path (refusals.Open error) new is asks = (is, asks)
held_refused path refusals.NotAFile new is asks = absurd is
held_refused path refusals.InUse new is asks = (is, asks)
held_refused path refusals.Moved new is asks = (is, asks)
held_refused path (refusals.Stopped stop) new is asks = (is, asks)
held_refused path (refusals.NoBackup name stop) new is asks = (is, asks)
held_refused path (refusals.Stream error) new is asks = (is, asks)
held_refused path refusals.HostFull new is asks = (is, asks)

-- what was found at a path is a regular file, and it was to be held
pub held_found : (path : List ℕ) (found : Found) (r : Result Held NotReplaced) (old new : Log) → old ≡ Over path (Is found) ∷ [] → is_regular found.kind ≡ true → IfOk r (λ held. Holds path held found old new)
    → IfErr r (λ refusal. IsUnopened (HoldsAnother path found old new) refusal new) → OnlyAsks new → OpensHeld path r new
held_found path found (Ok held) old new noted regular holds fails asks = (found, regular, subst (λ (log : Log). Holds path held found log new) noted holds)
held_found path found (Err refusal) old new noted regular holds fails asks =
    held_refused path refusal new (unopened_since (λ another. (found, regular, subst (λ (log : Log). HoldsAnother path found log new) noted another)) refusal new fails) asks
