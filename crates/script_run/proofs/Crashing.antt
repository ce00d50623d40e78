-- What a start finds after a crash, by the turns of the run that it cut off.
use Rattle.std.proofs.Common.{◌≡◌, ℕ, suc, ◌≤◌, ◌⊎◌, List, [], ◌∷◌, ◌++◌, length, drop, refl, sym, ap, subst, ◌∙◌, inl, inr, ⊎_elim, append_assoc, arith, length-append}
use Rattle.std.specs.Prelude.{⊤}
use Rattle.std.proofs.lemmas.List.{append-nil}
use Rattle.fork_disk.specs.declared.store.ForkStore.{Ghosts}
use Rattle.fork_disk.specs.Crash.{AlwaysFinds, Finds, at_first, and_then}
use Rattle.res_files.specs.Crash.{history_of}
use Rattle.toolbox.specs.Headline.{Stepped}
use Rattle.toolbox.specs.Recovery.{MayFind, Settles}
use Rattle.toolbox.specs.Steps.{Gives}
use Rattle.toolbox.specs.ToolState.{IsHonest, ToolState}
use Rattle.toolbox.proofs.Headline.{was-honest}
use Rattle.toolbox.proofs.Recovery.{toolbox-recovers}
use Rattle.script_run.specs.Line.{SameForks}
use Rattle.script_run.specs.Run.{IsProperFront}
use Rattle.script_run.specs.Seen.{ComesBetween, ComesIn, Crash, GoesOn, IsFront, SavedBy, TurnSaves}
use Rattle.script_run.specs.Turns.{Made, Idle, Turn, moment, moments_of, printed_after, toolbox_after, turn_left, turn_text}

-- ---- fronts

pub front-refl : (text : List ℕ) → IsFront text text
front-refl text = ([], sym (append-nil text))

front-then : (a b c : List ℕ) → IsFront a b → IsFront b c → IsFront a c
front-then a b c one other = (one.0 ++ other.0, other.1 ∙ ap (λ (t : List ℕ). t ++ other.0) one.1 ∙ append_assoc a one.0 other.0)

front-length : (a b : List ℕ) → IsFront a b → length a ≤ length b
front-length a b is = omega (arith, length-append a is.0, ap length is.1)

front-more : (a more : List ℕ) → IsFront a (a ++ more)
front-more a more = (more, refl)

-- a front that isn't the whole is shorter
proper-length : (a b : List ℕ) → IsProperFront a b → suc (length a) ≤ length b
proper-length a b (rest, is, some) = elim rest as (λ (r : List ℕ). b ≡ a ++ r → (r ≡ [] → ⊥) → suc (length a) ≤ length b) [
  | [] ↦ λ is some. absurd (some refl)
  | byte ∷ rest ↦ λ is some. omega (arith, length-append a (byte ∷ rest), ap length is)
] is some

-- what had been written before isn't more than this
not-yet : (front now written : List ℕ) → length front ≤ length now → IsProperFront now written → IsFront written front → ⊥
not-yet front now written le proper front-of = omega (arith, proper-length now written proper, front-length written front front-of)

-- ---- histories

module _ {Event : Type 0} where
  none-since : (since past : List Event) → past ≡ since ++ past → since ≡ []
  none-since [] past is = refl
  none-since (event ∷ since) past is = absurd (omega (arith, length-append (event ∷ since) past, ap length is))

  -- a history between one and itself
  between-same : (past history : List Event) → GoesOn past history → GoesOn history past → history ≡ past
  between-same past history since until =
      let both : past ≡ (until.0 ++ since.0) ++ past = until.1 ∙ ap (λ (h : List Event). until.0 ++ h) since.1 ∙ sym (append_assoc until.0 since.0 past) in
      let none : until.0 ++ since.0 ≡ [] = none-since (until.0 ++ since.0) past both in
      let first : since.0 ≡ [] = last-none until.0 since.0 none in
      since.1 ∙ ap (λ (h : List Event). h ++ past) first
    where
      last-none : (a b : List Event) → a ++ b ≡ [] → b ≡ []
      last-none [] b is = is
      last-none (event ∷ a) b is = cc

  -- what is always found is found at any time between
  found-between : {may_find : List Event → List ℕ → Type 0} {P : List ℕ → Type 0} {old new : List Event} → AlwaysFinds may_find P old new → (history : List Event) → GoesOn old history → GoesOn history new → Finds may_find P history
  found-between {may_find} {P} {old} (at_first finds) history since until = subst (Finds may_find P) (sym (between-same old history since until)) finds
  found-between {may_find} {P} {old} (and_then {event} {past} before finds) history since (until, is) = elim until as (λ (u : List Event). event ∷ past ≡ u ++ history → Finds may_find P history) [
    | [] ↦ λ is. subst (Finds may_find P) is finds
    | last ∷ until ↦ λ is. found-between before history since (until, ap (λ (h : List Event). drop 1 h) is)
  ] is

  found-last : {may_find : List Event → List ℕ → Type 0} {P : List ℕ → Type 0} {old new : List Event} → AlwaysFinds may_find P old new → Finds may_find P new
  found-last (at_first finds) = finds
  found-last (and_then before finds) = finds

  widened : {may_find : List Event → List ℕ → Type 0} {P Q : List ℕ → Type 0} {old new : List Event} → AlwaysFinds may_find P old new → ((found : List ℕ) → P found → Q found) → AlwaysFinds may_find Q old new
  widened (at_first finds) each = at_first (λ found may. each found (finds found may))
  widened (and_then before finds) each = and_then (widened before each) (λ found may. each found (finds found may))

-- ---- turns

module _ {S : Type 0} (store : Ghosts S) where
  -- from old a turn may be so: its call is made, or each file is found as before
  abbrev pub IsTurn : ToolState S → Turn S → Type 0
  IsTurn old (Made step text) = Gives store old step.call step.asks step.outcome step.left
  IsTurn old (Idle left text) = SameForks store old.resources.stores left.resources.stores

  -- and so may these
  abbrev pub AreTurns : ToolState S → List (Turn S) → Type 0
  AreTurns old [] = ⊤
  AreTurns old (turn ∷ turns) = IsTurn old turn × AreTurns (turn_left turn) turns

  module _ (journal : store.has_journal) (number : ℕ) (low : 1 ≤ number) where
    abbrev Honest : ToolState S → Type 0
    Honest t = IsHonest store t number

    abbrev past_of : ToolState S → List store.Event
    past_of t = history_of store.history number t.resources.stores

    -- a device that is honest was so before
    honest-before : (old : ToolState S) (turn : Turn S) → IsTurn old turn → Honest (turn_left turn) → Honest old
    honest-before old (Made step text) is honest = was-honest store old step.call step.asks step.outcome step.left is number honest
    honest-before old (Idle left text) is honest = is.0 number honest

    honest-first : (old : ToolState S) (turns : List (Turn S)) → AreTurns old turns → Honest (toolbox_after old turns) → Honest old
    honest-first old [] are honest = honest
    honest-first old (turn ∷ turns) are honest = honest-before old turn are.0 (honest-first (turn_left turn) turns are.1 honest)

    -- what a start may find after a turn, or in it
    abbrev BeforeOrBy : ToolState S → Turn S → List ℕ → Type 0
    BeforeOrBy old turn found = MayFind store old number found ⊎ TurnSaves store old turn number found

    turn-finds : (old : ToolState S) (turn : Turn S) → IsTurn old turn → Honest (turn_left turn) → AlwaysFinds store.may_find (BeforeOrBy old turn) (past_of old) (past_of (turn_left turn))
    turn-finds old (Made step text) is honest =
        let recovers = toolbox-recovers store old (step ∷ []) journal (is, tt) in
        widened (recovers.any_moment [] (step ∷ []) [] number refl low honest) (λ found. ⊎_elim inl (λ saved. inr (⊎_elim (λ saves. saves) absurd saved)))
    turn-finds old (Idle left text) is honest = widened (is.3 number low honest) (λ found. ⊎_elim inl absurd)

    module _ (crash : Crash store.Event) (written : List ℕ) (found : List ℕ) (may : store.may_find crash.history found) where
      -- the crash comes after this much was written and this was done, in these turns or after them
      abbrev Comes : List ℕ → List ℕ → ToolState S → List (Turn S) → Type 0
      Comes before front old turns = ComesIn store number
          (moment before old.resources.stores ∷ (moments_of front old turns ++ moment written (toolbox_after old turns).resources.stores ∷ [])) crash

      -- while nothing happens to the stores
      found-still : (old : ToolState S) (before after : List ℕ) → ComesBetween store number (moment before old.resources.stores) (moment after old.resources.stores) crash → MayFind store old number found
      found-still old before after between = subst (λ (h : List store.Event). store.may_find h found) (between-same (past_of old) crash.history between.happened_since between.happened_until) may

      -- what it may find, and that all before it had been written
      abbrev FoundSince : List ℕ → List ℕ → ToolState S → List (Turn S) → Type 0
      FoundSince before front old turns = IsFront before crash.written × (MayFind store old number found ⊎ SavedBy store crash.written old front turns number found)

      -- whenever it comes, a start finds what it might have found before these turns, or what one of them saves
      pub found-since : (before front : List ℕ) (old : ToolState S) (turns : List (Turn S)) → AreTurns old turns → Honest (toolbox_after old turns) → IsFront before front
          → Comes before front old turns → FoundSince before front old turns
      found-since before front old [] are honest le (inl between) = (between.written_since, inl (found-still old before written between))
      found-since before front old [] are honest le (inr never) = absurd never
      found-since before front old (turn ∷ turns) are honest le (inl between) = (between.written_since, inl (found-still old before front between))
      found-since before front old (turn ∷ turns) are honest le (inr (inl between)) =
          let finds = turn-finds old turn are.0 (honest-first (turn_left turn) turns are.1 honest) in
          let here = found-between finds crash.history between.happened_since between.happened_until found may in (
            front-then before front crash.written le between.written_since,
            ⊎_elim inl (λ saves. inr (inl (between.written_since, saves))) here,
          )
      found-since before front old (turn ∷ turns) are honest le (inr (inr later)) =
          let left = turn_left turn in
          let finds = turn-finds old turn are.0 (honest-first left turns are.1 honest) in
          let rest = found-since front (front ++ turn_text turn) left turns are.1 honest (front-more front (turn_text turn)) later in (
            front-then before front crash.written le rest.0,
            ⊎_elim (λ m. ⊎_elim inl (λ saves. inr (inl (rest.0, saves))) (found-last finds found m)) (λ saved. inr (inr saved)) rest.1,
          )

      -- a text only grows
      printed-grows : (front : List ℕ) (turns : List (Turn S)) → length front ≤ length (printed_after front turns)
      printed-grows front [] = omega arith
      printed-grows front (turn ∷ turns) = omega (arith, printed-grows (front ++ turn_text turn) turns, length-append front (turn_text turn))

      -- once the call that settled the file was seen, a start finds what it settled, or what a later turn saves
      pub found-settled : (before front : List ℕ) (old : ToolState S) (first : List (Turn S)) (step : Stepped S) (text : List ℕ) (after : List (Turn S)) (fork : List ℕ)
          → AreTurns old (first ++ Made step text ∷ after) → Honest (toolbox_after old (first ++ Made step text ∷ after))
          → Settles store (toolbox_after old first) step number fork → IsProperFront (printed_after front first) crash.written → Comes before front old (first ++ Made step text ∷ after)
          → (found ≡ fork) ⊎ SavedBy store crash.written step.left (printed_after front first ++ text) after number found
      found-settled before front old [] step text after fork are honest settles some (inl between) = absurd (not-yet front front crash.written (omega arith) some between.written_until)
      found-settled before front old [] step text after fork are honest settles some (inr (inl between)) = absurd (not-yet front front crash.written (omega arith) some between.written_until)
      found-settled before front old [] step text after fork are honest settles some (inr (inr later)) =
          let left = honest-first step.left after are.1 honest in
          let recovers = toolbox-recovers store old (step ∷ []) journal (are.0, tt) in
          let now = found-last (recovers.settled [] [] [] step number fork refl low left settles) in
          let rest = found-since front (front ++ text) step.left after are.1 honest (front-more front text) later in
          ⊎_elim (λ m. ⊎_elim inl absurd (now found m)) inr rest.1
      found-settled before front old (turn ∷ first) step text after fork are honest settles some (inl between) =
          absurd (not-yet front (printed_after front (turn ∷ first)) crash.written (printed-grows front (turn ∷ first)) some between.written_until)
      found-settled before front old (turn ∷ first) step text after fork are honest settles some (inr (inl between)) =
          absurd (not-yet front (printed_after front (turn ∷ first)) crash.written (printed-grows front (turn ∷ first)) some between.written_until)
      found-settled before front old (turn ∷ first) step text after fork are honest settles some (inr (inr later)) =
          found-settled front (front ++ turn_text turn) (turn_left turn) first step text after fork are.1 honest settles some later
