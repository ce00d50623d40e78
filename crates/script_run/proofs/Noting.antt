-- The moments that are noted are those of the turns.
use Rattle.std.proofs.Common.{◌≡◌, ℕ, List, [], ◌∷◌, ◌++◌, map, refl, sym, ap, subst, ◌∙◌, append_assoc}
use Rattle.std.specs.List.{concat}
use Rattle.std.proofs.lemmas.List.{append-nil, map-append}
use Rattle.fork_disk.specs.declared.store.ForkStore.{Ghosts}
use Rattle.toolbox.specs.ToolState.{ToolState}
use Rattle.script_lang.specs.declared.line.Line.{Line}
use Rattle.script_lang.specs.declared.line.Statement.{Statement}
use Rattle.script_lang.specs.declared.line.Statement.TheVariants.{Call, Answer}
use Rattle.script_run.specs.declared.machine.Machine.{Machine}
use Rattle.script_run.specs.declared.moments.Moment.{Moment}
use Rattle.script_run.specs.Line.{StatementDoes}
use Rattle.script_run.specs.Run.{AreRun, IsRun, turns_at, turns_of}
use Rattle.script_run.proofs.Turning.{run-goes}
use Rattle.script_run.specs.Turns.{Noted, Turn, moment, moments_of, printed_after, stores_of, toolbox_after, turn_at, turn_left, turn_text}

module _ {S : Type 0} where
  abbrev stores-in : ToolState S → List S
  stores-in t = t.resources.stores

  -- one more turn has two moments more
  moments-more : (front : List ℕ) (old : ToolState S) (turns : List (Turn S)) (turn : Turn S) → moments_of front old (turns ++ turn ∷ [])
      ≡ moments_of front old turns ++ moment (printed_after front turns) (stores-in (toolbox_after old turns)) ∷ moment (printed_after front turns) (stores-in (turn_left turn)) ∷ []
  moments-more front old [] turn = refl
  moments-more front old (first ∷ turns) turn = ap (λ (ms : List (Moment S)). moment front (stores-in old) ∷ moment front (stores-in (turn_left first)) ∷ ms) (moments-more (front ++ turn_text first) (turn_left first) turns turn)

  module _ (before : List ℕ) where
    abbrev since : Moment S → Moment S
    since m = moment (before ++ m.written) m.stores

    -- none were noted
    pub noted-none : (old : List (Moment S)) → Noted before old [] old
    noted-none old = sym (append-nil old)

    -- those of one more turn were
    pub noted-more : (old mid new : List (Moment S)) (start : ToolState S) (turns : List (Turn S)) (turn : Turn S) (passed : List ℕ) (had left : Machine S) → Noted before old (moments_of [] start turns) mid
        → new ≡ mid ++ moment passed (stores_of had) ∷ moment passed (stores_of left) ∷ [] → passed ≡ before ++ printed_after [] turns → toolbox_after start turns ≡ had.toolbox → turn_left turn ≡ left.toolbox
        → Noted before old (moments_of [] start (turns ++ turn ∷ [])) new
    noted-more old mid new start turns turn passed had left so_far is at was now =
        let printed = printed_after [] turns in
        let two = moment printed (stores-in (toolbox_after start turns)) ∷ moment printed (stores-in (turn_left turn)) ∷ [] in
        let these : moment passed (stores_of had) ∷ moment passed (stores_of left) ∷ [] ≡ map since two =
        λ i. moment (at i) (stores-in (sym was i)) ∷ moment (at i) (stores-in (sym now i)) ∷ [] in
        is
        ∙ ap (λ (ms : List (Moment S)). mid ++ ms) these
        ∙ ap (λ (ms : List (Moment S)). ms ++ map since two) so_far
        ∙ append_assoc old (map since (moments_of [] start turns)) (map since two)
        ∙ ap (λ (ms : List (Moment S)). old ++ ms) (sym (map-append since (moments_of [] start turns) two) ∙ ap (λ (ms : List (Moment S)). map since ms) (sym (moments-more [] start turns turn)))

module _ {S : Type 0} (store : Ghosts S) where
  line-text : (old : Machine S) (number : ℕ) (statement : Statement) (text : List ℕ) (new : Machine S) (does : StatementDoes store old number statement text new) → turn_text (turn_at store old number statement text new does) ≡ text
  line-text old number (Call line) text new does = refl
  line-text old number (Answer line) text new does = refl

  lines-printed : (front : List ℕ) (old : Machine S) (lines : List Line) (texts : List (List ℕ)) (new : Machine S) (run : AreRun store old lines texts new) → printed_after front (turns_at store old lines texts new run) ≡ front ++ concat texts
  lines-printed front old [] [] new run = sym (append-nil front)
  lines-printed front old (line ∷ lines) (text ∷ texts) new run =
      ap (λ (t : List ℕ). printed_after (front ++ t) (turns_at store run.0 lines texts new run.2)) (line-text old line.number line.statement text run.0 run.1)
      ∙ lines-printed (front ++ text) run.0 lines texts new run.2 ∙ append_assoc front text (concat texts)
  lines-printed front old [] (text ∷ texts) new run = absurd run
  lines-printed front old (line ∷ lines) [] new run = absurd run

  -- what the turns of a run print
  pub run-printed : (start : Machine S) (lines : List Line) (texts : List (List ℕ)) (last : Machine S) (run : IsRun store start lines texts last) → printed_after [] (turns_of store start lines texts last run) ≡ concat texts
  run-printed start lines [] last run = absurd run
  run-printed start lines (text ∷ texts) last run = lines-printed text run.0 lines texts last run.2

module _ {S : Type 0} (store : Ghosts S) (before : List ℕ) (old : List (Moment S)) (start : Machine S) where
  -- these moments were noted, of these turns
  abbrev pub NotedTurns : List (Turn S) → List (Moment S) → Type 0
  NotedTurns turns new = Noted before old (moments_of [] start.toolbox turns) new

  -- those of the opening of file 1
  pub opening-noted : (new : List (Moment S)) (turn : Turn S) (left : Machine S) (passed : List ℕ) → new ≡ old ++ moment passed (stores_of start) ∷ moment passed (stores_of left) ∷ []
      → passed ≡ before → turn_left turn ≡ left.toolbox → NotedTurns (turn ∷ []) new
  opening-noted new turn left passed is at now = noted-more before old old new start.toolbox [] turn passed start left (noted-none before old) is (at ∙ sym (append-nil before)) refl now

  -- and those of one more turn of a run
  pub run-noted : (lines : List Line) (texts : List (List ℕ)) (last : Machine S) (run : IsRun store start lines texts last) (mid new : List (Moment S)) (turn : Turn S) (left : Machine S) (passed : List ℕ)
      → NotedTurns (turns_of store start lines texts last run) mid → new ≡ mid ++ moment passed (stores_of last) ∷ moment passed (stores_of left) ∷ [] → passed ≡ before ++ concat texts → turn_left turn ≡ left.toolbox
      → NotedTurns (turns_of store start lines texts last run ++ turn ∷ []) new
  run-noted lines texts last run mid new turn left passed so_far is at now =
      noted-more before old mid new start.toolbox (turns_of store start lines texts last run) turn passed last left so_far is
      (at ∙ ap (λ (t : List ℕ). before ++ t) (sym (run-printed store start lines texts last run))) (run-goes store start lines texts last run).1 now

  -- those of the same turns
  pub same-turns-noted : (turns these : List (Turn S)) (new : List (Moment S)) → these ≡ turns → NotedTurns turns new → NotedTurns these new
  same-turns-noted turns these new is noted = subst (λ (ts : List (Turn S)). NotedTurns ts new) (sym is) noted
