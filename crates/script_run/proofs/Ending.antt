-- How the parts of a run make its end.
use Rattle.std.proofs.Common.{◌≡◌, ℕ, ◌+◌, List, [], ◌∷◌, ◌++◌, Some, take, drop, refl, sym, ap, subst, ◌∙◌, append_assoc, ◌⊎◌, inl, inr}
use Rattle.std.specs.Prelude.{slice_get}
use Rattle.std.specs.List.{concat}
use Rattle.std.proofs.lemmas.List.{append-nil, take_more, take-append-drop}
use Rattle.std.proofs.lemmas.Option.{get_or_from_slice_get, slice_get_within}
use Rattle.fork_disk.specs.declared.store.ForkStore.{Ghosts}
use Rattle.script_lang.specs.declared.line.Line.{Line}
use Rattle.script_text.specs.Script.{IsScript, IsFaultAt}
use Rattle.script_text.specs.declared.wrong.Wrong.{Wrong}
use Rattle.script_lang.specs.Text.{fault_text, no_memory_text}
use Rattle.script_run.specs.declared.end.RunEnd.{RunEnd}
use Rattle.script_run.specs.declared.end.RunEnd.TheVariants.{Finished, ScriptFault, NoMemory, WriteFault}
use Rattle.script_run.specs.declared.machine.Machine.{Machine}
use Rattle.script_run.specs.Line.{LineDoes}
use Rattle.script_run.specs.declared.moments.Moment.{Moment}
use Rattle.script_run.specs.Run.{AreRun, IsRun, Ran, IsProperFront, Ends, Makes, Tells, opening_turn, turns_at, turns_of}
use Rattle.script_run.specs.Turns.{Turn, moments_of, stores_of, turn_at}
use Rattle.script_run.specs.Starting.{IsNoScript, TellsNoScript}
use Rattle.script_run.specs.declared.reading.NoScript.{NoScript}
use Rattle.script_run.specs.declared.reading.NoScript.TheVariants as why

pub concat-push : (texts : List (List ℕ)) (text : List ℕ) → concat (texts ++ text ∷ []) ≡ concat texts ++ text
concat-push [] text = append-nil text
concat-push (t ∷ texts) text = ap (λ (rest : List ℕ). t ++ rest) (concat-push texts text) ∙ sym (append_assoc t (concat texts) text)

module _ {S : Type 0} (store : Ghosts S) where
  -- the turn of a line
  abbrev turn-of : (old : Machine S) (line : Line) (text : List ℕ) (new : Machine S) → LineDoes store old line text new → Turn S
  turn-of old line text new does = turn_at store old line.number line.statement text new does

  -- lines that were run, with these turns
  abbrev LinesSo : Machine S → List Line → List (List ℕ) → Machine S → List (Turn S) → Type 0
  LinesSo old lines texts new turns = (run : AreRun store old lines texts new) × (turns_at store old lines texts new run ≡ turns)

  abbrev pub RunSo : Machine S → List Line → List (List ℕ) → Machine S → List (Turn S) → Type 0
  RunSo start lines texts new turns = (run : IsRun store start lines texts new) × (turns_of store start lines texts new run ≡ turns)

  -- a run goes on by one line
  AreRun-push : (old : Machine S) (lines : List Line) (texts : List (List ℕ)) (mid : Machine S) (line : Line) (text : List ℕ) (new : Machine S) (run : AreRun store old lines texts mid) (one : LineDoes store mid line text new)
      → LinesSo old (lines ++ line ∷ []) (texts ++ text ∷ []) new (turns_at store old lines texts mid run ++ turn-of mid line text new one ∷ [])
  AreRun-push old [] [] mid line text new run one =
      let same : (does : LineDoes store old line text new) × (turn-of old line text new does ≡ turn-of mid line text new one) =
      subst (λ (s : Machine S). (does : LineDoes store s line text new) × (turn-of s line text new does ≡ turn-of mid line text new one)) run (one, refl) in
      ((new, same.0, refl), ap (λ (turn : Turn S). turn ∷ []) same.1)
  AreRun-push old (first ∷ lines) (t ∷ texts) mid line text new run one =
      let rest = AreRun-push run.0 lines texts mid line text new run.2 one in
      ((run.0, run.1, rest.0), ap (λ (turns : List (Turn S)). turn-of old first t run.0 run.1 ∷ turns) rest.1)
  AreRun-push old [] (t ∷ texts) mid line text new run one = absurd run
  AreRun-push old (first ∷ lines) [] mid line text new run one = absurd run

  IsRun-push : (start : Machine S) (lines : List Line) (texts : List (List ℕ)) (mid : Machine S) (line : Line) (text : List ℕ) (new : Machine S) (run : IsRun store start lines texts mid) (one : LineDoes store mid line text new)
      → RunSo start (lines ++ line ∷ []) (texts ++ text ∷ []) new (turns_of store start lines texts mid run ++ turn-of mid line text new one ∷ [])
  IsRun-push start lines [] mid line text new run one = absurd run
  IsRun-push start lines (t ∷ texts) mid line text new run one =
      let rest = AreRun-push run.0 lines texts mid line text new run.2 one in
      ((run.0, run.1, rest.0), ap (λ (turns : List (Turn S)). opening_turn run.0 (run.1.0) t ∷ turns) rest.1)

  -- one more line of the list
  pub IsRun-step : (start : Machine S) (lines : List Line) (count : ℕ) (texts : List (List ℕ)) (mid : Machine S) (line : Line) (text : List ℕ) (new : Machine S) → slice_get lines count ≡ Some line
      → (run : IsRun store start (take count lines) texts mid) (one : LineDoes store mid line text new)
      → RunSo start (take (count + 1) lines) (texts ++ text ∷ []) new (turns_of store start (take count lines) texts mid run ++ turn_at store mid line.number line.statement text new one ∷ [])
  IsRun-step start lines count texts mid line text new at run one =
      let lt = slice_get_within lines count line at in
      let is = sym (get_or_from_slice_get lines count line line at) in
      let turns = turns_of store start (take count lines) texts mid run ++ turn-of mid line text new one ∷ [] in
      subst (λ (ls : List Line). RunSo start ls (texts ++ text ∷ []) new turns)
      (ap (λ (l : Line). take count lines ++ l ∷ []) is ∙ sym (take_more lines count line lt))
      (IsRun-push start (take count lines) texts mid line text new run one)

module _ {S : Type 0} (store : Ghosts S) (start : Machine S) (input : List ℕ) where
  -- a run that came so far in a script
  abbrev pub ran_of : (lines : List Line) (count : ℕ) (texts : List (List ℕ)) (last : Machine S) → IsScript input lines → IsRun store start (take count lines) texts last → Ran store start input
  ran_of lines count texts last is run = record {
    lines = take count lines;
    rest = drop count lines;
    script = subst (λ (ls : List Line). IsScript input ls) (sym (take-append-drop count lines)) is;
    texts = texts;
    last = last;
    run = run;
  }

  -- its turns, and their moments
  abbrev pub ran_turns : Ran store start input → List (Turn S)
  ran_turns ran = turns_of store start ran.lines ran.texts ran.last ran.run

  abbrev pub ran_moments : Ran store start input → List (Moment S)
  ran_moments ran = moments_of [] start.toolbox (ran_turns ran)

module _ {S : Type 0} (store : Ghosts S) (start : Machine S) (input : List ℕ) (left : List S) where
  -- all replies were written
  pub all_told : (ran : Ran store start input) → ran.rest ≡ [] → left ≡ stores_of ran.last → Ends store start input Finished (concat ran.texts) (ran_moments store start input ran) left
  all_told ran none same = (ran.texts, ran_turns store start input ran, (ran, none, refl, refl, same), refl, refl)

  -- of the last reply a front was written
  pub reply_cut : (ran : Ran store start input) (whole : List (List ℕ)) (last front : List ℕ) → ran.texts ≡ whole ++ last ∷ [] → left ≡ stores_of ran.last → IsProperFront front last
      → Ends store start input WriteFault (concat whole ++ front) (ran_moments store start input ran) left
  reply_cut ran whole last front are same is = (WriteFault, ran.texts, ran_turns store start input ran, (ran, refl, refl, same), (whole, last, front, are, is, refl), refl)

  -- it was reported that host memory ended
  pub none_told : (replies : List (List ℕ)) (turns : List (Turn S)) (end : RunEnd) (written : List ℕ) → Makes store start input NoMemory (replies ++ no_memory_text ∷ []) turns left
      → Tells NoMemory no_memory_text end written → Ends store start input end (concat replies ++ written) (moments_of [] start.toolbox turns) left
  none_told replies turns end written makes (inl told) = subst (λ (e : RunEnd). Ends store start input e (concat replies ++ written) (moments_of [] start.toolbox turns) left) (sym told.0)
      (replies ++ no_memory_text ∷ [], turns, makes, ap (λ (t : List ℕ). concat replies ++ t) told.1 ∙ sym (concat-push replies no_memory_text), refl)
  none_told replies turns end written makes (inr cut) = subst (λ (e : RunEnd). Ends store start input e (concat replies ++ written) (moments_of [] start.toolbox turns) left) (sym cut.0)
      (NoMemory, replies ++ no_memory_text ∷ [], turns, makes, (replies, no_memory_text, written, refl, cut.1, refl), refl)

  module _ (same : left ≡ stores_of start) where
    -- before any line was run, the host had no memory
    pub none_at_start : (end : RunEnd) (written : List ℕ) → Tells NoMemory no_memory_text end written → Ends store start input end written [] left
    none_at_start end written told = none_told [] [] end written (inl (refl, refl, same)) told

    -- it was reported which line is none
    fault_told : (line : ℕ) (wrong : Wrong) (end : RunEnd) (written : List ℕ) → IsFaultAt input line → Tells (ScriptFault line wrong) (fault_text line) end written ⊎ Tells NoMemory no_memory_text end written
        → Ends store start input end written [] left
    fault_told line wrong end written is (inl (inl told)) = subst (λ (e : RunEnd). Ends store start input e written [] left) (sym told.0)
        (fault_text line ∷ [], [], (is, refl, refl, same), told.1 ∙ sym (append-nil (fault_text line)), refl)
    fault_told line wrong end written is (inl (inr cut)) = subst (λ (e : RunEnd). Ends store start input e written [] left) (sym cut.0)
        (ScriptFault line wrong, fault_text line ∷ [], [], (is, refl, refl, same), ([], fault_text line, written, refl, cut.1, refl), refl)
    fault_told line wrong end written is (inr told) = none_at_start end written told

    -- it was reported why there is no script
    pub no_script_told : (fault : NoScript) (end : RunEnd) (written : List ℕ) → IsNoScript input fault → TellsNoScript fault end written → Ends store start input end written [] left
    no_script_told (why.BadLine line wrong) end written is told = fault_told line wrong end written is told
    no_script_told why.HostFull end written is told = none_at_start end written told
    no_script_told why.ReadFault end written is told = subst (λ (e : RunEnd). Ends store start input e written [] left) (sym told.0) ([], [], (refl, refl, same), told.1, refl)
