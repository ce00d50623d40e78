-- A request takes answers from the front of a queue: those of its asks. More answers after them change nothing.
use Rattle.std.proofs.Common.{◌≡◌, ℕ, ◌-◌, Bool, true, false, cond, List, [], ◌∷◌, ◌++◌, Some, None, Option, refl, ap, sym, ◌∙◌}
use Rattle.std.specs.Prelude.{◌==◌, filter_map, is_some}
use Rattle.std.specs.List.{list_all}
use Rattle.mac_base.specs.HeadKind.{Shape}
use Rattle.mac_base.specs.ZoneMap.{ZoneMap}
use Rattle.mac_base.specs.declared.request.Request.{Request}
use Rattle.mac_base.specs.Serve.{serve}
use Rattle.mac_base.specs.Heap.{Heap, front_slot}
use Rattle.mac_base.specs.GrowZone.{Answer, Ask, Carried, carried_out}
use Rattle.mac_base.specs.ExactRequest.{Ending, prepared, unserved, served_or, after_ask, asked, request_run}

-- the answers that these asks got
abbrev pub answers_of : List Ask → List Answer
answers_of asks = filter_map (λ (ask : Ask). ask.answer) asks

-- whether each of these asks got an answer
abbrev pub all_answered : List Ask → Bool
all_answered asks = list_all (λ (ask : Ask). is_some ask.answer) asks

-- the ending with other answers left
abbrev pub with_left : List Answer → Ending → Ending
with_left left e = record e { left = left }

-- The trial at the end of the answers: it serves (or not), and there may be an ask.
module _ (s : Shape) (r : Request) (mid : Heap) (c : Carried) where
  abbrev pub last : Bool → Option (ℕ × ZoneMap) → Ending
  last none_allowed o = served_or r mid [] (unserved mid (cond none_allowed [] (asked s r None c ∷ [])) []) o

  last-takes : (b : Bool) (o : Option (ℕ × ZoneMap)) → [] ≡ answers_of (last b o).asks ++ (last b o).left
  last-takes b (Some found) = refl
  last-takes true None = refl
  last-takes false None = refl

  last-asks_none : (b : Bool) (o : Option (ℕ × ZoneMap)) → answers_of (last b o).asks ≡ []
  last-asks_none b (Some found) = refl
  last-asks_none true None = refl
  last-asks_none false None = refl

  last-left_none : (b : Bool) (o : Option (ℕ × ZoneMap)) → last b o ≡ with_left [] (last b o)
  last-left_none b (Some found) = refl
  last-left_none true None = refl
  last-left_none false None = refl

  last-served : (b : Bool) (o : Option (ℕ × ZoneMap)) → is_some (last b o).given ≡ true → all_answered (last b o).asks ≡ true
  last-served b (Some found) h = refl
  last-served true None h = absurd (cc h)
  last-served false None h = absurd (cc h)

  last-unanswered : (b : Bool) (o : Option (ℕ × ZoneMap)) → (last b o).left ≡ []
  last-unanswered b (Some found) = refl
  last-unanswered true None = refl
  last-unanswered false None = refl

  last-more : (b : Bool) (o : Option (ℕ × ZoneMap)) (more : List Answer) (other : Ending) → all_answered (last b o).asks ≡ true → served_or r mid more (cond b (unserved mid [] more) other) o ≡ with_left more (last b o)
  last-more b (Some found) more other h = refl
  last-more true None more other h = refl
  last-more false None more other h = absurd (cc h)

-- A trial before an answer: it serves, or no answer is allowed, or the answer ends the run, or the run goes on.
module _ (s : Shape) (r : Request) (mid : Heap) (c : Carried) (a : Answer) where
  abbrev pub once : Bool → Bool → Option (ℕ × ZoneMap) → List Answer → Ending → Ending
  once none_allowed worthless o later rest = served_or r mid (a ∷ later) (cond none_allowed (unserved mid [] (a ∷ later)) (cond worthless (unserved c.heap (asked s r (Some a) c ∷ []) later) (after_ask (asked s r (Some a) c) rest))) o

  once-takes : (b w : Bool) (o : Option (ℕ × ZoneMap)) (later : List Answer) (rest : Ending) → later ≡ answers_of rest.asks ++ rest.left → a ∷ later ≡ answers_of (once b w o later rest).asks ++ (once b w o later rest).left
  once-takes b w (Some found) later rest h = refl
  once-takes true w None later rest h = refl
  once-takes false true None later rest h = refl
  once-takes false false None later rest h = ap (λ xs. a ∷ xs) h

  once-served : (b w : Bool) (o : Option (ℕ × ZoneMap)) (later : List Answer) (rest : Ending) → (is_some rest.given ≡ true → all_answered rest.asks ≡ true) → is_some (once b w o later rest).given ≡ true → all_answered (once b w o later rest).asks ≡ true
  once-served b w (Some found) later rest known h = refl
  once-served true w None later rest known h = absurd (cc h)
  once-served false true None later rest known h = absurd (cc h)
  once-served false false None later rest known h = known h

  once-unanswered : (b w : Bool) (o : Option (ℕ × ZoneMap)) (later : List Answer) (rest : Ending) → (all_answered rest.asks ≡ false → rest.left ≡ []) → all_answered (once b w o later rest).asks ≡ false → (once b w o later rest).left ≡ []
  once-unanswered b w (Some found) later rest known h = absurd (cc h)
  once-unanswered true w None later rest known h = absurd (cc h)
  once-unanswered false true None later rest known h = absurd (cc h)
  once-unanswered false false None later rest known h = known h

  once-more : (b w : Bool) (o : Option (ℕ × ZoneMap)) (later more : List Answer) (rest rest_more : Ending) → (all_answered rest.asks ≡ true → rest_more ≡ with_left (rest.left ++ more) rest) → all_answered (once b w o later rest).asks ≡ true
      → once b w o (later ++ more) rest_more ≡ with_left ((once b w o later rest).left ++ more) (once b w o later rest)
  once-more b w (Some found) later more rest rest_more known h = refl
  once-more true w None later more rest rest_more known h = refl
  once-more false true None later more rest rest_more known h = refl
  once-more false false None later more rest rest_more known h = ap (after_ask (asked s r (Some a) c)) (known h)

  -- alone, with none but the answers that it takes
  once-alone : (run next : List Answer → Ending) (b w : Bool) (o : Option (ℕ × ZoneMap)) (later : List Answer) (rest : Ending) (none : Carried) → run [] ≡ last s r mid none b o
      → ((left : List Answer) → run (a ∷ left) ≡ once b w o left (next left)) → next (answers_of rest.asks) ≡ with_left [] rest → run (answers_of (once b w o later rest).asks) ≡ with_left [] (once b w o later rest)
  once-alone run next b w (Some found) later rest none first again known = first
  once-alone run next true w None later rest none first again known = first
  once-alone run next false true None later rest none first again known = again []
  once-alone run next false false None later rest none first again known = again (answers_of rest.asks) ∙ ap (after_ask (asked s r (Some a) c)) known

-- the trial that a request begins with
abbrev pub trial : Shape → Request → Heap → Option (ℕ × ZoneMap)
trial s r mid = serve s mid.table (front_slot mid) mid.map r

-- a run takes the answers of its asks
pub run-takes : (s : Shape) (protected : List ℕ) (r : Request) (allowed : ℕ) (answers : List Answer) (heap : Heap) → (let e = request_run s protected r allowed answers heap in answers ≡ answers_of e.asks ++ e.left)
run-takes s protected r allowed [] heap = let mid = prepared s protected r heap in last-takes s r mid (carried_out s protected [] mid) (allowed == 0) (trial s r mid)
run-takes s protected r allowed (a ∷ later) heap =
    let mid = prepared s protected r heap in
    let c = carried_out s protected a.calls mid in
    once-takes s r mid c a (allowed == 0) (a.value == 0) (trial s r mid) later (request_run s protected r (allowed - 1) later c.heap) (run-takes s protected r (allowed - 1) later c.heap)

-- a run that serves had an answer to each ask
pub run-answered : (s : Shape) (protected : List ℕ) (r : Request) (allowed : ℕ) (answers : List Answer) (heap : Heap) → (let e = request_run s protected r allowed answers heap in is_some e.given ≡ true → all_answered e.asks ≡ true)
run-answered s protected r allowed [] heap = let mid = prepared s protected r heap in last-served s r mid (carried_out s protected [] mid) (allowed == 0) (trial s r mid)
run-answered s protected r allowed (a ∷ later) heap =
    let mid = prepared s protected r heap in
    let c = carried_out s protected a.calls mid in
    once-served s r mid c a (allowed == 0) (a.value == 0) (trial s r mid) later (request_run s protected r (allowed - 1) later c.heap) (run-answered s protected r (allowed - 1) later c.heap)

-- where an ask had none, no answer is left
pub run-unanswered : (s : Shape) (protected : List ℕ) (r : Request) (allowed : ℕ) (answers : List Answer) (heap : Heap) → (let e = request_run s protected r allowed answers heap in all_answered e.asks ≡ false → e.left ≡ [])
run-unanswered s protected r allowed [] heap = let mid = prepared s protected r heap in λ _. last-unanswered s r mid (carried_out s protected [] mid) (allowed == 0) (trial s r mid)
run-unanswered s protected r allowed (a ∷ later) heap =
    let mid = prepared s protected r heap in
    let c = carried_out s protected a.calls mid in
    once-unanswered s r mid c a (allowed == 0) (a.value == 0) (trial s r mid) later (request_run s protected r (allowed - 1) later c.heap) (run-unanswered s protected r (allowed - 1) later c.heap)

-- where each ask had an answer, more answers after them change nothing
pub run-framed : (s : Shape) (protected : List ℕ) (r : Request) (allowed : ℕ) (answers more : List Answer) (heap : Heap)
    → (let e = request_run s protected r allowed answers heap in all_answered e.asks ≡ true → request_run s protected r allowed (answers ++ more) heap ≡ with_left (e.left ++ more) e)
run-framed s protected r allowed [] more heap = by_more more
  where
    by_more : (more : List Answer) → (let e = request_run s protected r allowed [] heap in all_answered e.asks ≡ true → request_run s protected r allowed more heap ≡ with_left (e.left ++ more) e)
    by_more [] answered = let mid = prepared s protected r heap in let c = carried_out s protected [] mid in
        last-left_none s r mid c (allowed == 0) (trial s r mid) ∙ ap (λ left. with_left (left ++ []) (last s r mid c (allowed == 0) (trial s r mid))) (ap (λ (e : Ending). e.left) (sym (last-left_none s r mid c (allowed == 0) (trial s r mid))))
    by_more (a ∷ later) answered =
        let mid = prepared s protected r heap in
        let c = carried_out s protected a.calls mid in
        let rest = request_run s protected r (allowed - 1) later c.heap in
        last-more s r mid (carried_out s protected [] mid) (allowed == 0) (trial s r mid) (a ∷ later) (cond (a.value == 0) (unserved c.heap (asked s r (Some a) c ∷ []) later) (after_ask (asked s r (Some a) c) rest)) answered
        ∙ ap (λ left. with_left (left ++ a ∷ later) (last s r mid (carried_out s protected [] mid) (allowed == 0) (trial s r mid))) (ap (λ (e : Ending). e.left) (sym (last-left_none s r mid (carried_out s protected [] mid) (allowed == 0) (trial s r mid))))
run-framed s protected r allowed (a ∷ later) more heap =
    let mid = prepared s protected r heap in
    let c = carried_out s protected a.calls mid in
    once-more s r mid c a (allowed == 0) (a.value == 0) (trial s r mid) later more (request_run s protected r (allowed - 1) later c.heap) (request_run s protected r (allowed - 1) (later ++ more) c.heap)
    (run-framed s protected r (allowed - 1) later more c.heap)

-- and the run is the same with none but the answers that it takes
pub run-alone : (s : Shape) (protected : List ℕ) (r : Request) (allowed : ℕ) (answers : List Answer) (heap : Heap) → (let e = request_run s protected r allowed answers heap in request_run s protected r allowed (answers_of e.asks) heap ≡ with_left [] e)
run-alone s protected r allowed [] heap =
    let mid = prepared s protected r heap in
    let c = carried_out s protected [] mid in
    ap (λ xs. request_run s protected r allowed xs heap) (last-asks_none s r mid c (allowed == 0) (trial s r mid)) ∙ last-left_none s r mid c (allowed == 0) (trial s r mid)
run-alone s protected r allowed (a ∷ later) heap =
    let mid = prepared s protected r heap in
    let c = carried_out s protected a.calls mid in
    once-alone s r mid c a (λ xs. request_run s protected r allowed xs heap) (λ xs. request_run s protected r (allowed - 1) xs c.heap) (allowed == 0) (a.value == 0) (trial s r mid) later (request_run s protected r (allowed - 1) later c.heap)
    (carried_out s protected [] mid) refl (λ left. refl) (run-alone s protected r (allowed - 1) later c.heap)
