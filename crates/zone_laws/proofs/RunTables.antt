-- What a call makes of the table, by what each release of a block makes of it.
use Rattle.std.proofs.Common.{arith, ◌≡◌, ℕ, ◌-◌, Bool, true, false, cond, length, List, [], ◌∷◌, ◌++◌, Option, Some, None, Ok, Err, MatchOption, Contains, refl, ap, sym, ◌∙◌, subst, inl, inr}
use Rattle.std.specs.Prelude.{◌⊎◌, ◌==◌, MatchBool}
use Rattle.std.proofs.lemmas.List.Elements.{filter_map-append}
use Rattle.mac_base.specs.declared.error.OsErr.{OsErr}
use Rattle.mac_base.specs.declared.error.OsErr.TheVariants.{MemFullErr}
use Rattle.mac_base.specs.declared.releasing.ReleasingCall.{ReleasingCall}
use Rattle.mac_base.specs.declared.request.Request.{Request}
use Rattle.mac_base.specs.declared.request.Request.TheVariants.{NewMaster}
use Rattle.mac_base.specs.HandleTable.{HandleTable, is_lent}
use Rattle.mac_base.specs.HeadKind.{Shape}
use Rattle.mac_base.specs.Heap.{Heap, grown, table_granted, with_all_emptied, with_emptied}
use Rattle.mac_base.specs.Releasing.{heap_released, operand_of}
use Rattle.mac_base.specs.Request.{blocks_to_purge, is_among}
use Rattle.mac_base.specs.Trial.{Fails, MayPrepare, NumberGiven, Preparation, prepared_by}
use Rattle.mac_base.specs.declared.memory_call.MemoryCall.{MemoryCall}
use Rattle.mac_base.specs.declared.reply.Results.{Results}
use Rattle.mac_base.specs.Effect.{table_copied}
use Rattle.mac_base.specs.GrowZone.{Answer, Ask, Carried, answers_in, carried_from, carried_once, carried_out, heap_unless, memory_call, most_answers}
use Rattle.mac_base.specs.MemoryStep.{AfterMaster, EndsRequest, MemoryStep, OwnRequest, RequestStep}
use Rattle.mac_base.specs.Outcomes.{Outcome, given_results}
use Rattle.mac_base.specs.RequestRun.{EndsUnserved, RequestRun}
use Rattle.mac_base.specs.Tests.{protected_by, refusal}
use Rattle.zone_laws.proofs.SlotPlaces.{Contains-here, Contains-later}
use Rattle.zone_laws.proofs.Emptied.{MayEmpty, candidate-is, may-still}

-- A relation of a table to a later one: to itself, over two changes, where a handle is purged that isn't protected,
-- and, if there are answers, where one of their calls releases a block.
pub record Releases (protected : List ℕ) (answers : Type 0) (R : HandleTable → HandleTable → Type 0) : Type 0 where
  pub same : (t : HandleTable) → R t t
  pub next : (a b c : HandleTable) → R a b → R b c → R a c
  pub emptied : (heap : Heap) (h : ℕ) → is_among protected h ≡ false → MayEmpty heap.table h → R heap.table (with_emptied heap h).table
  pub released : answers → (call : ReleasingCall) (heap : Heap) → is_among protected (operand_of call) ≡ false → is_lent heap.table (operand_of call) ≡ false → R heap.table (heap_released call heap).table

-- the table that a run leaves: one that R relates to that before it, in which the request was served, if it was
pub record Ran (R : HandleTable → HandleTable → Type 0) (r : Request) (given : Option ℕ) (old new : HandleTable) : Type 0 where
  pub before : HandleTable
  pub related : R old before
  pub served : MatchOption given (new ≡ before) (λ x. NumberGiven r x before × (new ≡ table_granted r x before))

-- and the table that a call leaves that makes a request
pub record Asked (R : HandleTable → HandleTable → Type 0) (call : MemoryCall) (r : Request) (old new : HandleTable) (outcome : Outcome) : Type 0 where
  pub before : HandleTable
  pub related : R old before
  pub ended : ((outcome ≡ Err MemFullErr) × (new ≡ before)) ⊎ ((x : ℕ) × (outcome ≡ Ok (given_results call x)) × NumberGiven r x before × (new ≡ table_copied call x old (table_granted r x before)))

-- either nothing is answered, or there are answers
abbrev pub Answered : Type 0 → List Ask → Type 0
Answered answers asks = (answers_in asks ≡ []) ⊎ answers

first_answered : (answers : Type 0) (ask : Ask) (asks : List Ask) → Answered answers (ask ∷ asks) → (a : Answer) → ask.answer ≡ Some a → answers
first_answered answers ask asks (inr may) a is = may
first_answered answers ask asks (inl none) a is = absurd (cc (subst (λ o. answers_in (record ask { answer = o } ∷ asks) ≡ []) is none))

both_none : (one other : List Answer) → one ++ other ≡ [] → (one ≡ []) × (other ≡ [])
both_none [] other none = (refl, none)
both_none (a ∷ one) other none = absurd (cc none)

both_answered : (answers : Type 0) (asks one other : List Ask) → asks ≡ one ++ other → Answered answers asks → Answered answers one × Answered answers other
both_answered answers asks one other is (inr may) = (inr may, inr may)
both_answered answers asks one other is (inl none) =
    let nones = both_none (answers_in one) (answers_in other) (sym (filter_map-append (λ (a : Ask). a.answer) one other) ∙ sym (ap answers_in is) ∙ none) in
    (inl nones.0, inl nones.1)

-- an answer's call that isn't refused is on no lent block
released-here : (s : Shape) (heap : Heap) (call : ReleasingCall) → refusal s heap (memory_call call) ≡ None → is_lent heap.table (operand_of call) ≡ false
released-here s heap v2 is = grind arith

pub table-grown : (s : Shape) (b : Bool) (heap : Heap) → (cond b (grown s heap) heap).table ≡ heap.table
table-grown s true heap = refl
table-grown s false heap = refl

by_value : (b : Bool) (A B C : Type 0) → (A → C) → (B → C) → MatchBool b A B → C
by_value true A B C one other run = one run
by_value false A B C one other run = other run

module _ (s : Shape) (protected : List ℕ) (answers : Type 0) (R : HandleTable → HandleTable → Type 0) (rel : Releases protected answers R) where
  -- handles are purged
  pub purged-related : (hs : List ℕ) (heap : Heap) → ((h : ℕ) → Contains hs h → MayEmpty heap.table h × (is_among protected h ≡ false)) → R heap.table (with_all_emptied hs heap).table
  purged-related [] heap may = rel.same heap.table
  purged-related (h ∷ hs) heap may =
      let first = may h (Contains-here h hs) in
      let mid = with_emptied heap h in
      rel.next heap.table mid.table (with_all_emptied hs mid).table (rel.emptied heap h first.1 first.0)
      (purged-related hs mid (λ y c. (let later = may y (Contains-later h hs y c) in (may-still heap.table h y first.0 later.0, later.1))))

  -- a trial prepares the heap, and may fail
  pub prepared-related : (r : Request) (heap : Heap) (p : Preparation) → MayPrepare s protected r heap p → R heap.table (prepared_by s p heap).table
  prepared-related r heap p may =
      let mid : Heap = cond p.grows (grown s heap) heap in
      let same : mid.table ≡ heap.table = table-grown s p.grows heap in
      subst (λ t. R t (with_all_emptied p.purges mid).table) same (purged-related p.purges mid (λ h c.
      (let k = candidate-is heap.table protected (blocks_to_purge heap.table r heap.map) h (may.purges_candidates h c) in (subst (λ t. MayEmpty t h) (sym same) k.may, k.unprotected))))

  pub failed-related : (r : Request) (old new : Heap) → Fails s protected r old new → R old.table new.table
  failed-related r old new fails = subst (λ t. R old.table t) (sym fails.2.table) (prepared-related r old fails.0 fails.1)

  -- an answer's calls are carried out
  unless-related : answers → (call : ReleasingCall) (heap : Heap) (o : Option OsErr) → is_among protected (operand_of call) ≡ false → refusal s heap (memory_call call) ≡ o → R heap.table (heap_unless o (heap_released call heap) heap).table
  unless-related may call heap None other is = rel.released may call heap other (released-here s heap call is)
  unless-related may call heap (Some code) other is = rel.same heap.table

  once-related : answers → (call : ReleasingCall) (c : Carried) → R c.heap.table (carried_once s protected call c).heap.table
  once-related may call c =
      let code : Option OsErr = refusal s c.heap (memory_call call) in
      let done : Carried = record { heap = heap_unless code (heap_released call c.heap) c.heap; calls = c.calls ++ (call, code) ∷ [] } in
      elim (is_among protected (operand_of call)) as (λ b. is_among protected (operand_of call) ≡ b → R c.heap.table (cond b c done).heap.table) [
        | true ↦ λ _. rel.same c.heap.table
        | false ↦ λ other. unless-related may call c.heap code other refl
      ] refl

  pub carried-related : answers → (calls : List ReleasingCall) (c : Carried) → R c.heap.table (carried_from s protected calls c).heap.table
  carried-related may [] c = rel.same c.heap.table
  carried-related may (call ∷ calls) c =
      let then = carried_once s protected call c in
      rel.next c.heap.table then.heap.table (carried_from s protected calls then).heap.table (once-related may call c) (carried-related may calls then)

  -- a run after another change, and one that ends here
  ran-after : (r : Request) (given : Option ℕ) (a b c : HandleTable) → R a b → Ran R r given b c → Ran R r given a c
  ran-after r given a b c one ran = record { before = ran.before; related = rel.next a b ran.before one ran.related; served = ran.served }

  unserved-ran : (r : Request) (heap : Heap) (asks : List Ask) (given : Option ℕ) (new : Heap) → EndsUnserved heap asks given new → Ran R r given heap.table new.table
  unserved-ran r heap asks None new ends = record { before = heap.table; related = rel.same heap.table; served = ends.2.table }
  unserved-ran r heap asks (Some x) new ends = absurd (cc ends.1)

  answered-ran : (r : Request) (allowed : ℕ) (mid : Heap) (carried : List (ReleasingCall × Option OsErr)) (asks : List Ask) (given : Option ℕ) (new : Heap)
      → (answers → (heap : Heap) → RequestRun s protected r allowed heap asks given new → Ran R r given heap.table new.table) → (o : Option Answer) → ((a : Answer) → o ≡ Some a → answers)
      → MatchOption o ((carried ≡ []) × EndsUnserved mid asks given new) (λ a.
      (carried ≡ (carried_out s protected a.calls mid).calls) × MatchBool (a.value == 0) (EndsUnserved (carried_out s protected a.calls mid).heap asks given new) (RequestRun s protected r allowed (carried_out s protected a.calls mid).heap asks given new))
      → Ran R r given mid.table new.table
  answered-ran r allowed mid carried asks given new later None may run = unserved-ran r mid asks given new run.1
  answered-ran r allowed mid carried asks given new later (Some a) may run =
      let some = may a refl in
      let c : Carried = carried_out s protected a.calls mid in
      ran-after r given mid.table c.heap.table new.table (carried-related some a.calls (record { heap = mid; calls = [] }))
      (by_value (a.value == 0) (EndsUnserved c.heap asks given new) (RequestRun s protected r allowed c.heap asks given new) (Ran R r given c.heap.table new.table) (λ ends. unserved-ran r c.heap asks given new ends) (λ more. later some c.heap more) run.1)

  -- what a request's run leaves
  pub run-ran : (r : Request) (allowed : ℕ) (old : Heap) (asks : List Ask) (given : Option ℕ) (new : Heap) → Answered answers asks → RequestRun s protected r allowed old asks given new → Ran R r given old.table new.table
  run-ran r allowed old [] (Some x) new may run = record { before = (prepared_by s run.0 old).table; related = prepared-related r old run.0 run.1; served = (run.2.number, run.2.table) }
  run-ran r allowed old [] None new may run = record { before = new.table; related = failed-related r old new run.1; served = refl }
  run-ran r allowed old (ask ∷ asks) given new may run =
      ran-after r given old.table run.2.table new.table (failed-related r old run.2 run.3)
      (answered-ran r (allowed - 1) run.2 ask.carried asks given new (λ some heap. run-ran r (allowed - 1) heap asks given new (inr some)) ask.answer (first_answered answers ask asks may) run.4)

-- a call with an outcome of its own isn't refused
pub passed-ok : (s : Shape) (old : Heap) (call : MemoryCall) (asks : List Ask) (res : Results) (new : Heap) → MemoryStep s old call asks (Ok res) new → refusal s old call ≡ None
passed-ok s old call asks res new step = grind arith

module _ (s : Shape) (call : MemoryCall) (answers : Type 0) (R : HandleTable → HandleTable → Type 0) (rel : Releases (protected_by call) answers R) where
  -- the call's own request, and the one for a master block before it
  ended : (r : Request) (entry : HandleTable) (from mid : Heap) (given : Option ℕ) (outcome : Outcome) (new : Heap) → R entry from.table → Ran R r given from.table mid.table → EndsRequest call entry given mid outcome new
      → Asked R call r entry new.table outcome
  ended r entry from mid None outcome new first ran e = record { before = ran.before; related = rel.next entry from.table ran.before first ran.related; ended = inl (e.0, e.1.table ∙ ran.served) }
  ended r entry from mid (Some x) outcome new first ran e =
      record { before = ran.before; related = rel.next entry from.table ran.before first ran.related; ended = inr (x, e.0, ran.served.0, e.1 ∙ ap (table_copied call x entry) ran.served.1) }

  own : (r : Request) (entry : HandleTable) (allowed : ℕ) (from : Heap) (asks : List Ask) (outcome : Outcome) (new : Heap) → Answered answers asks → R entry from.table → OwnRequest RequestRun s call entry r allowed from asks outcome new → Asked R call r entry new.table outcome
  own r entry allowed from asks outcome new may first step = ended r entry from step.1 step.0 outcome new first (run-ran s (protected_by call) answers R rel r allowed from asks step.0 step.1 may step.2) step.3

  master-related : (given : Option ℕ) (old new : HandleTable) → Ran R NewMaster given old new → R old new
  master-related None old new ran = subst (R old) (sym ran.served) ran.related
  master-related (Some x) old new ran = subst (R old) (sym ran.served.1) ran.related

  after : (r : Request) (entry : HandleTable) (allowed : ℕ) (given : Option ℕ) (from : Heap) (asks : List Ask) (outcome : Outcome) (new : Heap) → Answered answers asks → R entry from.table → AfterMaster RequestRun s call entry r allowed given from asks outcome new
      → Asked R call r entry new.table outcome
  after r entry allowed (Some x) from asks outcome new may first step = own r entry allowed from asks outcome new may first step
  after r entry allowed None from asks outcome new may first step = record { before = from.table; related = first; ended = inl (step.1, step.2.table) }

  -- what a call leaves that makes a request
  pub request-asked : (b : Bool) (old : Heap) (r : Request) (asks : List Ask) (outcome : Outcome) (new : Heap) → Answered answers asks → RequestStep RequestRun b s old call r asks outcome new → Asked R call r old.table new.table outcome
  request-asked false old r asks outcome new may step = own r old.table most_answers old asks outcome new may (rel.same old.table) step
  request-asked true old r asks outcome new may both =
      let mays = both_answered answers asks both.0 both.1 both.4 may in
      after r old.table (most_answers - length both.0) both.2 both.3 both.1 outcome new mays.1 (master-related both.2 old.table both.3.table (run-ran s (protected_by call) answers R rel NewMaster most_answers old both.0 both.2 both.3 mays.0 both.5)) both.6
