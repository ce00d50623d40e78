-- What a call does exactly is something that it may do, and leaves a sound heap.
use Rattle.std.proofs.Common.{◌≡◌, ℕ, ◌-◌, ◌<◌, Bool, true, false, List, [], ◌∷◌, ◌++◌, ◌∙◌, length, Some, None, Option, MatchOption, Contains, refl, ap, sym, subst, inl, inr, arith}
use Rattle.std.specs.Prelude.{◌&&◌, ⊤}
use Rattle.std.specs.List.{list_all}
use Rattle.std.proofs.lemmas.Bool.{true_from_ne_false, and_parts, false_from_ne_true, and_from}
use Rattle.mac_base.specs.declared.error.OsErr.{OsErr}
use Rattle.mac_base.specs.HeadKind.{Shape}
use Rattle.mac_base.specs.declared.request.Request.{Request}
use Rattle.mac_base.specs.declared.request.Request.TheVariants.{NewBlock, NewEmpty, NewPointer, NewMaster, Reserve, Resize, Replace}
use Rattle.mac_base.specs.HandleTable.{is_handle}
use Rattle.mac_base.specs.Suits.{slots}
use Rattle.mac_base.specs.Request.{makes_handle}
use Rattle.mac_base.specs.Heap.{Heap, every_slot_live, has_none}
use Rattle.mac_base.specs.Sound.{Sound}
use Rattle.mac_base.specs.declared.memory_call.MemoryCall.{MemoryCall}
use Rattle.mac_base.specs.Tests.{refusal, protected_by}
use Rattle.mac_base.specs.GrowZone.{Answer, Ask, most_answers}
use Rattle.mac_base.specs.Effect.{request_of}
use Rattle.mac_base.specs.ExactRequest.{Ending, request_run}
use Rattle.mac_base.specs.ExactStep.{StepEnd, request_end, after_master, request_step, step_asking, step_unless, exact_step}
use Rattle.mac_base.specs.RequestRun.{RequestRun}
use Rattle.mac_base.specs.MemoryStep.{MemoryStep, OwnRequest, AfterMaster, RequestStep, StepAsking, StepUnless}
use Rattle.zone_laws.proofs.SlotPlaces.{Contains-cons_cases, Contains-none, Contains-here, Contains-later}
use Rattle.zone_laws.proofs.SoundPlaced.{front_slot-free}
use Rattle.zone_laws.proofs.SoundServed.{MayServe}
use Rattle.zone_laws.proofs.RunPermitted.{Gives, RunFacts, run-facts}
use Rattle.zone_laws.proofs.StepQuiet.{quiet-facts}
use Rattle.zone_laws.proofs.StepRequests.{AsksSoundly, HasOperand, asks-soundly}
use Rattle.zone_laws.proofs.Steps.{same_heap}

-- what holds of each element
list_all-from_contains : (p : ℕ → Bool) (xs : List ℕ) → ((x : ℕ) → Contains xs x → p x ≡ true) → list_all p xs ≡ true
list_all-from_contains p [] h = refl
list_all-from_contains p (x ∷ xs) h = and_from (p x) _ (h x (Contains-here x xs)) (list_all-from_contains p xs (λ y c. h y (Contains-later x xs y c)))

contains-from_list_all : (p : ℕ → Bool) (xs : List ℕ) → list_all p xs ≡ true → (x : ℕ) → Contains xs x → p x ≡ true
contains-from_list_all p [] h x c = absurd (Contains-none x c)
contains-from_list_all p (y ∷ ys) h x c =
    let hs = and_parts (p y) (list_all p ys) h in
    elim (Contains-cons_cases y ys x c) [ inl same ↦ ap p (sym same) ∙ hs.0 | inr later ↦ contains-from_list_all p ys hs.1 x later ]

-- every slot is live just where no slot is free
pub every_slot_live-is : (s : Shape) (heap : Heap) → Sound s heap → every_slot_live s heap ≡ has_none heap.free_slots
every_slot_live-is s heap sound = by_slots heap.free_slots refl
  where
    by_slots : (xs : List ℕ) → heap.free_slots ≡ xs → every_slot_live s heap ≡ has_none xs
    by_slots [] is = list_all-from_contains (is_handle heap.table) (slots s heap.map) (λ x slot.
        true_from_ne_false (is_handle heap.table x) (λ dead. Contains-none x (subst (λ xs. Contains xs x) is ((sound.slots.free x).1 (slot, dead)))))
    by_slots (x ∷ xs) is =
        let slot = front_slot-free s heap x xs sound is in
        false_from_ne_true (every_slot_live s heap) (λ all. cc (contains-from_list_all (is_handle heap.table) (slots s heap.map) all x slot.slot, slot.no_handle))

-- a call that makes a handle, or has its operand, may be served where a slot is free
pub may_serve-from : (heap : Heap) (r : Request) → HasOperand heap r → (makes_handle r ≡ true → 0 < length heap.free_slots) → MayServe heap r
may_serve-from heap (NewBlock n) operand slot = slot refl
may_serve-from heap NewEmpty operand slot = slot refl
may_serve-from heap (NewPointer n) operand slot = tt
may_serve-from heap NewMaster operand slot = tt
may_serve-from heap (Reserve n) operand slot = tt
may_serve-from heap (Resize y n) operand slot = operand
may_serve-from heap (Replace h n) operand slot = operand

-- a new handle needs no operand
pub operand-handle : (heap : Heap) (r : Request) → makes_handle r ≡ true → HasOperand heap r
operand-handle heap (NewBlock n) makes = tt
operand-handle heap NewEmpty makes = tt
operand-handle heap (NewPointer n) makes = absurd (cc makes)
operand-handle heap NewMaster makes = absurd (cc makes)
operand-handle heap (Reserve n) makes = absurd (cc makes)
operand-handle heap (Resize y n) makes = absurd (cc makes)
operand-handle heap (Replace h n) makes = absurd (cc makes)

-- a slot is free where no master block is needed for a new handle
pub slot-free : (makes : Bool) (xs : List ℕ) → (makes && has_none xs) ≡ false → makes ≡ true → 0 < length xs
slot-free v0 v1 h makes = grind arith

-- a master block is needed only where a handle is made
pub makes-first : (a b : Bool) → (a && b) ≡ true → a ≡ true
makes-first true b h = refl
makes-first false b h = absurd (cc h)

-- what is known of an exact step, by what it may be
record StepFacts (s : Shape) (may : StepEnd → Type 0) (e : StepEnd) : Type 0 where
  pub permitted : may e
  pub sound : Sound s e.heap

module _ (s : Shape) (answers : List Answer) (heap : Heap) (call : MemoryCall) where
  -- the call's own request, which ended so
  own-facts : (r : Request) (allowed : ℕ) (before : Heap) (first : List Ask) (e : Ending) → AsksSoundly s heap call r → RunFacts s (protected_by call) r allowed before e → (given : Option ℕ) → e.given ≡ given
      → (let end = request_end call heap.table first e given in OwnRequest RequestRun s call heap.table r allowed before e.asks end.outcome end.heap × Sound s end.heap)
  own-facts r allowed before first e asks facts (Some x) is =
      let gives : Gives r x e.heap = subst (λ o. MatchOption o ⊤ (λ x. Gives r x e.heap)) is facts.gives in
      ((Some x, e.heap, subst (λ o. RequestRun s (protected_by call) r allowed before e.asks o e.heap) is facts.permitted, (refl, refl, refl)), asks.copied x e.heap facts.sound gives)
  own-facts r allowed before first e asks facts None is = ((None, e.heap, subst (λ o. RequestRun s (protected_by call) r allowed before e.asks o e.heap) is facts.permitted, (refl, same_heap e.heap)), facts.sound)

  -- a request after one for a master block
  after-facts : (r : Request) (master : Ending) → AsksSoundly s heap call r → makes_handle r ≡ true → RunFacts s (protected_by call) NewMaster most_answers heap master → (given : Option ℕ) → master.given ≡ given
      → (let e = after_master s (protected_by call) r master given in let end = request_end call heap.table master.asks e e.given in
      AfterMaster RequestRun s call heap.table r (most_answers - length master.asks) given master.heap e.asks end.outcome end.heap × Sound s end.heap)
  after-facts r master asks makes facts (Some x) is =
      let slots : 0 < length master.heap.free_slots = subst (λ o. MatchOption o ⊤ (λ x. Gives NewMaster x master.heap)) is facts.gives in
      let allowed = most_answers - length master.asks in
      let e = request_run s (protected_by call) r allowed master.left master.heap in
      own-facts r allowed master.heap master.asks e asks (run-facts s (protected_by call) r allowed master.left master.heap facts.sound asks.guards (may_serve-from master.heap r (operand-handle master.heap r makes) (λ _. slots))) e.given refl
  after-facts r master asks makes facts None is = ((refl, refl, same_heap master.heap), facts.sound)

  request-facts : (r : Request) (b : Bool) → (makes_handle r && has_none heap.free_slots) ≡ b → Sound s heap → AsksSoundly s heap call r → StepFacts s (λ e. RequestStep RequestRun b s heap call r e.asks e.outcome e.heap) (request_step s answers heap call b r)
  request-facts r false is sound asks =
      let may = may_serve-from heap r asks.operand (slot-free (makes_handle r) heap.free_slots is) in
      let e = request_run s (protected_by call) r most_answers answers heap in
      let both = own-facts r most_answers heap [] e asks (run-facts s (protected_by call) r most_answers answers heap sound asks.guards may) e.given refl in
      record { permitted = by_given e e.given both.0; sound = both.1 }
    where
      by_given : (e : Ending) (given : Option ℕ) → (let end = request_end call heap.table [] e given in OwnRequest RequestRun s call heap.table r most_answers heap e.asks end.outcome end.heap)
          → (let end = request_end call heap.table [] e given in OwnRequest RequestRun s call heap.table r most_answers heap end.asks end.outcome end.heap)
      by_given e (Some x) own = own
      by_given e None own = own
  request-facts r true is sound asks =
      let master = request_run s (protected_by call) NewMaster most_answers answers heap in
      let facts = run-facts s (protected_by call) NewMaster most_answers answers heap sound tt tt in
      let e = after_master s (protected_by call) r master master.given in
      let both = after-facts r master asks (makes-first (makes_handle r) (has_none heap.free_slots) is) facts master.given refl in
      record { permitted = (master.asks, e.asks, master.given, master.heap, by_given master e e.given, facts.permitted, both.0); sound = both.1 }
    where
      by_given : (master e : Ending) (given : Option ℕ) → (let end = request_end call heap.table master.asks e given in end.asks) ≡ master.asks ++ e.asks
      by_given master e (Some x) = refl
      by_given master e None = refl

  asking-facts : (o : Option Request) → request_of heap.table call ≡ o → Sound s heap → refusal s heap call ≡ None → StepFacts s (λ e. StepAsking RequestRun o s heap call e.asks e.outcome e.heap) (step_asking s answers heap call o)
  asking-facts (Some r) is sound passed =
      let asks : AsksSoundly s heap call r = subst (λ o. MatchOption o ⊤ (AsksSoundly s heap call)) is (asks-soundly s heap call passed) in
      let f = request-facts r (makes_handle r && has_none heap.free_slots) refl sound asks in
      let e = request_step s answers heap call (makes_handle r && has_none heap.free_slots) r in
      record {
        permitted = subst (λ b. RequestStep RequestRun (makes_handle r && b) s heap call r e.asks e.outcome e.heap) (sym (every_slot_live-is s heap sound)) f.permitted;
        sound = f.sound;
      }
  asking-facts None is sound passed = let quiet = quiet-facts s heap sound call passed in record { permitted = (refl, quiet.permitted); sound = quiet.sound }

  unless-facts : (o : Option OsErr) → refusal s heap call ≡ o → Sound s heap → StepFacts s (λ e. StepUnless RequestRun o s heap call e.asks e.outcome e.heap) (step_unless s answers heap call o)
  unless-facts (Some code) is sound = record { permitted = (refl, refl, same_heap heap); sound = sound }
  unless-facts None is sound = let f = asking-facts (request_of heap.table call) refl sound is in record { permitted = f.permitted; sound = f.sound }

-- what a call does exactly it may do
pub exact-permitted : (s : Shape) (answers : List Answer) (heap : Heap) (call : MemoryCall) → Sound s heap → let e = exact_step s answers heap call in MemoryStep s heap call e.asks e.outcome e.heap
exact-permitted s answers heap call sound = let f = unless-facts s answers heap call (refusal s heap call) refl sound in f.permitted

-- and it leaves a sound heap
pub sound-exact_step : (s : Shape) (answers : List Answer) (heap : Heap) (call : MemoryCall) → Sound s heap → Sound s (exact_step s answers heap call).heap
sound-exact_step s answers heap call sound = let f = unless-facts s answers heap call (refusal s heap call) refl sound in f.sound
