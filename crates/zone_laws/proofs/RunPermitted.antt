-- The exact run of a request is one of the runs that it may have, and leaves a sound heap.
use Rattle.std.proofs.Common.{◌≡◌, ℕ, suc, ◌-◌, ◌<◌, Bool, true, false, cond, eqb, List, [], ◌∷◌, ◌++◌, length, Some, None, Option, MatchOption, refl, ap, sym, ◌∙◌, subst, arith}
use Rattle.std.specs.Prelude.{◌||◌, ◌==◌, ⊤, MatchBool}
use Rattle.std.proofs.lemmas.Bool.{true≢false, eqb-true}
use Rattle.std.proofs.lemmas.Bool.Decides.{nat_tests}
use Rattle.std.proofs.lemmas.List.{length-replicate}
use Rattle.mac_base.specs.HeadKind.{Shape}
use Rattle.mac_base.specs.ZoneMap.{ZoneMap}
use Rattle.mac_base.specs.HandleTable.{HandleTable, EmptyHandle, FullHandle, live_at, live_bytes, live_full, live_handle, live_pointer, bytes_of, is_full, is_pointer, no_flags, refilled, resized, zeros}
use Rattle.mac_base.specs.Suits.{slots_from}
use Rattle.mac_base.specs.declared.error.OsErr.{OsErr}
use Rattle.mac_base.specs.declared.releasing.ReleasingCall.{ReleasingCall}
use Rattle.mac_base.specs.declared.releasing.ReleasingCall.TheVariants.{DisposesHandle, DisposesPtr, Empties}
use Rattle.mac_base.specs.Releasing.{operand_of, heap_released}
use Rattle.mac_base.specs.declared.request.Request.{Request}
use Rattle.mac_base.specs.declared.request.Request.TheVariants.{NewBlock, NewEmpty, NewPointer, NewMaster, Reserve, Resize, Replace}
use Rattle.mac_base.specs.Request.{is_among}
use Rattle.mac_base.specs.Serve.{serve}
use Rattle.mac_base.specs.Heap.{Heap, front_slot, granted, table_granted}
use Rattle.mac_base.specs.Sound.{Sound}
use Rattle.mac_base.specs.Trial.{NumberGiven, Served, Serves, Fails, SameHeap}
use Rattle.mac_base.specs.Tests.{refusal}
use Rattle.mac_base.specs.GrowZone.{Answer, Ask, Carried, memory_call, heap_unless, carried_once, carried_from, carried_out}
use Rattle.mac_base.specs.ExactRequest.{Ending, prepared, unserved, served_or, after_ask, asked, request_run}
use Rattle.mac_base.specs.RequestRun.{EndsUnserved, RequestRun}
use Rattle.zone_laws.proofs.SoundResized.{length-resized}
use Rattle.zone_laws.proofs.SoundWritten.{refilled_block}
use Rattle.zone_laws.proofs.Tables.{live_at-with_live_same, with_live_agrees, without_agrees}
use Rattle.zone_laws.proofs.ServedRequests.{MayAsk, front_slot-not_live, serve-NumberGiven, serve-Served, serve-no_room}
use Rattle.zone_laws.proofs.SoundServed.{MayServe, sound-serve}
use Rattle.zone_laws.proofs.Prepared.{IsPrepared, prepared-is}
use Rattle.zone_laws.proofs.SoundCarried.{sound-carried_out}
use Rattle.zone_laws.proofs.Steps.{same_heap}

-- ---- what a running call can rely on

-- a running call protects the block that its request is about
abbrev pub Guards : List ℕ → Request → Type 0
Guards protected (Resize y n) = is_among protected y ≡ true
Guards protected (Replace h n) = is_among protected h ≡ true
Guards protected _ = ⊤

-- free slots don't run out, and what is protected is as it was
pub record KeepsRunning (protected : List ℕ) (old new : Heap) : Type 0 where
  pub free : 0 < length old.free_slots → 0 < length new.free_slots
  pub protects : (y : ℕ) → is_among protected y ≡ true → live_at new.table y ≡ live_at old.table y

running-refl : (protected : List ℕ) (heap : Heap) → KeepsRunning protected heap heap
running-refl protected heap = record { free = λ h. h; protects = λ y _. refl }

running-then : (protected : List ℕ) (a b c : Heap) → KeepsRunning protected a b → KeepsRunning protected b c → KeepsRunning protected a c
running-then protected a b c one two = record { free = λ h. two.free (one.free h); protects = λ y h. two.protects y h ∙ one.protects y h }

-- so the request may be served as before
pub may-kept : (protected : List ℕ) (r : Request) (old new : Heap) → Guards protected r → KeepsRunning protected old new → MayServe old r → MayServe new r
may-kept protected (NewBlock n) old new guards keeps may = keeps.free may
may-kept protected NewEmpty old new guards keeps may = keeps.free may
may-kept protected (NewPointer n) old new guards keeps may = tt
may-kept protected NewMaster old new guards keeps may = tt
may-kept protected (Reserve n) old new guards keeps may = tt
may-kept protected (Resize y n) old new guards keeps may = ap (λ o. live_full o || live_pointer o) (keeps.protects y guards) ∙ may
may-kept protected (Replace h n) old new guards keeps may = ap live_handle (keeps.protects h guards) ∙ may

-- a call that releases a block that isn't protected
running-released : (protected : List ℕ) (call : ReleasingCall) (heap : Heap) → is_among protected (operand_of call) ≡ false → KeepsRunning protected heap (heap_released call heap)
running-released protected call heap other = record { free = by_call call; protects = λ y guarded. agrees call y (apart (operand_of call) y other guarded) }
  where
    by_call : (call : ReleasingCall) → 0 < length heap.free_slots → 0 < length (heap_released call heap).free_slots
    by_call (DisposesHandle h) some = omega arith
    by_call (DisposesPtr p) some = some
    by_call (Empties h) some = some

    apart : (x y : ℕ) → is_among protected x ≡ false → is_among protected y ≡ true → eqb y x ≡ false
    apart x y other guarded = elim (eqb y x) as (λ b. eqb y x ≡ b → b ≡ false) [
      | true ↦ λ same. absurd (true≢false (sym guarded ∙ ap (is_among protected) (eqb-true y x same) ∙ other))
      | false ↦ λ _. refl
    ] refl

    agrees : (call : ReleasingCall) (y : ℕ) → eqb y (operand_of call) ≡ false → live_at (heap_released call heap).table y ≡ live_at heap.table y
    agrees (DisposesHandle h) y apart = (without_agrees h heap.table).others y apart
    agrees (DisposesPtr p) y apart = (without_agrees p heap.table).others y apart
    agrees (Empties h) y apart = (with_live_agrees h EmptyHandle heap.table).others y apart

running-unless : (protected : List ℕ) (call : ReleasingCall) (heap : Heap) (o : Option OsErr) → is_among protected (operand_of call) ≡ false → KeepsRunning protected heap (heap_unless o (heap_released call heap) heap)
running-unless protected call heap None other = running-released protected call heap other
running-unless protected call heap (Some code) other = running-refl protected heap

running-once : (s : Shape) (protected : List ℕ) (call : ReleasingCall) (c : Carried) → KeepsRunning protected c.heap (carried_once s protected call c).heap
running-once s protected call c =
    elim (is_among protected (operand_of call)) as (λ b. is_among protected (operand_of call) ≡ b
    → KeepsRunning protected c.heap (cond b c (record { heap = heap_unless (refusal s c.heap (memory_call call)) (heap_released call c.heap) c.heap; calls = c.calls ++ (call, refusal s c.heap (memory_call call)) ∷ [] })).heap) [
      | true ↦ λ _. running-refl protected c.heap
      | false ↦ λ other. running-unless protected call c.heap (refusal s c.heap (memory_call call)) other
    ] refl

running-from : (s : Shape) (protected : List ℕ) (calls : List ReleasingCall) (c : Carried) → KeepsRunning protected c.heap (carried_from s protected calls c).heap
running-from s protected [] c = running-refl protected c.heap
running-from s protected (call ∷ calls) c =
    running-then protected c.heap (carried_once s protected call c).heap (carried_from s protected calls (carried_once s protected call c)).heap (running-once s protected call c) (running-from s protected calls (carried_once s protected call c))

-- the calls of an answer keep what a running call relies on
pub running-carried_out : (s : Shape) (protected : List ℕ) (calls : List ReleasingCall) (heap : Heap) → KeepsRunning protected heap (carried_out s protected calls heap).heap
running-carried_out s protected calls heap = running-from s protected calls (record { heap = heap; calls = [] })

-- nor does a trial use up any
pub running-prepared : (s : Shape) (protected : List ℕ) (r : Request) (heap mid : Heap) → IsPrepared s protected r heap mid → KeepsRunning protected heap mid
running-prepared s protected r heap mid p = record { free = λ h. subst (λ xs. 0 < length xs) (sym p.free_slots) h; protects = p.protects }

-- ---- what a request leaves

-- x has a block of n bytes
abbrev pub HasBytes : Heap → ℕ → ℕ → Type 0
HasBytes heap x n = ((is_full heap.table x || is_pointer heap.table x) ≡ true) × (length (bytes_of heap.table x) ≡ n)

-- what is in the heap once a request has given x: a block of so many bytes, or free slots
abbrev pub Gives : Request → ℕ → Heap → Type 0
Gives (NewBlock n) x heap = HasBytes heap x n
Gives (Resize y n) x heap = HasBytes heap y n
Gives NewMaster x heap = 0 < length heap.free_slots
Gives _ x heap = ⊤

gives-granted : (r : Request) (x : ℕ) (m : ZoneMap) (heap : Heap) → MayServe heap r → Gives r x (granted r x m heap)
gives-granted (NewBlock n) x m heap may = let has = live_at-with_live_same x (FullHandle no_flags (zeros n)) heap.table in (ap (λ o. live_full o || live_pointer o) has, ap (λ o. length (live_bytes o)) has ∙ length-replicate n 0)
gives-granted NewEmpty x m heap may = tt
gives-granted (NewPointer n) x m heap may = tt
gives-granted NewMaster x m heap may = some 63 x heap.free_slots
  where
    some : (n x : ℕ) (xs : List ℕ) → 0 < length (slots_from (suc n) x ++ xs)
    some n x xs = omega arith
gives-granted (Reserve n) x m heap may = tt
gives-granted (Resize y n) x m heap may =
    let l = refilled (resized n (bytes_of heap.table y)) (live_at heap.table y) in
    let has = live_at-with_live_same y l heap.table in
    let same = refilled_block (resized n (bytes_of heap.table y)) (live_at heap.table y) may in (
      ap (λ o. live_full o || live_pointer o) has ∙ ap (λ b. b || live_pointer (Some l)) same.full ∙ ap (λ b. is_full heap.table y || b) same.pointer ∙ may,
      ap (λ o. length (live_bytes o)) has ∙ ap length same.holds ∙ length-resized n (bytes_of heap.table y),
    )
gives-granted (Replace h n) x m heap may = tt

-- a call that knows that the request may be served knows what it asks
pub may-ask : (s : Shape) (r : Request) (heap : Heap) → Sound s heap → MayServe heap r → MayAsk heap.table (front_slot heap) r
may-ask s (NewBlock n) heap sound may = front_slot-not_live s heap sound may
may-ask s NewEmpty heap sound may = front_slot-not_live s heap sound may
may-ask s (NewPointer n) heap sound may = tt
may-ask s NewMaster heap sound may = tt
may-ask s (Reserve n) heap sound may = tt
may-ask s (Resize y n) heap sound may = may
may-ask s (Replace h n) heap sound may = tt

-- ---- the run

-- How a request that gave x leaves the table: as one in which all that is protected is as it was, once the request is
-- served there.
pub record Grants (protected : List ℕ) (r : Request) (x : ℕ) (old new : Heap) : Type 0 where
  pub before : HandleTable
  pub protects : (y : ℕ) → is_among protected y ≡ true → live_at before y ≡ live_at old.table y
  pub number : NumberGiven r x before
  pub table : new.table ≡ table_granted r x before

-- so it does after a change that keeps what is protected
pub grants-after : (protected : List ℕ) (r : Request) (old mid new : Heap) (given : Option ℕ) → KeepsRunning protected old mid → MatchOption given ⊤ (λ x. Grants protected r x mid new) → MatchOption given ⊤ (λ x. Grants protected r x old new)
grants-after protected r old mid new None keeps grants = tt
grants-after protected r old mid new (Some x) keeps grants = record { before = grants.before; protects = λ y among. grants.protects y among ∙ keeps.protects y among; number = grants.number; table = grants.table }

-- what is known of the ending of a run
pub record RunFacts (s : Shape) (protected : List ℕ) (r : Request) (allowed : ℕ) (heap : Heap) (e : Ending) : Type 0 where
  pub permitted : RequestRun s protected r allowed heap e.asks e.given e.heap
  pub sound : Sound s e.heap
  pub gives : MatchOption e.given ⊤ (λ x. Gives r x e.heap)
  pub grants : MatchOption e.given ⊤ (λ x. Grants protected r x heap e.heap)

module _ (s : Shape) (protected : List ℕ) (r : Request) (heap mid : Heap) (p : IsPrepared s protected r heap mid) (may : MayServe mid r) where
  -- a trial that serves
  trial_serves : (x : ℕ) (m : ZoneMap) → serve s mid.table (front_slot mid) mid.map r ≡ Some (x, m) → Serves s protected r x heap (granted r x m mid)
  trial_serves x m is =
      let after = sound-serve s r mid x m p.sound may is in
      (p.preparation, p.may, subst (λ h. Served s r x h (granted r x m mid)) p.is (serve-Served s mid (front_slot mid) r x m p.sound.suits (may-ask s r mid p.sound may) is after.suits))

  -- and one that fails
  trial_fails : serve s mid.table (front_slot mid) mid.map r ≡ None → Fails s protected r heap mid
  trial_fails none =
      let no = serve-no_room s mid.table (front_slot mid) mid.map r p.sound.suits (may-ask s r mid p.sound may) none in
      let ends = p.exhausted no in
      (p.preparation, p.may, subst (λ h. SameHeap mid h) p.is (same_heap mid), record { at_the_limit = ends.0; none_left = ends.1; no_room = no })

  -- so a run that ends with this trial, or goes on after it
  by_trial : (allowed : ℕ) (left : List Answer) (other : Ending) (o : Option (ℕ × ZoneMap)) → serve s mid.table (front_slot mid) mid.map r ≡ o → (Fails s protected r heap mid → RunFacts s protected r allowed heap other)
      → RunFacts s protected r allowed heap (served_or r mid left other o)
  by_trial allowed left other (Some found) is following = record {
    permitted = trial_serves found.0 found.1 is;
    sound = sound-serve s r mid found.0 found.1 p.sound may is;
    gives = gives-granted r found.0 found.1 mid may;
    grants = record { before = mid.table; protects = p.protects; number = serve-NumberGiven s mid.table (front_slot mid) mid.map r found.0 found.1 p.sound.suits (may-ask s r mid p.sound may) is; table = refl };
  }
  by_trial allowed left other None is following = following (trial_fails is)

zero_of : (n : ℕ) → (n == 0) ≡ true → n ≡ 0
zero_of n h = grind (arith, nat_tests)

some_of : (n : ℕ) → (n == 0) ≡ false → 0 < n
some_of n h = grind (arith, nat_tests)

-- the exact run of a request is a permitted one
pub run-facts : (s : Shape) (protected : List ℕ) (r : Request) (allowed : ℕ) (answers : List Answer) (heap : Heap) → Sound s heap → Guards protected r → MayServe heap r → RunFacts s protected r allowed heap (request_run s protected r allowed answers heap)
run-facts s protected r allowed [] heap sound guards may =
    let mid = prepared s protected r heap in
    let p = prepared-is s protected r heap sound in
    let asks : Bool → List Ask = λ b. cond b [] (asked s r None (carried_out s protected [] mid) ∷ []) in
    by_trial s protected r heap mid p (may-kept protected r heap mid guards (running-prepared s protected r heap mid p) may) allowed [] (unserved mid (asks (allowed == 0)) []) (serve s mid.table (front_slot mid) mid.map r) refl
    (λ fails. elim (allowed == 0) as (λ b. (allowed == 0) ≡ b → RunFacts s protected r allowed heap (unserved mid (asks b) [])) [
      | true ↦ λ is. record { permitted = (zero_of allowed is, fails); sound = p.sound; gives = tt; grants = tt }
      | false ↦ λ is. record { permitted = (some_of allowed is, refl, mid, fails, (refl, (refl, refl, same_heap mid))); sound = p.sound; gives = tt; grants = tt }
    ] refl)
run-facts s protected r allowed (a ∷ later) heap sound guards may =
    let mid = prepared s protected r heap in
    let p = prepared-is s protected r heap sound in
    let c = carried_out s protected a.calls mid in
    let ask = asked s r (Some a) c in
    let may_mid = may-kept protected r heap mid guards (running-prepared s protected r heap mid p) may in
    let after = sound-carried_out s protected a.calls mid p.sound in
    let rest = run-facts s protected r (allowed - 1) later c.heap after guards (may-kept protected r mid c.heap guards (running-carried_out s protected a.calls mid) may_mid) in
    let again : Bool → Ending = λ b. cond b (unserved c.heap (ask ∷ []) later) (after_ask ask (request_run s protected r (allowed - 1) later c.heap)) in
    by_trial s protected r heap mid p may_mid allowed (a ∷ later) (cond (allowed == 0) (unserved mid [] (a ∷ later)) (again (a.value == 0))) (serve s mid.table (front_slot mid) mid.map r) refl
    (λ fails. elim (allowed == 0) as (λ b. (allowed == 0) ≡ b → RunFacts s protected r allowed heap (cond b (unserved mid [] (a ∷ later)) (again (a.value == 0)))) [
      | true ↦ λ is. record { permitted = (zero_of allowed is, fails); sound = p.sound; gives = tt; grants = tt }
      | false ↦ λ is. elim (a.value == 0) as (λ b. (a.value == 0) ≡ b → RunFacts s protected r allowed heap (again b)) [
        | true ↦ λ worthless. record {
          permitted = (some_of allowed is, refl, mid, fails, (refl, subst (λ b. MatchBool b (EndsUnserved c.heap [] None c.heap) (RequestRun s protected r (allowed - 1) c.heap [] None c.heap)) (sym worthless) (refl, refl, same_heap c.heap)));
          sound = after;
          gives = tt;
          grants = tt;
        }
        | false ↦ λ worth. (let e = request_run s protected r (allowed - 1) later c.heap in record {
          permitted = (some_of allowed is, refl, mid, fails, (refl, subst (λ b. MatchBool b (EndsUnserved c.heap e.asks e.given e.heap) (RequestRun s protected r (allowed - 1) c.heap e.asks e.given e.heap)) (sym worth) rest.permitted));
          sound = rest.sound;
          gives = rest.gives;
          grants = grants-after protected r heap c.heap e.heap e.given (running-then protected heap mid c.heap (running-prepared s protected r heap mid p) (running-carried_out s protected a.calls mid)) rest.grants;
        })
      ] refl
    ] refl)
