-- A request with no more answers than are allowed ends alike, however many more are allowed; and with fewer it asks
-- alike, too.
use Rattle.std.proofs.Common.{◌≡◌, ℕ, suc, ◌+◌, ◌-◌, ◌<◌, ◌≤◌, Bool, true, false, cond, length, List, [], ◌∷◌, Option, Some, None, refl, ap, sym, ◌∙◌, arith, length-append}
use Rattle.std.specs.Prelude.{◌==◌, is_some}
use Rattle.std.proofs.lemmas.Bool.Decides.{nat_tests}
use Rattle.std.specs.List.{cons_option}
use Rattle.mac_base.specs.declared.request.Request.{Request}
use Rattle.mac_base.specs.HeadKind.{Shape}
use Rattle.mac_base.specs.Heap.{Heap}
use Rattle.mac_base.specs.ZoneMap.{ZoneMap}
use Rattle.mac_base.specs.ExactRequest.{Ending, asked, prepared, request_run}
use Rattle.mac_base.specs.GrowZone.{Answer, Ask, Carried, carried_out}
use Rattle.zone_laws.proofs.RunAnswers.{all_answered, answers_of, last, once, run-answered, run-takes, trial}

-- the two end alike, where they served with the same asks, and where answers were few always
pub record Alike (few : Type 0) (one other : Ending) : Type 0 where
  pub given : one.given ≡ other.given
  pub heap : one.heap ≡ other.heap
  pub left : one.left ≡ other.left
  pub served : is_some one.given ≡ true → one.asks ≡ other.asks
  pub asks : few → one.asks ≡ other.asks

pub not_zero : (n k : ℕ) → k < n → (n == 0) ≡ false
not_zero n k h = grind (arith, nat_tests)

module _ (s : Shape) (r : Request) (mid : Heap) (c : Carried) (few : Type 0) where
  last-alike : (b d : Bool) (o : Option (ℕ × ZoneMap)) → (few → b ≡ d) → Alike few (last s r mid c b o) (last s r mid c d o)
  last-alike b d (Some found) same = record { given = refl; heap = refl; left = refl; served = λ _. refl; asks = λ _. refl }
  last-alike b d None same = record {
    given = refl;
    heap = refl;
    left = refl;
    served = λ no. absurd (cc no);
    asks =
        λ is. ap (λ b. cond b [] (asked s r None c ∷ [])) (same is);
  }

  once-alike : (a : Answer) (later : List Answer) (rest other : Ending) (fewer : Type 0) → (few → fewer) → Alike fewer rest other
      → (w b d : Bool) (o : Option (ℕ × ZoneMap)) → b ≡ false → d ≡ false
      → Alike few (once s r mid c a b w o later rest) (once s r mid c a d w o later other)
  once-alike a later rest other fewer to alike w true d o h k = absurd (cc h)
  once-alike a later rest other fewer to alike w false true o h k = absurd (cc k)
  once-alike a later rest other fewer to alike w false false (Some found) h k =
      record { given = refl; heap = refl; left = refl; served = λ _. refl; asks = λ _. refl }
  once-alike a later rest other fewer to alike true false false None h k =
      record { given = refl; heap = refl; left = refl; served = λ _. refl; asks = λ _. refl }
  once-alike a later rest other fewer to alike false false false None h k = record {
    given = alike.given;
    heap = alike.heap;
    left = alike.left;
    served = λ is. ap (λ asks. asked s r (Some a) c ∷ asks) (alike.served is);
    asks = λ is. ap (λ asks. asked s r (Some a) c ∷ asks) (alike.asks (to is));
  }

-- the run with n answers allowed, and with m
pub run-alike : (s : Shape) (protected : List ℕ) (r : Request) (n m : ℕ) (answers : List Answer) (heap : Heap) → length answers ≤ n
    → length answers ≤ m
    → Alike ((length answers < n) × (length answers < m)) (request_run s protected r n answers heap)
    (request_run s protected r m answers heap)
run-alike s protected r n m [] heap one other =
    let mid = prepared s protected r heap in
    last-alike s r mid (carried_out s protected [] mid) ((0 < n) × (0 < m)) (n == 0) (m == 0) (trial s r mid)
    (λ few. not_zero n 0 few.0 ∙ sym (not_zero m 0 few.1))
run-alike s protected r n m (a ∷ later) heap one other =
    let mid = prepared s protected r heap in
    let c = carried_out s protected a.calls mid in
    once-alike s r mid c ((suc (length later) < n) × (suc (length later) < m)) a later (request_run s protected r (n - 1) later c.heap)
    (request_run s protected r (m - 1) later c.heap)
    ((length later < n - 1) × (length later < m - 1)) (λ few. (omega (arith, few.0), omega (arith, few.1)))
    (run-alike s protected r (n - 1) (m - 1) later c.heap (omega (arith, one)) (omega (arith, other)))
    (a.value == 0) (n == 0) (m == 0) (trial s r mid) (not_zero n (length later) (omega (arith, one)))
    (not_zero m (length later) (omega (arith, other)))

-- ---- how many answers are left

one-answer : (o : Option Answer) → (asks : List Ask) (ask : Ask) → ask.answer ≡ o
    → answers_of (ask ∷ asks) ≡ cons_option o (answers_of asks)
one-answer o asks ask is = rw (is) refl

length-answers : (asks : List Ask) → all_answered asks ≡ true → length (answers_of asks) ≡ length asks
length-answers [] all = refl
length-answers (ask ∷ asks) all = grind (arith, length-answers asks, all_answered, answers_of, one-answer)

-- where a request was served, each ask had one of the answers
pub run-lengths : (s : Shape) (protected : List ℕ) (r : Request) (allowed : ℕ) (answers : List Answer) (heap : Heap)
    → (let e = request_run s protected r allowed answers heap in is_some e.given ≡ true → length answers ≡ length e.asks + length e.left)
run-lengths s protected r allowed answers heap served =
    let e = request_run s protected r allowed answers heap in
    ap length (run-takes s protected r allowed answers heap) ∙ length-append (answers_of e.asks) e.left
    ∙ ap (λ n. n + length e.left) (length-answers e.asks (run-answered s protected r allowed answers heap served))
