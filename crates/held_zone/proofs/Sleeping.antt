-- What is held of a zone that sleeps: nothing.
use Rattle.std.proofs.Common.{◌≡◌, ◌∙◌, ℕ, ◌==◌, Bool, true, false, ◌||◌, List, [], ◌∷◌, map, refl, sym, ap}
use Rattle.std.specs.List.{list_any}
use Rattle.mac_base.specs.HandleTable.{is_lent}
use Rattle.mac_base.specs.ZoneState.{ZoneState}
use Rattle.zone_laws.proofs.Tables.{eqb_same}
use Rattle.held_calls.specs.declared.loans.Held.{Held}
use Rattle.held_calls.specs.Holding.{Holds, is_held}
use Rattle.raw_region.specs.State.{State as Region}
use Rattle.held_zone.specs.Asleep.{FallsAsleep, all_back, awake_as, new_loans, with_these_lent}
use Rattle.held_zone.specs.State.{State}

-- the block of the first that is held is lent
pub first_is_held : (h : Held) (hs : List Held) → is_held h.block (h ∷ hs) ≡ true
first_is_held h hs = ap (λ (b : Bool). b || is_held h.block hs) (eqb_same h.block)

-- where nothing is lent, nothing is held
pub nothing_held : (zone : ZoneState) (held : List Held) → zone.heap.table.lent ≡ [] → Holds zone held → held ≡ []
nothing_held zone [] none holds = refl
nothing_held zone (h ∷ hs) none holds =
    let not_lent : is_lent zone.heap.table h.block ≡ false = ap (λ (xs : List ℕ). list_any (λ y. y == h.block) xs) none in
    let both : true ≡ false = sym (first_is_held h hs) ∙ sym (holds.all h.block) ∙ not_lent in
    absurd (cc both)

-- the state once all that is lent came back and was lent again
abbrev pub lent_again : State → State
lent_again s =
    let blocks = map (λ loan. loan.0) s.loans in
    let heap = (all_back s).zone.heap in
    record s { zone = record s.zone { heap = with_these_lent blocks heap }; loans = new_loans heap.table blocks; waiting = [] }

-- a zone that falls asleep and wakes in the same bytes is as it was, once what was lent came back and was lent again
pub as_it_was : (old : State) (r : Region) (new : State) → FallsAsleep old r new → r.name ≡ old.zone.memory.region → awake_as r new ≡ lent_again old
as_it_was old r new falls place = λ i. record {
  zone = record (falls.as_before i) { memory = record { region = place i; kept = sym falls.kept i }; heap = with_these_lent (falls.waiting i) (falls.as_before i).heap };
  loans = new_loans (falls.as_before i).heap.table (falls.waiting i);
  left = falls.left i;
  asks = falls.asks i;
  waiting = [];
  guest = falls.guest i;
  purges = falls.purges i;
}
