-- A zone's structure is written over all bytes of a region.
use Rattle.std.proofs.Common.{◌≡◌, ◌∙◌, ℕ, List, [], length, take, refl, sym, subst}
use Rattle.mac_base.specs.ZoneState.{ZoneState}
use Rattle.raw_region.specs.Bytes.{part}
use Rattle.raw_region.specs.State.{with_bytes}
use Rattle.raw_region.specs.State.{State as Region}
use Rattle.linked_zone.specs.Parts.{ContentsStay, OthersStay}
use Rattle.linked_zone.specs.Structure.{HasStructure, SameFlags}
use Rattle.mem_calls.proofs.FlagsTaken.{part-all, written-all}
use Rattle.held_zone.specs.Asleep.{IsSettled}
use Rattle.held_zone.specs.State.{State}

pub settled : (s : State) (z : ZoneState) (region : Region) (given new : List ℕ) (n : ℕ) → s.zone ≡ z → region.lent ≡ [] → n ≡ length region.bytes → length new ≡ length region.bytes → given ≡ part region.bytes 0 n
    → HasStructure z new → SameFlags z new → OthersStay z given new → ContentsStay z given new → IsSettled s region (with_bytes region 0 (take n new))
settled s z region given new n is whole all long was same flags others contents =
    let own : given ≡ region.bytes = was ∙ part-all region.bytes n all in
    let last = sym (written-all region.bytes new n all long) in
    let back = sym is in
    record {
      structure = subst (HasStructure s.zone) last (subst (λ z. HasStructure z new) back same);
      flags = subst (SameFlags s.zone) last (subst (λ z. SameFlags z new) back flags);
      others = subst (OthersStay s.zone region.bytes) last (subst (λ z. OthersStay z region.bytes new) back (subst (λ xs. OthersStay z xs new) own others));
      contents = subst (ContentsStay s.zone region.bytes) last (subst (λ z. ContentsStay z region.bytes new) back (subst (λ xs. ContentsStay z xs new) own contents));
      name = refl;
      whole = whole;
    }
