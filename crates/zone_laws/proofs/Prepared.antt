-- How a trial prepares the heap exactly is one of the ways in which it may, and where the request still doesn't fit
-- nothing more can be done.
use Rattle.std.proofs.Common.{◌≡◌, ℕ, ◌+◌, Bool, true, false, cond, List, [], ◌∷◌, refl, ap, sym, ◌∙◌, subst, inl, inr, Contains, IsFalse, arith}
use Rattle.std.specs.Prelude.{◌⊎◌, ◌==◌, ◌||◌}
use Rattle.std.proofs.lemmas.Bool.{true≢false, false_from_ne_true}
use Rattle.std.proofs.lemmas.Bool.Decides.{nat_tests}
use Rattle.mac_base.specs.HeadKind.{Shape, zone_header}
use Rattle.mac_base.specs.ZoneMap.{total_size, at_limit}
use Rattle.mac_base.specs.HandleTable.{live_at}
use Rattle.mac_base.specs.declared.request.Request.{Request}
use Rattle.mac_base.specs.Request.{fits, blocks_to_purge, candidates, is_among, purged_until}
use Rattle.mac_base.specs.Heap.{Heap, grown, with_all_emptied}
use Rattle.mac_base.specs.Purging.{purged}
use Rattle.mac_base.specs.Sound.{Sound}
use Rattle.mac_base.specs.Trial.{Preparation, MayPrepare, prepared_by}
use Rattle.mac_base.specs.ExactRequest.{prepared}
use Rattle.zone_laws.proofs.SlotPlaces.{Contains-here, Contains-later, Contains-none}
use Rattle.zone_laws.proofs.Emptied.{Emptied, IsCandidate, all_emptied, candidate-is, no_candidates, purged_until-part, purged_until-none, purged_until-enough}
use Rattle.zone_laws.proofs.FixesSame.{fits-same}
use Rattle.zone_laws.proofs.PurgeBlocks.{candidates-at_limit}
use Rattle.zone_laws.proofs.SoundGrown.{sound-grown, total_size-at_limit}

-- a heap that a trial has prepared
pub record IsPrepared (s : Shape) (protected : List ℕ) (r : Request) (heap mid : Heap) : Type 0 where
  pub preparation : Preparation
  pub is : mid ≡ prepared_by s preparation heap
  pub may : MayPrepare s protected r heap preparation
  pub sound : Sound s mid
  pub free_slots : mid.free_slots ≡ heap.free_slots
  -- what is protected is as it was
  pub protects : (y : ℕ) → is_among protected y ≡ true → live_at mid.table y ≡ live_at heap.table y
  -- where the request still doesn't fit, the zone is as large as it may be, and nothing is left to be purged
  pub exhausted : IsFalse (fits s mid.table r mid.map) → (zone_header + total_size mid.map ≡ s.limit) × (candidates mid.table protected r mid.map ≡ [])

-- a number among those of a list is there
pub among-contains : (ys : List ℕ) (y : ℕ) → is_among ys y ≡ true → Contains ys y
among-contains [] y h = absurd (cc h)
among-contains (z ∷ zs) y h = by_test (z == y) refl h (among-contains zs y)
  where
    same : (a b : ℕ) → (a == b) ≡ true → a ≡ b
    same a b h = grind (arith, nat_tests)

    by_test : (b : Bool) → (z == y) ≡ b → (b || is_among zs y) ≡ true → (is_among zs y ≡ true → Contains zs y) → Contains (z ∷ zs) y
    by_test true is h rest = subst (λ y. Contains (z ∷ zs) y) (same z y is) (Contains-here z zs)
    by_test false is h rest = Contains-later z zs y (rest h)

-- as it is
as_it_is : (s : Shape) (protected : List ℕ) (r : Request) (heap : Heap) → Sound s heap → fits s heap.table r heap.map ≡ true → IsPrepared s protected r heap heap
as_it_is s protected r heap sound fitting = record {
  preparation = record { grows = false; purges = [] };
  is = refl;
  may = record { grows_at_need = λ h. absurd (cc h); purges_at_need = inl refl; purges_at_limit = inl refl; purges_candidates = λ h c. absurd (Contains-none h c) };
  sound = sound;
  free_slots = refl;
  protects = λ y _. refl;
  exhausted = λ no. absurd (true≢false (sym fitting ∙ no));
}

-- grown, and purged as far as it takes
module _ (s : Shape) (protected : List ℕ) (r : Request) (heap : Heap) (sound : Sound s heap) (no : fits s heap.table r heap.map ≡ false) where
  abbrev g : Heap
  g = grown s heap

  abbrev cs : List ℕ
  cs = candidates heap.table protected r (at_limit s heap.map)

  abbrev hs : List ℕ
  hs = purged_until (fits s heap.table r) cs (at_limit s heap.map)

  abbrev mid : Heap
  mid = with_all_emptied hs g

  -- each that is purged might be
  candidate : (h : ℕ) → Contains hs h → IsCandidate heap.table protected h
  candidate h c = candidate-is heap.table protected (blocks_to_purge heap.table r (at_limit s heap.map)) h (purged_until-part (fits s heap.table r) cs (at_limit s heap.map) h c)

  done : Emptied s hs g mid
  done = all_emptied s hs g (sound-grown s heap sound) (λ h c. (candidate h c).may)

  large : zone_header + total_size mid.map ≡ s.limit
  large = let d = done in ap (λ n. zone_header + n) d.same_size ∙ total_size-at_limit s heap.map sound.within

  -- where the request still doesn't fit, all were purged
  none_left : IsFalse (fits s mid.table r mid.map) → (fits s heap.table r mid.map ≡ true) ⊎ (hs ≡ cs) → candidates mid.table protected r mid.map ≡ []
  none_left none (inl enough) = let d = done in absurd (true≢false (sym enough ∙ sym (fits-same s heap.table mid.table d.fixes r mid.map) ∙ none))
  none_left none (inr all) = subst (λ ys. (let new = with_all_emptied ys g in candidates new.table protected r new.map) ≡ []) (sym all) (no_candidates s protected r g (sound-grown s heap sound))

  grown_and_purged : IsPrepared s protected r heap mid
  grown_and_purged = let d = done in record {
    preparation = record { grows = true; purges = hs };
    is = refl;
    may = record {
      grows_at_need = λ _. no;
      purges_at_need = elim (fits s heap.table r (at_limit s heap.map)) as (λ b. fits s heap.table r (at_limit s heap.map) ≡ b → (hs ≡ []) ⊎ IsFalse b) [
        | true ↦ λ fitting. inl (purged_until-none (fits s heap.table r) cs (at_limit s heap.map) fitting)
        | false ↦ λ _. inr refl
      ] refl;
      purges_at_limit = inr large;
      purges_candidates = λ h c. subst (λ ys. Contains ys h) (candidates-at_limit s heap.table protected r heap.map) (purged_until-part (fits s heap.table r) cs (at_limit s heap.map) h c);
    };
    sound = d.sound;
    free_slots = d.free_slots;
    protects = λ y guarded. d.others y (false_from_ne_true (is_among hs y) (λ among. true≢false (sym guarded ∙ (candidate y (among-contains hs y among)).unprotected)));
    exhausted = λ none. (large, none_left none (purged_until-enough (fits s heap.table r) cs g));
  }

-- what a trial prepares exactly is a heap that it may prepare
pub prepared-is : (s : Shape) (protected : List ℕ) (r : Request) (heap : Heap) → Sound s heap → IsPrepared s protected r heap (prepared s protected r heap)
prepared-is s protected r heap sound = elim (fits s heap.table r heap.map) as (λ b. fits s heap.table r heap.map ≡ b → IsPrepared s protected r heap (cond b heap (purged s protected r (grown s heap)))) [
  | true ↦ λ fitting. as_it_is s protected r heap sound fitting
  | false ↦ λ no. grown_and_purged s protected r heap sound no
] refl
