-- How many blocks of a zone are lent.
use Rattle.std.proofs.Common.{[], ◌∷◌, ◌++◌, ◌≡◌, ℕ, suc, ◌+◌, Bool, true, false, not, ◌&&◌, cond, eqb, length, ap, sym, ◌∙◌, subst, refl}
use Rattle.std.specs.List.{filter, list_all, list_any}
use Rattle.mac_base.specs.declared.block.Kind.{Kind}
use Rattle.mac_base.specs.declared.block.Kind.TheVariants.{Free, Master, Ptr, Rel}
use Rattle.mac_base.specs.HeadKind.{Shape}
use Rattle.mac_base.specs.Loans.{owner_of, owners}
use Rattle.mac_base.specs.ZoneMap.{ZoneMap, address_after}
use Rattle.mac_base.specs.ZoneState.{ZoneState}
use Rattle.zone_records.specs.Records.{ZoneRecords, BlockRecord, NothingLent, lent_count}
use Rattle.linked_zone.specs.Owned.{Owners, owners_of, lent_of, records_from}
use Rattle.linked_zone.proofs.Standing.{Stands}

-- those that a map calls for aren't, where no owner is
records-unlent : (o : Owners) (s : Shape) (at : ℕ) (m : ZoneMap) → ((x : ℕ) → o.lent x ≡ false) → list_all (λ (b : BlockRecord). not b.lent) (records_from o s at m) ≡ true
records-unlent o s at [] none = refl
records-unlent o s at (e ∷ es) none = ap (λ l. not l && list_all (λ (b : BlockRecord). not b.lent) (records_from o s (at + e.size) es)) (by_kind e.kind) ∙ records-unlent o s (at + e.size) es none
  where
    by_kind : (k : Kind) → lent_of o k ≡ false
    by_kind Free = refl
    by_kind Master = refl
    by_kind (Ptr p) = none p
    by_kind (Rel h) = none h

pub nothing-lent : (r : ZoneRecords) (z : ZoneState) → Stands r z → z.heap.table.lent ≡ [] → NothingLent r
nothing-lent r z stands none = subst NothingLent (sym stands.blocks) (records-unlent (owners_of z) z.shape (address_after z.shape []) z.heap.map (λ x. ap (list_any (λ y. eqb y x)) none))

-- as many blocks are lent as owners
records-lent : (o : Owners) (s : Shape) (at : ℕ) (m : ZoneMap) → lent_count (records_from o s at m) ≡ length (filter o.lent (owners m))
records-lent o s at [] = refl
records-lent o s at (e ∷ es) = by_kind e.kind (records-lent o s (at + e.size) es)
  where
    more : (b : Bool) (x : ℕ) → lent_count (records_from o s (at + e.size) es) ≡ length (filter o.lent (owners es)) → cond b (suc (lent_count (records_from o s (at + e.size) es))) (lent_count (records_from o s (at + e.size) es)) ≡ length (cond b (x ∷ filter o.lent (owners es)) (filter o.lent (owners es)))
    more true x rest = ap suc rest
    more false x rest = rest

    by_kind : (k : Kind) → lent_count (records_from o s (at + e.size) es) ≡ length (filter o.lent (owners es)) → cond (lent_of o k) (suc (lent_count (records_from o s (at + e.size) es))) (lent_count (records_from o s (at + e.size) es)) ≡ length (filter o.lent (owner_of k ++ owners es))
    by_kind Free rest = rest
    by_kind Master rest = rest
    by_kind (Ptr p) rest = more (o.lent p) p rest
    by_kind (Rel h) rest = more (o.lent h) h rest

-- so many are lent
pub count-read : (r : ZoneRecords) (z : ZoneState) → Stands r z → lent_count r.blocks ≡ length z.heap.table.lent
count-read r z stands = ap (λ (r : ZoneRecords). lent_count r.blocks) stands.blocks ∙ records-lent (owners_of z) z.shape (address_after z.shape []) z.heap.map ∙ ap length (sym stands.fits.loans.in_order)
