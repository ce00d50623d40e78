use Rattle.std.proofs.Common.{sym, subst}
use Rattle.std.proofs.lemmas.Result.{err_from_is_err_and}
use Rattle.linked_zone.specs.Adopting.{IsZoneIn}
use Rattle.linked_zone.specs.Owned.{records_of}
use Rattle.linked_zone.proofs.AdoptedBack.{records-in}
use Rattle.linked_zone.proofs.AdoptedZone.{is-found, kept-found}
use Rattle.linked_zone.proofs.zone.LinkedZone.adopt.Goals as goal

pub invariant_of-result : goal.invariant_of-result
invariant_of-result c = (kept-found c.args.spec c.base-base.ensures.possible c.args.region.bytes c.in_ok-records.records c.in_ok-records.ensures.zone.0).inside

pub returns-clause-zone : goal.returns-clause-zone
returns-clause-zone c =
    let zone = c.in_ok-records.ensures.zone.0 in
    let bytes = c.args.region.bytes in (
      subst (IsZoneIn c.args.spec bytes) (sym (kept-found c.args.spec c.base-base.ensures.possible bytes c.in_ok-records.records zone).same) (is-found c.args.spec c.base-base.ensures.possible bytes c.in_ok-records.records zone),
      c.in_ok-records.ensures.zone.1,
    )

pub returns-in_err-records-clause-none : goal.returns-in_err-records-clause-none
returns-in_err-records-clause-none c =
    let p = err_from_is_err_and c.from_residual.result c.from_residual.ensures.1 in
    rw (p.1, p.2) (λ why z zone. c.in_err-records.ensures.none why (records_of z) (records-in c.args.spec c.base-base.ensures.possible c.args.region.bytes z zone))
