use Rattle.std.proofs.Common.{◌≡◌, ◌∙◌, ap, sym, cond, false, Some, None}
use Rattle.mac_base.specs.Request.{is_among}
use Rattle.zone_heap.specs.Purge.{unprotected}
use Rattle.zone_heap.proofs.purge.unprotected.Goals as goal

pub returns-else-contains : goal.returns-else-contains
returns-else-contains c =
    let p = c.args.protected.now in
    let value : c.contains.result ≡ is_among p c.number.result = c.contains.ensures.value in
    let other : is_among p c.in-Rel.handle ≡ false = ap (is_among p) (sym c.number.ensures) ∙ sym value ∙ c.if-contains.false in
    sym (ap (unprotected p) c.in-Rel.is ∙ ap (λ b. cond b None (Some c.in-Rel.handle)) other)
