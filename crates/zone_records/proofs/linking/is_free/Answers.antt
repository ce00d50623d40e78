use Rattle.std.proofs.Common.{◌∙◌, refl, ap, sym}
use Rattle.block_bytes.specs.declared.header.Header.{Header}
use Rattle.zone_records.proofs.Headers.{not-free}
use Rattle.zone_records.proofs.linking.is_free.Goals as goal

pub returns-in-Free : goal.returns-in-Free
returns-in-Free c b = (λ yes. ap (λ (h : Header). h.role) (sym (c.entry_at.ensures b)) ∙ c.in-Free.is, λ is. refl)

pub returns-in-Fixed : goal.returns-in-Fixed
returns-in-Fixed c b = (λ yes. absurd (cc yes), λ is. absurd (not-free c.entry_at.result.role c.in-Fixed.is (ap (λ (h : Header). h.role) (c.entry_at.ensures b) ∙ is)))
