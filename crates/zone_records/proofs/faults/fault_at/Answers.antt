use Rattle.std.proofs.Common.{◌≡◌, ◌+◌, ◌-◌, ◌≤◌, ◌∙◌, true, false, inl, inr, refl, sym, ap, subst, arith}
use Rattle.std.proofs.lemmas.Bool.{cases_lt}
use Rattle.mac_base.specs.HeadKind.{head_size}
use Rattle.block_bytes.specs.declared.header.Header.{Header}
use Rattle.block_bytes.specs.declared.header.Role.TheVariants as role
use Rattle.block_bytes.specs.Finding.{HoldsByte}
use Rattle.block_bytes.specs.Layout.{Layout}
use Rattle.zone_records.specs.Reading.{AreSound, records_in}
use Rattle.zone_records.proofs.Held.{Held}
use Rattle.zone_records.proofs.WrongBytes.{flags-keeps, header-wrong, plain-keeps, pointer-wrong, slack-keeps, zone-wrong}
use Rattle.zone_records.proofs.faults.fault_at.Goals as goal
use Rattle.zone_records.proofs.faults.fault_at.Goals.{in-Master, in_default, else-is_master-via-then-is_master+else-not-may_have, else-is_master-via-else-is_master}

held_by : (l : Layout) → AreSound l → Held l (records_in l)
held_by l sound = record { shows = refl; sound = sound }

pub returns-then-at-lt-ZONE_HEADER-clause-fault : goal.returns-then-at-lt-ZONE_HEADER-clause-fault
returns-then-at-lt-ZONE_HEADER-clause-fault c =
    let l = c.args.blocks.now in zone-wrong l (records_in l) (held_by l c.requires.sound) c.args.at c.args.byte c.requires.other (omega arith)

pub returns-then-offset-head-clause-fault : goal.returns-then-offset-head-clause-fault
returns-then-offset-head-clause-fault c =
    let l = c.args.blocks.now in
    let base : c.base.result ≡ l.base = c.base.ensures.value ∙ c.spec-spec.ensures.base in
    let other : c.base-2.result ≡ l.base = c.base-2.ensures.value ∙ c.spec-spec.ensures.base in
    let head : c.head_size-head.result ≡ head_size l.heads = c.head_size-head.ensures ∙ ap head_size (c.heads.ensures ∙ c.spec-spec.ensures.heads) in
    let h : HoldsByte l (l.base + c.args.at) c.in_ok-start.start = subst (λ n. HoldsByte l (n + c.args.at) c.in_ok-start.start) base c.in_ok-start.ensures.holds in
    let low = h.low in
    let under = c.if-offset-head.true in
    header-wrong l (records_in l) (held_by l c.requires.sound) c.args.at c.args.byte c.requires.other c.in_ok-start.start h.block low (omega arith)

pub returns-then-not-may_have-clause-fault : goal.returns-then-not-may_have-clause-fault
returns-then-not-may_have-clause-fault c =
    let l = c.args.blocks.now in
    let base : c.base.result ≡ l.base = c.base.ensures.value ∙ c.spec-spec.ensures.base in
    let other : c.base-2.result ≡ l.base = c.base-2.ensures.value ∙ c.spec-spec.ensures.base in
    let head : c.head_size-head.result ≡ head_size l.heads = c.head_size-head.ensures ∙ ap head_size (c.heads.ensures ∙ c.spec-spec.ensures.heads) in
    let h : HoldsByte l (l.base + c.args.at) c.in_ok-start.start = subst (λ n. HoldsByte l (n + c.args.at) c.in_ok-start.start) base c.in_ok-start.ensures.holds in
    let said : c.entry_at.result.role ≡ h.block.here.role = ap (λ (h : Header). h.role) (c.entry_at.ensures h.block) in
    let master : h.block.here.role ≡ role.Master = elim c.match-matches.branch [ in-Master w ↦ sym said ∙ (cc) | in_default w ↦ absurd (cc) ] in
    let low = h.low in
    let j = c.base-2.result + c.args.at - c.in_ok-start.start - c.head_size-head.result in
    let both = c.may_have.ensures h.block in
    let not : c.may_have.result ≡ false = cc in
    pointer-wrong l (records_in l) (held_by l c.requires.sound) c.args.at c.args.byte c.requires.other c.in_ok-start.start h.block master j (omega arith)
    (elim (cases_lt j 256) [ inl few ↦ few | inr after ↦ (let no : true ≡ false = sym (both.1 (inl after)) ∙ not in absurd (cc no)) ])
    (λ may. let no : true ≡ false = sym (both.1 (inr may)) ∙ not in cc no)

pub returns-clause-none : goal.returns-clause-none
returns-clause-none c =
    let l = c.args.blocks.now in
    let held = held_by l c.requires.sound in
    let base : c.base.result ≡ l.base = c.base.ensures.value ∙ c.spec-spec.ensures.base in
    let other : c.base-2.result ≡ l.base = c.base-2.ensures.value ∙ c.spec-spec.ensures.base in
    let head : c.head_size-head.result ≡ head_size l.heads = c.head_size-head.ensures ∙ ap head_size (c.heads.ensures ∙ c.spec-spec.ensures.heads) in
    let h : HoldsByte l (l.base + c.args.at) c.in_ok-start.start = subst (λ n. HoldsByte l (n + c.args.at) c.in_ok-start.start) base c.in_ok-start.ensures.holds in
    let said : c.entry_at.result.role ≡ h.block.here.role = ap (λ (h : Header). h.role) (c.entry_at.ensures h.block) in
    let at = c.in_ok-start.start in
    let low : at + head_size l.heads ≤ l.base + c.args.at = (let from = h.low in omega arith) in
    let high = h.high in
    let j = c.base-2.result + c.args.at - c.in_ok-start.start - c.head_size-head.result in
    elim c.else-is_master.branch [
      | else-is_master-via-then-is_master+else-not-may_have w ↦
          let master : h.block.here.role ≡ role.Master = elim c.match-matches.branch [ in-Master v ↦ sym said ∙ (cc) | in_default v ↦ absurd (cc) ] in
          let has : w.may_have.result ≡ true = cc in
          elim ((w.may_have.ensures h.block).0 has) [
            | inl after ↦ slack-keeps l (records_in l) held c.args.at c.args.byte c.requires.other at h.block low high (omega arith)
            | inr may ↦ elim (cases_lt j 256) [
              | inl few ↦ flags-keeps l (records_in l) held c.args.at c.args.byte c.requires.other at h.block low high (omega arith) master j (omega arith) few may
              | inr after ↦ slack-keeps l (records_in l) held c.args.at c.args.byte c.requires.other at h.block low high (omega arith)
            ]
          ]
      | else-is_master-via-else-is_master w ↦
          plain-keeps l (records_in l) held c.args.at c.args.byte c.requires.other at h.block low high (λ is.
          elim c.match-matches.branch [ in-Master v ↦ (cc) | in_default v ↦ v.in_default.not-Master (said ∙ is) ])
    ]
