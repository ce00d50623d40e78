use Rattle.std.proofs.Common.{◌≡◌, ◌-◌, ◌∙◌, Bool, true, false, not, length, refl, ap, sym, subst, arith}
use Rattle.mac_base.specs.HeadKind.{head_size}
use Rattle.mac_base.specs.Suits.{has_length}
use Rattle.block_bytes.specs.declared.header.Header.{Header}
use Rattle.block_bytes.specs.declared.header.Role.{Role}
use Rattle.block_bytes.specs.declared.header.Role.TheVariants as role
use Rattle.block_bytes.specs.Layout.{size_of}
use Rattle.zone_records.specs.Linking.{TightAs}
use Rattle.zone_records.specs.Reading.{records_in}
use Rattle.zone_records.proofs.Headers.{not-free}
use Rattle.zone_records.proofs.RightBlocks.{next-free, next-not, next-none, tight-from, tight-has}
use Rattle.zone_records.proofs.linking.is_tight.Goals as goal

-- one of two truth values
not-true : (b : Bool) → (b ≡ true → ⊥) → not b ≡ true
not-true true never = absurd (never refl)
not-true false never = refl

not-both : (b : Bool) → not b ≡ true → b ≡ true → ⊥
not-both true negative positive = absurd (cc negative)
not-both false negative positive = absurd (cc positive)

pub returns-in-Some : goal.returns-in-Some
returns-in-Some c b =
    let l = c.args.blocks.now in let free : b.here.role ≡ role.Free = ap (λ (h : Header). h.role) (sym (c.requires.header b)) ∙ c.in-Free.is in
    let n = c.in-Some.ensures.next.0 in let place = c.in-Some.ensures.next.1 b in
    let T : Role → Type 0 = (λ r. TightAs l c.args.at r (size_of l.heads b.here) (length b.here.contents)) in (
      λ yes. subst T (sym free) (next-free l c.requires.sound c.args.at b c.in-Some.next n place (λ is. not-both c.is_free.result yes ((c.is_free.ensures n).1 is))),
      λ tight. not-true c.is_free.result (λ t. next-not l c.requires.sound c.args.at b c.in-Some.next n place (subst T free tight) ((c.is_free.ensures n).0 t)),
    )

pub returns-in-None : goal.returns-in-None
returns-in-None c b =
    let l = c.args.blocks.now in let free : b.here.role ≡ role.Free = ap (λ (h : Header). h.role) (sym (c.requires.header b)) ∙ c.in-Free.is in (
      λ yes. subst (λ (r : Role). TightAs l c.args.at r (size_of l.heads b.here) (length b.here.contents)) (sym free) (next-none l c.requires.sound c.args.at b (c.in-None.ensures.last b)),
      λ tight. refl,
    )

pub returns-in-Fixed : goal.returns-in-Fixed
returns-in-Fixed c b =
    let l = c.args.blocks.now in
    let same = c.requires.header b in
    let head : c.head_size.result ≡ head_size l.heads = c.head_size.ensures ∙ ap head_size (c.heads-heads.ensures ∙ c.spec.ensures.heads) in
    let size : c.args.header.size ≡ size_of l.heads b.here = ap (λ (h : Header). h.size) same in
    let over : c.args.header.correction ≡ length b.here.slack = ap (λ (h : Header). h.correction) same in
    let long : c.args.header.size - c.head_size.result - c.args.header.correction ≡ length b.here.contents = omega arith in
    let other : b.here.role ≡ role.Free → ⊥ = (λ is. not-free c.args.header.role c.in-Fixed.is (ap (λ (h : Header). h.role) same ∙ is)) in
    let is : c.has_length.result ≡ has_length (records_in l).shape (size_of l.heads b.here) (length b.here.contents) =
    c.has_length.ensures (records_in l).shape (sym (c.heads-heads.ensures ∙ c.spec.ensures.heads)) ∙ (λ i. has_length (records_in l).shape (size i) (long i)) in (
      λ yes. tight-from l c.requires.sound b.here.role c.args.at (size_of l.heads b.here) (length b.here.contents) other (sym is ∙ yes),
      λ tight. is ∙ tight-has l c.requires.sound b.here.role c.args.at (size_of l.heads b.here) (length b.here.contents) other tight,
    )
