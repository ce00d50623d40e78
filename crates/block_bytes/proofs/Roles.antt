-- A block that is for something else, as free as before.
use Rattle.std.proofs.Common.{◌≡◌, ℕ, Bool, List, ◌∷◌, ◌++◌, refl, sym, ap, ◌∙◌, IsTrue}
use Rattle.std.specs.Prelude.{if◌then◌else◌}
use Rattle.mac_base.specs.HeadKind.{zone_header}
use Rattle.mac_base.specs.ZoneSizes.{ArePossible}
use Rattle.raw_region.specs.State.{State}
use Rattle.block_bytes.specs.declared.header.Role.{Role}
use Rattle.block_bytes.specs.declared.blocks.Blocks.TheInside.{Inside}
use Rattle.block_bytes.specs.Layout.{RawBlock, body, is_free, lent_count, is_possible, rendered, with_blocks, in_role}
use Rattle.block_bytes.specs.Starts.{free_mark, lent_mark}
use Rattle.block_bytes.specs.Reading.{layout_of, IsLayout, lent_spans, times}
use Rattle.block_bytes.proofs.Spans.{spans-append, count-append}
use Rattle.block_bytes.proofs.Parts.{IsRead, front, rear, head, image-parts, IsIn-from, possible-with, possible-more, marked-same, changed}
use Rattle.block_bytes.proofs.Settled.{front-fits}
use Rattle.block_bytes.proofs.Changes.{total-same, header-same}

-- another header for the same body, lent or not
pub role-changed : (z : Inside) (whole : IsLayout z) (small : ArePossible z.spec) (before : List RawBlock) (here : RawBlock) (after : List RawBlock) (is : (layout_of z).blocks ≡ before ++ here ∷ after)
    → (role : Role) → IsTrue (is_possible z.spec.heads (in_role here role)) → is_free role ≡ is_free here.role → (m : State) → m.name ≡ z.memory.name → m.lent ≡ z.memory.lent
    → m.bytes ≡ front (layout_of z) before ++ (head (layout_of z) (in_role here role) ++ (body here ++ rear (layout_of z) after))
    → IsRead (record z { memory = m }) (with_blocks (before ++ in_role here role ∷ after) (layout_of z))
role-changed z whole small before here after is role possible same m named lent bytes =
    let l = layout_of z in let heads = z.spec.heads in let b = in_role here role in let i = IsIn-from z whole before here after is in
    changed z whole small (before ++ b ∷ after) m z.index z.loans named
    (bytes ∙ sym (image-parts l before b after) ∙ ap (λ (h : List ℕ). h ++ (rendered l.heads l.base (before ++ b ∷ after) ++ l.spare)) (header-same z whole small before here after is b refl same))
    (total-same z whole small before here after is b refl)
    (possible-with heads before (b ∷ after) i.before_possible (possible-more heads b after possible i.after_possible))
    (marked-same z whole before here after is b refl (ap (λ (t : Bool). if here.lent then lent_mark else (if t then free_mark else 1)) same))
    (λ s. ap (times s) lent ∙ whole.lent s ∙ ap (λ (bs : List RawBlock). times s (lent_spans heads zone_header bs)) is
    ∙ ap (times s) (spans-append heads zone_header before (here ∷ after) ∙ sym (spans-append heads zone_header before (b ∷ after))))
    (whole.loans ∙ ap lent_count is ∙ (count-append before (here ∷ after) ∙ sym (count-append before (b ∷ after)))) whole.few (front-fits z whole)
