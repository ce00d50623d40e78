use Rattle.std.proofs.Common.{◌≡◌, ◌∙◌, List, ℕ, ap, ap₂, subst}
use Rattle.std.specs.Fmt.{HasWritten}
use Rattle.zone_view.specs.Shown.{share_of, totals_line, totals_text}
use Rattle.zone_view.specs.declared.shown.Class.TheVariants as classes
use Rattle.zone_view.specs.declared.shown.Share.{Share}
use Rattle.zone_view.proofs.shown.TotalsDisplay.fmt.Goals as goal

pub returns-clause-writes : goal.returns-clause-writes
returns-clause-writes g c plain done =
    let blocks = c.args.self.now.0.now in
    let share : ℕ → ℕ → Share = λ count bytes. record { count = count; bytes = bytes } in
    let free : c.share_of-free.result ≡ share_of classes.Free blocks = ap₂ share c.share_of-free.ensures.count c.share_of-free.ensures.bytes in
    let fixed : c.share_of-fixed.result ≡ share_of classes.Fixed blocks = ap₂ share c.share_of-fixed.ensures.count c.share_of-fixed.ensures.bytes in
    let relocatable : c.share_of-relocatable.result ≡ share_of classes.Relocatable blocks = ap₂ share c.share_of-relocatable.ensures.count c.share_of-relocatable.ensures.bytes in
    let locked : c.share_of-locked.result ≡ share_of classes.Locked blocks = ap₂ share c.share_of-locked.ensures.count c.share_of-locked.ensures.bytes in
    let purgeable : c.share_of-purgeable.result ≡ share_of classes.Purgeable blocks = ap₂ share c.share_of-purgeable.ensures.count c.share_of-purgeable.ensures.bytes in
    let same : totals_text c.share_of-free.result c.share_of-fixed.result c.share_of-relocatable.result c.share_of-locked.result c.share_of-purgeable.result ≡ totals_line blocks =
    ap (λ (x : Share). totals_text x c.share_of-fixed.result c.share_of-relocatable.result c.share_of-locked.result c.share_of-purgeable.result) free
    ∙ ap (λ (x : Share). totals_text (share_of classes.Free blocks) x c.share_of-relocatable.result c.share_of-locked.result c.share_of-purgeable.result) fixed
    ∙ ap (λ (x : Share). totals_text (share_of classes.Free blocks) (share_of classes.Fixed blocks) x c.share_of-locked.result c.share_of-purgeable.result) relocatable
    ∙ ap (λ (x : Share). totals_text (share_of classes.Free blocks) (share_of classes.Fixed blocks) (share_of classes.Relocatable blocks) x c.share_of-purgeable.result) locked
    ∙ ap (λ (x : Share). totals_text (share_of classes.Free blocks) (share_of classes.Fixed blocks) (share_of classes.Relocatable blocks) (share_of classes.Locked blocks) x) purgeable in
    subst (λ (text : List ℕ). HasWritten g.W.Write.write_str_gives c.args.f.now text c.write.new.self) same (c.write.ensures.writes plain done)
