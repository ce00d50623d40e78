use Rattle.std.proofs.Common.{◌≡◌, ◌∙◌, ℕ, List, ap, refl, subst}
use Rattle.std.specs.Io.KnownBytes.{Appends}
use Rattle.mac_base.specs.declared.block.Block.{Block}
use Rattle.zone_look.specs.Look.{IsLook}
use Rattle.zone_look.specs.Memory.{Memory}
use Rattle.zone_view.specs.Looking.{memory_of}
use Rattle.zone_view.specs.Shown.{look_text}
use Rattle.zone_view.specs.Writing.{WritesFront}
use Rattle.zone_view.proofs.Ending.{zone_fails}
use Rattle.zone_view.proofs.Written.{none_written}
use Rattle.zone_view.proofs.looking.show.Goals as goal

pub returns-in_err-seen : goal.returns-in_err-seen
returns-in_err-seen g c =
    let asked = c.args.request.now in
    let dump : c.new-dump.result ≡ memory_of asked c.args.bytes.now =
    c.new-dump.ensures ∙ ap (λ (bytes : List ℕ). record { heads = asked.heads; base = asked.base; bytes = bytes }) c.bytes_from.ensures in
    let (found, blocks, look) = c.all_seen.ensures.some in
    zone_fails asked c.args.bytes.now _ _ _ _ c.from_residual.ensures.1
    (look_text asked.is_json blocks found, found, (blocks, subst (λ (m : Memory). IsLook m found blocks) dump look, refl), none_written _ _)

pub returns-in_err-write_look : goal.returns-in_err-write_look
returns-in_err-write_look g c =
    let asked = c.args.request.now in
    let dump : c.new-dump.result ≡ memory_of asked c.args.bytes.now =
    c.new-dump.ensures ∙ ap (λ (bytes : List ℕ). record { heads = asked.heads; base = asked.base; bytes = bytes }) c.bytes_from.ensures in
    let found = c.in_ok-seen.seen.found in
    let blocks = c.in_ok-seen.seen.blocks.items in
    let front = subst (λ (these : List Block). WritesFront (look_text asked.is_json these found) (g.W.Write.contents c.args.output.now) (g.W.Write.contents c.write_look.new.output)) c.as_slice.ensures.value c.in_err-write_look.ensures in
    zone_fails asked c.args.bytes.now _ _ _ _ c.from_residual-in_err-write_look.ensures.1
    (look_text asked.is_json blocks found, found, (blocks, subst (λ (m : Memory). IsLook m found blocks) dump c.in_ok-seen.ensures.seen, refl), front)

pub returns : goal.returns
returns g c =
    let asked = c.args.request.now in
    let dump : c.new-dump.result ≡ memory_of asked c.args.bytes.now =
    c.new-dump.ensures ∙ ap (λ (bytes : List ℕ). record { heads = asked.heads; base = asked.base; bytes = bytes }) c.bytes_from.ensures in
    let found = c.in_ok-seen.seen.found in
    let blocks = c.in_ok-seen.seen.blocks.items in
    let wrote = subst (λ (these : List Block). Appends (g.W.Write.contents c.args.output.now) (g.W.Write.contents c.write_look.new.output) (look_text asked.is_json these found)) c.as_slice.ensures.value c.in_ok-write_look.ensures in
    (look_text asked.is_json blocks found, found, (blocks, subst (λ (m : Memory). IsLook m found blocks) dump c.in_ok-seen.ensures.seen, refl), wrote, c.status_of.ensures)
