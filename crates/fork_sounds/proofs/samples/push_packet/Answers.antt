use Rattle.std.proofs.Common.{◌≡◌, ℕ, ◌+◌, ◌∙◌, sym, ap}
use Rattle.std.proofs.lemmas.List.{append-nil}
use Rattle.fork_sounds.specs.declared.ima.State.{State}
use Rattle.fork_sounds.specs.Packets.{next, packet_sample, state_after}
use Rattle.fork_sounds.proofs.Steps.{goes_on, state_first, state_step}
use Rattle.fork_sounds.proofs.samples.push_packet.Goals as goal

pub loop-place-init : goal.loop-place-init
loop-place-init c =
    record {
      samples = sym (append-nil c.args.samples.now.items);
      state = c.head-state.ensures ∙ sym (state_first c.args.bytes.now c.args.at);
    }

pub loop-place-preserved : goal.loop-place-preserved
loop-place-preserved c =
    let bytes = c.args.bytes.now in
    let at = c.args.at in
    let place = c.loop-place.place in
    let stepped : c.next-state.result ≡ state_after bytes at (place + 1) =
    c.next-state.ensures
    ∙ ap (λ (state : State). next state c.code_at.result) c.loop-place.invariant.state
    ∙ ap (λ (code : ℕ). next (state_after bytes at place) code) c.code_at.ensures
    ∙ sym (state_step bytes at place) in
    record {
      samples =
          goes_on (packet_sample bytes at) place c.args.samples.now.items c.loop-place.samples.items c.push.new.self.items c.next-state.result.level
          c.loop-place.invariant.samples c.in_ok-push.ensures.items
          (ap (λ (state : State). state.level) stepped);
      state = stepped;
    }
