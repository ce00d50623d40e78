use Rattle.std.proofs.Common.{◌≡◌, ◌∙◌, ℕ, List, [], ap, subst, sym}
use Rattle.raw_region.specs.State.{State as Region}
use Rattle.mem_calls.proofs.FlagsTaken.{part-all}
use Rattle.held_calls.specs.declared.loans.Held.{Held}
use Rattle.held_calls.specs.Holding.{Holds, loans_of}
use Rattle.held_zone.specs.Asleep.{IsSettled}
use Rattle.held_zone.specs.Fields.{fielded, managed}
use Rattle.held_zone.specs.KeptFlags.{KeepsFlags}
use Rattle.held_zone.specs.Repairing.{IsMended}
use Rattle.held_zone.specs.State.{State}
use Rattle.held_zone.proofs.Guests.{managed-long, mended}
use Rattle.held_zone.proofs.Made.{state, waits-on}
use Rattle.held_zone.proofs.Sleeping.{nothing_held}
use Rattle.held_zone.proofs.Written.{Holds-none}
use Rattle.held_zone.proofs.session.Session.repair.Goals as goal

pub keep_flags-requires-clause-long : goal.keep_flags-requires-clause-long
keep_flags-requires-clause-long c =
    c.bytes.ensures.len ∙ c.len.ensures ∙ managed-long c.args.region c.put_aside-fields.new.region c.put_aside-fields.ensures.region ∙ c.requires.long
    ∙ sym (ap (λ (s : State). s.zone.shape.limit) c.self.view_is)

pub invariant_of-self : goal.invariant_of-self
invariant_of-self c =
    let inside = c.self.inside in let now = c.keep_flags.new.memory in
    let none : inside.memory.heap.table.lent ≡ [] = ap (λ (s : State). s.zone.heap.table.lent) c.self.view_is ∙ c.requires.asleep.nothing_lent in
    let held = nothing_held inside.memory inside.loans none c.self.invariant.0 in (
      subst (λ (hs : List Held). Holds now hs) (sym held) (Holds-none now (c.keep_flags.ensures.lent ∙ none)),
      waits-on inside.memory now inside.waiting.items c.keep_flags.ensures.memory c.self.invariant.1,
    )

pub settle-region-requires-clause-long : goal.settle-region-requires-clause-long
settle-region-requires-clause-long c =
    managed-long c.args.region c.put_aside-fields.new.region c.put_aside-fields.ensures.region ∙ c.requires.long
    ∙ sym (ap (λ (s : State). s.zone.shape.limit) c.self.view_is) ∙ sym (ap (λ s. s.limit) c.keep_flags.ensures.shape)

pub returns-clause-mended : goal.returns-clause-mended
returns-clause-mended c =
    let inside = c.self.inside in let given = c.args.region in let z = c.keep_flags.new.memory in let region = c.put_aside-fields.new.region in
    let old : State = state inside.memory (loans_of inside.loans) inside.answers.left inside.answers.asks inside.waiting.items inside.guest inside.purges in
    let new : State = record old { zone = z } in
    let bytes : c.bytes.result.now ≡ managed given.bytes = c.bytes.ensures.value ∙ part-all region.bytes c.len.result c.len.ensures ∙ ap (λ (r : Region). r.bytes) c.put_aside-fields.ensures.region in
    let flags = subst (λ (xs : List ℕ). KeepsFlags inside.memory xs inside.waiting.items z) bytes (subst (λ (xs : List ℕ). KeepsFlags inside.memory c.bytes.result.now xs z) c.as_slice-waiting.ensures.value c.keep_flags.ensures) in
    let settled = subst (λ (r : Region). IsSettled new r c.settle-region.result) c.put_aside-fields.ensures.region c.settle-region.ensures in
    subst (λ (r : Region). IsMended c.args.self.now given r new) (sym c.write_in.ensures.region)
    (subst (λ (s : State). IsMended s given (fielded c.put_aside-fields.result c.settle-region.result) new) c.self.view_is (mended old z given c.settle-region.result c.put_aside-fields.result c.put_aside-fields.ensures.fields c.write_in.ensures.fields flags settled))
