use Rattle.std.proofs.Common.{◌∙◌, ◌++◌, List, ap, sym}
use Rattle.mac_base.specs.GrowZone.{Answer, Ask, may_note, noted}
use Rattle.held_calls.specs.Answers.{Queue, taken}
use Rattle.held_calls.proofs.Queued.{noted-answers, noted-back}
use Rattle.mem_calls.proofs.Carrying.{may_note-last}
use Rattle.held_calls.proofs.answers.AnswerQueueGrowZone.did.Goals as goal

pub note-requires : goal.note-requires
note-requires g c = sym (may_note-last c.pop.new.self.items c.in-Some.ask) ∙ ap may_note (sym c.in-Some.ensures.items ∙ ap (λ (q : Queue). q.asks) c.self.view_is) ∙ c.requires

pub returns-in-Some-clause-asks : goal.returns-in-Some-clause-asks
returns-in-Some-clause-asks g c = c.push.ensures.items ∙ noted-back c.args.call c.args.code c.self.inside.asks.items c.pop.new.self.items c.in-Some.ask c.note.new.self c.in-Some.ensures.items c.note.ensures ∙ ap (λ (q : Queue). noted c.args.call c.args.code q.asks) c.self.view_is

pub returns-in-Some-clause-source : goal.returns-in-Some-clause-source
returns-in-Some-clause-source g c =
    ap (λ (asks : List Ask). taken asks c.self.inside.left.items) (c.push.ensures.items ∙ noted-back c.args.call c.args.code c.self.inside.asks.items c.pop.new.self.items c.in-Some.ask c.note.new.self c.in-Some.ensures.items c.note.ensures)
    ∙ ap (λ (answers : List Answer). answers ++ c.self.inside.left.items) (noted-answers c.args.call c.args.code c.self.inside.asks.items)
    ∙ ap (λ (q : Queue). taken q.asks q.left) c.self.view_is
