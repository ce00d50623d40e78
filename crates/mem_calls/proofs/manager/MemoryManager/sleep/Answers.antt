use Rattle.std.proofs.Common.{◌≡◌, [], false, sym, subst}
use Rattle.std.specs.Prelude.{IfNone, IfSome, None}
use Rattle.std.proofs.lemmas.Option.{IfSome_then}
use Rattle.mac_base.specs.ZoneState.{ZoneState}
use Rattle.mem_calls.proofs.FlagsTaken.{Sleeps, sleeps}
use Rattle.mem_calls.proofs.manager.MemoryManager.sleep.Goals as goal
use Rattle.mem_calls.proofs.manager.MemoryManager.sleep.Goals.{After-sleep}

-- what it leaves where it falls asleep
slept : (c : After-sleep) → IfSome c.sleep.result (λ region. Sleeps c.args.self.now c.sleep.new.self region.bytes)
slept c =
    subst (λ (z : ZoneState). IfSome c.sleep.result (λ region. Sleeps z c.sleep.new.self region.bytes)) c.self.view_is
    (sleeps c.sleep.result c.self.inside.zone c.sleep.new.self c.sleep.ensures.sound
    (subst (λ (z : ZoneState). z.heap.table.lent ≡ []) (sym c.self.view_is) c.requires.nothing_lent) c.sleep.ensures.asleep c.sleep.ensures.bytes)

pub returns-clause-kept : goal.returns-clause-kept
returns-clause-kept c = IfSome_then c.sleep.result (slept c) (λ region sleeps. sleeps.kept)

pub returns-clause-asleep : goal.returns-clause-asleep
returns-clause-asleep c = IfSome_then c.sleep.result (slept c) (λ region sleeps. sleeps.asleep)

pub returns-clause-own : goal.returns-clause-own
returns-clause-own c = IfSome_then c.sleep.result (slept c) (λ region sleeps. sleeps.own)

pub returns-clause-wakes : goal.returns-clause-wakes
returns-clause-wakes c = IfSome_then c.sleep.result (slept c) (λ region sleeps. sleeps.wakes)

pub returns-clause-as_before : goal.returns-clause-as_before
returns-clause-as_before c = IfSome_then c.sleep.result (slept c) (λ region sleeps. sleeps.as_before)

pub returns-clause-none : goal.returns-clause-none
returns-clause-none c = subst (λ (z : ZoneState). IfNone c.sleep.result ((z.memory.kept ≡ None) × (c.sleep.new.self ≡ z))) c.self.view_is c.sleep.ensures.none
