use Rattle.std.proofs.Common.{◌≡◌, ◌∙◌, ◌++◌, ◌∷◌, [], List, ℕ, ap, sym, arith, length, map, replicate}
use Rattle.std.proofs.lemmas.List.{length-map, length-replicate, map-append, replicate_more}
use Rattle.res_update.specs.Device.{Disk}
use Rattle.res_files.specs.Standing.{most_files}
use Rattle.held_files.specs.Forks.{empty_forks, fork_in}
use Rattle.held_files.proofs.files.no_stores.Goals as goal

pub loop-preserved : goal.loop-preserved
loop-preserved c =
    let was = c.loop.stores.items in let one = c.store_of.result in
    ap (map fork_in) c.in_ok-push.ensures.items ∙ map-append fork_in was (one ∷ [])
    ∙ ap (λ (forks : List Disk). forks ++ fork_in one ∷ []) c.loop.invariant
    ∙ ap (λ (fork : Disk). replicate c.loop.counter [] ++ fork ∷ []) (c.store_of.ensures ∙ c.new.ensures.items)
    ∙ replicate_more c.loop.counter []

pub returns-clause-forks : goal.returns-clause-forks
unfolding empty_forks
returns-clause-forks c =
    let all : c.loop.counter ≡ most_files = omega arith in c.loop.invariant ∙ ap (λ (n : ℕ). replicate n []) all

pub returns-clause-count : goal.returns-clause-count
returns-clause-count c =
    let all : c.loop.counter ≡ most_files = omega arith in
    sym (length-map c.loop.stores.items fork_in) ∙ ap length c.loop.invariant ∙ length-replicate c.loop.counter [] ∙ all
