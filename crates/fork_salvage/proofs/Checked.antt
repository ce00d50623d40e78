-- Faults, one entry or one reference further.
use Rattle.std.proofs.lemmas.Bool.Decides.{nat_tests}
use Rattle.std.proofs.Common.{◌≡◌, ℕ, suc, ◌+◌, ◌-◌, ◌<◌, ◌≤◌, Bool, true, false, nat_lt, if◌then◌else◌, List, [], ◌∷◌, ◌++◌, length, take, bytes_eq, Option, refl, subst, sym, ap, ◌∙◌, append_assoc, arith}
use Rattle.std.specs.Prelude.{option_to_list}
use Rattle.std.specs.List.{flat_map}
use Rattle.std.proofs.lemmas.Bool.{cond-true, cond-false}
use Rattle.fork_bytes.specs.Fork.{places, Reference, format_limits}
use Rattle.fork_bytes.proofs.Lists as lists
use Rattle.fork_salvage.specs.declared.entry.Types.{Types}
use Rattle.fork_salvage.specs.declared.place.Span.{Span}
use Rattle.fork_salvage.specs.declared.fault.Fault.{Fault}
use Rattle.fork_salvage.specs.Salvage.{told_list, told_plan, may_be_told}
use Rattle.fork_bytes.specs.Fork.{IsForkWithin, RefusesWithin, format_limits}
use Rattle.fork_bytes.specs.declared.fault.Condition.TheVariants as condition
use Rattle.fork_salvage.specs.declared.fault.Fault.TheVariants as fault
use Rattle.fork_salvage.specs.declared.plan.Plan.{Plan}
use Rattle.fork_salvage.specs.Fault.{refusal_of}
use Rattle.fork_salvage.specs.Faults.{earlier_type, entry_faults, entries_faults, parts_faults, lists_faults, map_faults, found_faults}

pub entries_step : (part : Span) (m : List ℕ) (types : Types) (i : ℕ) (done whole : List Fault) (a b : Option Fault) → i < types.count →
    entry_faults part m types i ≡ option_to_list a ++ option_to_list b → done ++ entries_faults part m types i ≡ whole →
    ((done ++ option_to_list a) ++ option_to_list b) ++ entries_faults part m types (i + 1) ≡ whole
entries_step part m types i done whole a b within is so_far =
    let rest = entries_faults part m types (i + 1) in
    append_assoc (done ++ option_to_list a) (option_to_list b) rest ∙ append_assoc done (option_to_list a) (option_to_list b ++ rest)
    ∙ ap (λ (fs : List Fault). done ++ fs) (sym (append_assoc (option_to_list a) (option_to_list b) rest))
    ∙ ap (λ (fs : List Fault). done ++ (fs ++ rest)) (sym is)
    ∙ ap (λ (fs : List Fault). done ++ fs) (sym (ap (flat_map (entry_faults part m types)) (lists.places_step types.count i i (i + 1) 1 within refl))) ∙ so_far

pub rows_step : (f : Reference → List Fault) (done : List Fault) (n m : ℕ) (left rest : List Reference) (reference : Reference) (whole : List Fault) → n ≡ suc m → left ≡ reference ∷ rest →
    done ++ flat_map f (take n left) ≡ whole → (done ++ f reference) ++ flat_map f (take m rest) ≡ whole
rows_step f done n m left rest reference whole more is so_far =
    let P : ℕ → Type 0 = λ k. done ++ flat_map f (take k left) ≡ whole in
    let Q : List Reference → Type 0 = λ all. done ++ flat_map f (take (suc m) all) ≡ whole in
    append_assoc done (f reference) (flat_map f (take m rest)) ∙ subst Q is (subst P more so_far)

-- four faults, if there are some, after others
pub four_more : (done : List Fault) (a b c d e f g h : Option Fault) → a ≡ e → b ≡ f → c ≡ g → d ≡ h →
    (((done ++ option_to_list a) ++ option_to_list b) ++ option_to_list c) ++ option_to_list d
    ≡ done ++ (option_to_list e ++ option_to_list f ++ option_to_list g ++ option_to_list h)
four_more done a b c d e f g h first second third fourth =
    rw (first, second, third, fourth) (simp append_assoc)

-- two faults of a reference that lies within the map
pub two_more : (done : List Fault) (a b e f : Option Fault) (test : Bool) → a ≡ e → b ≡ f → test ≡ false →
    (done ++ option_to_list a) ++ option_to_list b ≡ done ++ (if test then [] else option_to_list e ++ option_to_list f)
two_more done a b e f test first second is =
    rw (first, second) (append_assoc done (option_to_list e) (option_to_list f)) ∙ ap (λ (fs : List Fault). done ++ fs) (sym (cond-false _ _ _ is))

pub not_below : (a b : ℕ) → a ≤ b → nat_lt b a ≡ false
not_below a b low = grind (arith, nat_tests)

-- a fork is not refused
pub not_refused : (fork : List ℕ) (f : Fault) → RefusesWithin format_limits fork (refusal_of f) → IsForkWithin format_limits fork → ⊥
not_refused fork (fault.Header gap) refused is = let long = is.header in omega arith
not_refused fork (fault.TooLong count) refused is = refused.1.fails (is.holds condition.Parts)
not_refused fork (fault.Data gap) refused is = refused.1.fails (is.holds condition.Parts)
not_refused fork (fault.Map gap) refused is = refused.1.fails (is.holds condition.Parts)
not_refused fork (fault.MapHeader gap) refused is = refused.1.fails (is.holds condition.Parts)
not_refused fork (fault.TypeCount gap) refused is = refused.1.fails (is.holds condition.Types)
not_refused fork (fault.TypeList gap) refused is = refused.1.fails (is.holds condition.Types)
not_refused fork (fault.SameType same) refused is = refused.1.fails (is.holds condition.Types)
not_refused fork (fault.References list) refused is = refused.1.fails (is.holds condition.References)
not_refused fork (fault.RowCount excess) refused is = refused.1.fails (is.holds condition.RowCount)
not_refused fork (fault.Name row) refused is = refused.1.fails (is.holds condition.Names)
not_refused fork (fault.Length row) refused is = refused.1.fails (is.holds condition.Places)
not_refused fork (fault.Bytes row) refused is = refused.1.fails (is.holds condition.Places)
not_refused fork (fault.ByteCount row) refused is = refused.1.fails (is.holds condition.ByteCount)

-- what is found where the fork may be read as it says, and where it may not
pub found_told : (fork : List ℕ) (plan : Plan) (done : List Fault) → 16 ≤ length fork → may_be_told fork ≡ true → plan ≡ told_plan fork →
    (done ++ parts_faults fork) ++ lists_faults fork plan ≡ done ++ found_faults fork
found_told fork plan done long told is =
    append_assoc done (parts_faults fork) (lists_faults fork plan)
    ∙ ap (λ (p : Plan). done ++ (parts_faults fork ++ lists_faults fork p)) is
    ∙ ap (λ (fs : List Fault). done ++ (parts_faults fork ++ fs)) (sym (cond-true _ _ _ told))
    ∙ ap (λ (fs : List Fault). done ++ fs) (sym (cond-false _ _ _ (not_below _ _ long)))

pub found_untold : (fork : List ℕ) (done last : List Fault) → 16 ≤ length fork → may_be_told fork ≡ false → last ≡ map_faults fork →
    (done ++ parts_faults fork) ++ last ≡ done ++ found_faults fork
found_untold fork done last long told is =
    append_assoc done (parts_faults fork) last
    ∙ ap (λ (fs : List Fault). done ++ (parts_faults fork ++ fs)) (is ∙ sym (cond-false _ _ _ told))
    ∙ ap (λ (fs : List Fault). done ++ fs) (sym (cond-false _ _ _ (not_below _ _ long)))
