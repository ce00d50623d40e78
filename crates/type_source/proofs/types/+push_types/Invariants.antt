use Rattle.type_source.proofs.types.+push_types.Given as goal

abbrev pub decreases-push_types : goal.decreases-push_types
decreases-push_types l = l.most
