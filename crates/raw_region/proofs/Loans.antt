-- The list of a region's lent ranges, as ranges are lent and come back.
use Rattle.std.proofs.Common.{List, ◌∷◌, refl, inl}
use Rattle.raw_region.specs.Span.{Span, IsListed}

-- the range that was lent last is listed
pub listed_first : (s : Span) (ss : List Span) → IsListed (s ∷ ss) s
listed_first s ss = inl refl
