use Rattle.std.proofs.Common.{◌≡◌, ◌/◌, ◌%◌, ap, ◌∙◌, arith, Bool, length}
use Rattle.fork_pictures.specs.declared.pixel.Colour.{Colour}
use Rattle.fork_pictures.specs.declared.pixel.Pixel.{Pixel}
use Rattle.fork_pictures.specs.Colours.{black, colour_of}
use Rattle.fork_pictures.specs.Drawings.{levels_of, value_of}
use Rattle.fork_pictures.proofs.Steps.{by_place, long_by_places}
use Rattle.fork_pictures.proofs.drawing.Drawing.pixel.Goals as goal

pub bounds-colours-value : goal.bounds-colours-value
bounds-colours-value c =
    let long : length c.args.colours.now ≡ levels_of c.args.self.now =
    long_by_places (colour_of c.args.self.now.colours c.args.bytes.now) (levels_of c.args.self.now) c.args.colours.now c.requires.colours in
    omega (arith, c.value-value.ensures.below)

pub returns : goal.returns
returns c =
    let own = c.args.self.now in
    let colour = colour_of own.colours c.args.bytes.now in
    let value = value_of own c.args.bytes.now (c.args.place % own.width) (c.args.place / own.width) in
    let with_colour : Colour → Pixel = λ one. record { colour = one; is_seen = c.is_seen.result } in
    let with_seen : Bool → Pixel = λ seen. record { colour = colour value; is_seen = seen } in
    ap with_colour
    (by_place colour (levels_of own) c.value-value.result c.args.colours.now black c.requires.colours c.value-value.ensures.below ∙ ap colour c.value-value.ensures.is)
    ∙ ap with_seen c.is_seen.ensures
