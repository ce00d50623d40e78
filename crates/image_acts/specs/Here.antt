-- A place in an image, as the code has it.
use Rattle.image_acts.specs.Places.{Place}
use Rattle.image_acts.specs.declared.word.ImagePlace.{ImagePlace}

abbrev pub here : ImagePlace → Place
here place = record { image = place.image.now; path = place.path.now }
