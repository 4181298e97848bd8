use Rattle.haar_units.proofs.PlaceLemmas.{places_have_keys, keys_have_places}
use Rattle.haar_units.proofs.laws.places_are_of_keys.Goals as goal

pub returns-clause-keys : goal.returns-clause-keys
returns-clause-keys c = λ place least. places_have_keys place least

pub returns-clause-places : goal.returns-clause-places
returns-clause-places c = λ k fits. keys_have_places k fits
