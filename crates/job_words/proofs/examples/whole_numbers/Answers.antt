use Rattle.std.proofs.Common.{refl}
use Rattle.job_words.proofs.examples.whole_numbers.Goals as goal

pub returns-clause-zero : goal.returns-clause-zero
returns-clause-zero c = refl

pub returns-clause-leading_zeros : goal.returns-clause-leading_zeros
returns-clause-leading_zeros c = refl

pub returns-clause-most_digits : goal.returns-clause-most_digits
returns-clause-most_digits c = refl

pub returns-clause-least : goal.returns-clause-least
returns-clause-least c = refl

pub returns-clause-too_many_digits : goal.returns-clause-too_many_digits
returns-clause-too_many_digits c = refl

pub returns-clause-no_digit : goal.returns-clause-no_digit
returns-clause-no_digit c = refl

pub returns-clause-two_minuses : goal.returns-clause-two_minuses
returns-clause-two_minuses c = refl

pub returns-clause-plus : goal.returns-clause-plus
returns-clause-plus c = refl
