use Rattle.event_books.proofs.BookPartLemmas.{takings_apart, numbers_apart}
use Rattle.event_books.proofs.laws.takings_and_numbers_of_a_lawful_book_are_apart.Goals as goal

pub returns-clause-takings : goal.returns-clause-takings
returns-clause-takings c = takings_apart

pub returns-clause-numbers : goal.returns-clause-numbers
returns-clause-numbers c = numbers_apart
