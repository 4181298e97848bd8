use Rattle.event_books.proofs.WrittenPartLemmas.{parts_are_of_a_book}
use Rattle.event_books.proofs.laws.parts_of_a_legal_list_are_a_book.Goals as goal

pub returns : goal.returns
returns c = parts_are_of_a_book
