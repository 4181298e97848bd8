use Rattle.event_books.proofs.BookExampleLemmas.{is_book, is_lawful, not_in_reverse, not_exchanged}
use Rattle.event_books.proofs.examples.orders_of_parts_are_judged.Goals as goal

pub returns-clause-book : goal.returns-clause-book
returns-clause-book c = is_book

pub returns-clause-lawful : goal.returns-clause-lawful
returns-clause-lawful c = is_lawful c.small_runs_are_judged.ensures.two_passes_and_a_receipt

pub returns-clause-in_reverse : goal.returns-clause-in_reverse
returns-clause-in_reverse c = not_in_reverse

pub returns-clause-exchanged : goal.returns-clause-exchanged
returns-clause-exchanged c = not_exchanged
