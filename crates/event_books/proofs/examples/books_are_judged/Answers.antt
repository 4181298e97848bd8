use Rattle.event_books.proofs.BookExampleLemmas.{is_in_order, hands_by_number, bins_by_number, bins_before_hands, a_lane_twice, a_lane_without_events, no_such_lane, a_row_too_few, a_row_too_many}
use Rattle.event_books.proofs.examples.books_are_judged.Goals as goal

pub returns-clause-in_order : goal.returns-clause-in_order
returns-clause-in_order c = is_in_order

pub returns-clause-hands_by_number : goal.returns-clause-hands_by_number
returns-clause-hands_by_number c = hands_by_number

pub returns-clause-bins_by_number : goal.returns-clause-bins_by_number
returns-clause-bins_by_number c = bins_by_number

pub returns-clause-bins_before_hands : goal.returns-clause-bins_before_hands
returns-clause-bins_before_hands c = bins_before_hands

pub returns-clause-a_lane_twice : goal.returns-clause-a_lane_twice
returns-clause-a_lane_twice c = a_lane_twice

pub returns-clause-a_lane_without_events : goal.returns-clause-a_lane_without_events
returns-clause-a_lane_without_events c = a_lane_without_events

pub returns-clause-no_such_lane : goal.returns-clause-no_such_lane
returns-clause-no_such_lane c = no_such_lane

pub returns-clause-a_row_too_few : goal.returns-clause-a_row_too_few
returns-clause-a_row_too_few c = a_row_too_few

pub returns-clause-a_row_too_many : goal.returns-clause-a_row_too_many
returns-clause-a_row_too_many c = a_row_too_many
