use Rattle.std.proofs.Common.{rules, ◌≡◌, [], ◌∷◌, ap, reverse}
use Rattle.event_lists.specs.declared.event.Event.TheVariants.{Enter}
use Rattle.event_tests.proofs.books.a_book_gives_back_its_parts.Goals as goal
use Rattle.event_tests.proofs.LonePartLemmas.{are_book}

pub new-book-requires : goal.new-book-requires
new-book-requires g c =
    let entered : c.enter.new.self.events ≡ Enter 1 ∷ [] = cc in
    are_book 1 c.push.new.self.items c.new.result (reverse c.enter.new.self.events) (search rules) (search rules) (ap reverse entered)
