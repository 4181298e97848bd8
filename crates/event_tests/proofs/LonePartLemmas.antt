-- Books of one lane.
use Rattle.std.proofs.Common.{◌≡◌, ℕ, ◌≤◌, List, [], ◌∷◌, length, sym, subst, ap, ◌∙◌, arith}
use Rattle.std.specs.Prelude.{All}
use Rattle.std.proofs.lemmas.List.Elements.{All-nil, All-cons}
use Rattle.std.proofs.lemmas.List.Kept.{AllPairs-cons}
use Rattle.event_lists.specs.declared.event.Event.{Event}
use Rattle.event_lists.specs.declared.event.Event.TheVariants.{Enter}
use Rattle.event_lists.specs.Events.{main_of}
use Rattle.event_lists.specs.Legal.{IsLane}
use Rattle.event_books.specs.Books.{PartData, IsBook, IsBefore, HasRows}

-- of rank 0's main, which entered a fence, over one rank without workers
entered_is_book : (f : ℕ) → IsBook (record { ranks = 1; workers = 0; parts = record { lane = main_of 0; events = Enter f ∷ [] } ∷ [] })
entered_is_book f = record {
  ranks = (omega arith, omega arith);
  workers = omega arith;
  named = All-cons (λ (p : PartData). IsLane 1 0 p.lane) one [] (omega arith, omega arith) (All-nil (λ (p : PartData). IsLane 1 0 p.lane));
  ordered = AllPairs-cons (λ (p q : PartData). IsBefore p.lane q.lane) one [] (All-nil (λ (q : PartData). IsBefore one.lane q.lane)) (λ i j d lt within. absurd (omega arith));
  written = All-cons (λ (p : PartData). 1 ≤ length p.events) one [] (omega arith) (All-nil (λ (p : PartData). 1 ≤ length p.events));
  rows = All-cons (λ (p : PartData). All (HasRows 1) p.events) one [] (All-cons (HasRows 1) (Enter f) [] (λ r e. absurd (cc)) (All-nil (HasRows 1))) (All-nil (λ (p : PartData). All (HasRows 1) p.events));
}
  where
    one : PartData
    one = record { lane = main_of 0; events = Enter f ∷ [] }

-- the same, of parts that are known to be so
pub are_book : (f : ℕ) (parts : List PartData) (part : PartData) (events : List Event) → parts ≡ part ∷ []
    → part ≡ record { lane = main_of 0; events = events } → events ≡ Enter f ∷ [] → IsBook (record { ranks = 1; workers = 0; parts = parts })
are_book f parts part events one made entered = subst (λ ps. IsBook (record { ranks = 1; workers = 0; parts = ps }))
    (sym (one ∙ ap (λ p. p ∷ []) (made ∙ ap (λ (es : List Event). record { lane = main_of 0; events = es }) entered))) (entered_is_book f)
