-- A hand that learns what a bin tells knows that its effect was carried out there.
use Rattle.std.proofs.Common.{◌≡◌, ℕ, true, List, Some, refl, ◌∙◌, ap, inl, inr}
use Rattle.std.specs.Prelude.{◌==◌}
use Rattle.std.proofs.lemmas.Bool.Decides.{eqb_tells}
use Rattle.app_core.specs.declared.label.Label.{Label}
use Rattle.app_core.specs.declared.outline.Outline.{Outline}
use Rattle.event_lists.specs.declared.event.Event.{Event}
use Rattle.event_lists.specs.declared.mark.Mark.{Mark}
use Rattle.event_lists.specs.Events.{Begins}
use Rattle.event_laws.specs.Follows.{carried_out, is_effect, effect_name}
use Rattle.event_laws.proofs.EffectMarkLemmas.{carried_here}
use Rattle.event_laws.proofs.PositionLemmas.{carried_begins}
use Rattle.world_rule.specs.declared.view.Owed.{Owed}
use Rattle.world_rule.specs.declared.view.Progress.{Progress}
use Rattle.world_rule.specs.Owing.{effect_in}
use Rattle.world_rule.specs.Views.{mark, drawn_from}
use Rattle.world_words.specs.Lanes.{WordsView, LaneView, Grew}

is_itself : (a : ℕ) → (a == a) ≡ true
is_itself a = elim (eqb_tells a a) [
  | inl t ↦ t.0
  | inr t ↦ absurd (t.1 refl)
]

same_effect : (r n i : ℕ) → is_effect r n i (Some (effect_name r n i)) ≡ true
same_effect r n i = rw (is_itself r, is_itself n, is_itself i) refl

pub stored_is_known : {A : Type 0} (words : WordsView A) (may : Label → List Outline → Type 0) (e : Event) (b : Progress) (o : Outline) (what : Owed) (lane after : LaneView) (told seen : List Mark)
    → what ≡ drawn_from b o → Grew words may e (effect_in what.pending) lane after → told ≡ after.seen → Begins told seen → carried_out b.rank b.number b.at seen ≡ true
stored_is_known words may e b o what lane after told seen is grew was begins =
    let here : is_effect b.rank b.number b.at (effect_in what.pending) ≡ true = ap (λ (w : Owed). is_effect b.rank b.number b.at (effect_in w.pending)) is ∙ same_effect b.rank b.number b.at in
    carried_begins b.rank b.number b.at told seen begins
    (ap (carried_out b.rank b.number b.at) (was ∙ grew.now) ∙ carried_here b.rank b.number b.at (mark lane.name e (effect_in what.pending)) grew.before here)
