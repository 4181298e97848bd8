-- Lemmas that crates above use: the rule holds of a table whose words are all 0 and whose first seat has all lanes.
use Rattle.std.proofs.Common.{◌≡◌, ◌⊎◌, ℕ, zero, suc, ◌≤◌, true, false, List, [], ◌∷◌, length, refl, sym, ap, ◌∙◌, subst, inl, ⊎_elim, arith}
use Rattle.std.specs.Prelude.{Some, None, slice_index}
use mathlib.Core.Option.{some, some-ne-none, some-injective}
use lib.ListN.{get_elem?}
use Rattle.atomic_table.specs.Table.{opening}
use Rattle.app_core.specs.declared.label.Label.{Label}
use Rattle.app_core.specs.declared.outline.Outline.{Outline}
use Rattle.event_lists.specs.Events.{in_hand}
use Rattle.event_lists.specs.Legal.{IsLane}
use Rattle.event_laws.specs.Follows.{Doing}
use Rattle.world_rule.specs.declared.view.OwnPart.{OwnPart}
use Rattle.world_rule.specs.declared.view.View.{View}
use Rattle.std.specs.Prelude.{replicate}
use Rattle.world_rule.proofs.LaneNameLemmas.{is_lane}
use Rattle.world_rule.proofs.ContainsLemmas.{contains_mapped}
use Rattle.world_rule.specs.Views.{empty_part}
use Rattle.world_rule.specs.CounterWords.{all_lanes, word_at, stop_word, word_count}
use Rattle.world_rule.specs.Shows.{ViewShows, ShowsOneRun, root}

no_words : (n i : ℕ) → slice_index (replicate n 0) i ≡ 0
no_words zero i = refl
no_words (suc n) zero = refl
no_words (suc n) (suc i) = no_words n i

count_of : (n : ℕ) → length {A = ℕ} (replicate n 0) ≡ n
count_of zero = refl
count_of (suc n) = ap suc (count_of n)

pub opens : (ranks workers : ℕ) (program : List Doing) (may : Label → List Outline → Type 0) (words : List ℕ) → ranks ≤ 16 → workers ≤ 4 → words ≡ replicate (word_count ranks) 0 → ShowsOneRun ranks workers program may (opening words [] (root ranks workers))
opens ranks workers program may words few small zeros = record {
  log = [];
  lane_owner = λ _. 0;
  item_owner = λ _. 0;
  task_effects = λ _ _. None;
  drawn = λ _ _. 0;
  few = (few, small);
  legal = tt;
  follows = record { planned = λ r n os e. absurd (cc); goes = tt };
  short = λ l. omega arith;
  words = record { size = ap length zeros ∙ count_of (word_count ranks); zero = ap (λ (ws : List ℕ). slice_index ws 0) zeros ∙ no_words (word_count ranks) 0; each = λ k r h. ap (λ (ws : List ℕ). slice_index ws (word_at k r)) zeros ∙ no_words (word_count ranks) (word_at k r) };
  stop = record {
    one = inl (ap (λ (ws : List ℕ). slice_index ws stop_word) zeros ∙ no_words (word_count ranks) stop_word);
    known = unstopped;
    setter = λ e. absurd (let z = ap (λ (ws : List ℕ). slice_index ws stop_word) zeros ∙ no_words (word_count ranks) stop_word in let y : zero ≡ suc zero = sym z ∙ e in cc);
  };
  views = one;
}
  where
    first : ViewShows ranks workers [] (λ _. 0) (λ _. 0) (λ _ _. None) (λ _ _. 0) 0 (root ranks workers)
    first = record {
      seen = ([], refl);
      told = ([], refl);
      parts = λ p h. let r = contains_mapped empty_part (all_lanes ranks workers) p h in subst (λ (q : OwnPart). (◌≡◌ {A = ℕ} 0 0) × ([] ≡ q.events) × IsLane ranks workers q.lane) r.2 (refl, refl, is_lane ranks workers r.0 r.1);
      hand = λ p c h e. let r = contains_mapped empty_part (all_lanes ranks workers) p h in absurd (let z : None ≡ Some c = ap (λ (q : OwnPart). in_hand q.events) r.2 ∙ e in cc);
      owes = λ o e. absurd (cc);
      looks = (omega arith, omega arith);
      progress = λ b e. absurd (cc);
      idle = λ e p r n h i. refl;
    }

    unstopped : (id : ℕ) (v : View) → get_elem? (root ranks workers ∷ []) id ≡ some v → (v.set_stop ≡ true) ⊎ (v.saw_stop ≡ true) → slice_index words stop_word ≡ 1
    unstopped zero v e s = absurd (let is = some-injective (root ranks workers) v e in ⊎_elim (λ t. let z : false ≡ true = ap (λ (u : View). u.set_stop) is ∙ t in cc) (λ t. let z : false ≡ true = ap (λ (u : View). u.saw_stop) is ∙ t in cc) s)
    unstopped (suc id) v e s = absurd (some-ne-none v (sym e))

    one : (id : ℕ) (v : View) → get_elem? (root ranks workers ∷ []) id ≡ some v → ViewShows ranks workers [] (λ _. 0) (λ _. 0) (λ _ _. None) (λ _ _. 0) id v
    one zero v e = subst (ViewShows ranks workers [] (λ _. 0) (λ _. 0) (λ _ _. None) (λ _ _. 0) 0) (some-injective (root ranks workers) v e) first
    one (suc id) v e = absurd (some-ne-none v (sym e))
