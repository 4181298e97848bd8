-- The small run that follows its application, one event after another.
use Rattle.std.proofs.Common.{◌≡◌, ℕ, zero, suc, ◌<◌, true, false, List, [], ◌∷◌, take, refl, sym, ap, ◌∙◌, inl, inr, rules, arith}
use Rattle.std.specs.Prelude.{Some, None, slice_get}
use Rattle.app_core.specs.declared.outline.Outline.{Outline}
use Rattle.app_core.specs.declared.outline.Outline.TheVariants as of
use Rattle.event_lists.specs.declared.event.Event.TheVariants.{Submitted, Gave}
use Rattle.event_lists.specs.declared.lane.LaneName.{LaneName}
use Rattle.event_lists.specs.declared.mark.EffectName.{EffectName}
use Rattle.event_lists.specs.declared.mark.Mark.{Mark}
use Rattle.event_lists.specs.Events.{main_of}
use Rattle.event_lists.specs.TaskRuns.{label, main_does}
use Rattle.event_lists.specs.Legal.{Legal}
use Rattle.event_laws.specs.Follows.{IsRun, Planned, FollowsBy, CarriesOut, Start, Wait, effect_name, is_own, owns, carried_out}
use Rattle.event_laws.specs.Runs.{entry, first_unit, second_unit, effects, may_do, program, task_effects, acts, puts_in, begun, has_put, whole_run, started_twice, effect_left_out, given_too_early, put_elsewhere, ran_too_early, DoesNotFollow}

legal_started : Legal 1 0 (main_does 0 (Submitted 0 first_unit) ∷ [])
legal_started = (record { named = (omega arith, omega arith); counting = (refl, refl); dues = (inr (refl, refl), search rules, tt); fences = λ i. refl; bins = refl }, tt)

legal_begun : Legal 1 0 begun
legal_begun = (
  record {
    named = (omega arith, omega arith);
    counting = (refl, refl, (first_unit, (main_of 0, refl, inl (refl, refl))), refl);
    dues = λ f i. absurd i;
    fences = tt;
    bins = refl;
  },
  legal_started,
)

legal_spawned : Legal 1 0 (acts 0 (Submitted 1 second_unit) ∷ begun)
legal_spawned = (record { named = (omega arith, omega arith); counting = (refl, tt); dues = (tt, search rules, tt); fences = λ i. refl; bins = refl }, legal_begun)

legal_put : Legal 1 0 has_put
legal_put = (record { named = (omega arith, omega arith); counting = tt; dues = tt; fences = tt; bins = (refl, refl) }, legal_spawned)

legal_gave : Legal 1 0 (acts 2 (Gave (label 9)) ∷ has_put)
legal_gave = (record { named = (omega arith, omega arith); counting = tt; dues = inr (refl, refl); fences = tt; bins = refl }, legal_put)

legal_run : Legal 1 0 whole_run
legal_run = (record { named = (omega arith, omega arith); counting = (refl, refl); dues = (refl, λ d h. absurd (cc)); fences = tt; bins = refl }, legal_gave)

-- the effects before a place that aren't the hand's own
before_first : (log : List Mark) (j : ℕ) (p : Outline) → j < 0 → carried_out 0 0 j log ≡ true
before_first log j p lt = absurd (omega arith)

before_last : (log : List Mark) → carried_out 0 0 1 log ≡ true → (j : ℕ) (p : Outline) → slice_get effects j ≡ Some p → is_own p ≡ false → carried_out 0 0 j log ≡ true
before_last log put zero p at own = absurd (let e : of.Spawn (label 2) None [] 0 ≡ p = cc in let o : true ≡ false = ap is_own e ∙ own in cc)
before_last log put (suc zero) p at own = put
before_last log put (suc (suc zero)) p at own = absurd (let e : of.Give (label 9) 0 ≡ p = cc in let o : true ≡ false = ap is_own e ∙ own in cc)
before_last log put (suc (suc (suc j))) p at own = absurd (cc)

follows_begun : FollowsBy program task_effects begun
follows_begun = (refl, ((of.Spawn (label 1) (Some (label 9)) [] 0, refl, (0, refl), refl), tt))

carries_spawn : CarriesOut task_effects begun (acts 0 (Submitted 1 second_unit)) 0 0 0
carries_spawn = record { os = effects; o = of.Spawn (label 2) None [] 0; plan = refl; here = refl; says = (1, refl); rank = refl; effect = refl; taken = refl; once = refl; before = λ j p own lt at other. before_first begun j p lt; turn = λ own. refl }

carries_put : CarriesOut task_effects (acts 0 (Submitted 1 second_unit) ∷ begun) (puts_in 2) 0 0 1
carries_put = record { os = effects; o = of.Put entry; plan = refl; here = refl; says = (0, refl); rank = refl; effect = refl; taken = refl; once = refl; before = λ j p own lt at other. absurd (cc); turn = λ own. absurd (cc) }

carries_give : CarriesOut task_effects has_put (acts 2 (Gave (label 9))) 0 0 2
carries_give = record { os = effects; o = of.Give (label 9) 0; plan = refl; here = refl; says = (0, refl); rank = refl; effect = refl; taken = refl; once = refl; before = λ j p own lt at other. before_last has_put refl j p at other; turn = λ own. refl }

follows_run : FollowsBy program task_effects whole_run
follows_run = ((record { os = effects; plan = refl; turn = refl; before = λ j p at own. before_last (acts 2 (Gave (label 9)) ∷ has_put) refl j p at own }, refl), ((2, carries_give), ((0, 0, 1, carries_put, refl), ((0, carries_spawn), follows_begun))))

planned_one : (r n : ℕ) (os : List Outline) → task_effects r n ≡ Some os → Planned may_do whole_run r n os
planned_one zero zero os e = record { task = first_unit; submitted = (main_of 0, refl, inr (inr (inr (inr (inr (inl (refl, refl))))))); taken = refl; may_do = inl (refl, let s : effects ≡ os = cc in sym s) }
planned_one zero (suc n) os e = absurd (cc)
planned_one (suc r) n os e = absurd (cc)

pub run : IsRun 1 0 program may_do task_effects whole_run
run = record { legal = legal_run; follows = record { planned = planned_one; goes = follows_run } }

-- the unit is started twice
pub refused_start : DoesNotFollow started_twice
refused_start h = let o : Some Wait ≡ Some (Start h.0.0) = h.0.1 in absurd (cc)

-- an event that carries out the effect at place 2 of task 0 gives its due
record Gives (log : List Mark) (i : ℕ) (c : CarriesOut task_effects log (acts 2 (Gave (label 9))) 0 0 i) : Type 0 where
  place : i ≡ 2
  list : c.os ≡ effects
  own : is_own c.o ≡ true

gives : (log : List Mark) (i : ℕ) (c : CarriesOut task_effects log (acts 2 (Gave (label 9))) 0 0 i) → Gives log i c
gives log i c =
    let names : Some (effect_name 0 0 2) ≡ Some (effect_name 0 0 i) = c.effect in
    let name : effect_name 0 0 2 ≡ effect_name 0 0 i = cc in
    let place : i ≡ 2 = sym (ap (λ (f : EffectName). f.index) name) in
    let lists : Some effects ≡ Some c.os = c.plan in
    let list : c.os ≡ effects = cc in
    let here : slice_get effects 2 ≡ Some c.o = sym (λ k. slice_get (list k) (place k)) ∙ c.here in
    let outline : of.Give (label 9) 0 ≡ c.o = cc in
    record { place = place; list = list; own = sym (ap is_own outline) }

-- the first effect is left out
pub refused_place : DoesNotFollow effect_left_out
refused_place h =
    let g = gives (puts_in 2 ∷ begun) h.0.0 h.0.1 in
    let turn : owns (take h.0.0 h.0.1.os) ≡ 0 = h.0.1.turn g.own in
    let counted : ◌≡◌ {A = ℕ} 1 0 = sym (λ k. owns (take (g.place k) (g.list k))) ∙ turn in
    absurd (omega arith)

-- the due is given before the entry is put
pub refused_give : DoesNotFollow given_too_early
refused_give h =
    let g = gives (acts 0 (Submitted 1 second_unit) ∷ begun) h.0.0 h.0.1 in
    let lt : 1 < h.0.0 = omega (arith, g.place) in
    let at : slice_get h.0.1.os 1 ≡ Some (of.Put entry) = ap (λ (os : List Outline). slice_get os 1) g.list in
    let put : false ≡ true = h.0.1.before 1 (of.Put entry) g.own lt at refl in
    absurd (cc)

-- the entry is put in another bin
pub refused_bin : DoesNotFollow put_elsewhere
refused_bin h = let place : ◌≡◌ {A = ℕ} 3 2 = ap (λ (l : LaneName). l.number) h.0.4 in absurd (omega arith)

-- the task ends and didn't give its due
pub refused_end : DoesNotFollow ran_too_early
refused_end h =
    let lists : Some effects ≡ Some h.0.0.os = h.0.0.plan in
    let list : h.0.0.os ≡ effects = cc in
    let turn : owns h.0.0.os ≡ 1 = h.0.0.turn in
    let counted : ◌≡◌ {A = ℕ} 2 1 = sym (ap owns list) ∙ turn in
    absurd (omega arith)
