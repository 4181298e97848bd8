-- A future that was given was given by an effect of a task.
use Rattle.std.proofs.Common.{◌≡◌, ◌⊎◌, ℕ, ◌+◌, ◌≤◌, Bool, true, false, List, [], ◌∷◌, refl, sym, ap, ◌∙◌, subst, inl, inr, arith}
use Rattle.std.specs.Prelude.{if◌then◌else◌, Option, Some, None}
use Rattle.app_core.specs.declared.label.Label.{Label}
use Rattle.app_core.specs.declared.outline.Outline.{Outline}
use Rattle.app_core.specs.declared.outline.Outline.TheVariants as of
use Rattle.event_lists.specs.declared.event.Event.{Event}
use Rattle.event_lists.specs.declared.event.Event.TheVariants.{Sent, Gave}
use Rattle.event_lists.specs.declared.event.Parcel.TheVariants.{Give}
use Rattle.event_lists.specs.declared.future.Future.{Future}
use Rattle.event_lists.specs.declared.mark.Item.{Item}
use Rattle.event_lists.specs.declared.mark.Item.TheVariants.{Message, Task}
use Rattle.event_lists.specs.declared.mark.Mark.{Mark}
use Rattle.event_lists.specs.Events.{Begins, part, in_hand}
use Rattle.event_lists.specs.Futures.{is_future, own_due, gives, times_given}
use Rattle.event_lists.specs.Dues.{Dues, Carries, KeepsDue}
use Rattle.event_lists.specs.Laws.{label_of}
use Rattle.event_lists.specs.Legal.{Legal}
use Rattle.event_lists.proofs.ListLemmas.{legal_begins, begins_refl, begins_more, begins_tail, begins_trans}
use Rattle.event_lists.proofs.FutureLemmas.{is_future_some, own_label}
use Rattle.event_lists.proofs.NameLemmas.{all_named}
use Rattle.event_laws.specs.Follows.{TaskEffects, Doing, Acts, Goes, CarriesOut, IsRun}
use Rattle.event_laws.proofs.PositionLemmas.{goes_at, stands_at}
use Rattle.event_laws.proofs.EventEffectLemmas.{gave_is, gives_is}

-- a future that was given has an event that gives it
given_at : (f : Future) (log : List Mark) → 1 ≤ times_given f log → (x : Mark) × (before : List Mark) × Begins (x ∷ before) log × (gives (own_due (in_hand (part x.lane before)) before) x.event ≡ Some f)
given_at f [] m = absurd (omega arith)
given_at f (x ∷ log) m = go (is_future f (gives (own_due (in_hand (part x.lane log)) log) x.event)) refl m (given_at f log)
  where
    go : (b : Bool) → is_future f (gives (own_due (in_hand (part x.lane log)) log) x.event) ≡ b → 1 ≤ (if b then 1 else 0) + times_given f log
        → (1 ≤ times_given f log → (y : Mark) × (before : List Mark) × Begins (y ∷ before) log × (gives (own_due (in_hand (part y.lane before)) before) y.event ≡ Some f))
        → (y : Mark) × (before : List Mark) × Begins (y ∷ before) (x ∷ log) × (gives (own_due (in_hand (part y.lane before)) before) y.event ≡ Some f)
    go true e m rest = (x, log, begins_refl (x ∷ log), is_future_some f (gives (own_due (in_hand (part x.lane log)) log) x.event) e)
    go false e m rest = let r = rest (omega arith) in (r.0, r.1, begins_more (r.0 ∷ r.1) log x r.2, r.3)

-- an effect of a task that gives a future of this label is carried out
pub record GivenBy (task_effects : TaskEffects) (log : List Mark) (l : Label) : Type 0 where
  pub x : Mark
  pub before : List Mark
  pub begins : Begins (x ∷ before) log
  pub r : ℕ
  pub n : ℕ
  pub i : ℕ
  pub carried : CarriesOut task_effects before x r n i
  pub h : ℕ
  pub is : carried.o ≡ of.Give l h

module _ (ranks workers : ℕ) (program : List Doing) (may : Label → List Outline → Type 0) (task_effects : TaskEffects) (end : List Mark) (run : IsRun ranks workers program may task_effects end) where
  -- a task that keeps a due gives it, here or by a message
  by_task : (x : Mark) (before : List Mark) → Begins (x ∷ before) end → (d : Label) → KeepsDue (in_hand (part x.lane before)) d before (part x.lane before) → (x.event ≡ Gave d) ⊎ ((n : ℕ) × (to : ℕ) × (x.event ≡ Sent n to (Give d))) → GivenBy task_effects (x ∷ before) d
  by_task x before b d keeps is = from (in_hand (part x.lane before)) keeps (acts is)
    where
      goes : Goes program task_effects before x (part x.lane before) x.event
      goes = goes_at program task_effects x before end run.follows.goes b

      acts : (x.event ≡ Gave d) ⊎ ((n : ℕ) × (to : ℕ) × (x.event ≡ Sent n to (Give d))) → Acts program task_effects before x (part x.lane before) (in_hand (part x.lane before))
      acts (inl e) = subst (Goes program task_effects before x (part x.lane before)) e goes
      acts (inr e) = subst (Goes program task_effects before x (part x.lane before)) e.2 goes

      give : (r n i : ℕ) (c : CarriesOut task_effects before x r n i) → (x.event ≡ Gave d) ⊎ ((n : ℕ) × (to : ℕ) × (x.event ≡ Sent n to (Give d))) → (h : ℕ) × (c.o ≡ of.Give d h)
      give r n i c (inl e) = (x.lane.rank, gave_is x.lane.rank c.o d (c.says.0, sym e ∙ c.says.1))
      give r n i c (inr e) = (e.1, gives_is x.lane.rank c.o e.0 e.1 d (c.says.0, sym e.2 ∙ c.says.1))

      from : (h : Option Item) → KeepsDue h d before (part x.lane before) → Acts program task_effects before x (part x.lane before) h → GivenBy task_effects (x ∷ before) d
      from None keeps a = absurd keeps
      from (Some (Message r n)) keeps a = absurd keeps
      from (Some (Task r n)) keeps (i, c) = let g = give r n i c is in record { x = x; before = before; begins = begins_refl (x ∷ before); r = r; n = n; i = i; carried = c; h = g.0; is = g.1 }

  within : (old log : List Mark) (l : Label) → Begins old log → GivenBy task_effects old l → GivenBy task_effects log l
  within old log l b g = record { x = g.x; before = g.before; begins = begins_trans (g.x ∷ g.before) old log g.begins b; r = g.r; n = g.n; i = g.i; carried = g.carried; h = g.h; is = g.is }

  -- a future that was given was given by a task
  pub given_by : (f : Future) (log : List Mark) → Begins log end → 1 ≤ times_given f log → GivenBy task_effects log f.label
  given_by f log to m = let a = given_at f log m in at a.0 a.1 a.2 a.3
    where
      at : (x : Mark) (before : List Mark) → Begins (x ∷ before) log → gives (own_due (in_hand (part x.lane before)) before) x.event ≡ Some f → GivenBy task_effects log f.label
      at x before b own = by_event x.event refl here.0.dues own
        where
          all : Begins (x ∷ before) end
          all = begins_trans (x ∷ before) log end b to

          here : Legal ranks workers (x ∷ before)
          here = legal_begins ranks workers (x ∷ before) end all run.legal

          kept : (d : Label) → x.event ≡ Gave d → own_due (in_hand (part x.lane before)) before ≡ Some f → KeepsDue (in_hand (part x.lane before)) d before (part x.lane before) → GivenBy task_effects log f.label
          kept d is own k = within (x ∷ before) log f.label b (subst (GivenBy task_effects (x ∷ before)) (label_is (in_hand (part x.lane before)) own k) (by_task x before all d k (inl is)))
            where
              label_is : (h : Option Item) → own_due h before ≡ Some f → KeepsDue h d before (part x.lane before) → d ≡ f.label
              label_is None own k = absurd k
              label_is (Some (Message r n)) own k = absurd k
              label_is (Some (Task r n)) own k = own_label d f (own_due (Some (Task r n)) before) k.0 own

          carried : (h : Option Item) (d : Label) → own_due h before ≡ Some f → Carries h (Give d) before → GivenBy task_effects log f.label
          carried None d own c = absurd c
          carried (Some (Task r n)) d own c = absurd c
          carried (Some (Message r m)) d own c =
              let sent = c.1 in
              let named = all_named ranks workers before here.1 sent.0 (Sent m c.0 (Give d)) (Message r m) (ap (λ (q : ℕ). Some (Message q m)) sent.1) sent.2 in
              let labels : Some f.label ≡ Some d = sym (ap label_of own) ∙ named in
              let label : d ≡ f.label = cc in
              let z = stands_at sent.0 (Sent m c.0 (Give d)) before sent.2 in
              let z_begins = begins_trans (z.0 ∷ z.1) before end z.2 (begins_tail x before end all) in
              let z_legal = legal_begins ranks workers (z.0 ∷ z.1) end z_begins run.legal in
              let keeps : KeepsDue (in_hand (part z.0.lane z.1)) d z.1 (part z.0.lane z.1) = subst (Dues z.1 z.0.lane (part z.0.lane z.1)) z.4 z_legal.0.dues in
              within (z.0 ∷ z.1) log f.label (begins_trans (z.0 ∷ z.1) before log z.2 (begins_tail x before log b)) (subst (GivenBy task_effects (z.0 ∷ z.1)) label (by_task z.0 z.1 z_begins d keeps (inr (m, c.0, z.4))))

          by_event : (e : Event) → x.event ≡ e → Dues before x.lane (part x.lane before) e → gives (own_due (in_hand (part x.lane before)) before) e ≡ Some f → GivenBy task_effects log f.label
          by_event (Gave d) is (inl c) own = carried (in_hand (part x.lane before)) d own c.0
          by_event (Gave d) is (inr k) own = kept d is own k
          by_event e is d own = absurd (cc)
