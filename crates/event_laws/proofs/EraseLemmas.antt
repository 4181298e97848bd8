-- Lemmas that crates above use: where an eraser waits for a future that is given after the put, each entry that a begun
-- task erases was put before the task was taken.
use Rattle.std.proofs.Common.{◌≡◌, ℕ, List, [], ◌∷◌, refl, sym, ap, ◌∙◌, subst, inl, inr, ⊎_elim, arith}
use Rattle.std.specs.Prelude.{Option, Some, Contains, map}
use Rattle.app_core.specs.declared.label.Label.{Label}
use Rattle.app_core.specs.declared.label.CellName.{CellName}
use Rattle.app_core.specs.declared.outline.Outline.{Outline}
use Rattle.app_core.specs.declared.outline.Outline.TheVariants as of
use Rattle.event_lists.specs.declared.event.Event.{Event}
use Rattle.event_lists.specs.declared.event.Event.TheVariants.{TookTask, Submitted, Put}
use Rattle.event_lists.specs.declared.event.TaskName.{TaskName}
use Rattle.event_lists.specs.declared.future.Future.{Future}
use Rattle.event_lists.specs.declared.mark.Item.TheVariants.{Task}
use Rattle.event_lists.specs.declared.mark.Mark.{Mark}
use Rattle.event_lists.specs.Events.{Begins, StandsOn, part, takes, IsSubmitted}
use Rattle.event_lists.specs.Futures.{needs_of, IsIn}
use Rattle.event_lists.specs.Counting.{Counting}
use Rattle.event_lists.specs.Dues.{Dues}
use Rattle.event_lists.specs.Legal.{Legal}
use Rattle.event_lists.proofs.ListLemmas.{legal_begins, begins_refl, begins_tail, begins_trans, on_begins}
use Rattle.event_lists.proofs.NameLemmas.{needs_named}
use Rattle.event_laws.specs.Follows.{is_own, bin_of, TaskEffects, Doing, IsRun}
use Rattle.event_laws.specs.Trees.{LabelsAreTree, IsPlaced, IsAbove, same, above, GivesAfterPut, ErasesWait}
use Rattle.event_laws.specs.Apart.{ErasesPut}
use Rattle.event_laws.proofs.MemberLemmas.{contains_cons}
use Rattle.event_laws.proofs.PositionLemmas.{begins_before, follows_begins, taken_stands}
use Rattle.event_laws.proofs.SpawnLemmas.{Spawns, task_spawn}
use Rattle.event_laws.proofs.SourceLemmas.{planned_at, one_name, Source, of_main, of_task, source}
use Rattle.event_laws.proofs.CarriedEffectLemmas.{put_carried}
use Rattle.event_laws.proofs.HomeLemmas.{rank_is, needs_are}
use Rattle.event_laws.proofs.GiveLemmas.{GivenBy, given_by}

-- a label of futures is that of one of them
future_of : (fs : List Future) (l : Label) → Contains (map (λ (f : Future). f.label) fs) l → (f : Future) × IsIn f fs × (f.label ≡ l)
future_of [] l c = let lt = c.1 in absurd (omega arith)
future_of (f ∷ fs) l c = ⊎_elim
    (λ e. (f, inl refl, e))
    (λ k. let r = future_of fs l k in (r.0, inr r.1, r.2))
    (contains_cons f.label l (map (λ (g : Future). g.label) fs) c)

-- a task of this label is taken, and was submitted before
pub record Takes (log : List Mark) (p : Label) : Type 0 where
  pub x : Mark
  pub before : List Mark
  pub begins : Begins (x ∷ before) log
  pub r : ℕ
  pub n : ℕ
  pub t : TaskName
  pub took : x.event ≡ TookTask r n
  pub submitted : IsSubmitted r n t before
  pub label : t.unit ≡ p

takes_task : (e : Event) (r n : ℕ) → takes e ≡ Some (Task r n) → e ≡ TookTask r n
takes_task (TookTask q m) r n t = let rank : q ≡ r = cc in let number : m ≡ n = cc in λ i. TookTask (rank i) (number i)
takes_task e r n t = absurd (cc)

module _ (ranks workers : ℕ) (program : List Doing) (may : Label → List Outline → Type 0) (task_effects : TaskEffects) (end : List Mark) (run : IsRun ranks workers program may task_effects end) where
  -- what a taking asks: the task was submitted, and its needs were given
  takes_at : (x : Mark) (before log : List Mark) → Begins (x ∷ before) log → Begins log end → (r n : ℕ) (t : TaskName) → x.event ≡ TookTask r n → IsSubmitted r n t end → Takes log t.unit
  takes_at x before log b to r n t is s =
      let all = begins_trans (x ∷ before) log end b to in
      let here = legal_begins ranks workers (x ∷ before) end all run.legal in
      let count : Counting ranks before x.lane (part x.lane before) (TookTask r n) = subst (Counting ranks before x.lane (part x.lane before)) is here.0.counting in
      let u = count.2 in
      let back = begins_tail x before end all in
      let names = one_name ranks workers end run.legal r n u.0 t (u.1.0, u.1.1, on_begins u.1.0 (Submitted n u.0) before end back u.1.2) s in
      record { x = x; before = before; begins = b; r = r; n = n; t = t; took = is; submitted = subst (λ (z : TaskName). IsSubmitted r n z before) names u.1; label = refl }

  -- and so was each task of a label above, before
  module _ (parent : Label → Option Label) (tree : LabelsAreTree program may parent) where
    parent_takes : (log : List Mark) (p m : Label) → Begins log end → parent p ≡ Some m → Takes log p → Takes log m
    parent_takes log p m to up k = from (task_spawn ranks workers k.before legal k.r k.n k.t k.submitted)
      where
        back : Begins k.before end
        back = begins_tail k.x k.before end (begins_trans (k.x ∷ k.before) log end k.begins to)

        legal : Legal ranks workers k.before
        legal = legal_begins ranks workers k.before end back run.legal

        up_label : parent (k.t).unit ≡ Some m
        up_label = ap parent k.label ∙ up

        from : Spawns (k.t).unit k.before → Takes log m
        from s = by_source (source ranks workers program may task_effects end run (k.t).unit s.x s.before there s.label)
          where
            there : Begins (s.x ∷ s.before) end
            there = begins_trans (s.x ∷ s.before) k.before end s.begins back

            by_source : Source ranks workers program may task_effects end run (k.t).unit s.x s.before → Takes log m
            by_source (of_main hand lane done o at says unit) = absurd (let e = sym (tree.starts _ o (k.t).unit at unit) ∙ up_label in cc)
            by_source (of_task r n i hand c unit) =
                let v = planned_at ranks workers program may task_effects end run r n c.os s.before (begins_tail s.x s.before end there) c.plan c.taken in
                let e : Some (v.0).unit ≡ Some m = sym (tree.steps (v.0).unit c.os i c.o (k.t).unit v.2 c.here unit) ∙ up_label in
                let label : (v.0).unit ≡ m = cc in
                let a = taken_stands (Task r n) s.before c.taken in
                let in_log = begins_trans s.before k.before log (begins_tail s.x s.before k.before s.begins) (begins_tail k.x k.before log k.begins) in
                subst (Takes log) label (takes_at a.0 a.1 log (begins_trans (a.0 ∷ a.1) s.before log a.2 in_log) to r n v.0 (takes_task a.0.event r n a.3) (v.1.0, v.1.1, on_begins v.1.0 (Submitted n v.0) s.before end (begins_tail s.x s.before end there) v.1.2))

    above_takes : (log : List Mark) (q p : Label) → Begins log end → IsAbove parent q p → Takes log p → Takes log q
    above_takes log q p to (same p' e) k = subst (Takes log) (sym e) k
    above_takes log q p to (above p' m up a) k = above_takes log q m to a (parent_takes log p m to up k)

    module _ (home : Label → ℕ) (needs : Label → List Label) (placed : IsPlaced program may home needs) where
      -- what a task needs was given before it was taken
      need_given : (log : List Mark) (q l : Label) → Begins log end → Contains (needs q) l → (k : Takes log q) → GivenBy task_effects k.before l
      need_given log q l to has k =
          let all = begins_trans (k.x ∷ k.before) log end k.begins to in
          let back = begins_tail k.x k.before end all in
          let legal = legal_begins ranks workers (k.x ∷ k.before) end all run.legal in
          let s = k.submitted in
          let there : IsSubmitted k.r k.n k.t end = (s.0, s.1, on_begins s.0 (Submitted k.n k.t) k.before end back s.2) in
          let contains = needs_are ranks workers program may task_effects end run home needs placed k.r k.n k.t there l (subst (λ (p : Label). Contains (needs p) l) (sym k.label) has) in
          let named = needs_named ranks workers k.before legal.1 s.0 k.n k.t s.2 in
          let at_rank : map (λ (f : Future). f.label) (needs_of (Task k.r k.n) k.before) ≡ (k.t).needs = subst (λ (r : ℕ). map (λ (f : Future). f.label) (needs_of (Task r k.n) k.before) ≡ (k.t).needs) s.1 named in
          let f = future_of (needs_of (Task k.r k.n) k.before) l (subst (λ (ls : List Label). Contains ls l) (sym at_rank) contains) in
          let dues : Dues k.before k.x.lane (part k.x.lane k.before) (TookTask k.r k.n) = subst (Dues k.before k.x.lane (part k.x.lane k.before)) k.took legal.0.dues in
          subst (GivenBy task_effects k.before) f.2 (given_by ranks workers program may task_effects end run f.0 k.before back (dues f.0 f.1))

      -- an entry that is put before a future is given was put where the future was given
      put_first : (log : List Mark) (l : Label) (c : CellName) (r : ℕ) → Begins log end → GivesAfterPut may home l c r → GivenBy task_effects log l → StandsOn (bin_of r c) (Put c) log
      put_first log l c r to after g =
          let d = g.carried in
          let here = begins_tail g.x g.before log g.begins in
          let back = begins_trans g.before log end here to in
          let v = planned_at ranks workers program may task_effects end run g.r g.n d.os g.before back d.plan d.taken in
          let a = after (v.0).unit d.os g.i g.h v.2 (d.here ∙ ap Some g.is) in
          let done = d.before a.1.0 (of.Put c) (ap is_own g.is) a.1.1 a.1.2 refl in
          let stands = put_carried program task_effects g.before (follows_begins program task_effects g.before end back run.follows.goes) g.r g.n a.1.0 d.os c d.plan a.1.2 done in
          let rank = rank_is ranks workers program may task_effects end run home needs placed g.r g.n v.0 (v.1.0, v.1.1, on_begins v.1.0 (Submitted g.n v.0) g.before end back v.1.2) in
          on_begins (bin_of r c) (Put c) g.before log here (subst (λ (q : ℕ). StandsOn (bin_of q c) (Put c) g.before) (rank ∙ a.0) stands)

      pub erases_put : ErasesWait may parent home needs → ErasesPut task_effects end
      erases_put waits r n i os c plan at =
          let p = run.follows.planned r n os plan in
          let w = waits.waits_for p.task.unit os i c p.may_do at in
          let x = taken_stands (Task r n) end p.taken in
          let took = takes_task x.0.event r n x.3 in
          let k = above_takes (x.0 ∷ x.1) w.0 p.task.unit x.2 w.2 (takes_at x.0 x.1 (x.0 ∷ x.1) (begins_refl (x.0 ∷ x.1)) x.2 r n p.task took p.submitted) in
          let put = put_first k.before w.1 c (home p.task.unit) (begins_tail k.x k.before end (begins_trans (k.x ∷ k.before) (x.0 ∷ x.1) end k.begins x.2)) w.4 (need_given (x.0 ∷ x.1) w.0 w.1 x.2 w.3 k) in
          let rank = rank_is ranks workers program may task_effects end run home needs placed r n p.task p.submitted in
          let at_rank : StandsOn (bin_of r c) (Put c) k.before = subst (λ (q : ℕ). StandsOn (bin_of q c) (Put c) k.before) (sym rank) put in
          record { x = x.0; before = x.1; begins = x.2; takes_it = took; was_put = on_begins (bin_of r c) (Put c) k.before x.1 (begins_before k.x x.0 k.before x.1 k.begins) at_rank }
