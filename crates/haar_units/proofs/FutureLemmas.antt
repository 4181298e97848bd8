-- A future's label determines its creator, and a unit's label its due, home and needs.
use Rattle.std.proofs.Common.{◌≡◌, ◌≢◌, ℕ, zero, suc, ◌+◌, ◌*◌, List, [], ◌∷◌, refl, sym, ap, ◌∙◌, subst, ⊎_elim, arith}
use Rattle.std.specs.Prelude.{Option, Some, None, slice_get, Contains}
use Rattle.app_core.specs.declared.label.Label.{Label}
use Rattle.app_core.specs.declared.outline.Outline.{Outline}
use Rattle.app_core.specs.declared.outline.Outline.TheVariants as of
use Rattle.app_core.specs.Outlines.{named}
use Rattle.event_laws.specs.Trees.{BringsUp, IsPlaced}
use Rattle.event_laws.proofs.MemberLemmas.{none_in, contains_cons}
use Rattle.haar_units.specs.Jobs.{DistributedJob}
use Rattle.haar_units.specs.Units.{label, down_unit, up_unit, erase_unit, key_future, count_future, count_futures, due, needs, home, creator}
use Rattle.haar_units.specs.Starts.{program}
use Rattle.haar_units.specs.Actions.{Allowed}
use Rattle.haar_units.specs.Laws.{MayIsAllowed}
use Rattle.haar_units.proofs.EffectLemmas.{by_effect}
use Rattle.haar_units.proofs.StartLemmas.{IsStart, of_root, of_count, of_sum}
use Rattle.haar_units.proofs.LabelTreeLemmas.{Starting, starting, over_left, over_right}

no_label : {A : Type 0} (l : Label) → Contains [] l → A
no_label l h = absurd (none_in l h)

one_label : (P : Label → Type 0) (a l : Label) → P a → Contains (a ∷ []) l → P l
one_label P a l p h = ⊎_elim (λ e. subst P e p) (λ n. no_label l n) (contains_cons a l [] h)

of_counts : (P : Label → Type 0) (c : ℕ) → ((r : ℕ) → P (count_future c r)) → (first n : ℕ) (l : Label) → Contains (count_futures c first n) l → P l
of_counts P c h first zero l k = no_label l k
of_counts P c h first (suc n) l k = ⊎_elim (λ e. subst P e (h first)) (λ m. of_counts P c h (suc first) n l m) (contains_cons (count_future c first) l (count_futures c (suc first) n) k)

module _ (job : DistributedJob) where
  created_by_start : (o : Outline) (l : Label) → Starting job o → Contains (named o) l → creator l ≡ None
  created_by_start o l s h = go s.is
    where
      go : IsStart job s.command s.i o → creator l ≡ None
      go (of_root w at tree i is) = one_label (λ l. creator l ≡ None) (key_future s.command 1) l refl (subst (λ (z : Outline). Contains (named z) l) (sym is) h)
      go (of_count at lt is) = one_label (λ l. creator l ≡ None) (count_future s.command s.i) l refl (subst (λ (z : Outline). Contains (named z) l) (sym is) h)
      go (of_sum at i is) = ⊎_elim
          (λ e. subst (λ l. creator l ≡ None) e refl)
          (λ k. of_counts (λ l. creator l ≡ None) s.command (λ r. refl) 0 job.ranks l k)
          (contains_cons (key_future s.command 1) l (count_futures s.command 0 job.ranks) (subst (λ (z : Outline). Contains (named z) l) (sym is) h))

  -- the futures of both children
  abbrev CreatedBy : ℕ → ℕ → Label → Type 0
  CreatedBy c x l = creator l ≡ Some (down_unit c x)

  created_by_step : (p : Label) (os : List Outline) (i : ℕ) (o : Outline) (l : Label) → Allowed job p os → slice_get os i ≡ Some o → Contains (named o) l → due p ≢ Some l → creator l ≡ Some p
  created_by_step p os i o l m e h other = by_effect job (λ p o. (l : Label) → Contains (named o) l → due p ≢ Some l → creator l ≡ Some p) (record {
    put = λ w a c x at fit puts_first l h other. no_label l h;
    rest = λ w c x at. record {
      stop = λ fit key l h other. no_label l h;
      left = λ fit key l h other. one_label (CreatedBy c x) (key_future c (2 * x)) l (over_left (λ n. Some (down_unit c n)) None x (key (omega arith))) h;
      right = λ fit key l h other. one_label (CreatedBy c x) (key_future c (2 * x + 1)) l (over_right (λ n. Some (down_unit c n)) None x (key (omega arith))) h;
      above = λ fit key l h other. ⊎_elim
          (λ own. absurd (other (ap Some own)))
          (λ k. ⊎_elim
          (λ left. subst (CreatedBy c x) left (over_left (λ n. Some (down_unit c n)) None x (key (omega arith))))
          (λ k. one_label (CreatedBy c x) (key_future c (2 * x + 1)) l (over_right (λ n. Some (down_unit c n)) None x (key (omega arith))) k)
          (contains_cons (key_future c (2 * x)) l (key_future c (2 * x + 1) ∷ []) k))
          (contains_cons (key_future c x) l (key_future c (2 * x) ∷ key_future c (2 * x + 1) ∷ []) h);
      combine = λ fit key l h other. no_label l h;
      erase_left = λ fit key l h other. no_label l h;
      erase_right = λ fit key l h other. no_label l h;
      merge = λ fit key l h other. no_label l h;
      erased = λ fit key l h other. no_label l h;
      counted = λ fit key l h other. no_label l h;
      summed = λ fit key l h other. no_label l h;
    };
  }) p os i o m e l h other

  -- the due, home and needs of a unit are those of its label
  abbrev IsTold : ℕ → Label → Option Label → List Label → ℕ → Type 0
  IsTold from u d ns h = (d ≡ due u) × (h ≡ home job u) × (ns ≡ needs job u) × (ns ≢ [] → h ≡ from)

  tells : (from : ℕ) (v : Label) (e : Option Label) (ms : List Label) (k : ℕ) → IsTold from v e ms k → (u : Label) (d : Option Label) (ns : List Label) (h : ℕ) → of.Spawn v e ms k ≡ of.Spawn u d ns h → IsTold from u d ns h
  tells from v e ms k is u d ns h same =
      let a : v ≡ u = cc in
      let b : e ≡ d = cc in
      let c : ms ≡ ns = cc in
      let f : k ≡ h = cc in
      subst (λ (z : ℕ). IsTold from u d ns z) f (subst (λ (z : List Label). IsTold from u d z k) c (subst (λ (z : Option Label). IsTold from u z ms k) b (subst (λ (z : Label). IsTold from z e ms k) a is)))

  told_by_start : (o : Outline) → Starting job o → (u : Label) (d : Option Label) (ns : List Label) (h : ℕ) → o ≡ of.Spawn u d ns h → IsTold 0 u d ns h
  told_by_start o s u d ns h e = go s.is
    where
      go : IsStart job s.command s.i o → IsTold 0 u d ns h
      go (of_root w at tree i is) = tells 0 (down_unit s.command 1) (Some (key_future s.command 1)) [] (job.owner 1) (refl, refl, refl, (λ some. absurd (some refl))) u d ns h (is ∙ e)
      go (of_count at lt is) = tells 0 (label s.command 3 s.i) (Some (count_future s.command s.i)) [] s.i (refl, refl, refl, (λ some. absurd (some refl))) u d ns h (is ∙ e)
      go (of_sum at i is) = tells 0 (label s.command 4 1) (Some (key_future s.command 1)) (count_futures s.command 0 job.ranks) 0 (refl, refl, refl, (λ some. refl)) u d ns h (is ∙ e)

  told_by_step : (p : Label) (os : List Outline) (i : ℕ) (o : Outline) → Allowed job p os → slice_get os i ≡ Some o → (u : Label) (d : Option Label) (ns : List Label) (h : ℕ) → o ≡ of.Spawn u d ns h → IsTold (home job p) u d ns h
  told_by_step p os i o m e = by_effect job (λ p o. (u : Label) (d : Option Label) (ns : List Label) (h : ℕ) → o ≡ of.Spawn u d ns h → IsTold (home job p) u d ns h) (record {
    put = λ w a c x at fit puts_first u d ns h e. absurd (cc);
    rest = λ w c x at. record {
      stop = λ fit key u d ns h e. absurd (cc);
      left = λ fit key. tells (job.owner x) (down_unit c (2 * x)) (Some (key_future c (2 * x))) [] (job.owner (2 * x)) (refl, refl, refl, (λ some. absurd (some refl)));
      right = λ fit key. tells (job.owner x) (down_unit c (2 * x + 1)) (Some (key_future c (2 * x + 1))) [] (job.owner (2 * x + 1)) (refl, refl, refl, (λ some. absurd (some refl)));
      above = λ fit key. tells (job.owner x) (up_unit c x) (Some (key_future c x)) (key_future c (2 * x) ∷ key_future c (2 * x + 1) ∷ []) (job.owner x) (refl, refl, refl, (λ some. refl));
      combine = λ fit key u d ns h e. absurd (cc);
      erase_left = λ fit key. tells (job.owner x) (erase_unit c (2 * x)) None [] (job.owner (2 * x)) (refl, refl, refl, (λ some. absurd (some refl)));
      erase_right = λ fit key. tells (job.owner x) (erase_unit c (2 * x + 1)) None [] (job.owner (2 * x + 1)) (refl, refl, refl, (λ some. absurd (some refl)));
      merge = λ fit key u d ns h e. absurd (cc);
      erased = λ fit key u d ns h e. absurd (cc);
      counted = λ fit key u d ns h e. absurd (cc);
      summed = λ fit key u d ns h e. absurd (cc);
    };
  }) p os i o m e

  module _ (may : Label → List Outline → Type 0) (within : MayIsAllowed job may) where
    pub futures : BringsUp (program job) may creator due
    futures = record {
      starts = λ k o l e h. created_by_start o l (starting job k o e) h;
      steps = λ p os i o l m e h other. created_by_step p os i o l (within p os m) e h other;
      start_due = λ k u d ns h e. (told_by_start (of.Spawn u d ns h) (starting job k (of.Spawn u d ns h) e) u d ns h refl).0;
      step_due = λ p os i u d ns h m e. (told_by_step p os i (of.Spawn u d ns h) (within p os m) e u d ns h refl).0;
    }

    pub places : IsPlaced (program job) may (home job) (needs job)
    places = record {
      starts = λ k u d ns h e. let t = told_by_start (of.Spawn u d ns h) (starting job k (of.Spawn u d ns h) e) u d ns h refl in (t.1, t.2, t.3);
      steps = λ p os i u d ns h m e. let t = told_by_step p os i (of.Spawn u d ns h) (within p os m) e u d ns h refl in (t.1, t.2, t.3);
    }
