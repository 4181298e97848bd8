-- One attempt of a pass: four readings in their order, or three where tasks are still to run.
use Rattle.std.proofs.Common.{◌≡◌, ℕ, suc, ◌<◌, ◌≤◌, Bool, true, List, ◌∷◌, refl, sym, ap, subst, ◌∙◌, inl, inr, arith}
use Rattle.std.specs.Prelude.{Some, None, if◌then◌else◌, ◌&&◌, ◌==◌}
use Rattle.std.proofs.lemmas.Bool.{eq-eqb}
use Rattle.app_core.specs.declared.label.Label.{Label}
use Rattle.app_core.specs.declared.outline.Outline.{Outline}
use Rattle.event_lists.specs.declared.event.Event.{Event}
use Rattle.event_lists.specs.declared.event.Event.TheVariants.{ReadHandled, ReadRan, ReadSubmitted, ReadSent}
use Rattle.event_lists.specs.declared.kind.Kind.TheVariants.{Sends as sends, Handlings as handlings, Submissions as submissions, Runs as runs}
use Rattle.event_lists.specs.declared.kind.Reading.{Reading}
use Rattle.event_lists.specs.declared.lane.LaneName.{LaneName}
use Rattle.event_lists.specs.Events.{main_of, part, Begins, count}
use Rattle.event_lists.specs.Fences.{reading, readings, passes, MayOpen, row_of, row_after, IsReady}
use Rattle.event_lists.specs.OwnEvents.{has_receipt_on_lane, IsNextReading}
use Rattle.event_lists.specs.Legal.{Legal}
use Rattle.event_lists.proofs.ListLemmas.{begins_refl, begins_more, begins_trans}
use Rattle.event_lists.proofs.CountLemmas.{count_begins}
use Rattle.world_words.specs.Lanes.{WordsView, LaneView, Grew}
use Rattle.fence_tree.specs.Turns.{StateView, IsInside, Knows, Turned}
use Rattle.fence_tree.proofs.TurnLemmas.{runs_below, inside_after, idle, turned_one, turned_both, knows_after}

module _ {A : Type 0} (words : WordsView A) (may : Label → List Outline → Type 0) (s : StateView) (pass : ℕ) (is : pass ≡ suc s.answered) (zero_ : LaneView) (k : Knows words s s.answered zero_) where
  ready : IsReady words.ranks s.fence pass zero_.seen
  ready d e = (k.last d (omega (arith, is, e))).complete

  pub handled_next : IsNextReading words.ranks zero_.seen zero_.name zero_.mine handlings s.fence pass
  handled_next = (idle words s.rank s.fence zero_ k.read.lane, (let p = k.read.passes in omega (arith, p, is)), (k.read.ended, ready))

  module _ (h : ℕ) (one : LaneView) (g1 : Grew words may (ReadHandled h s.fence pass) None zero_ one) where
    pub inside1 : IsInside words s.rank s.fence one
    inside1 = inside_after words may zero_ one s.rank s.fence (ReadHandled h s.fence pass) g1 k.read.lane refl refl refl

    read1 : readings one.mine ≡ reading handlings h s.fence pass ∷ readings zero_.mine
    read1 = ap readings g1.event

    pub ran_next : IsNextReading words.ranks one.seen one.name one.mine runs s.fence pass
    ran_next = (idle words s.rank s.fence one inside1, (let p = k.read.passes in let q = ap passes read1 in omega (arith, p, q, is)), (h, readings zero_.mine, read1))

    turned1 : Turned s.fence zero_ one
    turned1 = turned_one words may zero_ one s.fence (ReadHandled h s.fence pass) g1 refl k.read.lane.owes refl refl

    module _ (t : ℕ) (two : LaneView) (g2 : Grew words may (ReadRan t s.fence pass) None one two) where
      pub inside2 : IsInside words s.rank s.fence two
      inside2 = inside_after words may one two s.rank s.fence (ReadRan t s.fence pass) g2 inside1 refl refl refl

      read2 : readings two.mine ≡ reading runs t s.fence pass ∷ (reading handlings h s.fence pass ∷ readings zero_.mine)
      read2 = ap readings g2.event ∙ ap (λ (rs : List Reading). reading runs t s.fence pass ∷ rs) read1

      pub submitted_next : IsNextReading words.ranks two.seen two.name two.mine submissions s.fence pass
      submitted_next = (idle words s.rank s.fence two inside2, (let p = k.read.passes in let q = ap passes read2 in omega (arith, p, q, is)), (t, (reading handlings h s.fence pass ∷ readings zero_.mine), read2))

      turned2 : Turned s.fence zero_ two
      turned2 = turned_both s.fence zero_ one two turned1 (turned_one words may one two s.fence (ReadRan t s.fence pass) g2 refl inside1.owes refl refl)

      module _ (u : ℕ) (three : LaneView) (g3 : Grew words may (ReadSubmitted u s.fence pass) None two three) where
        pub inside3 : IsInside words s.rank s.fence three
        inside3 = inside_after words may two three s.rank s.fence (ReadSubmitted u s.fence pass) g3 inside2 refl refl refl

        read3 : readings three.mine ≡ reading submissions u s.fence pass ∷ (reading runs t s.fence pass ∷ (reading handlings h s.fence pass ∷ readings zero_.mine))
        read3 = ap readings g3.event ∙ ap (λ (rs : List Reading). reading submissions u s.fence pass ∷ rs) read2

        pub turned3 : Turned s.fence zero_ three
        turned3 = turned_both s.fence zero_ two three turned2 (turned_one words may two three s.fence (ReadSubmitted u s.fence pass) g3 refl inside2.owes refl refl)

        pub events3 : three.mine ≡ ReadSubmitted u s.fence pass ∷ (ReadRan t s.fence pass ∷ (ReadHandled h s.fence pass ∷ zero_.mine))
        events3 = g3.event ∙ ap (λ (es : List Event). ReadSubmitted u s.fence pass ∷ es) (g2.event ∙ ap (λ (es : List Event). ReadRan t s.fence pass ∷ es) g1.event)

        -- tasks that ran were submitted, so the two numbers are equal where the first isn't below the second
        ran_count : t ≡ count runs s.rank g2.before
        ran_count =
            let legal : Legal words.ranks words.workers two.seen = inside2.legal in
            let here = (subst (Legal words.ranks words.workers) g2.now legal).0.fences.0 in
            here ∙ ap (λ (l : LaneName). count runs l.rank g2.before) inside1.name

        submitted_count : u ≡ count submissions s.rank g3.before
        submitted_count =
            let here = (subst (Legal words.ranks words.workers) g3.now inside3.legal).0.fences.0 in
            here ∙ ap (λ (l : LaneName). count submissions l.rank g3.before) inside2.name

        pub ran_is_below : t ≤ u
        ran_is_below =
            let legal = (subst (Legal words.ranks words.workers) g2.now inside2.legal).1 in
            let later : Begins g2.before g3.before = begins_trans g2.before two.seen g3.before (subst (Begins g2.before) (sym g2.now) (begins_more g2.before g2.before _ (begins_refl g2.before))) g3.knew in
            let at = runs_below words.ranks words.workers s.rank g2.before legal in
            let grows = count_begins submissions s.rank g2.before g3.before later in
            let a = ran_count in
            let b = submitted_count in
            omega (arith, at, grows, a, b)

        pub again : t < u → Knows words s s.answered three
        again less = knows_after words may zero_ three s s.answered s.answered k (record {
          lane = inside3;
          passes = let p = k.read.passes in let q = ap passes read3 in omega (arith, p, q);
          ended = subst MayOpen (sym read3) (inr (refl, λ e. omega (arith, e, less)));
        }) turned3.knew (ap (has_receipt_on_lane s.fence) events3)

        pub sent_next : (t < u → ⊥) → IsNextReading words.ranks three.seen three.name three.mine sends s.fence pass
        sent_next not = (
          idle words s.rank s.fence three inside3,
          (let p = k.read.passes in let q = ap passes read3 in omega (arith, p, q, is)),
          (t, (reading handlings h s.fence pass ∷ readings zero_.mine), read3 ∙ ap (λ (n : ℕ). reading submissions n s.fence pass ∷ (reading runs t s.fence pass ∷ (reading handlings h s.fence pass ∷ readings zero_.mine))) same),
        )
          where
            same : u ≡ t
            same = let b = ran_is_below in omega (arith, b, not)

        module _ (w : ℕ) (four : LaneView) (g4 : Grew words may (ReadSent w s.fence pass) None three four) where
          pub inside4 : IsInside words s.rank s.fence four
          inside4 = inside_after words may three four s.rank s.fence (ReadSent w s.fence pass) g4 inside3 refl refl refl

          read4 : readings four.mine ≡ reading sends w s.fence pass ∷ readings three.mine
          read4 = ap readings g4.event

          pub turned4 : Turned s.fence zero_ four
          turned4 = turned_both s.fence zero_ three four turned3 (turned_one words may three four s.fence (ReadSent w s.fence pass) g4 refl inside3.owes refl refl)

          pub complete : Knows words s (suc s.answered) four
          complete = knows_after words may zero_ four s s.answered (suc s.answered) k (record {
            lane = inside4;
            passes = let p = k.read.passes in let q = ap passes (read4 ∙ ap (λ (rs : List Reading). reading sends w s.fence pass ∷ rs) read3) in omega (arith, p, q);
            ended = subst MayOpen (sym (read4 ∙ ap (λ (rs : List Reading). reading sends w s.fence pass ∷ rs) read3)) (inl refl);
          }) turned4.knew (ap (has_receipt_on_lane s.fence) (g4.event ∙ ap (λ (es : List Event). ReadSent w s.fence pass ∷ es) events3))

          here : ((s.fence == s.fence) && (pass == pass)) ≡ true
          here = ap (λ (b : Bool). b && (pass == pass)) (eq-eqb s.fence s.fence refl) ∙ eq-eqb pass pass refl

          pub row_is : row_of s.fence (suc s.answered) (part (main_of s.rank) four.seen) ≡ Some (record { sent = w; handled = h; tasks = t })
          row_is =
              subst (λ (n : ℕ). row_of s.fence n (part (main_of s.rank) four.seen) ≡ Some (record { sent = w; handled = h; tasks = t })) is
              (subst (λ (l : LaneName). row_of s.fence pass (part l four.seen) ≡ Some (record { sent = w; handled = h; tasks = t })) inside4.name
              (ap (row_of s.fence pass) (inside4.own ∙ g4.event)
              ∙ ap (λ (b : Bool). if b then Some (row_after w (readings three.mine)) else row_of s.fence pass three.mine) here
              ∙ ap (λ (rs : List Reading). Some (row_after w rs)) read3))
