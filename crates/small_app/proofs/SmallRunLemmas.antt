-- The examples: the run of the small application on two ranks, one event after another, and what its other premises ask for.
use Rattle.std.proofs.Common.{◌≡◌, ℕ, zero, suc, ◌<◌, ◌≤◌, Bool, true, false, List, [], ◌∷◌, refl, sym, ap, subst, ◌∙◌, inl, inr, rules, arith}
use Rattle.std.specs.Prelude.{Some, slice_get, ◌||◌, ◌&&◌}
use Rattle.std.proofs.lemmas.Bool.{and_parts}
use Rattle.app_core.specs.declared.outline.Outline.{Outline}
use Rattle.app_core.specs.declared.outline.Outline.TheVariants as of
use Rattle.app_core.specs.Outlines.{same_label}
use Rattle.event_lists.specs.declared.event.Event.TheVariants.{Sent, TookMessage, TookTask, Handled, Submitted, Ran, Gave, Put, Erased, Enter, Leave, ReadHandled, ReadRan, ReadSubmitted, ReadSent, Receipt as Receives}
use Rattle.event_lists.specs.declared.event.Parcel.TheVariants.{Unit as Spawned, Give}
use Rattle.event_lists.specs.declared.future.Bringer.TheVariants.{Task as task_by}
use Rattle.event_lists.specs.declared.future.Future.{Future}
use Rattle.event_lists.specs.declared.kind.Kind.TheVariants.{Sends as sends, Handlings as handlings, Submissions as submissions, Runs as runs}
use Rattle.event_lists.specs.declared.mark.Mark.{Mark}
use Rattle.event_lists.specs.declared.receipt.Row.{Row}
use Rattle.event_lists.specs.Events.{main_of, part}
use Rattle.event_lists.specs.Futures.{times_given, IsIn}
use Rattle.event_lists.specs.Fences.{reading, row_of, IsComplete, IsReady}
use Rattle.event_lists.specs.Legal.{Legal}
use Rattle.event_lists.specs.TaskRuns.{main_does}
use Rattle.event_laws.specs.Follows.{IsRun, Planned, FollowsBy, CarriesOut, is_own, carried_out}
use Rattle.event_laws.specs.Held.{HasReceipt, AllSound, HasNoWriter}
use Rattle.small_app.specs.declared.unit.Unit.TheVariants.{Fill, Leaf, Sum, Clear, Guessed}
use Rattle.small_app.specs.declared.guess.GuessUnit.TheVariants.{Early, Late}
use Rattle.small_app.specs.Small.{kinds, first_result, leaf_future, leaf_entry, leaf_value, label_of, kept_at, step_of, told, MayDo}
use Rattle.small_app.specs.SmallUnits.{program, no_inputs, outlines_of, writer_of, IsSound}
use Rattle.app_core.proofs.CountLemmas.{some_is}
use Rattle.small_app.specs.SmallTree.{spawn}
use Rattle.small_app.specs.SmallRun.{fill_task, left_task, right_task, sum_task, clear_task, task_effects, acts, stores, row_0, row_1, receipt, second_pass, whole_run}

-- what holds of both ranks holds of each
each_rank : (P : ℕ → Type 0) → P 0 → P 1 → (q : ℕ) → q < 2 → P q
each_rank P a b zero lt = a
each_rank P a b (suc zero) lt = b
each_rank P a b (suc (suc q)) lt = absurd (omega (arith, lt))

complete : (p : ℕ) (log : List Mark) (a b : Row) → row_of 1 p (part (main_of 0) log) ≡ Some a → row_of 1 p (part (main_of 1) log) ≡ Some b → IsComplete 2 1 p log
complete p log a b i j = each_rank (λ q. (r : Row) × (row_of 1 p (part (main_of q) log) ≡ Some r)) (a, i) (b, j)

ready_first : (log : List Mark) → IsReady 2 1 1 log
ready_first log d e = absurd (omega arith)

ready_second : (log : List Mark) (a b : Row) → row_of 1 1 (part (main_of 0) log) ≡ Some a → row_of 1 1 (part (main_of 1) log) ≡ Some b → IsReady 2 1 2 log
ready_second log a b i j d e = subst (λ (z : ℕ). IsComplete 2 1 (suc z) log) (let k : 0 ≡ d = omega arith in k) (complete 1 log a b i j)

-- whether all of these effects that aren't the hand's own are done, by their places
abbrev stores_done : (ℕ → Bool) → List Outline → Bool
stores_done done [] = true
stores_done done (o ∷ os) = (is_own o || done 0) && stores_done (λ j. done (suc j)) os

stored : (done : ℕ → Bool) (os : List Outline) → stores_done done os ≡ true → (j : ℕ) (p : Outline) → slice_get os j ≡ Some p → is_own p ≡ false → done j ≡ true
stored done [] e j p at own = absurd (cc)
stored done (o ∷ os) e zero p at own = let same : o ≡ p = some_is o p at in here (is_own o) (done 0) (ap is_own same ∙ own) (and_parts (is_own o || done 0) (stores_done (λ j. done (suc j)) os) e).0
  where
    here : (a b : Bool) → a ≡ false → (a || b) ≡ true → b ≡ true
    here true b f t = absurd (cc)
    here false b f t = t
stored done (o ∷ os) e (suc j) p at own = stored (λ j. done (suc j)) os (and_parts (is_own o || done 0) (stores_done (λ j. done (suc j)) os) e).1 j p at own

-- the sum's needs are dues of the two leaves
needed_is_due : (sum right left : Bool) → ((left || (right || false)) || false) ≡ true → (sum || (right || (left || false))) ≡ true
needed_is_due true right left e = refl
needed_is_due false true left e = refl
needed_is_due false false true e = refl
needed_is_due false false false e = e

-- the futures that the sum needs
abbrev need : Bool → Future
need right = record { by = task_by 0 0; label = leaf_future right }

needs_given : (log : List Mark) (f : Future) → times_given (need false) log ≡ 1 → times_given (need true) log ≡ 1 → IsIn f (need false ∷ need true ∷ []) → 1 ≤ times_given f log
needs_given log f a b (inl e) = subst (λ (g : Future). 1 ≤ times_given g log) e (omega (arith, a))
needs_given log f a b (inr (inl e)) = subst (λ (g : Future). 1 ≤ times_given g log) e (omega (arith, b))
needs_given log f a b (inr (inr i)) = absurd i

abbrev at_0 : List Mark
at_0 = []

abbrev at_1 : List Mark
at_1 = main_does 0 (Submitted 0 fill_task) ∷ at_0

abbrev at_2 : List Mark
at_2 = main_does 0 (TookTask 0 0) ∷ at_1

abbrev at_3 : List Mark
at_3 = acts 0 0 0 (Sent 0 1 (Spawned (label_of (Leaf false (leaf_value false))) (Some (leaf_future false)))) ∷ at_2

abbrev at_4 : List Mark
at_4 = acts 0 0 1 (Submitted 1 right_task) ∷ at_3

abbrev at_5 : List Mark
at_5 = acts 0 0 2 (Submitted 2 sum_task) ∷ at_4

abbrev at_6 : List Mark
at_6 = main_does 0 (Ran 0 0 0) ∷ at_5

abbrev at_7 : List Mark
at_7 = main_does 1 (TookMessage 0 0) ∷ at_6

abbrev at_8 : List Mark
at_8 = main_does 1 (Submitted 0 left_task) ∷ at_7

abbrev at_9 : List Mark
at_9 = main_does 1 (Handled 0 0 0) ∷ at_8

abbrev at_10 : List Mark
at_10 = main_does 1 (TookTask 1 0) ∷ at_9

abbrev at_11 : List Mark
at_11 = stores 1 2 0 0 (Put (leaf_entry false)) ∷ at_10

abbrev at_12 : List Mark
at_12 = acts 1 0 1 (Sent 0 0 (Give (leaf_future false))) ∷ at_11

abbrev at_13 : List Mark
at_13 = main_does 1 (Ran 0 1 0) ∷ at_12

abbrev at_14 : List Mark
at_14 = main_does 0 (TookTask 0 1) ∷ at_13

abbrev at_15 : List Mark
at_15 = stores 0 3 1 0 (Put (leaf_entry true)) ∷ at_14

abbrev at_16 : List Mark
at_16 = acts 0 1 1 (Gave (leaf_future true)) ∷ at_15

abbrev at_17 : List Mark
at_17 = main_does 0 (Ran 1 0 1) ∷ at_16

abbrev at_18 : List Mark
at_18 = main_does 0 (TookMessage 1 0) ∷ at_17

abbrev at_19 : List Mark
at_19 = main_does 0 (Gave (leaf_future false)) ∷ at_18

abbrev at_20 : List Mark
at_20 = main_does 0 (Handled 0 1 0) ∷ at_19

abbrev at_21 : List Mark
at_21 = main_does 0 (TookTask 0 2) ∷ at_20

abbrev at_22 : List Mark
at_22 = acts 0 2 0 (Submitted 3 clear_task) ∷ at_21

abbrev at_23 : List Mark
at_23 = acts 0 2 1 (Gave first_result) ∷ at_22

abbrev at_24 : List Mark
at_24 = main_does 0 (Ran 2 0 2) ∷ at_23

abbrev at_25 : List Mark
at_25 = main_does 0 (TookTask 0 3) ∷ at_24

abbrev at_26 : List Mark
at_26 = stores 0 3 3 0 (Erased (leaf_entry true)) ∷ at_25

abbrev at_27 : List Mark
at_27 = main_does 0 (Ran 3 0 3) ∷ at_26

abbrev at_28 : List Mark
at_28 = main_does 0 (Enter 1) ∷ at_27

abbrev at_29 : List Mark
at_29 = main_does 1 (Enter 1) ∷ at_28

abbrev at_30 : List Mark
at_30 = main_does 0 (ReadHandled 1 1 1) ∷ at_29

abbrev at_31 : List Mark
at_31 = main_does 0 (ReadRan 4 1 1) ∷ at_30

abbrev at_32 : List Mark
at_32 = main_does 0 (ReadSubmitted 4 1 1) ∷ at_31

abbrev at_33 : List Mark
at_33 = main_does 0 (ReadSent 1 1 1) ∷ at_32

abbrev at_34 : List Mark
at_34 = main_does 1 (ReadHandled 1 1 1) ∷ at_33

abbrev at_35 : List Mark
at_35 = main_does 1 (ReadRan 1 1 1) ∷ at_34

abbrev at_36 : List Mark
at_36 = main_does 1 (ReadSubmitted 1 1 1) ∷ at_35

abbrev at_37 : List Mark
at_37 = main_does 1 (ReadSent 1 1 1) ∷ at_36

abbrev at_38 : List Mark
at_38 = main_does 0 (ReadHandled 1 1 2) ∷ at_37

abbrev at_39 : List Mark
at_39 = main_does 0 (ReadRan 4 1 2) ∷ at_38

abbrev at_40 : List Mark
at_40 = main_does 0 (ReadSubmitted 4 1 2) ∷ at_39

abbrev at_41 : List Mark
at_41 = main_does 0 (ReadSent 1 1 2) ∷ at_40

abbrev at_42 : List Mark
at_42 = main_does 1 (ReadHandled 1 1 2) ∷ at_41

abbrev at_43 : List Mark
at_43 = main_does 1 (ReadRan 1 1 2) ∷ at_42

abbrev at_44 : List Mark
at_44 = main_does 1 (ReadSubmitted 1 1 2) ∷ at_43

abbrev at_45 : List Mark
at_45 = main_does 1 (ReadSent 1 1 2) ∷ at_44

abbrev at_46 : List Mark
at_46 = main_does 0 (Receives receipt) ∷ at_45

abbrev at_47 : List Mark
at_47 = main_does 0 (Leave 1) ∷ at_46

abbrev at_48 : List Mark
at_48 = main_does 1 (Leave 1) ∷ at_47

-- the list is legal

legal_0 : Legal 2 0 at_0
legal_0 = tt

legal_1 : Legal 2 0 at_1
legal_1 = (record { named = (omega arith, omega arith); counting = (refl, refl); dues = (inr (refl, refl), search rules, tt); fences = λ i. refl; bins = refl }, legal_0)

legal_2 : Legal 2 0 at_2
legal_2 = (record { named = (omega arith, omega arith); counting = (refl, refl, (fill_task, (main_of 0, refl, inl (refl, refl))), refl); dues = λ f i. absurd i; fences = tt; bins = refl }, legal_1)

legal_3 : Legal 2 0 at_3
legal_3 = (record { named = (omega arith, omega arith); counting = (refl, tt, omega arith, λ e. absurd (omega (arith, e))); dues = inr (refl, refl); fences = λ i. refl; bins = refl }, legal_2)

legal_4 : Legal 2 0 at_4
legal_4 = (record { named = (omega arith, omega arith); counting = (refl, tt); dues = (inr (refl, refl), search rules, tt); fences = λ i. refl; bins = refl }, legal_3)

legal_5 : Legal 2 0 at_5
legal_5 = (record { named = (omega arith, omega arith); counting = (refl, tt); dues = (inl (refl, refl), search rules, (refl, refl, (refl, refl, tt))); fences = λ i. refl; bins = refl }, legal_4)

legal_6 : Legal 2 0 at_6
legal_6 = (record { named = (omega arith, omega arith); counting = (refl, refl); dues = (refl, λ d h. needed_is_due (same_label d first_result) (same_label d (leaf_future true)) (same_label d (leaf_future false)) h); fences = tt; bins = refl }, legal_5)

legal_7 : Legal 2 0 at_7
legal_7 = (record { named = (omega arith, omega arith); counting = (refl, (Spawned (label_of (Leaf false (leaf_value false))) (Some (leaf_future false)), (main_of 0, refl, inr (inr (inr (inl (refl, refl)))))), refl); dues = tt; fences = tt; bins = refl }, legal_6)

legal_8 : Legal 2 0 at_8
legal_8 = (record { named = (omega arith, omega arith); counting = (refl, tt); dues = ((1, (main_of 0, refl, inr (inr (inr (inr (inl (refl, refl))))))), refl, refl); fences = λ i. refl; bins = refl }, legal_7)

legal_9 : Legal 2 0 at_9
legal_9 = (record { named = (omega arith, omega arith); counting = (refl, refl); dues = refl; fences = tt; bins = refl }, legal_8)

legal_10 : Legal 2 0 at_10
legal_10 = (record { named = (omega arith, omega arith); counting = (refl, refl, (left_task, (main_of 1, refl, inr (inl (refl, refl)))), refl); dues = λ f i. absurd i; fences = tt; bins = refl }, legal_9)

legal_11 : Legal 2 0 at_11
legal_11 = (record { named = (omega arith, omega arith); counting = tt; dues = tt; fences = tt; bins = (refl, refl) }, legal_10)

legal_12 : Legal 2 0 at_12
legal_12 = (record { named = (omega arith, omega arith); counting = (refl, tt, omega arith, λ e. absurd (omega (arith, e))); dues = (refl, refl); fences = λ i. refl; bins = refl }, legal_11)

legal_13 : Legal 2 0 at_13
legal_13 = (record { named = (omega arith, omega arith); counting = (refl, refl); dues = (refl, λ d h. absurd (cc)); fences = tt; bins = refl }, legal_12)

legal_14 : Legal 2 0 at_14
legal_14 = (record { named = (omega arith, omega arith); counting = (refl, refl, (right_task, (main_of 0, refl, inr (inr (inr (inr (inr (inr (inr (inr (inr (inl (refl, refl)))))))))))), refl); dues = λ f i. absurd i; fences = tt; bins = refl }, legal_13)

legal_15 : Legal 2 0 at_15
legal_15 = (record { named = (omega arith, omega arith); counting = tt; dues = tt; fences = tt; bins = (refl, refl) }, legal_14)

legal_16 : Legal 2 0 at_16
legal_16 = (record { named = (omega arith, omega arith); counting = tt; dues = inr (refl, refl); fences = tt; bins = refl }, legal_15)

legal_17 : Legal 2 0 at_17
legal_17 = (record { named = (omega arith, omega arith); counting = (refl, refl); dues = (refl, λ d h. absurd (cc)); fences = tt; bins = refl }, legal_16)

legal_18 : Legal 2 0 at_18
legal_18 = (record { named = (omega arith, omega arith); counting = (refl, (Give (leaf_future false), (main_of 1, refl, inr (inr (inr (inr (inr (inl (refl, refl)))))))), refl); dues = tt; fences = tt; bins = refl }, legal_17)

legal_19 : Legal 2 0 at_19
legal_19 = (record { named = (omega arith, omega arith); counting = tt; dues = inl ((0, (main_of 1, refl, inr (inr (inr (inr (inr (inr (inl (refl, refl))))))))), refl); fences = tt; bins = refl }, legal_18)

legal_20 : Legal 2 0 at_20
legal_20 = (record { named = (omega arith, omega arith); counting = (refl, refl); dues = refl; fences = tt; bins = refl }, legal_19)

legal_21 : Legal 2 0 at_21
legal_21 = (record { named = (omega arith, omega arith); counting = (refl, refl, (sum_task, (main_of 0, refl, inr (inr (inr (inr (inr (inr (inr (inr (inr (inr (inr (inr (inr (inr (inr (inl (refl, refl)))))))))))))))))), refl); dues = λ f i. needs_given at_20 f refl refl i; fences = tt; bins = refl }, legal_20)

legal_22 : Legal 2 0 at_22
legal_22 = (record { named = (omega arith, omega arith); counting = (refl, tt); dues = (tt, search rules, tt); fences = λ i. refl; bins = refl }, legal_21)

legal_23 : Legal 2 0 at_23
legal_23 = (record { named = (omega arith, omega arith); counting = tt; dues = inr (refl, refl); fences = tt; bins = refl }, legal_22)

legal_24 : Legal 2 0 at_24
legal_24 = (record { named = (omega arith, omega arith); counting = (refl, refl); dues = (refl, λ d h. absurd (cc)); fences = tt; bins = refl }, legal_23)

legal_25 : Legal 2 0 at_25
legal_25 = (record { named = (omega arith, omega arith); counting = (refl, refl, (clear_task, (main_of 0, refl, inr (inr (inl (refl, refl))))), refl); dues = λ f i. absurd i; fences = tt; bins = refl }, legal_24)

legal_26 : Legal 2 0 at_26
legal_26 = (record { named = (omega arith, omega arith); counting = tt; dues = tt; fences = tt; bins = (refl, refl) }, legal_25)

legal_27 : Legal 2 0 at_27
legal_27 = (record { named = (omega arith, omega arith); counting = (refl, refl); dues = (tt, λ d h. absurd (cc)); fences = tt; bins = refl }, legal_26)

legal_28 : Legal 2 0 at_28
legal_28 = (record { named = (omega arith, omega arith); counting = tt; dues = λ d h. absurd (cc); fences = (refl, refl, refl, refl); bins = refl }, legal_27)

legal_29 : Legal 2 0 at_29
legal_29 = (record { named = (omega arith, omega arith); counting = tt; dues = λ d h. absurd (cc); fences = (refl, refl, refl, refl); bins = refl }, legal_28)

legal_30 : Legal 2 0 at_30
legal_30 = (record { named = (omega arith, omega arith); counting = tt; dues = tt; fences = (refl, (refl, refl, refl), refl, (tt, ready_first at_29)); bins = refl }, legal_29)

legal_31 : Legal 2 0 at_31
legal_31 = (record { named = (omega arith, omega arith); counting = tt; dues = tt; fences = (refl, (refl, refl, refl), refl, (1, ([]), refl)); bins = refl }, legal_30)

legal_32 : Legal 2 0 at_32
legal_32 = (record { named = (omega arith, omega arith); counting = tt; dues = tt; fences = (refl, (refl, refl, refl), refl, (4, (reading handlings 1 1 1 ∷ []), refl)); bins = refl }, legal_31)

legal_33 : Legal 2 0 at_33
legal_33 = (record { named = (omega arith, omega arith); counting = tt; dues = tt; fences = (refl, (refl, refl, refl), refl, (4, (reading handlings 1 1 1 ∷ []), refl)); bins = refl }, legal_32)

legal_34 : Legal 2 0 at_34
legal_34 = (record { named = (omega arith, omega arith); counting = tt; dues = tt; fences = (refl, (refl, refl, refl), refl, (tt, ready_first at_33)); bins = refl }, legal_33)

legal_35 : Legal 2 0 at_35
legal_35 = (record { named = (omega arith, omega arith); counting = tt; dues = tt; fences = (refl, (refl, refl, refl), refl, (1, ([]), refl)); bins = refl }, legal_34)

legal_36 : Legal 2 0 at_36
legal_36 = (record { named = (omega arith, omega arith); counting = tt; dues = tt; fences = (refl, (refl, refl, refl), refl, (1, (reading handlings 1 1 1 ∷ []), refl)); bins = refl }, legal_35)

legal_37 : Legal 2 0 at_37
legal_37 = (record { named = (omega arith, omega arith); counting = tt; dues = tt; fences = (refl, (refl, refl, refl), refl, (1, (reading handlings 1 1 1 ∷ []), refl)); bins = refl }, legal_36)

legal_38 : Legal 2 0 at_38
legal_38 = (record { named = (omega arith, omega arith); counting = tt; dues = tt; fences = (refl, (refl, refl, refl), refl, (inl refl, ready_second at_37 row_0 row_1 refl refl)); bins = refl }, legal_37)

legal_39 : Legal 2 0 at_39
legal_39 = (record { named = (omega arith, omega arith); counting = tt; dues = tt; fences = (refl, (refl, refl, refl), refl, (1, (reading sends 1 1 1 ∷ reading submissions 4 1 1 ∷ reading runs 4 1 1 ∷ reading handlings 1 1 1 ∷ []), refl)); bins = refl }, legal_38)

legal_40 : Legal 2 0 at_40
legal_40 = (record { named = (omega arith, omega arith); counting = tt; dues = tt; fences = (refl, (refl, refl, refl), refl, (4, (reading handlings 1 1 2 ∷ reading sends 1 1 1 ∷ reading submissions 4 1 1 ∷ reading runs 4 1 1 ∷ reading handlings 1 1 1 ∷ []), refl)); bins = refl }, legal_39)

legal_41 : Legal 2 0 at_41
legal_41 = (record { named = (omega arith, omega arith); counting = tt; dues = tt; fences = (refl, (refl, refl, refl), refl, (4, (reading handlings 1 1 2 ∷ reading sends 1 1 1 ∷ reading submissions 4 1 1 ∷ reading runs 4 1 1 ∷ reading handlings 1 1 1 ∷ []), refl)); bins = refl }, legal_40)

legal_42 : Legal 2 0 at_42
legal_42 = (record { named = (omega arith, omega arith); counting = tt; dues = tt; fences = (refl, (refl, refl, refl), refl, (inl refl, ready_second at_41 row_0 row_1 refl refl)); bins = refl }, legal_41)

legal_43 : Legal 2 0 at_43
legal_43 = (record { named = (omega arith, omega arith); counting = tt; dues = tt; fences = (refl, (refl, refl, refl), refl, (1, (reading sends 1 1 1 ∷ reading submissions 1 1 1 ∷ reading runs 1 1 1 ∷ reading handlings 1 1 1 ∷ []), refl)); bins = refl }, legal_42)

legal_44 : Legal 2 0 at_44
legal_44 = (record { named = (omega arith, omega arith); counting = tt; dues = tt; fences = (refl, (refl, refl, refl), refl, (1, (reading handlings 1 1 2 ∷ reading sends 1 1 1 ∷ reading submissions 1 1 1 ∷ reading runs 1 1 1 ∷ reading handlings 1 1 1 ∷ []), refl)); bins = refl }, legal_43)

legal_45 : Legal 2 0 at_45
legal_45 = (record { named = (omega arith, omega arith); counting = tt; dues = tt; fences = (refl, (refl, refl, refl), refl, (1, (reading handlings 1 1 2 ∷ reading sends 1 1 1 ∷ reading submissions 1 1 1 ∷ reading runs 1 1 1 ∷ reading handlings 1 1 1 ∷ []), refl)); bins = refl }, legal_44)

legal_46 : Legal 2 0 at_46
legal_46 = (record { named = (omega arith, omega arith); counting = tt; dues = tt; fences = (refl, (refl, refl, refl), refl, (0, refl, complete 1 at_45 row_0 row_1 refl refl, complete 2 at_45 row_0 row_1 refl refl, record { first = refl; sent_again = refl; handled_again = refl }, (refl, each_rank (λ q. row_of 1 2 (part (main_of q) at_45) ≡ slice_get (row_0 ∷ row_1 ∷ []) q) refl refl))); bins = refl }, legal_45)

legal_47 : Legal 2 0 at_47
legal_47 = (record { named = (omega arith, omega arith); counting = tt; dues = tt; fences = ((refl, refl, refl), refl); bins = refl }, legal_46)

legal_48 : Legal 2 0 at_48
legal_48 = (record { named = (omega arith, omega arith); counting = tt; dues = tt; fences = ((refl, refl, refl), refl); bins = refl }, legal_47)

-- each effect is carried out in its turn

carries_3 : CarriesOut task_effects at_2 (acts 0 0 0 (Sent 0 1 (Spawned (label_of (Leaf false (leaf_value false))) (Some (leaf_future false))))) 0 0 0
carries_3 = record { os = outlines_of 2 Fill; o = spawn 2 (Leaf false (leaf_value false)); plan = refl; here = refl; says = (0, refl); rank = refl; effect = refl; taken = refl; once = refl; before = λ j p own lt at other. stored (λ j. carried_out 0 0 j at_2) (outlines_of 2 Fill) refl j p at other; turn = λ own. refl }

carries_4 : CarriesOut task_effects at_3 (acts 0 0 1 (Submitted 1 right_task)) 0 0 1
carries_4 = record { os = outlines_of 2 Fill; o = spawn 2 (Leaf true (leaf_value true)); plan = refl; here = refl; says = (1, refl); rank = refl; effect = refl; taken = refl; once = refl; before = λ j p own lt at other. stored (λ j. carried_out 0 0 j at_3) (outlines_of 2 Fill) refl j p at other; turn = λ own. refl }

carries_5 : CarriesOut task_effects at_4 (acts 0 0 2 (Submitted 2 sum_task)) 0 0 2
carries_5 = record { os = outlines_of 2 Fill; o = spawn 2 Sum; plan = refl; here = refl; says = (2, refl); rank = refl; effect = refl; taken = refl; once = refl; before = λ j p own lt at other. stored (λ j. carried_out 0 0 j at_4) (outlines_of 2 Fill) refl j p at other; turn = λ own. refl }

carries_11 : CarriesOut task_effects at_10 (stores 1 2 0 0 (Put (leaf_entry false))) 1 0 0
carries_11 = record { os = outlines_of 2 (Leaf false (leaf_value false)); o = of.Put (leaf_entry false); plan = refl; here = refl; says = (0, refl); rank = refl; effect = refl; taken = refl; once = refl; before = λ j p own. absurd (cc); turn = λ own. absurd (cc) }

carries_12 : CarriesOut task_effects at_11 (acts 1 0 1 (Sent 0 0 (Give (leaf_future false)))) 1 0 1
carries_12 = record { os = outlines_of 2 (Leaf false (leaf_value false)); o = of.Give (leaf_future false) (kept_at (leaf_future false) 2); plan = refl; here = refl; says = (0, refl); rank = refl; effect = refl; taken = refl; once = refl; before = λ j p own lt at other. stored (λ j. carried_out 1 0 j at_11) (outlines_of 2 (Leaf false (leaf_value false))) refl j p at other; turn = λ own. refl }

carries_15 : CarriesOut task_effects at_14 (stores 0 3 1 0 (Put (leaf_entry true))) 0 1 0
carries_15 = record { os = outlines_of 2 (Leaf true (leaf_value true)); o = of.Put (leaf_entry true); plan = refl; here = refl; says = (0, refl); rank = refl; effect = refl; taken = refl; once = refl; before = λ j p own. absurd (cc); turn = λ own. absurd (cc) }

carries_16 : CarriesOut task_effects at_15 (acts 0 1 1 (Gave (leaf_future true))) 0 1 1
carries_16 = record { os = outlines_of 2 (Leaf true (leaf_value true)); o = of.Give (leaf_future true) (kept_at (leaf_future true) 2); plan = refl; here = refl; says = (0, refl); rank = refl; effect = refl; taken = refl; once = refl; before = λ j p own lt at other. stored (λ j. carried_out 0 1 j at_15) (outlines_of 2 (Leaf true (leaf_value true))) refl j p at other; turn = λ own. refl }

carries_22 : CarriesOut task_effects at_21 (acts 0 2 0 (Submitted 3 clear_task)) 0 2 0
carries_22 = record { os = outlines_of 2 Sum; o = spawn 2 Clear; plan = refl; here = refl; says = (3, refl); rank = refl; effect = refl; taken = refl; once = refl; before = λ j p own lt at other. stored (λ j. carried_out 0 2 j at_21) (outlines_of 2 Sum) refl j p at other; turn = λ own. refl }

carries_23 : CarriesOut task_effects at_22 (acts 0 2 1 (Gave first_result)) 0 2 1
carries_23 = record { os = outlines_of 2 Sum; o = of.Give first_result (kept_at first_result 2); plan = refl; here = refl; says = (0, refl); rank = refl; effect = refl; taken = refl; once = refl; before = λ j p own lt at other. stored (λ j. carried_out 0 2 j at_22) (outlines_of 2 Sum) refl j p at other; turn = λ own. refl }

carries_26 : CarriesOut task_effects at_25 (stores 0 3 3 0 (Erased (leaf_entry true))) 0 3 0
carries_26 = record { os = outlines_of 2 Clear; o = of.Erase (leaf_entry true); plan = refl; here = refl; says = (0, refl); rank = refl; effect = refl; taken = refl; once = refl; before = λ j p own. absurd (cc); turn = λ own. absurd (cc) }

-- the list follows

follows_0 : FollowsBy (program 2) task_effects at_0
follows_0 = tt

follows_1 : FollowsBy (program 2) task_effects at_1
follows_1 = ((spawn 2 Fill, refl, (0, refl), refl), follows_0)

follows_2 : FollowsBy (program 2) task_effects at_2
follows_2 = (refl, follows_1)

follows_3 : FollowsBy (program 2) task_effects at_3
follows_3 = ((0, carries_3), follows_2)

follows_4 : FollowsBy (program 2) task_effects at_4
follows_4 = ((1, carries_4), follows_3)

follows_5 : FollowsBy (program 2) task_effects at_5
follows_5 = ((2, carries_5), follows_4)

follows_6 : FollowsBy (program 2) task_effects at_6
follows_6 = ((record { os = outlines_of 2 Fill; plan = refl; turn = refl; before = λ j p at own. stored (λ j. carried_out 0 0 j at_5) (outlines_of 2 Fill) refl j p at own }, refl), follows_5)

follows_7 : FollowsBy (program 2) task_effects at_7
follows_7 = (refl, follows_6)

follows_8 : FollowsBy (program 2) task_effects at_8
follows_8 = (refl, follows_7)

follows_9 : FollowsBy (program 2) task_effects at_9
follows_9 = (refl, follows_8)

follows_10 : FollowsBy (program 2) task_effects at_10
follows_10 = (refl, follows_9)

follows_11 : FollowsBy (program 2) task_effects at_11
follows_11 = ((1, 0, 0, carries_11, refl), follows_10)

follows_12 : FollowsBy (program 2) task_effects at_12
follows_12 = ((1, carries_12), follows_11)

follows_13 : FollowsBy (program 2) task_effects at_13
follows_13 = ((record { os = outlines_of 2 (Leaf false (leaf_value false)); plan = refl; turn = refl; before = λ j p at own. stored (λ j. carried_out 1 0 j at_12) (outlines_of 2 (Leaf false (leaf_value false))) refl j p at own }, refl), follows_12)

follows_14 : FollowsBy (program 2) task_effects at_14
follows_14 = (refl, follows_13)

follows_15 : FollowsBy (program 2) task_effects at_15
follows_15 = ((0, 1, 0, carries_15, refl), follows_14)

follows_16 : FollowsBy (program 2) task_effects at_16
follows_16 = ((1, carries_16), follows_15)

follows_17 : FollowsBy (program 2) task_effects at_17
follows_17 = ((record { os = outlines_of 2 (Leaf true (leaf_value true)); plan = refl; turn = refl; before = λ j p at own. stored (λ j. carried_out 0 1 j at_16) (outlines_of 2 (Leaf true (leaf_value true))) refl j p at own }, refl), follows_16)

follows_18 : FollowsBy (program 2) task_effects at_18
follows_18 = (refl, follows_17)

follows_19 : FollowsBy (program 2) task_effects at_19
follows_19 = (refl, follows_18)

follows_20 : FollowsBy (program 2) task_effects at_20
follows_20 = (refl, follows_19)

follows_21 : FollowsBy (program 2) task_effects at_21
follows_21 = (refl, follows_20)

follows_22 : FollowsBy (program 2) task_effects at_22
follows_22 = ((0, carries_22), follows_21)

follows_23 : FollowsBy (program 2) task_effects at_23
follows_23 = ((1, carries_23), follows_22)

follows_24 : FollowsBy (program 2) task_effects at_24
follows_24 = ((record { os = outlines_of 2 Sum; plan = refl; turn = refl; before = λ j p at own. stored (λ j. carried_out 0 2 j at_23) (outlines_of 2 Sum) refl j p at own }, refl), follows_23)

follows_25 : FollowsBy (program 2) task_effects at_25
follows_25 = (refl, follows_24)

follows_26 : FollowsBy (program 2) task_effects at_26
follows_26 = ((0, 3, 0, carries_26, refl), follows_25)

follows_27 : FollowsBy (program 2) task_effects at_27
follows_27 = ((record { os = outlines_of 2 Clear; plan = refl; turn = refl; before = λ j p at own. stored (λ j. carried_out 0 3 j at_26) (outlines_of 2 Clear) refl j p at own }, refl), follows_26)

follows_28 : FollowsBy (program 2) task_effects at_28
follows_28 = ((refl, refl), follows_27)

follows_29 : FollowsBy (program 2) task_effects at_29
follows_29 = ((refl, refl), follows_28)

follows_30 : FollowsBy (program 2) task_effects at_30
follows_30 = (refl, follows_29)

follows_31 : FollowsBy (program 2) task_effects at_31
follows_31 = (refl, follows_30)

follows_32 : FollowsBy (program 2) task_effects at_32
follows_32 = (refl, follows_31)

follows_33 : FollowsBy (program 2) task_effects at_33
follows_33 = (refl, follows_32)

follows_34 : FollowsBy (program 2) task_effects at_34
follows_34 = (refl, follows_33)

follows_35 : FollowsBy (program 2) task_effects at_35
follows_35 = (refl, follows_34)

follows_36 : FollowsBy (program 2) task_effects at_36
follows_36 = (refl, follows_35)

follows_37 : FollowsBy (program 2) task_effects at_37
follows_37 = (refl, follows_36)

follows_38 : FollowsBy (program 2) task_effects at_38
follows_38 = (refl, follows_37)

follows_39 : FollowsBy (program 2) task_effects at_39
follows_39 = (refl, follows_38)

follows_40 : FollowsBy (program 2) task_effects at_40
follows_40 = (refl, follows_39)

follows_41 : FollowsBy (program 2) task_effects at_41
follows_41 = (refl, follows_40)

follows_42 : FollowsBy (program 2) task_effects at_42
follows_42 = (refl, follows_41)

follows_43 : FollowsBy (program 2) task_effects at_43
follows_43 = (refl, follows_42)

follows_44 : FollowsBy (program 2) task_effects at_44
follows_44 = (refl, follows_43)

follows_45 : FollowsBy (program 2) task_effects at_45
follows_45 = (refl, follows_44)

follows_46 : FollowsBy (program 2) task_effects at_46
follows_46 = (refl, follows_45)

follows_47 : FollowsBy (program 2) task_effects at_47
follows_47 = (refl, follows_46)

follows_48 : FollowsBy (program 2) task_effects at_48
follows_48 = (refl, follows_47)

planned : (r n : ℕ) (os : List Outline) → task_effects r n ≡ Some os → Planned (MayDo 2) whole_run r n os
planned zero zero os e = record { task = fill_task; submitted = (main_of 0, refl, inr (inr (inr (inr (inr (inr (inr (inr (inr (inr (inr (inr (inr (inr (inr (inr (inr (inr (inr (inr (inr (inr (inr (inr (inr (inr (inr (inr (inr (inr (inr (inr (inr (inr (inr (inr (inr (inr (inr (inr (inr (inr (inr (inr (inr (inr (inr (inl (refl, refl))))))))))))))))))))))))))))))))))))))))))))))))); taken = refl; may_do = (Fill, no_inputs, tt, refl, record { values = tt; cells = tt; size = refl }, sym (some_is _ os e)) }
planned zero (suc zero) os e = record { task = right_task; submitted = (main_of 0, refl, inr (inr (inr (inr (inr (inr (inr (inr (inr (inr (inr (inr (inr (inr (inr (inr (inr (inr (inr (inr (inr (inr (inr (inr (inr (inr (inr (inr (inr (inr (inr (inr (inr (inr (inr (inr (inr (inr (inr (inr (inr (inr (inr (inr (inl (refl, refl)))))))))))))))))))))))))))))))))))))))))))))); taken = refl; may_do = (Leaf true (leaf_value true), no_inputs, refl, refl, record { values = tt; cells = tt; size = refl }, sym (some_is _ os e)) }
planned zero (suc (suc zero)) os e = record { task = sum_task; submitted = (main_of 0, refl, inr (inr (inr (inr (inr (inr (inr (inr (inr (inr (inr (inr (inr (inr (inr (inr (inr (inr (inr (inr (inr (inr (inr (inr (inr (inr (inr (inr (inr (inr (inr (inr (inr (inr (inr (inr (inr (inr (inr (inr (inr (inr (inr (inl (refl, refl))))))))))))))))))))))))))))))))))))))))))))); taken = refl; may_do = (Sum, (record { values = leaf_value false ∷ leaf_value true ∷ []; cells = []; size = 0 }), tt, refl, record { values = (refl, (refl, tt)); cells = tt; size = refl }, sym (some_is _ os e)) }
planned zero (suc (suc (suc zero))) os e = record { task = clear_task; submitted = (main_of 0, refl, inr (inr (inr (inr (inr (inr (inr (inr (inr (inr (inr (inr (inr (inr (inr (inr (inr (inr (inr (inr (inr (inr (inr (inr (inr (inr (inl (refl, refl)))))))))))))))))))))))))))); taken = refl; may_do = (Clear, no_inputs, tt, refl, record { values = tt; cells = tt; size = refl }, sym (some_is _ os e)) }
planned zero (suc (suc (suc (suc n)))) os e = absurd (cc)
planned (suc zero) zero os e = record { task = left_task; submitted = (main_of 1, refl, inr (inr (inr (inr (inr (inr (inr (inr (inr (inr (inr (inr (inr (inr (inr (inr (inr (inr (inr (inr (inr (inr (inr (inr (inr (inr (inr (inr (inr (inr (inr (inr (inr (inr (inr (inr (inr (inr (inr (inr (inl (refl, refl)))))))))))))))))))))))))))))))))))))))))); taken = refl; may_do = (Leaf false (leaf_value false), no_inputs, refl, refl, record { values = tt; cells = tt; size = refl }, sym (some_is _ os e)) }
planned (suc zero) (suc n) os e = absurd (cc)
planned (suc (suc r)) n os e = absurd (cc)

pub run : IsRun 2 0 (program 2) (MayDo 2) task_effects whole_run
run = record { legal = legal_48; follows = record { planned = planned; goes = follows_48 } }

pub received : HasReceipt whole_run second_pass (main_does 0 (Receives receipt)) receipt
received = record { begins = (main_does 1 (Leave 1) ∷ main_does 0 (Leave 1) ∷ [], refl); is = refl }

-- the commands before the first fence are sound
pub all_sound : AllSound kinds IsSound 1
all_sound zero is lt = absurd (let a = is.0 in omega (arith, a))
all_sound (suc zero) is lt = omega arith
all_sound (suc (suc zero)) is lt = omega arith
all_sound (suc (suc (suc zero))) is lt = omega arith
all_sound (suc (suc (suc (suc zero)))) is lt = omega arith
all_sound (suc (suc (suc (suc (suc command))))) is lt = absurd (omega (arith, lt))

-- version 2 is written by the last command alone, which isn't
pub last_is_unsound : HasNoWriter writer_of IsSound 2
last_is_unsound command writes sound = let last : 5 ≡ command = cc in omega (arith, last, sound)

-- the early unit's effects on a guess
pub early_may : (guess : ℕ) → MayDo 2 (label_of (Guessed Early)) (told 2 (step_of (Guessed Early) (record { values = guess ∷ []; cells = []; size = 0 })))
early_may guess = (Guessed Early, record { values = guess ∷ []; cells = []; size = 0 }, tt, refl, record { values = (tt, tt); cells = tt; size = refl }, refl)

pub late_may : MayDo 2 (label_of (Guessed Late)) (told 2 (step_of (Guessed Late) no_inputs))
late_may = (Guessed Late, no_inputs, tt, refl, record { values = tt; cells = tt; size = refl }, refl)
