-- The small run, one event after another: it is legal.
use Rattle.std.proofs.Common.{◌≡◌, ℕ, zero, suc, ◌<◌, ◌≤◌, Bool, true, false, List, [], ◌∷◌, refl, ap, subst, inl, inr, rules, arith}
use Rattle.std.specs.Prelude.{Some, None, slice_get, ◌||◌}
use Rattle.app_core.specs.Outlines.{same_label}
use Rattle.event_lists.specs.declared.event.Event.TheVariants.{Sent, TookMessage, TookTask, Handled, Submitted, Ran, Gave, Put, Erased, Enter, Leave, ReadHandled, ReadRan, ReadSubmitted, ReadSent, Receipt as Receives}
use Rattle.event_lists.specs.declared.event.Parcel.TheVariants.{Unit as Spawned, Give}
use Rattle.event_lists.specs.declared.future.Bringer.TheVariants.{Task as task_by}
use Rattle.event_lists.specs.declared.future.Future.{Future}
use Rattle.event_lists.specs.declared.kind.Kind.TheVariants.{Sends as sends, Handlings as handlings, Submissions as submissions, Runs as runs}
use Rattle.event_lists.specs.declared.mark.Mark.{Mark}
use Rattle.event_lists.specs.declared.receipt.Row.{Row}
use Rattle.event_lists.specs.Events.{main_of, part, StandsOn}
use Rattle.event_lists.specs.Futures.{times_given, IsIn}
use Rattle.event_lists.specs.Fences.{reading, row_of, IsComplete, IsReady}
use Rattle.event_lists.specs.Legal.{Legal}
use Rattle.event_lists.specs.TaskRuns.{main_does}
use Rattle.haar_units.specs.Units.{down_unit, erase_unit, key_future, entry}
use Rattle.haar_units.proofs.EffectLemmas.{some_is, none_is}
use Rattle.haar_lists.specs.SmallRun.{down, up, erase, acts, stores, counts, first_receipt, second_receipt, whole_run}

-- what holds of both ranks holds of each
each_rank : (P : ℕ → Type 0) → P 0 → P 1 → (q : ℕ) → q < 2 → P q
each_rank P a b zero lt = a
each_rank P a b (suc zero) lt = b
each_rank P a b (suc (suc q)) lt = absurd (omega (arith, lt))

complete : (f p : ℕ) (log : List Mark) (a b : Row) → row_of f p (part (main_of 0) log) ≡ Some a → row_of f p (part (main_of 1) log) ≡ Some b → IsComplete 2 f p log
complete f p log a b i j = each_rank (λ q. (r : Row) × (row_of f p (part (main_of q) log) ≡ Some r)) (a, i) (b, j)

ready_first : (f : ℕ) (log : List Mark) → IsReady 2 f 1 log
ready_first f log d e = absurd (omega arith)

ready_second : (f : ℕ) (log : List Mark) (a b : Row) → row_of f 1 (part (main_of 0) log) ≡ Some a → row_of f 1 (part (main_of 1) log) ≡ Some b → IsReady 2 f 2 log
ready_second f log a b i j d e = subst (λ (z : ℕ). IsComplete 2 f (suc z) log) (let k : 0 ≡ d = omega arith in k) (complete f 1 log a b i j)

-- a mark at an index is in the list
pub stands : (log : List Mark) (k : ℕ) (x : Mark) → slice_get log k ≡ Some x → StandsOn x.lane x.event log
stands [] k x e = none_is x e
stands (y ∷ log) zero x e = let same = some_is y x e in inl (ap (λ (m : Mark). m.lane) same, ap (λ (m : Mark). m.event) same)
stands (y ∷ log) (suc k) x e = inr (stands log k x e)

-- what an up unit needs are dues of the two down units
needed_is_due : (up right left : Bool) → ((left || (right || false)) || false) ≡ true → (up || (right || (left || false))) ≡ true
needed_is_due true right left e = refl
needed_is_due false true left e = refl
needed_is_due false false true e = refl
needed_is_due false false false e = e

-- the future of a key that task n of rank 0 creates
abbrev need : ℕ → ℕ → ℕ → Future
need n c x = record { by = task_by 0 n; label = key_future c x }

needs_given : (log : List Mark) (a b f : Future) → times_given a log ≡ 1 → times_given b log ≡ 1 → IsIn f (a ∷ b ∷ []) → 1 ≤ times_given f log
needs_given log a b f one two (inl e) = subst (λ (g : Future). 1 ≤ times_given g log) e (omega (arith, one))
needs_given log a b f one two (inr (inl e)) = subst (λ (g : Future). 1 ≤ times_given g log) e (omega (arith, two))
needs_given log a b f one two (inr (inr i)) = absurd i

-- the list after each event

abbrev pub at_0 : List Mark
at_0 = []

abbrev pub at_1 : List Mark
at_1 = main_does 0 (Submitted 0 (down 1 1)) ∷ at_0

abbrev pub at_2 : List Mark
at_2 = main_does 0 (TookTask 0 0) ∷ at_1

abbrev pub at_3 : List Mark
at_3 = stores 0 1 0 0 (Put (entry 1 1)) ∷ at_2

abbrev pub at_4 : List Mark
at_4 = acts 0 0 1 (Submitted 1 (down 1 2)) ∷ at_3

abbrev pub at_5 : List Mark
at_5 = acts 0 0 2 (Sent 0 1 (Spawned (down_unit 1 3) (Some (key_future 1 3)))) ∷ at_4

abbrev pub at_6 : List Mark
at_6 = acts 0 0 3 (Submitted 2 (up 1 1)) ∷ at_5

abbrev pub at_7 : List Mark
at_7 = main_does 0 (Ran 0 0 0) ∷ at_6

abbrev pub at_8 : List Mark
at_8 = main_does 0 (TookTask 0 1) ∷ at_7

abbrev pub at_9 : List Mark
at_9 = stores 0 2 1 0 (Put (entry 1 2)) ∷ at_8

abbrev pub at_10 : List Mark
at_10 = acts 0 1 1 (Gave (key_future 1 2)) ∷ at_9

abbrev pub at_11 : List Mark
at_11 = main_does 0 (Ran 1 0 1) ∷ at_10

abbrev pub at_12 : List Mark
at_12 = main_does 1 (TookMessage 0 0) ∷ at_11

abbrev pub at_13 : List Mark
at_13 = main_does 1 (Submitted 0 (down 1 3)) ∷ at_12

abbrev pub at_14 : List Mark
at_14 = main_does 1 (Handled 0 0 0) ∷ at_13

abbrev pub at_15 : List Mark
at_15 = main_does 1 (TookTask 1 0) ∷ at_14

abbrev pub at_16 : List Mark
at_16 = stores 1 3 0 0 (Put (entry 1 3)) ∷ at_15

abbrev pub at_17 : List Mark
at_17 = acts 1 0 1 (Sent 0 0 (Give (key_future 1 3))) ∷ at_16

abbrev pub at_18 : List Mark
at_18 = main_does 1 (Ran 0 1 0) ∷ at_17

abbrev pub at_19 : List Mark
at_19 = main_does 0 (TookMessage 1 0) ∷ at_18

abbrev pub at_20 : List Mark
at_20 = main_does 0 (Gave (key_future 1 3)) ∷ at_19

abbrev pub at_21 : List Mark
at_21 = main_does 0 (Handled 0 1 0) ∷ at_20

abbrev pub at_22 : List Mark
at_22 = main_does 0 (TookTask 0 2) ∷ at_21

abbrev pub at_23 : List Mark
at_23 = acts 0 2 0 (Gave (key_future 1 1)) ∷ at_22

abbrev pub at_24 : List Mark
at_24 = main_does 0 (Ran 2 0 2) ∷ at_23

abbrev pub at_25 : List Mark
at_25 = main_does 0 (Enter 1) ∷ at_24

abbrev pub at_26 : List Mark
at_26 = main_does 1 (Enter 1) ∷ at_25

abbrev pub at_27 : List Mark
at_27 = main_does 0 (ReadHandled 1 1 1) ∷ at_26

abbrev pub at_28 : List Mark
at_28 = main_does 0 (ReadRan 3 1 1) ∷ at_27

abbrev pub at_29 : List Mark
at_29 = main_does 0 (ReadSubmitted 3 1 1) ∷ at_28

abbrev pub at_30 : List Mark
at_30 = main_does 0 (ReadSent 1 1 1) ∷ at_29

abbrev pub at_31 : List Mark
at_31 = main_does 1 (ReadHandled 1 1 1) ∷ at_30

abbrev pub at_32 : List Mark
at_32 = main_does 1 (ReadRan 1 1 1) ∷ at_31

abbrev pub at_33 : List Mark
at_33 = main_does 1 (ReadSubmitted 1 1 1) ∷ at_32

abbrev pub at_34 : List Mark
at_34 = main_does 1 (ReadSent 1 1 1) ∷ at_33

abbrev pub at_35 : List Mark
at_35 = main_does 0 (ReadHandled 1 1 2) ∷ at_34

abbrev pub at_36 : List Mark
at_36 = main_does 0 (ReadRan 3 1 2) ∷ at_35

abbrev pub at_37 : List Mark
at_37 = main_does 0 (ReadSubmitted 3 1 2) ∷ at_36

abbrev pub at_38 : List Mark
at_38 = main_does 0 (ReadSent 1 1 2) ∷ at_37

abbrev pub at_39 : List Mark
at_39 = main_does 1 (ReadHandled 1 1 2) ∷ at_38

abbrev pub at_40 : List Mark
at_40 = main_does 1 (ReadRan 1 1 2) ∷ at_39

abbrev pub at_41 : List Mark
at_41 = main_does 1 (ReadSubmitted 1 1 2) ∷ at_40

abbrev pub at_42 : List Mark
at_42 = main_does 1 (ReadSent 1 1 2) ∷ at_41

abbrev pub at_43 : List Mark
at_43 = main_does 0 (Receives first_receipt) ∷ at_42

abbrev pub at_44 : List Mark
at_44 = main_does 0 (Leave 1) ∷ at_43

abbrev pub at_45 : List Mark
at_45 = main_does 1 (Leave 1) ∷ at_44

abbrev pub at_46 : List Mark
at_46 = main_does 0 (Submitted 3 (down 3 1)) ∷ at_45

abbrev pub at_47 : List Mark
at_47 = main_does 0 (TookTask 0 3) ∷ at_46

abbrev pub at_48 : List Mark
at_48 = acts 0 3 0 (Submitted 4 (down 3 2)) ∷ at_47

abbrev pub at_49 : List Mark
at_49 = acts 0 3 1 (Sent 1 1 (Spawned (down_unit 3 3) (Some (key_future 3 3)))) ∷ at_48

abbrev pub at_50 : List Mark
at_50 = acts 0 3 2 (Submitted 5 (up 3 1)) ∷ at_49

abbrev pub at_51 : List Mark
at_51 = main_does 0 (Ran 3 0 3) ∷ at_50

abbrev pub at_52 : List Mark
at_52 = main_does 0 (TookTask 0 4) ∷ at_51

abbrev pub at_53 : List Mark
at_53 = stores 0 2 4 0 (Put (entry 3 2)) ∷ at_52

abbrev pub at_54 : List Mark
at_54 = acts 0 4 1 (Gave (key_future 3 2)) ∷ at_53

abbrev pub at_55 : List Mark
at_55 = main_does 0 (Ran 4 0 4) ∷ at_54

abbrev pub at_56 : List Mark
at_56 = main_does 1 (TookMessage 0 1) ∷ at_55

abbrev pub at_57 : List Mark
at_57 = main_does 1 (Submitted 1 (down 3 3)) ∷ at_56

abbrev pub at_58 : List Mark
at_58 = main_does 1 (Handled 1 0 1) ∷ at_57

abbrev pub at_59 : List Mark
at_59 = main_does 1 (TookTask 1 1) ∷ at_58

abbrev pub at_60 : List Mark
at_60 = stores 1 3 1 0 (Put (entry 3 3)) ∷ at_59

abbrev pub at_61 : List Mark
at_61 = acts 1 1 1 (Sent 1 0 (Give (key_future 3 3))) ∷ at_60

abbrev pub at_62 : List Mark
at_62 = main_does 1 (Ran 1 1 1) ∷ at_61

abbrev pub at_63 : List Mark
at_63 = main_does 0 (TookMessage 1 1) ∷ at_62

abbrev pub at_64 : List Mark
at_64 = main_does 0 (Gave (key_future 3 3)) ∷ at_63

abbrev pub at_65 : List Mark
at_65 = main_does 0 (Handled 1 1 1) ∷ at_64

abbrev pub at_66 : List Mark
at_66 = main_does 0 (TookTask 0 5) ∷ at_65

abbrev pub at_67 : List Mark
at_67 = stores 0 1 5 0 (Put (entry 3 1)) ∷ at_66

abbrev pub at_68 : List Mark
at_68 = acts 0 5 1 (Submitted 6 (erase 3 2)) ∷ at_67

abbrev pub at_69 : List Mark
at_69 = acts 0 5 2 (Sent 2 1 (Spawned (erase_unit 3 3) None)) ∷ at_68

abbrev pub at_70 : List Mark
at_70 = acts 0 5 3 (Gave (key_future 3 1)) ∷ at_69

abbrev pub at_71 : List Mark
at_71 = main_does 0 (Ran 5 0 5) ∷ at_70

abbrev pub at_72 : List Mark
at_72 = main_does 0 (TookTask 0 6) ∷ at_71

abbrev pub at_73 : List Mark
at_73 = stores 0 2 6 0 (Erased (entry 3 2)) ∷ at_72

abbrev pub at_74 : List Mark
at_74 = main_does 0 (Ran 6 0 6) ∷ at_73

abbrev pub at_75 : List Mark
at_75 = main_does 1 (TookMessage 0 2) ∷ at_74

abbrev pub at_76 : List Mark
at_76 = main_does 1 (Submitted 2 (erase 3 3)) ∷ at_75

abbrev pub at_77 : List Mark
at_77 = main_does 1 (Handled 2 0 2) ∷ at_76

abbrev pub at_78 : List Mark
at_78 = main_does 1 (TookTask 1 2) ∷ at_77

abbrev pub at_79 : List Mark
at_79 = stores 1 3 2 0 (Erased (entry 3 3)) ∷ at_78

abbrev pub at_80 : List Mark
at_80 = main_does 1 (Ran 2 1 2) ∷ at_79

abbrev pub at_81 : List Mark
at_81 = main_does 0 (Enter 2) ∷ at_80

abbrev pub at_82 : List Mark
at_82 = main_does 1 (Enter 2) ∷ at_81

abbrev pub at_83 : List Mark
at_83 = main_does 0 (ReadHandled 2 2 1) ∷ at_82

abbrev pub at_84 : List Mark
at_84 = main_does 0 (ReadRan 7 2 1) ∷ at_83

abbrev pub at_85 : List Mark
at_85 = main_does 0 (ReadSubmitted 7 2 1) ∷ at_84

abbrev pub at_86 : List Mark
at_86 = main_does 0 (ReadSent 3 2 1) ∷ at_85

abbrev pub at_87 : List Mark
at_87 = main_does 1 (ReadHandled 3 2 1) ∷ at_86

abbrev pub at_88 : List Mark
at_88 = main_does 1 (ReadRan 3 2 1) ∷ at_87

abbrev pub at_89 : List Mark
at_89 = main_does 1 (ReadSubmitted 3 2 1) ∷ at_88

abbrev pub at_90 : List Mark
at_90 = main_does 1 (ReadSent 2 2 1) ∷ at_89

abbrev pub at_91 : List Mark
at_91 = main_does 0 (ReadHandled 2 2 2) ∷ at_90

abbrev pub at_92 : List Mark
at_92 = main_does 0 (ReadRan 7 2 2) ∷ at_91

abbrev pub at_93 : List Mark
at_93 = main_does 0 (ReadSubmitted 7 2 2) ∷ at_92

abbrev pub at_94 : List Mark
at_94 = main_does 0 (ReadSent 3 2 2) ∷ at_93

abbrev pub at_95 : List Mark
at_95 = main_does 1 (ReadHandled 3 2 2) ∷ at_94

abbrev pub at_96 : List Mark
at_96 = main_does 1 (ReadRan 3 2 2) ∷ at_95

abbrev pub at_97 : List Mark
at_97 = main_does 1 (ReadSubmitted 3 2 2) ∷ at_96

abbrev pub at_98 : List Mark
at_98 = main_does 1 (ReadSent 2 2 2) ∷ at_97

abbrev pub at_99 : List Mark
at_99 = main_does 0 (Receives second_receipt) ∷ at_98

abbrev pub at_100 : List Mark
at_100 = main_does 0 (Leave 2) ∷ at_99

abbrev pub at_101 : List Mark
at_101 = main_does 1 (Leave 2) ∷ at_100

-- it is legal

legal_0 : Legal 2 0 at_0
legal_0 = tt

legal_1 : Legal 2 0 at_1
legal_1 = (record { named = (omega arith, omega arith); counting = (refl, refl); dues = (inr (refl, refl), search rules, tt); fences = λ i. refl; bins = refl }, legal_0)

legal_2 : Legal 2 0 at_2
legal_2 = (record { named = (omega arith, omega arith); counting = (refl, refl, ((down 1 1), (main_of 0, refl, stands at_1 0 (main_does 0 (Submitted 0 (down 1 1))) refl)), refl); dues = λ f i. absurd i; fences = tt; bins = refl }, legal_1)

legal_3 : Legal 2 0 at_3
legal_3 = (record { named = (omega arith, omega arith); counting = tt; dues = tt; fences = tt; bins = (refl, refl) }, legal_2)

legal_4 : Legal 2 0 at_4
legal_4 = (record { named = (omega arith, omega arith); counting = (refl, tt); dues = (inr (refl, refl), search rules, tt); fences = λ i. refl; bins = refl }, legal_3)

legal_5 : Legal 2 0 at_5
legal_5 = (record { named = (omega arith, omega arith); counting = (refl, tt, omega arith, λ e. absurd (omega (arith, e))); dues = inr (refl, refl); fences = λ i. refl; bins = refl }, legal_4)

legal_6 : Legal 2 0 at_6
legal_6 = (record { named = (omega arith, omega arith); counting = (refl, tt); dues = (inl (refl, refl), search rules, (refl, refl, (refl, refl, tt))); fences = λ i. refl; bins = refl }, legal_5)

legal_7 : Legal 2 0 at_7
legal_7 = (record { named = (omega arith, omega arith); counting = (refl, refl); dues = (refl, λ d h. needed_is_due (same_label d (key_future 1 1)) (same_label d (key_future 1 3)) (same_label d (key_future 1 2)) h); fences = tt; bins = refl }, legal_6)

legal_8 : Legal 2 0 at_8
legal_8 = (record { named = (omega arith, omega arith); counting = (refl, refl, ((down 1 2), (main_of 0, refl, stands at_7 3 (acts 0 0 1 (Submitted 1 (down 1 2))) refl)), refl); dues = λ f i. absurd i; fences = tt; bins = refl }, legal_7)

legal_9 : Legal 2 0 at_9
legal_9 = (record { named = (omega arith, omega arith); counting = tt; dues = tt; fences = tt; bins = (refl, refl) }, legal_8)

legal_10 : Legal 2 0 at_10
legal_10 = (record { named = (omega arith, omega arith); counting = tt; dues = inr (refl, refl); fences = tt; bins = refl }, legal_9)

legal_11 : Legal 2 0 at_11
legal_11 = (record { named = (omega arith, omega arith); counting = (refl, refl); dues = (refl, λ d h. absurd (cc)); fences = tt; bins = refl }, legal_10)

legal_12 : Legal 2 0 at_12
legal_12 = (record { named = (omega arith, omega arith); counting = (refl, (Spawned (down_unit 1 3) (Some (key_future 1 3)), (main_of 0, refl, stands at_11 6 (acts 0 0 2 (Sent 0 1 (Spawned (down_unit 1 3) (Some (key_future 1 3))))) refl)), refl); dues = tt; fences = tt; bins = refl }, legal_11)

legal_13 : Legal 2 0 at_13
legal_13 = (record { named = (omega arith, omega arith); counting = (refl, tt); dues = ((1, (main_of 0, refl, stands at_12 7 (acts 0 0 2 (Sent 0 1 (Spawned (down_unit 1 3) (Some (key_future 1 3))))) refl)), refl, refl); fences = λ i. refl; bins = refl }, legal_12)

legal_14 : Legal 2 0 at_14
legal_14 = (record { named = (omega arith, omega arith); counting = (refl, refl); dues = refl; fences = tt; bins = refl }, legal_13)

legal_15 : Legal 2 0 at_15
legal_15 = (record { named = (omega arith, omega arith); counting = (refl, refl, ((down 1 3), (main_of 1, refl, stands at_14 1 (main_does 1 (Submitted 0 (down 1 3))) refl)), refl); dues = λ f i. absurd i; fences = tt; bins = refl }, legal_14)

legal_16 : Legal 2 0 at_16
legal_16 = (record { named = (omega arith, omega arith); counting = tt; dues = tt; fences = tt; bins = (refl, refl) }, legal_15)

legal_17 : Legal 2 0 at_17
legal_17 = (record { named = (omega arith, omega arith); counting = (refl, tt, omega arith, λ e. absurd (omega (arith, e))); dues = (refl, refl); fences = λ i. refl; bins = refl }, legal_16)

legal_18 : Legal 2 0 at_18
legal_18 = (record { named = (omega arith, omega arith); counting = (refl, refl); dues = (refl, λ d h. absurd (cc)); fences = tt; bins = refl }, legal_17)

legal_19 : Legal 2 0 at_19
legal_19 = (record { named = (omega arith, omega arith); counting = (refl, (Give (key_future 1 3), (main_of 1, refl, stands at_18 1 (acts 1 0 1 (Sent 0 0 (Give (key_future 1 3)))) refl)), refl); dues = tt; fences = tt; bins = refl }, legal_18)

legal_20 : Legal 2 0 at_20
legal_20 = (record { named = (omega arith, omega arith); counting = tt; dues = inl ((0, (main_of 1, refl, stands at_19 2 (acts 1 0 1 (Sent 0 0 (Give (key_future 1 3)))) refl)), refl); fences = tt; bins = refl }, legal_19)

legal_21 : Legal 2 0 at_21
legal_21 = (record { named = (omega arith, omega arith); counting = (refl, refl); dues = refl; fences = tt; bins = refl }, legal_20)

legal_22 : Legal 2 0 at_22
legal_22 = (record { named = (omega arith, omega arith); counting = (refl, refl, ((up 1 1), (main_of 0, refl, stands at_21 15 (acts 0 0 3 (Submitted 2 (up 1 1))) refl)), refl); dues = λ f i. needs_given at_21 (need 0 1 2) (need 0 1 3) f refl refl i; fences = tt; bins = refl }, legal_21)

legal_23 : Legal 2 0 at_23
legal_23 = (record { named = (omega arith, omega arith); counting = tt; dues = inr (refl, refl); fences = tt; bins = refl }, legal_22)

legal_24 : Legal 2 0 at_24
legal_24 = (record { named = (omega arith, omega arith); counting = (refl, refl); dues = (refl, λ d h. absurd (cc)); fences = tt; bins = refl }, legal_23)

legal_25 : Legal 2 0 at_25
legal_25 = (record { named = (omega arith, omega arith); counting = tt; dues = λ d h. absurd (cc); fences = (refl, refl, refl, refl); bins = refl }, legal_24)

legal_26 : Legal 2 0 at_26
legal_26 = (record { named = (omega arith, omega arith); counting = tt; dues = λ d h. absurd (cc); fences = (refl, refl, refl, refl); bins = refl }, legal_25)

legal_27 : Legal 2 0 at_27
legal_27 = (record { named = (omega arith, omega arith); counting = tt; dues = tt; fences = (refl, (refl, refl, refl), refl, (tt, ready_first 1 at_26)); bins = refl }, legal_26)

legal_28 : Legal 2 0 at_28
legal_28 = (record { named = (omega arith, omega arith); counting = tt; dues = tt; fences = (refl, (refl, refl, refl), refl, (1, ([]), refl)); bins = refl }, legal_27)

legal_29 : Legal 2 0 at_29
legal_29 = (record { named = (omega arith, omega arith); counting = tt; dues = tt; fences = (refl, (refl, refl, refl), refl, (3, (reading handlings 1 1 1 ∷ []), refl)); bins = refl }, legal_28)

legal_30 : Legal 2 0 at_30
legal_30 = (record { named = (omega arith, omega arith); counting = tt; dues = tt; fences = (refl, (refl, refl, refl), refl, (3, (reading handlings 1 1 1 ∷ []), refl)); bins = refl }, legal_29)

legal_31 : Legal 2 0 at_31
legal_31 = (record { named = (omega arith, omega arith); counting = tt; dues = tt; fences = (refl, (refl, refl, refl), refl, (tt, ready_first 1 at_30)); bins = refl }, legal_30)

legal_32 : Legal 2 0 at_32
legal_32 = (record { named = (omega arith, omega arith); counting = tt; dues = tt; fences = (refl, (refl, refl, refl), refl, (1, ([]), refl)); bins = refl }, legal_31)

legal_33 : Legal 2 0 at_33
legal_33 = (record { named = (omega arith, omega arith); counting = tt; dues = tt; fences = (refl, (refl, refl, refl), refl, (1, (reading handlings 1 1 1 ∷ []), refl)); bins = refl }, legal_32)

legal_34 : Legal 2 0 at_34
legal_34 = (record { named = (omega arith, omega arith); counting = tt; dues = tt; fences = (refl, (refl, refl, refl), refl, (1, (reading handlings 1 1 1 ∷ []), refl)); bins = refl }, legal_33)

legal_35 : Legal 2 0 at_35
legal_35 = (record { named = (omega arith, omega arith); counting = tt; dues = tt; fences = (refl, (refl, refl, refl), refl, (inl refl, ready_second 1 at_34 (counts 1 1 3) (counts 1 1 1) refl refl)); bins = refl }, legal_34)

legal_36 : Legal 2 0 at_36
legal_36 = (record { named = (omega arith, omega arith); counting = tt; dues = tt; fences = (refl, (refl, refl, refl), refl, (1, (reading sends 1 1 1 ∷ reading submissions 3 1 1 ∷ reading runs 3 1 1 ∷ reading handlings 1 1 1 ∷ []), refl)); bins = refl }, legal_35)

legal_37 : Legal 2 0 at_37
legal_37 = (record { named = (omega arith, omega arith); counting = tt; dues = tt; fences = (refl, (refl, refl, refl), refl, (3, (reading handlings 1 1 2 ∷ reading sends 1 1 1 ∷ reading submissions 3 1 1 ∷ reading runs 3 1 1 ∷ reading handlings 1 1 1 ∷ []), refl)); bins = refl }, legal_36)

legal_38 : Legal 2 0 at_38
legal_38 = (record { named = (omega arith, omega arith); counting = tt; dues = tt; fences = (refl, (refl, refl, refl), refl, (3, (reading handlings 1 1 2 ∷ reading sends 1 1 1 ∷ reading submissions 3 1 1 ∷ reading runs 3 1 1 ∷ reading handlings 1 1 1 ∷ []), refl)); bins = refl }, legal_37)

legal_39 : Legal 2 0 at_39
legal_39 = (record { named = (omega arith, omega arith); counting = tt; dues = tt; fences = (refl, (refl, refl, refl), refl, (inl refl, ready_second 1 at_38 (counts 1 1 3) (counts 1 1 1) refl refl)); bins = refl }, legal_38)

legal_40 : Legal 2 0 at_40
legal_40 = (record { named = (omega arith, omega arith); counting = tt; dues = tt; fences = (refl, (refl, refl, refl), refl, (1, (reading sends 1 1 1 ∷ reading submissions 1 1 1 ∷ reading runs 1 1 1 ∷ reading handlings 1 1 1 ∷ []), refl)); bins = refl }, legal_39)

legal_41 : Legal 2 0 at_41
legal_41 = (record { named = (omega arith, omega arith); counting = tt; dues = tt; fences = (refl, (refl, refl, refl), refl, (1, (reading handlings 1 1 2 ∷ reading sends 1 1 1 ∷ reading submissions 1 1 1 ∷ reading runs 1 1 1 ∷ reading handlings 1 1 1 ∷ []), refl)); bins = refl }, legal_40)

legal_42 : Legal 2 0 at_42
legal_42 = (record { named = (omega arith, omega arith); counting = tt; dues = tt; fences = (refl, (refl, refl, refl), refl, (1, (reading handlings 1 1 2 ∷ reading sends 1 1 1 ∷ reading submissions 1 1 1 ∷ reading runs 1 1 1 ∷ reading handlings 1 1 1 ∷ []), refl)); bins = refl }, legal_41)

legal_43 : Legal 2 0 at_43
legal_43 = (record { named = (omega arith, omega arith); counting = tt; dues = tt; fences = (refl, (refl, refl, refl), refl, (0, refl, complete 1 1 at_42 (counts 1 1 3) (counts 1 1 1) refl refl, complete 1 2 at_42 (counts 1 1 3) (counts 1 1 1) refl refl, record { first = refl; sent_again = refl; handled_again = refl }, (refl, each_rank (λ q. row_of 1 2 (part (main_of q) at_42) ≡ slice_get ((counts 1 1 3) ∷ (counts 1 1 1) ∷ []) q) refl refl))); bins = refl }, legal_42)

legal_44 : Legal 2 0 at_44
legal_44 = (record { named = (omega arith, omega arith); counting = tt; dues = tt; fences = ((refl, refl, refl), refl); bins = refl }, legal_43)

legal_45 : Legal 2 0 at_45
legal_45 = (record { named = (omega arith, omega arith); counting = tt; dues = tt; fences = ((refl, refl, refl), refl); bins = refl }, legal_44)

legal_46 : Legal 2 0 at_46
legal_46 = (record { named = (omega arith, omega arith); counting = (refl, refl); dues = (inr (refl, refl), search rules, tt); fences = λ i. refl; bins = refl }, legal_45)

legal_47 : Legal 2 0 at_47
legal_47 = (record { named = (omega arith, omega arith); counting = (refl, refl, ((down 3 1), (main_of 0, refl, stands at_46 0 (main_does 0 (Submitted 3 (down 3 1))) refl)), refl); dues = λ f i. absurd i; fences = tt; bins = refl }, legal_46)

legal_48 : Legal 2 0 at_48
legal_48 = (record { named = (omega arith, omega arith); counting = (refl, tt); dues = (inr (refl, refl), search rules, tt); fences = λ i. refl; bins = refl }, legal_47)

legal_49 : Legal 2 0 at_49
legal_49 = (record { named = (omega arith, omega arith); counting = (refl, tt, omega arith, λ e. absurd (omega (arith, e))); dues = inr (refl, refl); fences = λ i. refl; bins = refl }, legal_48)

legal_50 : Legal 2 0 at_50
legal_50 = (record { named = (omega arith, omega arith); counting = (refl, tt); dues = (inl (refl, refl), search rules, (refl, refl, (refl, refl, tt))); fences = λ i. refl; bins = refl }, legal_49)

legal_51 : Legal 2 0 at_51
legal_51 = (record { named = (omega arith, omega arith); counting = (refl, refl); dues = (refl, λ d h. needed_is_due (same_label d (key_future 3 1)) (same_label d (key_future 3 3)) (same_label d (key_future 3 2)) h); fences = tt; bins = refl }, legal_50)

legal_52 : Legal 2 0 at_52
legal_52 = (record { named = (omega arith, omega arith); counting = (refl, refl, ((down 3 2), (main_of 0, refl, stands at_51 3 (acts 0 3 0 (Submitted 4 (down 3 2))) refl)), refl); dues = λ f i. absurd i; fences = tt; bins = refl }, legal_51)

legal_53 : Legal 2 0 at_53
legal_53 = (record { named = (omega arith, omega arith); counting = tt; dues = tt; fences = tt; bins = (refl, refl) }, legal_52)

legal_54 : Legal 2 0 at_54
legal_54 = (record { named = (omega arith, omega arith); counting = tt; dues = inr (refl, refl); fences = tt; bins = refl }, legal_53)

legal_55 : Legal 2 0 at_55
legal_55 = (record { named = (omega arith, omega arith); counting = (refl, refl); dues = (refl, λ d h. absurd (cc)); fences = tt; bins = refl }, legal_54)

legal_56 : Legal 2 0 at_56
legal_56 = (record { named = (omega arith, omega arith); counting = (refl, (Spawned (down_unit 3 3) (Some (key_future 3 3)), (main_of 0, refl, stands at_55 6 (acts 0 3 1 (Sent 1 1 (Spawned (down_unit 3 3) (Some (key_future 3 3))))) refl)), refl); dues = tt; fences = tt; bins = refl }, legal_55)

legal_57 : Legal 2 0 at_57
legal_57 = (record { named = (omega arith, omega arith); counting = (refl, tt); dues = ((1, (main_of 0, refl, stands at_56 7 (acts 0 3 1 (Sent 1 1 (Spawned (down_unit 3 3) (Some (key_future 3 3))))) refl)), refl, refl); fences = λ i. refl; bins = refl }, legal_56)

legal_58 : Legal 2 0 at_58
legal_58 = (record { named = (omega arith, omega arith); counting = (refl, refl); dues = refl; fences = tt; bins = refl }, legal_57)

legal_59 : Legal 2 0 at_59
legal_59 = (record { named = (omega arith, omega arith); counting = (refl, refl, ((down 3 3), (main_of 1, refl, stands at_58 1 (main_does 1 (Submitted 1 (down 3 3))) refl)), refl); dues = λ f i. absurd i; fences = tt; bins = refl }, legal_58)

legal_60 : Legal 2 0 at_60
legal_60 = (record { named = (omega arith, omega arith); counting = tt; dues = tt; fences = tt; bins = (refl, refl) }, legal_59)

legal_61 : Legal 2 0 at_61
legal_61 = (record { named = (omega arith, omega arith); counting = (refl, tt, omega arith, λ e. absurd (omega (arith, e))); dues = (refl, refl); fences = λ i. refl; bins = refl }, legal_60)

legal_62 : Legal 2 0 at_62
legal_62 = (record { named = (omega arith, omega arith); counting = (refl, refl); dues = (refl, λ d h. absurd (cc)); fences = tt; bins = refl }, legal_61)

legal_63 : Legal 2 0 at_63
legal_63 = (record { named = (omega arith, omega arith); counting = (refl, (Give (key_future 3 3), (main_of 1, refl, stands at_62 1 (acts 1 1 1 (Sent 1 0 (Give (key_future 3 3)))) refl)), refl); dues = tt; fences = tt; bins = refl }, legal_62)

legal_64 : Legal 2 0 at_64
legal_64 = (record { named = (omega arith, omega arith); counting = tt; dues = inl ((0, (main_of 1, refl, stands at_63 2 (acts 1 1 1 (Sent 1 0 (Give (key_future 3 3)))) refl)), refl); fences = tt; bins = refl }, legal_63)

legal_65 : Legal 2 0 at_65
legal_65 = (record { named = (omega arith, omega arith); counting = (refl, refl); dues = refl; fences = tt; bins = refl }, legal_64)

legal_66 : Legal 2 0 at_66
legal_66 = (record { named = (omega arith, omega arith); counting = (refl, refl, ((up 3 1), (main_of 0, refl, stands at_65 15 (acts 0 3 2 (Submitted 5 (up 3 1))) refl)), refl); dues = λ f i. needs_given at_65 (need 3 3 2) (need 3 3 3) f refl refl i; fences = tt; bins = refl }, legal_65)

legal_67 : Legal 2 0 at_67
legal_67 = (record { named = (omega arith, omega arith); counting = tt; dues = tt; fences = tt; bins = (refl, refl) }, legal_66)

legal_68 : Legal 2 0 at_68
legal_68 = (record { named = (omega arith, omega arith); counting = (refl, tt); dues = (tt, search rules, tt); fences = λ i. refl; bins = refl }, legal_67)

legal_69 : Legal 2 0 at_69
legal_69 = (record { named = (omega arith, omega arith); counting = (refl, tt, omega arith, λ e. absurd (omega (arith, e))); dues = tt; fences = λ i. refl; bins = refl }, legal_68)

legal_70 : Legal 2 0 at_70
legal_70 = (record { named = (omega arith, omega arith); counting = tt; dues = inr (refl, refl); fences = tt; bins = refl }, legal_69)

legal_71 : Legal 2 0 at_71
legal_71 = (record { named = (omega arith, omega arith); counting = (refl, refl); dues = (refl, λ d h. absurd (cc)); fences = tt; bins = refl }, legal_70)

legal_72 : Legal 2 0 at_72
legal_72 = (record { named = (omega arith, omega arith); counting = (refl, refl, ((erase 3 2), (main_of 0, refl, stands at_71 3 (acts 0 5 1 (Submitted 6 (erase 3 2))) refl)), refl); dues = λ f i. absurd i; fences = tt; bins = refl }, legal_71)

legal_73 : Legal 2 0 at_73
legal_73 = (record { named = (omega arith, omega arith); counting = tt; dues = tt; fences = tt; bins = (refl, refl) }, legal_72)

legal_74 : Legal 2 0 at_74
legal_74 = (record { named = (omega arith, omega arith); counting = (refl, refl); dues = (tt, λ d h. absurd (cc)); fences = tt; bins = refl }, legal_73)

legal_75 : Legal 2 0 at_75
legal_75 = (record { named = (omega arith, omega arith); counting = (refl, (Spawned (erase_unit 3 3) None, (main_of 0, refl, stands at_74 5 (acts 0 5 2 (Sent 2 1 (Spawned (erase_unit 3 3) None))) refl)), refl); dues = tt; fences = tt; bins = refl }, legal_74)

legal_76 : Legal 2 0 at_76
legal_76 = (record { named = (omega arith, omega arith); counting = (refl, tt); dues = ((1, (main_of 0, refl, stands at_75 6 (acts 0 5 2 (Sent 2 1 (Spawned (erase_unit 3 3) None))) refl)), refl, refl); fences = λ i. refl; bins = refl }, legal_75)

legal_77 : Legal 2 0 at_77
legal_77 = (record { named = (omega arith, omega arith); counting = (refl, refl); dues = refl; fences = tt; bins = refl }, legal_76)

legal_78 : Legal 2 0 at_78
legal_78 = (record { named = (omega arith, omega arith); counting = (refl, refl, ((erase 3 3), (main_of 1, refl, stands at_77 1 (main_does 1 (Submitted 2 (erase 3 3))) refl)), refl); dues = λ f i. absurd i; fences = tt; bins = refl }, legal_77)

legal_79 : Legal 2 0 at_79
legal_79 = (record { named = (omega arith, omega arith); counting = tt; dues = tt; fences = tt; bins = (refl, refl) }, legal_78)

legal_80 : Legal 2 0 at_80
legal_80 = (record { named = (omega arith, omega arith); counting = (refl, refl); dues = (tt, λ d h. absurd (cc)); fences = tt; bins = refl }, legal_79)

legal_81 : Legal 2 0 at_81
legal_81 = (record { named = (omega arith, omega arith); counting = tt; dues = λ d h. absurd (cc); fences = (refl, refl, refl, refl); bins = refl }, legal_80)

legal_82 : Legal 2 0 at_82
legal_82 = (record { named = (omega arith, omega arith); counting = tt; dues = λ d h. absurd (cc); fences = (refl, refl, refl, refl); bins = refl }, legal_81)

legal_83 : Legal 2 0 at_83
legal_83 = (record { named = (omega arith, omega arith); counting = tt; dues = tt; fences = (refl, (refl, refl, refl), refl, (tt, ready_first 2 at_82)); bins = refl }, legal_82)

legal_84 : Legal 2 0 at_84
legal_84 = (record { named = (omega arith, omega arith); counting = tt; dues = tt; fences = (refl, (refl, refl, refl), refl, (2, ([]), refl)); bins = refl }, legal_83)

legal_85 : Legal 2 0 at_85
legal_85 = (record { named = (omega arith, omega arith); counting = tt; dues = tt; fences = (refl, (refl, refl, refl), refl, (7, (reading handlings 2 2 1 ∷ []), refl)); bins = refl }, legal_84)

legal_86 : Legal 2 0 at_86
legal_86 = (record { named = (omega arith, omega arith); counting = tt; dues = tt; fences = (refl, (refl, refl, refl), refl, (7, (reading handlings 2 2 1 ∷ []), refl)); bins = refl }, legal_85)

legal_87 : Legal 2 0 at_87
legal_87 = (record { named = (omega arith, omega arith); counting = tt; dues = tt; fences = (refl, (refl, refl, refl), refl, (tt, ready_first 2 at_86)); bins = refl }, legal_86)

legal_88 : Legal 2 0 at_88
legal_88 = (record { named = (omega arith, omega arith); counting = tt; dues = tt; fences = (refl, (refl, refl, refl), refl, (3, ([]), refl)); bins = refl }, legal_87)

legal_89 : Legal 2 0 at_89
legal_89 = (record { named = (omega arith, omega arith); counting = tt; dues = tt; fences = (refl, (refl, refl, refl), refl, (3, (reading handlings 3 2 1 ∷ []), refl)); bins = refl }, legal_88)

legal_90 : Legal 2 0 at_90
legal_90 = (record { named = (omega arith, omega arith); counting = tt; dues = tt; fences = (refl, (refl, refl, refl), refl, (3, (reading handlings 3 2 1 ∷ []), refl)); bins = refl }, legal_89)

legal_91 : Legal 2 0 at_91
legal_91 = (record { named = (omega arith, omega arith); counting = tt; dues = tt; fences = (refl, (refl, refl, refl), refl, (inl refl, ready_second 2 at_90 (counts 3 2 7) (counts 2 3 3) refl refl)); bins = refl }, legal_90)

legal_92 : Legal 2 0 at_92
legal_92 = (record { named = (omega arith, omega arith); counting = tt; dues = tt; fences = (refl, (refl, refl, refl), refl, (2, (reading sends 3 2 1 ∷ reading submissions 7 2 1 ∷ reading runs 7 2 1 ∷ reading handlings 2 2 1 ∷ []), refl)); bins = refl }, legal_91)

legal_93 : Legal 2 0 at_93
legal_93 = (record { named = (omega arith, omega arith); counting = tt; dues = tt; fences = (refl, (refl, refl, refl), refl, (7, (reading handlings 2 2 2 ∷ reading sends 3 2 1 ∷ reading submissions 7 2 1 ∷ reading runs 7 2 1 ∷ reading handlings 2 2 1 ∷ []), refl)); bins = refl }, legal_92)

legal_94 : Legal 2 0 at_94
legal_94 = (record { named = (omega arith, omega arith); counting = tt; dues = tt; fences = (refl, (refl, refl, refl), refl, (7, (reading handlings 2 2 2 ∷ reading sends 3 2 1 ∷ reading submissions 7 2 1 ∷ reading runs 7 2 1 ∷ reading handlings 2 2 1 ∷ []), refl)); bins = refl }, legal_93)

legal_95 : Legal 2 0 at_95
legal_95 = (record { named = (omega arith, omega arith); counting = tt; dues = tt; fences = (refl, (refl, refl, refl), refl, (inl refl, ready_second 2 at_94 (counts 3 2 7) (counts 2 3 3) refl refl)); bins = refl }, legal_94)

legal_96 : Legal 2 0 at_96
legal_96 = (record { named = (omega arith, omega arith); counting = tt; dues = tt; fences = (refl, (refl, refl, refl), refl, (3, (reading sends 2 2 1 ∷ reading submissions 3 2 1 ∷ reading runs 3 2 1 ∷ reading handlings 3 2 1 ∷ []), refl)); bins = refl }, legal_95)

legal_97 : Legal 2 0 at_97
legal_97 = (record { named = (omega arith, omega arith); counting = tt; dues = tt; fences = (refl, (refl, refl, refl), refl, (3, (reading handlings 3 2 2 ∷ reading sends 2 2 1 ∷ reading submissions 3 2 1 ∷ reading runs 3 2 1 ∷ reading handlings 3 2 1 ∷ []), refl)); bins = refl }, legal_96)

legal_98 : Legal 2 0 at_98
legal_98 = (record { named = (omega arith, omega arith); counting = tt; dues = tt; fences = (refl, (refl, refl, refl), refl, (3, (reading handlings 3 2 2 ∷ reading sends 2 2 1 ∷ reading submissions 3 2 1 ∷ reading runs 3 2 1 ∷ reading handlings 3 2 1 ∷ []), refl)); bins = refl }, legal_97)

legal_99 : Legal 2 0 at_99
legal_99 = (record { named = (omega arith, omega arith); counting = tt; dues = tt; fences = (refl, (refl, refl, refl), refl, (0, refl, complete 2 1 at_98 (counts 3 2 7) (counts 2 3 3) refl refl, complete 2 2 at_98 (counts 3 2 7) (counts 2 3 3) refl refl, record { first = refl; sent_again = refl; handled_again = refl }, (refl, each_rank (λ q. row_of 2 2 (part (main_of q) at_98) ≡ slice_get ((counts 3 2 7) ∷ (counts 2 3 3) ∷ []) q) refl refl))); bins = refl }, legal_98)

legal_100 : Legal 2 0 at_100
legal_100 = (record { named = (omega arith, omega arith); counting = tt; dues = tt; fences = ((refl, refl, refl), refl); bins = refl }, legal_99)

legal_101 : Legal 2 0 at_101
legal_101 = (record { named = (omega arith, omega arith); counting = tt; dues = tt; fences = ((refl, refl, refl), refl); bins = refl }, legal_100)

pub legal_run : Legal 2 0 whole_run
legal_run = legal_101
