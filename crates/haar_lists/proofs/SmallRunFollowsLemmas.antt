-- The small run follows the job: each effect in its turn, and each task with the effects of a unit on right inputs.
use Rattle.std.proofs.Common.{◌≡◌, ℕ, zero, suc, Bool, true, false, List, [], ◌∷◌, refl, sym, ap, subst, ◌∙◌, arith}
use Rattle.std.specs.Prelude.{Some, None, slice_get, take, ◌||◌, ◌&&◌, pos}
use Rattle.std.proofs.lemmas.Bool.{and_parts}
use Rattle.app_core.specs.Given.{Given}
use Rattle.app_core.specs.declared.Outline.{Outline}
use Rattle.app_core.specs.declared.Outline.TheVariants as of
use Rattle.event_lists.specs.declared.event.Event.TheVariants.{Sent, Submitted, Gave, Put, Erased, Receipt as Receives, Leave}
use Rattle.event_lists.specs.declared.event.Parcel.TheVariants.{Unit as Spawned, Give}
use Rattle.event_lists.specs.Events.{main_of}
use Rattle.event_lists.specs.TaskRuns.{main_does}
use Rattle.event_laws.specs.Follows.{Planned, FollowsBy, CarriesOut, is_own, carried_out}
use Rattle.event_laws.specs.Held.{HasReceipt, AllSound}
use Rattle.tree_key.specs.Keys.{root, child}
use Rattle.haar_node.specs.declared.Node.{Node}
use Rattle.haar_node.specs.declared.Node.TheVariants as node
use Rattle.haar_node.specs.declared.Func.TheVariants as func
use Rattle.haar_units.specs.Units.{down_unit, erase_unit, key_future, entry}
use Rattle.haar_units.proofs.EffectLemmas.{some_is, none_is}
use Rattle.haar_base.specs.declared.operation.Operation.{Operation}
use Rattle.haar_base.specs.declared.operation.Operation.TheVariants.{Project, Coarsen}
use Rattle.haar_base.specs.declared.unit.Side.TheVariants.{Nothing, Entry}
use Rattle.haar_base.specs.declared.unit.Unit.TheVariants as unit
use Rattle.haar_base.specs.declared.value.Value.{Value}
use Rattle.haar_base.specs.declared.value.Value.TheVariants.{Done, Sum}
use Rattle.haar_base.specs.Readings.{nothing_held}
use Rattle.haar_base.specs.Operations.{operation_at}
use Rattle.haar_meaning.specs.PlannedJobs.{IsPlannedJob, HasPlan}
use Rattle.haar_steps.specs.Starts.{kinds_of}
use Rattle.haar_lists.specs.Lists.{MayDo, program, IsJobRun, IsSound}
use Rattle.haar_lists.specs.SmallRun.{halves, down, up, erase, spawn_down, spawn_up, spawn_erase, effects_of, task_effects, acts, stores, first_receipt, second_receipt, first_read, second_read, whole_run}
use Rattle.haar_lists.proofs.SmallRunLemmas.{stands, legal_run}
use Rattle.haar_lists.proofs.SmallRunLemmas as after

-- whether all of these effects that aren't the hand's own are done, by their places
abbrev stores_done : (ℕ → Bool) → List Outline → Bool
stores_done done [] = true
stores_done done (o ∷ os) = (is_own o || done 0) && stores_done (λ j. done (suc j)) os

stored : (done : ℕ → Bool) (os : List Outline) → stores_done done os ≡ true → (j : ℕ) (p : Outline) → slice_get os j ≡ Some p → is_own p ≡ false → done j ≡ true
stored done [] e j p at own = absurd (cc)
stored done (o ∷ os) e zero p at own = let same : o ≡ p = some_is o p at in here (is_own o) (done 0) (ap is_own same ∙ own) (and_parts (is_own o || done 0) (stores_done (λ j. done (suc j)) os) e).0
  where
    here : (a b : Bool) → a ≡ false → (a || b) ≡ true → b ≡ true
    here true b f t = absurd (cc)
    here false b f t = t
stored done (o ∷ os) e (suc j) p at own = stored (λ j. done (suc j)) os (and_parts (is_own o || done 0) (stores_done (λ j. done (suc j)) os) e).1 j p at own

-- each effect is carried out in its turn

carries_3 : CarriesOut task_effects after.at_2 (stores 0 1 0 0 (Put (entry 1 1))) 0 0 0
carries_3 = record { os = effects_of 0 0; o = of.Put (entry 1 1); plan = refl; here = refl; says = (0, refl); rank = refl; effect = refl; taken = refl; once = refl; before = λ j p own. absurd (cc); turn = λ own. absurd (cc) }

carries_4 : CarriesOut task_effects after.at_3 (acts 0 0 1 (Submitted 1 (down 1 2))) 0 0 1
carries_4 = record { os = effects_of 0 0; o = spawn_down 1 2 0; plan = refl; here = refl; says = (1, refl); rank = refl; effect = refl; taken = refl; once = refl; before = λ j p own lt at other. stored (λ j. carried_out 0 0 j after.at_3) (effects_of 0 0) refl j p at other; turn = λ own. refl }

carries_5 : CarriesOut task_effects after.at_4 (acts 0 0 2 (Sent 0 1 (Spawned (down_unit 1 3) (Some (key_future 1 3))))) 0 0 2
carries_5 = record { os = effects_of 0 0; o = spawn_down 1 3 1; plan = refl; here = refl; says = (0, refl); rank = refl; effect = refl; taken = refl; once = refl; before = λ j p own lt at other. stored (λ j. carried_out 0 0 j after.at_4) (effects_of 0 0) refl j p at other; turn = λ own. refl }

carries_6 : CarriesOut task_effects after.at_5 (acts 0 0 3 (Submitted 2 (up 1 1))) 0 0 3
carries_6 = record { os = effects_of 0 0; o = spawn_up 1; plan = refl; here = refl; says = (2, refl); rank = refl; effect = refl; taken = refl; once = refl; before = λ j p own lt at other. stored (λ j. carried_out 0 0 j after.at_5) (effects_of 0 0) refl j p at other; turn = λ own. refl }

carries_9 : CarriesOut task_effects after.at_8 (stores 0 2 1 0 (Put (entry 1 2))) 0 1 0
carries_9 = record { os = effects_of 0 1; o = of.Put (entry 1 2); plan = refl; here = refl; says = (0, refl); rank = refl; effect = refl; taken = refl; once = refl; before = λ j p own. absurd (cc); turn = λ own. absurd (cc) }

carries_10 : CarriesOut task_effects after.at_9 (acts 0 1 1 (Gave (key_future 1 2))) 0 1 1
carries_10 = record { os = effects_of 0 1; o = of.Give (key_future 1 2) 0; plan = refl; here = refl; says = (0, refl); rank = refl; effect = refl; taken = refl; once = refl; before = λ j p own lt at other. stored (λ j. carried_out 0 1 j after.at_9) (effects_of 0 1) refl j p at other; turn = λ own. refl }

carries_16 : CarriesOut task_effects after.at_15 (stores 1 3 0 0 (Put (entry 1 3))) 1 0 0
carries_16 = record { os = effects_of 1 0; o = of.Put (entry 1 3); plan = refl; here = refl; says = (0, refl); rank = refl; effect = refl; taken = refl; once = refl; before = λ j p own. absurd (cc); turn = λ own. absurd (cc) }

carries_17 : CarriesOut task_effects after.at_16 (acts 1 0 1 (Sent 0 0 (Give (key_future 1 3)))) 1 0 1
carries_17 = record { os = effects_of 1 0; o = of.Give (key_future 1 3) 0; plan = refl; here = refl; says = (0, refl); rank = refl; effect = refl; taken = refl; once = refl; before = λ j p own lt at other. stored (λ j. carried_out 1 0 j after.at_16) (effects_of 1 0) refl j p at other; turn = λ own. refl }

carries_23 : CarriesOut task_effects after.at_22 (acts 0 2 0 (Gave (key_future 1 1))) 0 2 0
carries_23 = record { os = effects_of 0 2; o = of.Give (key_future 1 1) 0; plan = refl; here = refl; says = (0, refl); rank = refl; effect = refl; taken = refl; once = refl; before = λ j p own lt at other. stored (λ j. carried_out 0 2 j after.at_22) (effects_of 0 2) refl j p at other; turn = λ own. refl }

carries_48 : CarriesOut task_effects after.at_47 (acts 0 3 0 (Submitted 4 (down 3 2))) 0 3 0
carries_48 = record { os = effects_of 0 3; o = spawn_down 3 2 0; plan = refl; here = refl; says = (4, refl); rank = refl; effect = refl; taken = refl; once = refl; before = λ j p own lt at other. stored (λ j. carried_out 0 3 j after.at_47) (effects_of 0 3) refl j p at other; turn = λ own. refl }

carries_49 : CarriesOut task_effects after.at_48 (acts 0 3 1 (Sent 1 1 (Spawned (down_unit 3 3) (Some (key_future 3 3))))) 0 3 1
carries_49 = record { os = effects_of 0 3; o = spawn_down 3 3 1; plan = refl; here = refl; says = (1, refl); rank = refl; effect = refl; taken = refl; once = refl; before = λ j p own lt at other. stored (λ j. carried_out 0 3 j after.at_48) (effects_of 0 3) refl j p at other; turn = λ own. refl }

carries_50 : CarriesOut task_effects after.at_49 (acts 0 3 2 (Submitted 5 (up 3 1))) 0 3 2
carries_50 = record { os = effects_of 0 3; o = spawn_up 3; plan = refl; here = refl; says = (5, refl); rank = refl; effect = refl; taken = refl; once = refl; before = λ j p own lt at other. stored (λ j. carried_out 0 3 j after.at_49) (effects_of 0 3) refl j p at other; turn = λ own. refl }

carries_53 : CarriesOut task_effects after.at_52 (stores 0 2 4 0 (Put (entry 3 2))) 0 4 0
carries_53 = record { os = effects_of 0 4; o = of.Put (entry 3 2); plan = refl; here = refl; says = (0, refl); rank = refl; effect = refl; taken = refl; once = refl; before = λ j p own. absurd (cc); turn = λ own. absurd (cc) }

carries_54 : CarriesOut task_effects after.at_53 (acts 0 4 1 (Gave (key_future 3 2))) 0 4 1
carries_54 = record { os = effects_of 0 4; o = of.Give (key_future 3 2) 0; plan = refl; here = refl; says = (0, refl); rank = refl; effect = refl; taken = refl; once = refl; before = λ j p own lt at other. stored (λ j. carried_out 0 4 j after.at_53) (effects_of 0 4) refl j p at other; turn = λ own. refl }

carries_60 : CarriesOut task_effects after.at_59 (stores 1 3 1 0 (Put (entry 3 3))) 1 1 0
carries_60 = record { os = effects_of 1 1; o = of.Put (entry 3 3); plan = refl; here = refl; says = (0, refl); rank = refl; effect = refl; taken = refl; once = refl; before = λ j p own. absurd (cc); turn = λ own. absurd (cc) }

carries_61 : CarriesOut task_effects after.at_60 (acts 1 1 1 (Sent 1 0 (Give (key_future 3 3)))) 1 1 1
carries_61 = record { os = effects_of 1 1; o = of.Give (key_future 3 3) 0; plan = refl; here = refl; says = (1, refl); rank = refl; effect = refl; taken = refl; once = refl; before = λ j p own lt at other. stored (λ j. carried_out 1 1 j after.at_60) (effects_of 1 1) refl j p at other; turn = λ own. refl }

carries_67 : CarriesOut task_effects after.at_66 (stores 0 1 5 0 (Put (entry 3 1))) 0 5 0
carries_67 = record { os = effects_of 0 5; o = of.Put (entry 3 1); plan = refl; here = refl; says = (0, refl); rank = refl; effect = refl; taken = refl; once = refl; before = λ j p own. absurd (cc); turn = λ own. absurd (cc) }

carries_68 : CarriesOut task_effects after.at_67 (acts 0 5 1 (Submitted 6 (erase 3 2))) 0 5 1
carries_68 = record { os = effects_of 0 5; o = spawn_erase 2 0; plan = refl; here = refl; says = (6, refl); rank = refl; effect = refl; taken = refl; once = refl; before = λ j p own lt at other. stored (λ j. carried_out 0 5 j after.at_67) (effects_of 0 5) refl j p at other; turn = λ own. refl }

carries_69 : CarriesOut task_effects after.at_68 (acts 0 5 2 (Sent 2 1 (Spawned (erase_unit 3 3) None))) 0 5 2
carries_69 = record { os = effects_of 0 5; o = spawn_erase 3 1; plan = refl; here = refl; says = (2, refl); rank = refl; effect = refl; taken = refl; once = refl; before = λ j p own lt at other. stored (λ j. carried_out 0 5 j after.at_68) (effects_of 0 5) refl j p at other; turn = λ own. refl }

carries_70 : CarriesOut task_effects after.at_69 (acts 0 5 3 (Gave (key_future 3 1))) 0 5 3
carries_70 = record { os = effects_of 0 5; o = of.Give (key_future 3 1) 0; plan = refl; here = refl; says = (0, refl); rank = refl; effect = refl; taken = refl; once = refl; before = λ j p own lt at other. stored (λ j. carried_out 0 5 j after.at_69) (effects_of 0 5) refl j p at other; turn = λ own. refl }

carries_73 : CarriesOut task_effects after.at_72 (stores 0 2 6 0 (Erased (entry 3 2))) 0 6 0
carries_73 = record { os = effects_of 0 6; o = of.Erase (entry 3 2); plan = refl; here = refl; says = (0, refl); rank = refl; effect = refl; taken = refl; once = refl; before = λ j p own. absurd (cc); turn = λ own. absurd (cc) }

carries_79 : CarriesOut task_effects after.at_78 (stores 1 3 2 0 (Erased (entry 3 3))) 1 2 0
carries_79 = record { os = effects_of 1 2; o = of.Erase (entry 3 3); plan = refl; here = refl; says = (0, refl); rank = refl; effect = refl; taken = refl; once = refl; before = λ j p own. absurd (cc); turn = λ own. absurd (cc) }

-- the list follows

follows_0 : FollowsBy (program halves) task_effects after.at_0
follows_0 = tt

follows_1 : FollowsBy (program halves) task_effects after.at_1
follows_1 = ((spawn_down 1 1 0, refl, (0, refl), refl), follows_0)

follows_2 : FollowsBy (program halves) task_effects after.at_2
follows_2 = (refl, follows_1)

follows_3 : FollowsBy (program halves) task_effects after.at_3
follows_3 = ((0, 0, 0, carries_3, refl), follows_2)

follows_4 : FollowsBy (program halves) task_effects after.at_4
follows_4 = ((1, carries_4), follows_3)

follows_5 : FollowsBy (program halves) task_effects after.at_5
follows_5 = ((2, carries_5), follows_4)

follows_6 : FollowsBy (program halves) task_effects after.at_6
follows_6 = ((3, carries_6), follows_5)

follows_7 : FollowsBy (program halves) task_effects after.at_7
follows_7 = ((record { os = effects_of 0 0; plan = refl; turn = refl; before = λ j p at own. stored (λ j. carried_out 0 0 j after.at_6) (effects_of 0 0) refl j p at own }, refl), follows_6)

follows_8 : FollowsBy (program halves) task_effects after.at_8
follows_8 = (refl, follows_7)

follows_9 : FollowsBy (program halves) task_effects after.at_9
follows_9 = ((0, 1, 0, carries_9, refl), follows_8)

follows_10 : FollowsBy (program halves) task_effects after.at_10
follows_10 = ((1, carries_10), follows_9)

follows_11 : FollowsBy (program halves) task_effects after.at_11
follows_11 = ((record { os = effects_of 0 1; plan = refl; turn = refl; before = λ j p at own. stored (λ j. carried_out 0 1 j after.at_10) (effects_of 0 1) refl j p at own }, refl), follows_10)

follows_12 : FollowsBy (program halves) task_effects after.at_12
follows_12 = (refl, follows_11)

follows_13 : FollowsBy (program halves) task_effects after.at_13
follows_13 = (refl, follows_12)

follows_14 : FollowsBy (program halves) task_effects after.at_14
follows_14 = (refl, follows_13)

follows_15 : FollowsBy (program halves) task_effects after.at_15
follows_15 = (refl, follows_14)

follows_16 : FollowsBy (program halves) task_effects after.at_16
follows_16 = ((1, 0, 0, carries_16, refl), follows_15)

follows_17 : FollowsBy (program halves) task_effects after.at_17
follows_17 = ((1, carries_17), follows_16)

follows_18 : FollowsBy (program halves) task_effects after.at_18
follows_18 = ((record { os = effects_of 1 0; plan = refl; turn = refl; before = λ j p at own. stored (λ j. carried_out 1 0 j after.at_17) (effects_of 1 0) refl j p at own }, refl), follows_17)

follows_19 : FollowsBy (program halves) task_effects after.at_19
follows_19 = (refl, follows_18)

follows_20 : FollowsBy (program halves) task_effects after.at_20
follows_20 = (refl, follows_19)

follows_21 : FollowsBy (program halves) task_effects after.at_21
follows_21 = (refl, follows_20)

follows_22 : FollowsBy (program halves) task_effects after.at_22
follows_22 = (refl, follows_21)

follows_23 : FollowsBy (program halves) task_effects after.at_23
follows_23 = ((0, carries_23), follows_22)

follows_24 : FollowsBy (program halves) task_effects after.at_24
follows_24 = ((record { os = effects_of 0 2; plan = refl; turn = refl; before = λ j p at own. stored (λ j. carried_out 0 2 j after.at_23) (effects_of 0 2) refl j p at own }, refl), follows_23)

follows_25 : FollowsBy (program halves) task_effects after.at_25
follows_25 = ((refl, refl), follows_24)

follows_26 : FollowsBy (program halves) task_effects after.at_26
follows_26 = ((refl, refl), follows_25)

follows_27 : FollowsBy (program halves) task_effects after.at_27
follows_27 = (refl, follows_26)

follows_28 : FollowsBy (program halves) task_effects after.at_28
follows_28 = (refl, follows_27)

follows_29 : FollowsBy (program halves) task_effects after.at_29
follows_29 = (refl, follows_28)

follows_30 : FollowsBy (program halves) task_effects after.at_30
follows_30 = (refl, follows_29)

follows_31 : FollowsBy (program halves) task_effects after.at_31
follows_31 = (refl, follows_30)

follows_32 : FollowsBy (program halves) task_effects after.at_32
follows_32 = (refl, follows_31)

follows_33 : FollowsBy (program halves) task_effects after.at_33
follows_33 = (refl, follows_32)

follows_34 : FollowsBy (program halves) task_effects after.at_34
follows_34 = (refl, follows_33)

follows_35 : FollowsBy (program halves) task_effects after.at_35
follows_35 = (refl, follows_34)

follows_36 : FollowsBy (program halves) task_effects after.at_36
follows_36 = (refl, follows_35)

follows_37 : FollowsBy (program halves) task_effects after.at_37
follows_37 = (refl, follows_36)

follows_38 : FollowsBy (program halves) task_effects after.at_38
follows_38 = (refl, follows_37)

follows_39 : FollowsBy (program halves) task_effects after.at_39
follows_39 = (refl, follows_38)

follows_40 : FollowsBy (program halves) task_effects after.at_40
follows_40 = (refl, follows_39)

follows_41 : FollowsBy (program halves) task_effects after.at_41
follows_41 = (refl, follows_40)

follows_42 : FollowsBy (program halves) task_effects after.at_42
follows_42 = (refl, follows_41)

follows_43 : FollowsBy (program halves) task_effects after.at_43
follows_43 = (refl, follows_42)

follows_44 : FollowsBy (program halves) task_effects after.at_44
follows_44 = (refl, follows_43)

follows_45 : FollowsBy (program halves) task_effects after.at_45
follows_45 = (refl, follows_44)

follows_46 : FollowsBy (program halves) task_effects after.at_46
follows_46 = ((spawn_down 3 1 0, refl, (3, refl), refl), follows_45)

follows_47 : FollowsBy (program halves) task_effects after.at_47
follows_47 = (refl, follows_46)

follows_48 : FollowsBy (program halves) task_effects after.at_48
follows_48 = ((0, carries_48), follows_47)

follows_49 : FollowsBy (program halves) task_effects after.at_49
follows_49 = ((1, carries_49), follows_48)

follows_50 : FollowsBy (program halves) task_effects after.at_50
follows_50 = ((2, carries_50), follows_49)

follows_51 : FollowsBy (program halves) task_effects after.at_51
follows_51 = ((record { os = effects_of 0 3; plan = refl; turn = refl; before = λ j p at own. stored (λ j. carried_out 0 3 j after.at_50) (effects_of 0 3) refl j p at own }, refl), follows_50)

follows_52 : FollowsBy (program halves) task_effects after.at_52
follows_52 = (refl, follows_51)

follows_53 : FollowsBy (program halves) task_effects after.at_53
follows_53 = ((0, 4, 0, carries_53, refl), follows_52)

follows_54 : FollowsBy (program halves) task_effects after.at_54
follows_54 = ((1, carries_54), follows_53)

follows_55 : FollowsBy (program halves) task_effects after.at_55
follows_55 = ((record { os = effects_of 0 4; plan = refl; turn = refl; before = λ j p at own. stored (λ j. carried_out 0 4 j after.at_54) (effects_of 0 4) refl j p at own }, refl), follows_54)

follows_56 : FollowsBy (program halves) task_effects after.at_56
follows_56 = (refl, follows_55)

follows_57 : FollowsBy (program halves) task_effects after.at_57
follows_57 = (refl, follows_56)

follows_58 : FollowsBy (program halves) task_effects after.at_58
follows_58 = (refl, follows_57)

follows_59 : FollowsBy (program halves) task_effects after.at_59
follows_59 = (refl, follows_58)

follows_60 : FollowsBy (program halves) task_effects after.at_60
follows_60 = ((1, 1, 0, carries_60, refl), follows_59)

follows_61 : FollowsBy (program halves) task_effects after.at_61
follows_61 = ((1, carries_61), follows_60)

follows_62 : FollowsBy (program halves) task_effects after.at_62
follows_62 = ((record { os = effects_of 1 1; plan = refl; turn = refl; before = λ j p at own. stored (λ j. carried_out 1 1 j after.at_61) (effects_of 1 1) refl j p at own }, refl), follows_61)

follows_63 : FollowsBy (program halves) task_effects after.at_63
follows_63 = (refl, follows_62)

follows_64 : FollowsBy (program halves) task_effects after.at_64
follows_64 = (refl, follows_63)

follows_65 : FollowsBy (program halves) task_effects after.at_65
follows_65 = (refl, follows_64)

follows_66 : FollowsBy (program halves) task_effects after.at_66
follows_66 = (refl, follows_65)

follows_67 : FollowsBy (program halves) task_effects after.at_67
follows_67 = ((0, 5, 0, carries_67, refl), follows_66)

follows_68 : FollowsBy (program halves) task_effects after.at_68
follows_68 = ((1, carries_68), follows_67)

follows_69 : FollowsBy (program halves) task_effects after.at_69
follows_69 = ((2, carries_69), follows_68)

follows_70 : FollowsBy (program halves) task_effects after.at_70
follows_70 = ((3, carries_70), follows_69)

follows_71 : FollowsBy (program halves) task_effects after.at_71
follows_71 = ((record { os = effects_of 0 5; plan = refl; turn = refl; before = λ j p at own. stored (λ j. carried_out 0 5 j after.at_70) (effects_of 0 5) refl j p at own }, refl), follows_70)

follows_72 : FollowsBy (program halves) task_effects after.at_72
follows_72 = (refl, follows_71)

follows_73 : FollowsBy (program halves) task_effects after.at_73
follows_73 = ((0, 6, 0, carries_73, refl), follows_72)

follows_74 : FollowsBy (program halves) task_effects after.at_74
follows_74 = ((record { os = effects_of 0 6; plan = refl; turn = refl; before = λ j p at own. stored (λ j. carried_out 0 6 j after.at_73) (effects_of 0 6) refl j p at own }, refl), follows_73)

follows_75 : FollowsBy (program halves) task_effects after.at_75
follows_75 = (refl, follows_74)

follows_76 : FollowsBy (program halves) task_effects after.at_76
follows_76 = (refl, follows_75)

follows_77 : FollowsBy (program halves) task_effects after.at_77
follows_77 = (refl, follows_76)

follows_78 : FollowsBy (program halves) task_effects after.at_78
follows_78 = (refl, follows_77)

follows_79 : FollowsBy (program halves) task_effects after.at_79
follows_79 = ((1, 2, 0, carries_79, refl), follows_78)

follows_80 : FollowsBy (program halves) task_effects after.at_80
follows_80 = ((record { os = effects_of 1 2; plan = refl; turn = refl; before = λ j p at own. stored (λ j. carried_out 1 2 j after.at_79) (effects_of 1 2) refl j p at own }, refl), follows_79)

follows_81 : FollowsBy (program halves) task_effects after.at_81
follows_81 = ((refl, refl), follows_80)

follows_82 : FollowsBy (program halves) task_effects after.at_82
follows_82 = ((refl, refl), follows_81)

follows_83 : FollowsBy (program halves) task_effects after.at_83
follows_83 = (refl, follows_82)

follows_84 : FollowsBy (program halves) task_effects after.at_84
follows_84 = (refl, follows_83)

follows_85 : FollowsBy (program halves) task_effects after.at_85
follows_85 = (refl, follows_84)

follows_86 : FollowsBy (program halves) task_effects after.at_86
follows_86 = (refl, follows_85)

follows_87 : FollowsBy (program halves) task_effects after.at_87
follows_87 = (refl, follows_86)

follows_88 : FollowsBy (program halves) task_effects after.at_88
follows_88 = (refl, follows_87)

follows_89 : FollowsBy (program halves) task_effects after.at_89
follows_89 = (refl, follows_88)

follows_90 : FollowsBy (program halves) task_effects after.at_90
follows_90 = (refl, follows_89)

follows_91 : FollowsBy (program halves) task_effects after.at_91
follows_91 = (refl, follows_90)

follows_92 : FollowsBy (program halves) task_effects after.at_92
follows_92 = (refl, follows_91)

follows_93 : FollowsBy (program halves) task_effects after.at_93
follows_93 = (refl, follows_92)

follows_94 : FollowsBy (program halves) task_effects after.at_94
follows_94 = (refl, follows_93)

follows_95 : FollowsBy (program halves) task_effects after.at_95
follows_95 = (refl, follows_94)

follows_96 : FollowsBy (program halves) task_effects after.at_96
follows_96 = (refl, follows_95)

follows_97 : FollowsBy (program halves) task_effects after.at_97
follows_97 = (refl, follows_96)

follows_98 : FollowsBy (program halves) task_effects after.at_98
follows_98 = (refl, follows_97)

follows_99 : FollowsBy (program halves) task_effects after.at_99
follows_99 = (refl, follows_98)

follows_100 : FollowsBy (program halves) task_effects after.at_100
follows_100 = (refl, follows_99)

follows_101 : FollowsBy (program halves) task_effects after.at_101
follows_101 = (refl, follows_100)

-- nothing is needed, and nothing read
abbrev no_inputs : Given Value Node
no_inputs = record { values = []; cells = []; size = 0 }

-- each task has the effects of a unit of the job, on inputs that are right for it

planned : (r n : ℕ) (os : List Outline) → task_effects r n ≡ Some os → Planned (MayDo halves) whole_run r n os
planned zero zero os e = record { task = (down 1 1); submitted = (main_of 0, refl, stands whole_run 100 (main_does 0 (Submitted 0 (down 1 1))) refl); taken = refl; may_do = (unit.Down (record { command = 1; key = root; first = Nothing; second = Nothing }), no_inputs, (Project (func.Const (pos 1)) 1 0, record { command = record { at = refl; on_trees = refl }; key = refl; visited = refl; first = refl; second = refl }), refl, record { values = tt; cells = tt; size = refl }, sym (some_is _ os e)) }
planned zero (suc zero) os e = record { task = (down 1 2); submitted = (main_of 0, refl, stands whole_run 97 (acts 0 0 1 (Submitted 1 (down 1 2))) refl); taken = refl; may_do = (unit.Down (record { command = 1; key = (child root false); first = Nothing; second = Nothing }), no_inputs, (Project (func.Const (pos 1)) 1 0, record { command = record { at = refl; on_trees = refl }; key = refl; visited = refl; first = refl; second = refl }), refl, record { values = tt; cells = tt; size = refl }, sym (some_is _ os e)) }
planned zero (suc (suc zero)) os e = record { task = (up 1 1); submitted = (main_of 0, refl, stands whole_run 95 (acts 0 0 3 (Submitted 2 (up 1 1))) refl); taken = refl; may_do = (unit.Up (record { command = 1; key = root; held = nothing_held }), (record { values = Done ∷ Done ∷ []; cells = []; size = 0 }), (Project (func.Const (pos 1)) 1 0, record { command = record { at = refl; on_trees = refl }; key = refl; above = omega arith; visited = refl; held = refl }), refl, record { values = (refl, (refl, tt)); cells = tt; size = refl }, sym (some_is _ os e)) }
planned zero (suc (suc (suc zero))) os e = record { task = (down 3 1); submitted = (main_of 0, refl, stands whole_run 55 (main_does 0 (Submitted 3 (down 3 1))) refl); taken = refl; may_do = (unit.Down (record { command = 3; key = root; first = Entry (pos 0); second = Nothing }), (record { values = []; cells = node.Branch ∷ []; size = 0 }), (Coarsen 1, record { command = record { at = refl; on_trees = refl }; key = refl; visited = refl; first = refl; second = refl }), refl, record { values = tt; cells = (refl, tt); size = refl }, sym (some_is _ os e)) }
planned zero (suc (suc (suc (suc zero)))) os e = record { task = (down 3 2); submitted = (main_of 0, refl, stands whole_run 53 (acts 0 3 0 (Submitted 4 (down 3 2))) refl); taken = refl; may_do = (unit.Down (record { command = 3; key = (child root false); first = Entry (pos 0); second = Nothing }), (record { values = []; cells = node.Leaf (pos 1) ∷ []; size = 0 }), (Coarsen 1, record { command = record { at = refl; on_trees = refl }; key = refl; visited = refl; first = refl; second = refl }), refl, record { values = tt; cells = (refl, tt); size = refl }, sym (some_is _ os e)) }
planned zero (suc (suc (suc (suc (suc zero))))) os e = record { task = (up 3 1); submitted = (main_of 0, refl, stands whole_run 51 (acts 0 3 2 (Submitted 5 (up 3 1))) refl); taken = refl; may_do = (unit.Up (record { command = 3; key = root; held = nothing_held }), (record { values = Sum (pos 1) ∷ Sum (pos 1) ∷ []; cells = []; size = 0 }), (Coarsen 1, record { command = record { at = refl; on_trees = refl }; key = refl; above = omega arith; visited = refl; held = refl }), refl, record { values = (refl, (refl, tt)); cells = tt; size = refl }, sym (some_is _ os e)) }
planned zero (suc (suc (suc (suc (suc (suc zero)))))) os e = record { task = (erase 3 2); submitted = (main_of 0, refl, stands whole_run 33 (acts 0 5 1 (Submitted 6 (erase 3 2))) refl); taken = refl; may_do = (unit.Clear 3 (child root false), no_inputs, (1, record { at = refl; key = refl; below = omega arith; erased = refl }), refl, record { values = tt; cells = tt; size = refl }, sym (some_is _ os e)) }
planned zero (suc (suc (suc (suc (suc (suc (suc n))))))) os e = absurd (cc)
planned (suc zero) zero os e = record { task = (down 1 3); submitted = (main_of 1, refl, stands whole_run 88 (main_does 1 (Submitted 0 (down 1 3))) refl); taken = refl; may_do = (unit.Down (record { command = 1; key = (child root true); first = Nothing; second = Nothing }), no_inputs, (Project (func.Const (pos 1)) 1 0, record { command = record { at = refl; on_trees = refl }; key = refl; visited = refl; first = refl; second = refl }), refl, record { values = tt; cells = tt; size = refl }, sym (some_is _ os e)) }
planned (suc zero) (suc zero) os e = record { task = (down 3 3); submitted = (main_of 1, refl, stands whole_run 44 (main_does 1 (Submitted 1 (down 3 3))) refl); taken = refl; may_do = (unit.Down (record { command = 3; key = (child root true); first = Entry (pos 0); second = Nothing }), (record { values = []; cells = node.Leaf (pos 1) ∷ []; size = 0 }), (Coarsen 1, record { command = record { at = refl; on_trees = refl }; key = refl; visited = refl; first = refl; second = refl }), refl, record { values = tt; cells = (refl, tt); size = refl }, sym (some_is _ os e)) }
planned (suc zero) (suc (suc zero)) os e = record { task = (erase 3 3); submitted = (main_of 1, refl, stands whole_run 25 (main_does 1 (Submitted 2 (erase 3 3))) refl); taken = refl; may_do = (unit.Clear 3 (child root true), no_inputs, (1, record { at = refl; key = refl; below = omega arith; erased = refl }), refl, record { values = tt; cells = tt; size = refl }, sym (some_is _ os e)) }
planned (suc zero) (suc (suc (suc n))) os e = absurd (cc)
planned (suc (suc r)) n os e = absurd (cc)

pub run : IsJobRun halves task_effects whole_run 0
run = record { legal = legal_run; follows = record { planned = planned; goes = follows_101 } }

pub first_received : HasReceipt whole_run first_read (main_does 0 (Receives first_receipt)) first_receipt
first_received = record { begins = (take 58 whole_run, refl); is = refl }

pub second_received : HasReceipt whole_run second_read (main_does 0 (Receives second_receipt)) second_receipt
second_received = record { begins = (main_does 1 (Leave 2) ∷ main_does 0 (Leave 2) ∷ [], refl); is = refl }

-- the job passes all checks, and all its commands are sound

plans : (number : ℕ) (o : Operation) → operation_at halves.operations number ≡ Some o → HasPlan halves.commands number o
plans zero o at = none_is o at
plans (suc zero) o at = subst (HasPlan halves.commands 1) (some_is _ o at) (record { command = _; at = refl; plan = refl })
plans (suc (suc zero)) o at = subst (HasPlan halves.commands 2) (some_is _ o at) (record { command = _; at = refl; plan = tt })
plans (suc (suc (suc zero))) o at = subst (HasPlan halves.commands 3) (some_is _ o at) (record { command = _; at = refl; plan = refl })
plans (suc (suc (suc (suc n)))) o at = none_is o at

pub halves_planned : IsPlannedJob halves
halves_planned = record {
  checked = record { depth = refl; commands = refl };
  ranks = (omega arith, omega arith);
  number = refl;
  plans = plans;
  within = refl;
}

pub all_sound : AllSound (kinds_of halves.operations) (IsSound halves) 2
all_sound command is early = refl
