use Rattle.std.proofs.Common.{◌≤◌, ◌++◌, ◌∷◌, [], List, ℕ, arith, length, get_or, sym, ◌∙◌, ap}
use Rattle.std.proofs.lemmas.List.{length-map, length-set}
use Rattle.std.specs.Prelude.{Vec}
use Rattle.std.specs.declared.alloc.Global.{Global}
use Rattle.job_data.specs.Uses.{items_in, last_use}
use Rattle.job_data.proofs.DropLemmas.{version_at_place, last_within, found_last, same_lists, longer_list}
use Rattle.job_data.proofs.drops.Drops.of_steps.Goals as goal
use Rattle.job_data.proofs.drops.Drops.of_steps.Goals.{in-Some+in_ok-add_to, in_default}

pub index-fence-requires : goal.index-fence-requires
index-fence-requires c =
    let number = version_at_place c.args.steps.now c.loop-at.at c.in-Some.version _ c.requires c.loop-at-test.true c.in-Some.is in
    omega (arith, number, c.in_ok-last.ensures.length)

pub add_to-requires : goal.add_to-requires
add_to-requires c =
    let steps = c.args.steps.now in
    let version = c.in-Some.version in
    let number = version_at_place steps c.loop-at.at version _ c.requires c.loop-at-test.true c.in-Some.is in
    let last = found_last c.in_ok-last.last.items steps version c.index-fence.result.now c.index-fence.ensures (omega (arith, number, c.in_ok-last.ensures.length)) (c.in_ok-last.ensures.uses version (omega (arith, number))) in
    omega (arith, last, last_within steps version c.requires, c.loop-at.invariant.long)

pub loop-at-preserved : goal.loop-at-preserved
loop-at-preserved c =
    let steps = c.args.steps.now in
    let at = c.loop-at.at in
    let old = c.loop-at.lists.items in
    let items : Vec ℕ Global → List ℕ = λ v. v.items in
    elim c.match-step.branch [
      | in-Some+in_ok-add_to w ↦
          let version = w.in-Some.version in
          let number = version_at_place steps at version _ c.requires c.loop-at-test.true w.in-Some.is in
          let last = found_last c.in_ok-last.last.items steps version w.index-fence.result.now w.index-fence.ensures (omega (arith, number, c.in_ok-last.ensures.length)) (c.in_ok-last.ensures.uses version (omega (arith, number))) in
          let room : last_use steps version ≤ length steps = last_within steps version c.requires in
          let added = rw last at w.in_ok-add_to.ensures in
          let lists = rw (← w.lists-is) at added in
          record {
            long = sym (length-map c.match-step.lists.items items) ∙ ap length lists ∙ length-set (items_in old) (last_use steps version) (get_or (items_in old) (last_use steps version) [] ++ version ∷ []) ∙ length-map old items ∙ c.loop-at.invariant.long;
            drops = λ e. ap (λ ls. get_or ls e []) lists ∙ longer_list steps at version _ (items_in old) e c.requires c.loop-at-test.true w.in-Some.is (omega (arith, room, length-map old items, c.loop-at.invariant.long)) (c.loop-at.invariant.drops e);
          }
      | in_default w ↦
          let lists = ap (λ (v : Vec (Vec ℕ Global) Global). v.items) w.lists-is in
          record {
            long = ap (λ ls. length ls) lists ∙ c.loop-at.invariant.long;
            drops = λ e. ap (λ ls. get_or (items_in ls) e []) lists ∙ same_lists steps at _ (items_in old) e c.requires c.loop-at-test.true w.in_default.is (c.loop-at.invariant.drops e);
          }
    ]
