use Rattle.std.proofs.Common.{arith, rules, ◌≡◌, slice_set, Some}
use Rattle.std.proofs.lemmas.Grind.{common_steps}
use Rattle.depend.specs.Slots.{empty_count}
use Rattle.depend.proofs.SlotLemmas.{ready_from_count, count_from_ready, last_from_ready, ready_from_last}
use Rattle.depend.proofs.waiting.Waiting.learn.Goals as goal
use Rattle.depend.proofs.waiting.Waiting.learn.Goals.{then-self-eq0, else-self-eq0}

pub returns-clause-ready : goal.returns-clause-ready
returns-clause-ready g c =
    rw (← c.self.view_is) (
    elim c.if-self-eq0.branch [
      | then-self-eq0 w ↦
          let none : empty_count (slice_set c.self.inside.slots.items c.args.index (Some c.args.value)) ≡ 0 = grind (arith, common_steps) in (
            (λ answered. last_from_ready c.self.inside.slots.items c.args.index c.args.value (search rules) (ready_from_count (slice_set c.self.inside.slots.items c.args.index (Some c.args.value)) none)),
            (λ last. search rules),
          )
      | else-self-eq0 w ↦ (
        (λ answered. cc),
        (λ last.
            let none = count_from_ready (slice_set c.self.inside.slots.items c.args.index (Some c.args.value)) (ready_from_last c.self.inside.slots.items c.args.index c.args.value (search rules) last) in
            absurd (grind (arith, common_steps))),
      )
    ])

pub returns-clause-complete : goal.returns-clause-complete
returns-clause-complete g c =
    elim c.if-self-eq0.branch [
      | then-self-eq0 w ↦ λ answered.
          let none : empty_count (slice_set c.self.inside.slots.items c.args.index (Some c.args.value)) ≡ 0 = grind (arith, common_steps) in
          ready_from_count (slice_set c.self.inside.slots.items c.args.index (Some c.args.value)) none
      | else-self-eq0 w ↦ λ answered. cc
    ]
