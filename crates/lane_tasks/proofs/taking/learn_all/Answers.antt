use Rattle.std.proofs.Common.{◌≡◌, ◌⊎◌, ◌∷◌, [], List, ℕ, length, Contains, inl, inr, ⊎_elim, refl, sym, ap, subst, ◌∙◌, rules, arith}
use Rattle.std.specs.Vec.Iter.{into_iter_items, into_iter_len}
use Rattle.event_lists.specs.Events.{Begins}
use Rattle.event_lists.proofs.ListLemmas.{begins_refl, begins_trans}
use Rattle.world_words.specs.Lanes.{LaneView, ToldView}
use Rattle.world_rule.proofs.ContainsLemmas.{contains_none, contains_first, contains_later, contains_cases}
use Rattle.lane_tasks.proofs.ToldLemmas.{nothing_left}
use Rattle.lane_tasks.proofs.taking.learn_all.Goals as goal

pub loop-told-init : goal.loop-told-init
loop-told-init g c =
    let gives = c.into_iter-told-iterator.ensures.into_iter_gives in
    record {
      lane = refl;
      seen = begins_refl c.args.lane.now.seen;
      tables = λ told at. c.requires.tables told (subst (λ z. Contains z told) gives.0 at);
      learnt = λ told at. inl at;
      len = search rules;
    }

pub learn-requires : goal.learn-requires
learn-requires g c =
    let at = c.loop-told in
    record {
      table = (
        ap (λ v. v.table) at.invariant.lane ∙ c.requires.table,
        at.invariant.tables c.in-Some.told (subst (λ z. Contains z c.in-Some.told) (sym c.in-Some.ensures.steps.0) (contains_first c.in-Some.told (into_iter_items c.next.new.self))),
      );
    }

pub loop-told-preserved : goal.loop-told-preserved
loop-told-preserved g c =
    let at = c.loop-told in
    let was = at.invariant in
    let x = c.in-Some.told in
    let rest = into_iter_items c.next.new.self in
    let steps : into_iter_items at.told-iterator ≡ x ∷ rest = c.in-Some.ensures.steps.0 in
    let short = ap length steps in
    let gone = c.in-Some.ensures.steps.1 in
    let more = c.learn.ensures.sees.seen in
    let now = c.learn.new.lane.seen in
    let same : record at.lane { seen = now } ≡ record c.args.lane.now { seen = now } = ap (λ (v : LaneView). record v { seen = now }) was.lane in
    record {
      lane = c.learn.ensures.lane ∙ same;
      seen = begins_trans c.args.lane.now.seen at.lane.seen now was.seen more;
      tables = λ told here. was.tables told (subst (λ z. Contains z told) (sym steps) (contains_later x rest told here));
      learnt = λ told here.
          ⊎_elim
          (λ left. ⊎_elim (λ is. inr (subst (λ (z : ToldView). Begins z.seen now) is c.learn.ensures.learnt)) (λ later. inl later) (contains_cases x rest told (subst (λ z. Contains z told) steps left)))
          (λ begins. inr (begins_trans told.seen at.lane.seen now begins more))
          (was.learnt told here);
      len = (let a = was.len in omega (arith, a, short, gone));
    }

pub returns-clause-learnt : goal.returns-clause-learnt
returns-clause-learnt g c =
    let at = c.loop-told in
    let none = nothing_left (into_iter_items at.told-iterator) (sym at.invariant.len ∙ c.in-None.ensures.steps.0) in
    λ told here.
    ⊎_elim
    (λ left. contains_none told (subst (λ z. Contains z told) none left))
    (λ begins. begins)
    (at.invariant.learnt told (subst (λ z. Contains z told) (sym c.into_iter-told-iterator.ensures.into_iter_gives.0) here))
