use Rattle.std.proofs.Common.{◌≡◌, suc, ◌∷◌, [], ◌++◌, length, sym, ap, subst, ◌∙◌, All, arith}
use Rattle.std.specs.Vec.Iter.{into_iter_items}
use Rattle.world_words.specs.Closing.{own_parts, kept_parts, IsFree}
use Rattle.world_words.proofs.ClosingLemmas.{parts_on, kept_on, parts_end, kept_end, nothing_left}
use Rattle.world_words.proofs.words.Words.fold_rank.Goals as goal

pub fold_kept-requires-clause-table : goal.fold_kept-requires-clause-table
fold_kept-requires-clause-table g c = c.loop-lane.invariant.0

pub fold_kept-requires-clause-room : goal.fold_kept-requires-clause-room
fold_kept-requires-clause-room g c =
    let at = c.loop-lane in
    let short = ap length c.in-Some.ensures.steps.0 in
    let room = at.invariant.4 in omega (arith, short, room)

pub loop-lane-preserved : goal.loop-lane-preserved
loop-lane-preserved g c =
    let at = c.loop-lane in
    let x = c.in-Some.lane in
    let rest = into_iter_items c.next.new.self in
    let steps : into_iter_items at.lane-iterator ≡ x ∷ rest = c.in-Some.ensures.steps.0 in
    let short = ap length steps in
    let gone = c.in-Some.ensures.steps.1 in
    let was = at.invariant in
    let free = subst (All (IsFree c.args.self.now)) steps was.3 in
    let room = c.fold_kept.ensures.room in (
      c.fold_kept.ensures.table ∙ was.0,
      parts_on at.root.parts c.fold_kept.new.root.parts (x ∷ []) rest (into_iter_items at.lane-iterator) _ steps was.1 c.fold_kept.ensures.parts,
      kept_on at.root.book c.fold_kept.new.root.book (x ∷ []) rest (into_iter_items at.lane-iterator) _ steps was.2 c.fold_kept.ensures.book,
      (λ i d lt. free (suc i) d (omega (arith, lt))),
      (let a = was.4 in omega (arith, a, short, room)),
      (let a = was.5 in omega (arith, a, short, room)),
      (let a = was.6 in omega (arith, a, short, gone)),
    )

pub returns-clause-table : goal.returns-clause-table
returns-clause-table g c = c.loop-lane.invariant.0 ∙ sym c.requires.table

pub returns-clause-parts : goal.returns-clause-parts
returns-clause-parts g c =
    let at = c.loop-lane in
    let none = nothing_left (into_iter_items at.lane-iterator) (sym at.invariant.6 ∙ c.in-None.ensures.steps.0) in
    parts_end at.root.parts (into_iter_items at.lane-iterator) _ none at.invariant.1 ∙ ap (λ z. c.args.root.now.parts ++ own_parts z) (c.into_iter-lane-iterator.ensures.into_iter_gives.0 ∙ c.lanes.view_is)

pub returns-clause-book : goal.returns-clause-book
returns-clause-book g c =
    let at = c.loop-lane in
    let none = nothing_left (into_iter_items at.lane-iterator) (sym at.invariant.6 ∙ c.in-None.ensures.steps.0) in
    kept_end at.root.book (into_iter_items at.lane-iterator) _ none at.invariant.2 ∙ ap (λ z. c.args.root.now.book ++ kept_parts z) (c.into_iter-lane-iterator.ensures.into_iter_gives.0 ∙ c.lanes.view_is)

pub returns-clause-room : goal.returns-clause-room
returns-clause-room g c =
    let at = c.loop-lane in
    let none = sym at.invariant.6 ∙ c.in-None.ensures.steps.0 in
    let all = ap length (c.into_iter-lane-iterator.ensures.into_iter_gives.0 ∙ c.lanes.view_is) in
    let least = at.invariant.5 in omega (arith, none, all, least)
