use Rattle.std.proofs.Common.{◌≡◌, ◌+◌, ◌∷◌, [], ◌++◌, length, sym, ap, subst, ◌∙◌, All, arith, length-append}
use Rattle.std.specs.Vec.Iter.{into_iter_items}
use Rattle.world_words.specs.Closing.{all_of, own_parts, kept_parts, IsFree}
use Rattle.world_words.proofs.ClosingLemmas.{parts_on, kept_on, parts_end, kept_end, nothing_left, all_left, all_right}
use Rattle.world_words.proofs.words.Words.fold_ranks.Goals as goal

pub fold_rank-requires-clause-table : goal.fold_rank-requires-clause-table
fold_rank-requires-clause-table g c = c.loop-lanes.invariant.0

pub fold_rank-requires-clause-free : goal.fold_rank-requires-clause-free
fold_rank-requires-clause-free g c =
    all_left (IsFree c.args.self.now) c.in-Some.lanes (all_of (into_iter_items c.next.new.self)) (subst (λ z. All (IsFree c.args.self.now) (all_of z)) c.in-Some.ensures.steps.0 c.loop-lanes.invariant.3)

pub fold_rank-requires-clause-room : goal.fold_rank-requires-clause-room
fold_rank-requires-clause-room g c =
    let short = ap (λ z. length (all_of z)) c.in-Some.ensures.steps.0 in
    let sum = length-append c.in-Some.lanes (all_of (into_iter_items c.next.new.self)) in
    let room = c.loop-lanes.invariant.4 in omega (arith, short, sum, room)

pub loop-lanes-preserved : goal.loop-lanes-preserved
loop-lanes-preserved g c =
    let at = c.loop-lanes in
    let x = c.in-Some.lanes in
    let rest = all_of (into_iter_items c.next.new.self) in
    let steps : all_of (into_iter_items at.lanes-iterator) ≡ x ++ rest = ap all_of c.in-Some.ensures.steps.0 in
    let short = ap length steps in
    let one = ap length c.in-Some.ensures.steps.0 in
    let sum = length-append x rest in
    let gone = c.in-Some.ensures.steps.1 in
    let was = at.invariant in
    let room = c.fold_rank.ensures.room in (
      c.fold_rank.ensures.table ∙ was.0,
      parts_on at.root.parts c.fold_rank.new.root.parts x rest (all_of (into_iter_items at.lanes-iterator)) _ steps was.1 c.fold_rank.ensures.parts,
      kept_on at.root.book c.fold_rank.new.root.book x rest (all_of (into_iter_items at.lanes-iterator)) _ steps was.2 c.fold_rank.ensures.book,
      all_right (IsFree c.args.self.now) x rest (subst (All (IsFree c.args.self.now)) steps was.3),
      (let a = was.4 in omega (arith, a, short, sum, room)),
      (let a = was.5 in omega (arith, a, short, sum, room)),
      (let a = was.6 in omega (arith, a, one, gone)),
    )

pub returns-clause-table : goal.returns-clause-table
returns-clause-table g c = c.loop-lanes.invariant.0 ∙ sym c.requires.table

pub returns-clause-parts : goal.returns-clause-parts
returns-clause-parts g c =
    let at = c.loop-lanes in
    let none = nothing_left (into_iter_items at.lanes-iterator) (sym at.invariant.6 ∙ c.in-None.ensures.steps.0) in
    parts_end at.root.parts (all_of (into_iter_items at.lanes-iterator)) _ (ap all_of none) at.invariant.1 ∙ ap (λ z. c.args.root.now.parts ++ own_parts (all_of z)) c.into_iter-lanes-iterator.ensures.into_iter_gives.0

pub returns-clause-book : goal.returns-clause-book
returns-clause-book g c =
    let at = c.loop-lanes in
    let none = nothing_left (into_iter_items at.lanes-iterator) (sym at.invariant.6 ∙ c.in-None.ensures.steps.0) in
    kept_end at.root.book (all_of (into_iter_items at.lanes-iterator)) _ (ap all_of none) at.invariant.2 ∙ ap (λ z. c.args.root.now.book ++ kept_parts (all_of z)) c.into_iter-lanes-iterator.ensures.into_iter_gives.0

pub returns-clause-room : goal.returns-clause-room
returns-clause-room g c =
    let at = c.loop-lanes in
    let none = nothing_left (into_iter_items at.lanes-iterator) (sym at.invariant.6 ∙ c.in-None.ensures.steps.0) in
    let left = ap (λ z. length (all_of z)) none in
    let all = ap (λ z. length (all_of z)) c.into_iter-lanes-iterator.ensures.into_iter_gives.0 in
    let least = at.invariant.5 in omega (arith, left, all, least)
