use Rattle.std.proofs.Common.{◌≡◌, ℕ, suc, ◌+◌, sym, ap, subst, ◌∙◌, arith}
use Rattle.world_words.specs.Lanes.{LaneView}
use Rattle.words_tests.specs.Turns.{IsInside, HasRow, HasRows}
use Rattle.words_tests.proofs.ReceiptTurnLemmas.{more_rows, ready_after}
use Rattle.words_tests.proofs.turns.tell_all.Goals as goal

pub returns-clause-ready : goal.returns-clause-ready
returns-clause-ready g c =
    let a = c.args in
    let f = a.fence in
    let p = a.pass in
    let rows = a._rows.now in
    let names = c.requires.names in
    let next : p + 1 ≡ suc p = omega arith in
    let at2 : HasRows f p rows.zero rows.one rows.two c.share-2.new.to.seen = record {
      first = c.share-2.ensures.knew f p 0 _ (c.share.ensures.knew f p 0 _ c.requires.rows.0);
      second = c.share-2.ensures.knew f p 1 _ (c.share.ensures.learnt f p 1 _ c.requires.rows.1);
      third = c.share-2.ensures.learnt f p 2 _ c.requires.rows.2;
    } in
    let at3 : HasRows f p rows.zero rows.one rows.two c.share-3.new.from.seen = subst (λ (v : LaneView). HasRows f p rows.zero rows.one rows.two v.seen) (sym c.share-3.ensures.from) at2 in
    let at4 : HasRows f p rows.zero rows.one rows.two c.share-4.new.from.seen = subst (λ (v : LaneView). HasRows f p rows.zero rows.one rows.two v.seen) (sym c.share-4.ensures.from) at3 in
    let zero_is : c.share-4.new.from ≡ c.share-2.new.to = c.share-4.ensures.from ∙ c.share-3.ensures.from in
    record {
      ranks = c.requires.ranks;
      names = (
        ap (λ (v : LaneView). v.name.rank) zero_is ∙ ap (λ (v : LaneView). v.name.rank) c.share-2.ensures.lane ∙ ap (λ (v : LaneView). v.name.rank) c.share.ensures.lane ∙ names.0,
        ap (λ (v : LaneView). v.name.rank) c.share-3.ensures.lane ∙ ap (λ (v : LaneView). v.name.rank) c.share.ensures.from ∙ names.1,
        ap (λ (v : LaneView). v.name.rank) c.share-4.ensures.lane ∙ ap (λ (v : LaneView). v.name.rank) c.share-2.ensures.from ∙ names.2,
      );
      inside = (
        subst (IsInside a.words.now f (suc p)) (sym zero_is) (subst (λ (n : ℕ). IsInside a.words.now f n c.share-2.new.to) next c.share-2.ensures.inside),
        subst (λ (n : ℕ). IsInside a.words.now f n c.share-3.new.to) next c.share-3.ensures.inside,
        subst (λ (n : ℕ). IsInside a.words.now f n c.share-4.new.to) next c.share-4.ensures.inside,
      );
      complete = (
        ready_after f p _ _ _ _ at4,
        ready_after f p _ _ _ _ (more_rows f p _ _ _ c.share-2.new.to.seen _ (c.share-3.ensures.learnt f p) at2),
        ready_after f p _ _ _ _ (more_rows f p _ _ _ c.share-3.new.from.seen _ (c.share-4.ensures.learnt f p) at3),
      );
    }

pub returns-clause-rows : goal.returns-clause-rows
returns-clause-rows g c =
    let a = c.args in
    let f = a.fence in
    let p = a.pass in
    let rows = a._rows.now in
    let zero_is : c.share-4.new.from ≡ c.share-2.new.to = c.share-4.ensures.from ∙ c.share-3.ensures.from in
    let at2 : HasRows f p rows.zero rows.one rows.two c.share-2.new.to.seen = record {
      first = c.share-2.ensures.knew f p 0 _ (c.share.ensures.knew f p 0 _ c.requires.rows.0);
      second = c.share-2.ensures.knew f p 1 _ (c.share.ensures.learnt f p 1 _ c.requires.rows.1);
      third = c.share-2.ensures.learnt f p 2 _ c.requires.rows.2;
    } in
    subst (λ (v : LaneView). HasRows f p rows.zero rows.one rows.two v.seen) (sym zero_is) at2

pub returns-clause-knew : goal.returns-clause-knew
returns-clause-knew g c = λ f p q row has.
    let zero_is : c.share-4.new.from ≡ c.share-2.new.to = c.share-4.ensures.from ∙ c.share-3.ensures.from in
    subst (λ (v : LaneView). HasRow f p q row v.seen) (sym zero_is) (c.share-2.ensures.knew f p q row (c.share.ensures.knew f p q row has))
