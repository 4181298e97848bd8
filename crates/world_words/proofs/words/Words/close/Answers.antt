use Rattle.std.proofs.Common.{◌≡◌, ℕ, ◌+◌, ◌*◌, ◌≤◌, List, ◌++◌, length, reverse, sym, ap, subst, ◌∙◌, arith}
use Rattle.app_core.specs.Commands.{IsRankCount}
use Rattle.event_books.specs.Books.{PartData, BookData, IsBook, events_of, parts_in, lanes_in_order, book_of}
use Rattle.world_rule.specs.declared.view.OwnPart.{OwnPart}
use Rattle.world_words.specs.Lanes.{WordsView, RootView, Lawful}
use Rattle.world_words.specs.Closing.{all_of, own_parts, kept_parts, IsFree}
use Rattle.world_words.proofs.ClosingLemmas.{all_left, all_right, kept_append, room_for_all, closed}
use Rattle.world_words.proofs.words.Words.close.Goals as goal

pub fold_ranks-requires-clause-free : goal.fold_ranks-requires-clause-free
fold_ranks-requires-clause-free g c = all_left (IsFree c.args.self) (all_of c.args.lanes.hands.items) (all_of c.args.lanes.bins.items) c.requires.lanes.free

pub fold_ranks-requires-clause-room : goal.fold_ranks-requires-clause-room
fold_ranks-requires-clause-room g c =
    let a = c.args in
    let may = g.A.Facts.may_do a.self.app in
    let hands = a.lanes.hands.items in
    let bins = a.lanes.bins.items in
    let ranks_is : a.self.ranks ≡ c.self.inside.ranks = sym (ap (λ (v : WordsView _). v.ranks) c.self.view_is) ∙ c.self.invariant.1 in
    let workers_is : a.self.workers ≡ c.self.inside.workers = sym (ap (λ (v : WordsView _). v.workers) c.self.view_is) ∙ c.self.invariant.2 in
    let range : IsRankCount a.self.ranks = subst IsRankCount (sym ranks_is) c.self.invariant.3 in
    let few : a.self.workers ≤ 4 = subst (λ (z : ℕ). z ≤ 4) (sym workers_is) c.self.invariant.4 in
    let fit = room_for_all a.self may hands bins c.requires.lanes few in
    let has = c.requires.root.2 in omega (arith, fit, has)

pub fold_ranks-requires-2-clause-free : goal.fold_ranks-requires-2-clause-free
fold_ranks-requires-2-clause-free g c = all_right (IsFree c.args.self) (all_of c.args.lanes.hands.items) (all_of c.args.lanes.bins.items) c.requires.lanes.free

pub fold_ranks-requires-2-clause-room : goal.fold_ranks-requires-2-clause-room
fold_ranks-requires-2-clause-room g c =
    let a = c.args in
    let may = g.A.Facts.may_do a.self.app in
    let hands = a.lanes.hands.items in
    let bins = a.lanes.bins.items in
    let ranks_is : a.self.ranks ≡ c.self.inside.ranks = sym (ap (λ (v : WordsView _). v.ranks) c.self.view_is) ∙ c.self.invariant.1 in
    let workers_is : a.self.workers ≡ c.self.inside.workers = sym (ap (λ (v : WordsView _). v.workers) c.self.view_is) ∙ c.self.invariant.2 in
    let range : IsRankCount a.self.ranks = subst IsRankCount (sym ranks_is) c.self.invariant.3 in
    let few : a.self.workers ≤ 4 = subst (λ (z : ℕ). z ≤ 4) (sym workers_is) c.self.invariant.4 in
    let fit = room_for_all a.self may hands bins c.requires.lanes few in
    let has = c.requires.root.2 in
    let left = c.fold_ranks.ensures.room in omega (arith, fit, has, left)

pub new-book-requires : goal.new-book-requires
new-book-requires g c =
    let a = c.args in
    let may = g.A.Facts.may_do a.self.app in
    let hands = a.lanes.hands.items in
    let bins = a.lanes.bins.items in
    let ranks_is : a.self.ranks ≡ c.self.inside.ranks = sym (ap (λ (v : WordsView _). v.ranks) c.self.view_is) ∙ c.self.invariant.1 in
    let workers_is : a.self.workers ≡ c.self.inside.workers = sym (ap (λ (v : WordsView _). v.workers) c.self.view_is) ∙ c.self.invariant.2 in
    let range : IsRankCount a.self.ranks = subst IsRankCount (sym ranks_is) c.self.invariant.3 in
    let few : a.self.workers ≤ 4 = subst (λ (z : ℕ). z ≤ 4) (sym workers_is) c.self.invariant.4 in
    let parts : c.settle.new.root.parts ≡ (a.lanes.root.parts ++ own_parts (all_of hands)) ++ own_parts (all_of bins) =
    ap (λ (r : RootView). r.parts) c.settle.ensures.root ∙ c.fold_ranks-2.ensures.parts ∙ ap (λ (ps : List OwnPart). ps ++ own_parts (all_of bins)) c.fold_ranks.ensures.parts in
    let all = closed a.self may hands bins a.lanes.root.parts c.settle.new.root.seen c.requires.lanes range few (subst (λ (ps : List OwnPart). Lawful a.self may ps c.settle.new.root.seen) parts c.settle.ensures.lawful) in
    let book_is : c.root.inside.parts.items ≡ kept_parts (all_of hands ++ all_of bins) =
    ap (λ (r : RootView). r.book) c.root.view_is ∙ ap (λ (r : RootView). r.book) c.settle.ensures.root ∙ c.fold_ranks-2.ensures.book
    ∙ ap (λ (ps : List PartData). ps ++ kept_parts (all_of bins)) (c.fold_ranks.ensures.book ∙ ap (λ (ps : List PartData). ps ++ kept_parts (all_of hands)) c.requires.root.1)
    ∙ sym (kept_append (all_of hands) (all_of bins)) in
    let made : ℕ → ℕ → List PartData → BookData = (λ r w ps. record { ranks = r; workers = w; parts = ps }) in
    let same : made a.self.ranks a.self.workers (kept_parts (all_of hands ++ all_of bins)) ≡ made c.self.inside.ranks c.self.inside.workers c.root.inside.parts.items = (λ j. made (ranks_is j) (workers_is j) ((sym book_is) j)) in
    subst IsBook same all.is_book

pub returns-clause-parts : goal.returns-clause-parts
returns-clause-parts g c = λ v has.
    let a = c.args in
    let may = g.A.Facts.may_do a.self.app in
    let hands = a.lanes.hands.items in
    let bins = a.lanes.bins.items in
    let ranks_is : a.self.ranks ≡ c.self.inside.ranks = sym (ap (λ (v : WordsView _). v.ranks) c.self.view_is) ∙ c.self.invariant.1 in
    let workers_is : a.self.workers ≡ c.self.inside.workers = sym (ap (λ (v : WordsView _). v.workers) c.self.view_is) ∙ c.self.invariant.2 in
    let range : IsRankCount a.self.ranks = subst IsRankCount (sym ranks_is) c.self.invariant.3 in
    let few : a.self.workers ≤ 4 = subst (λ (z : ℕ). z ≤ 4) (sym workers_is) c.self.invariant.4 in
    let parts : c.settle.new.root.parts ≡ (a.lanes.root.parts ++ own_parts (all_of hands)) ++ own_parts (all_of bins) =
    ap (λ (r : RootView). r.parts) c.settle.ensures.root ∙ c.fold_ranks-2.ensures.parts ∙ ap (λ (ps : List OwnPart). ps ++ own_parts (all_of bins)) c.fold_ranks.ensures.parts in
    let all = closed a.self may hands bins a.lanes.root.parts c.settle.new.root.seen c.requires.lanes range few (subst (λ (ps : List OwnPart). Lawful a.self may ps c.settle.new.root.seen) parts c.settle.ensures.lawful) in
    let seen_is : c.root.inside.seat.me.0.seen ≡ c.settle.new.root.seen = ap (λ (r : RootView). r.seen) c.root.view_is in
    let parts_is : (book_of a.self.ranks a.self.workers c.settle.new.root.seen).parts ≡ parts_in c.root.inside.seat.me.0.seen (lanes_in_order c.self.inside.ranks c.self.inside.workers) =
    (λ j. parts_in ((sym seen_is) j) (lanes_in_order (ranks_is j) (workers_is j))) in
    subst (λ (ps : List PartData). events_of v.name ps ≡ reverse v.mine) parts_is (all.parts v has)

pub returns-clause-book : goal.returns-clause-book
returns-clause-book g c = λ on.
    let a = c.args in
    let may = g.A.Facts.may_do a.self.app in
    let hands = a.lanes.hands.items in
    let bins = a.lanes.bins.items in
    let ranks_is : a.self.ranks ≡ c.self.inside.ranks = sym (ap (λ (v : WordsView _). v.ranks) c.self.view_is) ∙ c.self.invariant.1 in
    let workers_is : a.self.workers ≡ c.self.inside.workers = sym (ap (λ (v : WordsView _). v.workers) c.self.view_is) ∙ c.self.invariant.2 in
    let range : IsRankCount a.self.ranks = subst IsRankCount (sym ranks_is) c.self.invariant.3 in
    let few : a.self.workers ≤ 4 = subst (λ (z : ℕ). z ≤ 4) (sym workers_is) c.self.invariant.4 in
    let parts : c.settle.new.root.parts ≡ (a.lanes.root.parts ++ own_parts (all_of hands)) ++ own_parts (all_of bins) =
    ap (λ (r : RootView). r.parts) c.settle.ensures.root ∙ c.fold_ranks-2.ensures.parts ∙ ap (λ (ps : List OwnPart). ps ++ own_parts (all_of bins)) c.fold_ranks.ensures.parts in
    let all = closed a.self may hands bins a.lanes.root.parts c.settle.new.root.seen c.requires.lanes range few (subst (λ (ps : List OwnPart). Lawful a.self may ps c.settle.new.root.seen) parts c.settle.ensures.lawful) in
    let seen_is : c.root.inside.seat.me.0.seen ≡ c.settle.new.root.seen = ap (λ (r : RootView). r.seen) c.root.view_is in
    let parts_is : (book_of a.self.ranks a.self.workers c.settle.new.root.seen).parts ≡ parts_in c.root.inside.seat.me.0.seen (lanes_in_order c.self.inside.ranks c.self.inside.workers) =
    (λ j. parts_in ((sym seen_is) j) (lanes_in_order (ranks_is j) (workers_is j))) in
    let book_is : c.root.inside.parts.items ≡ kept_parts (all_of hands ++ all_of bins) =
    ap (λ (r : RootView). r.book) c.root.view_is ∙ ap (λ (r : RootView). r.book) c.settle.ensures.root ∙ c.fold_ranks-2.ensures.book
    ∙ ap (λ (ps : List PartData). ps ++ kept_parts (all_of bins)) (c.fold_ranks.ensures.book ∙ ap (λ (ps : List PartData). ps ++ kept_parts (all_of hands)) c.requires.root.1)
    ∙ sym (kept_append (all_of hands) (all_of bins)) in
    let with_parts : List PartData → BookData = (λ ps. record { ranks = c.self.inside.ranks; workers = c.self.inside.workers; parts = ps }) in
    c.new-book.ensures ∙ ap with_parts (book_is ∙ all.kept on ∙ parts_is)

pub returns-clause-no_book : goal.returns-clause-no_book
returns-clause-no_book g c = λ off.
    let a = c.args in
    let may = g.A.Facts.may_do a.self.app in
    let hands = a.lanes.hands.items in
    let bins = a.lanes.bins.items in
    let ranks_is : a.self.ranks ≡ c.self.inside.ranks = sym (ap (λ (v : WordsView _). v.ranks) c.self.view_is) ∙ c.self.invariant.1 in
    let workers_is : a.self.workers ≡ c.self.inside.workers = sym (ap (λ (v : WordsView _). v.workers) c.self.view_is) ∙ c.self.invariant.2 in
    let range : IsRankCount a.self.ranks = subst IsRankCount (sym ranks_is) c.self.invariant.3 in
    let few : a.self.workers ≤ 4 = subst (λ (z : ℕ). z ≤ 4) (sym workers_is) c.self.invariant.4 in
    let parts : c.settle.new.root.parts ≡ (a.lanes.root.parts ++ own_parts (all_of hands)) ++ own_parts (all_of bins) =
    ap (λ (r : RootView). r.parts) c.settle.ensures.root ∙ c.fold_ranks-2.ensures.parts ∙ ap (λ (ps : List OwnPart). ps ++ own_parts (all_of bins)) c.fold_ranks.ensures.parts in
    let all = closed a.self may hands bins a.lanes.root.parts c.settle.new.root.seen c.requires.lanes range few (subst (λ (ps : List OwnPart). Lawful a.self may ps c.settle.new.root.seen) parts c.settle.ensures.lawful) in
    let book_is : c.root.inside.parts.items ≡ kept_parts (all_of hands ++ all_of bins) =
    ap (λ (r : RootView). r.book) c.root.view_is ∙ ap (λ (r : RootView). r.book) c.settle.ensures.root ∙ c.fold_ranks-2.ensures.book
    ∙ ap (λ (ps : List PartData). ps ++ kept_parts (all_of bins)) (c.fold_ranks.ensures.book ∙ ap (λ (ps : List PartData). ps ++ kept_parts (all_of hands)) c.requires.root.1)
    ∙ sym (kept_append (all_of hands) (all_of bins)) in
    let with_parts : List PartData → BookData = (λ ps. record { ranks = c.self.inside.ranks; workers = c.self.inside.workers; parts = ps }) in
    c.new-book.ensures ∙ ap with_parts (book_is ∙ all.none off)
