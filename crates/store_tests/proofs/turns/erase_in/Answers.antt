use Rattle.std.proofs.Common.{◌≡◌, ◌%◌, sym, ap, subst, ◌∙◌, arith}
use Rattle.std.proofs.Math.ListN.{get_or}
use Rattle.std.proofs.lemmas.Nat.{mod_below}
use Rattle.event_laws.specs.Follows.{bin_of}
use Rattle.world_words.specs.Lanes.{LaneView}
use Rattle.store_tests.specs.Turns.{IsBin}
use Rattle.store_tests.proofs.BinLemmas.{bin_at, bins_still}
use Rattle.store_tests.proofs.turns.erase_in.Goals as goal

pub erase_next-requires-clause-bin : goal.erase_next-requires-clause-bin
erase_next-requires-clause-bin c =
    let w = c.args.words.now in
    let bins = c.args.bins.now.items in
    let i = c.args.name.place % 16 in
    let v = c.index_mut.result.now in
    let here : v ≡ get_or bins i v = c.index_mut.ensures.value in
    subst (λ (z : LaneView). IsBin w z × (z.name ≡ bin_of 0 c.args.name)) (sym here) (bin_at w bins i v c.requires.bins (mod_below c.args.name.place 16 (omega arith)))

pub returns-clause-bins : goal.returns-clause-bins
returns-clause-bins c =
    let w = c.args.words.now in
    let bins = c.args.bins.now.items in
    let i = c.args.name.place % 16 in
    let v = c.index_mut.result.now in
    let new = c.erase_next.new.bin in
    let here : v ≡ get_or bins i v = c.index_mut.ensures.value in
    let kept = c.in_ok-erase_next.ensures.bin in
    bins_still w bins i v new c.requires.bins (mod_below c.args.name.place 16 (omega arith)) kept.0 (kept.1 ∙ ap (λ (z : LaneView). z.name) here)
