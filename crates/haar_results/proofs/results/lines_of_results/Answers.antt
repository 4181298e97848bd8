use Rattle.std.proofs.Common.{◌≡◌, ◌∙◌, ℕ, ◌+◌, List, Some, map, ◌++◌, sym, ap, subst}
use Rattle.std.proofs.Math.ListN.{drop_of_length-le}
use Rattle.job_data.specs.Data.{data_of}
use Rattle.haar_results.specs.Results.{value_lines}
use Rattle.haar_results.proofs.MadeLemmas.{IsMade, at_place, code_at, added_lines, added_none, made_fence, made_none, made_over, made_more}
use Rattle.haar_results.proofs.results.lines_of_results.Goals as goal

pub loop-index-preserved-then-is_fence : goal.loop-index-preserved-then-is_fence
loop-index-preserved-then-is_fence c =
    let xs = c.args.commands.now in
    let k = c.index-commands-index.result in
    let at = code_at data_of xs c.loop-index.index k c.loop-index-test.true c.index-commands-index.is in
    made_fence (map data_of xs) c.args.values.now c.loop-index.index c.loop-index.place c.loop-index.text c.loop-index.invariant (data_of k) at (sym c.is_fence.ensures ∙ c.if-is_fence.true)

pub returns-then-place-values : goal.returns-then-place-values
returns-then-place-values c =
    let xs = c.args.commands.now in
    let k = c.index-commands-index.result in
    let at = code_at data_of xs c.loop-index.index k c.loop-index-test.true c.index-commands-index.is in
    sym (made_none (map data_of xs) c.args.values.now c.loop-index.index c.loop-index.place c.loop-index.text c.loop-index.invariant (data_of k) at
    (sym c.is_fence.ensures ∙ c.if-is_fence.false) (drop_of_length-le c.args.values.now c.if-place-values.true))

pub returns-then-not-branch : goal.returns-then-not-branch
returns-then-not-branch c =
    let xs = c.args.commands.now in
    let k = c.index-commands-index.result in
    let v = c.index-values-place.result in
    let at = code_at data_of xs c.loop-index.index k c.loop-index-test.true c.index-commands-index.is in
    let there = at_place c.args.values.now c.loop-index.place v c.if-place-values.false (sym c.index-values-place.is) in
    let added = added_none c.loop-index.text (value_lines (data_of k) v) c.in_ok-add_lines.field-0 c.add_lines.new.text c.in_ok-add_lines.ensures c.if-not-branch.true in
    ap (λ (bytes : List ℕ). record { text = bytes; overflow = Some (c.loop-index.index + 1) }) added.1
    ∙ sym (made_over (map data_of xs) c.args.values.now c.loop-index.index c.loop-index.place c.loop-index.text c.loop-index.invariant (data_of k) at
    v there (sym c.is_fence.ensures ∙ c.if-is_fence.false) added.0)

pub loop-index-preserved : goal.loop-index-preserved
loop-index-preserved c =
    let xs = c.args.commands.now in
    let k = c.index-commands-index.result in
    let v = c.index-values-place.result in
    let at = code_at data_of xs c.loop-index.index k c.loop-index-test.true c.index-commands-index.is in
    let there = at_place c.args.values.now c.loop-index.place v c.if-place-values.false (sym c.index-values-place.is) in
    let added = added_lines c.loop-index.text (value_lines (data_of k) v) c.in_ok-add_lines.field-0 c.add_lines.new.text c.in_ok-add_lines.ensures c.if-not-branch.false in
    subst (λ text. IsMade (map data_of xs) c.args.values.now (c.loop-index.index + 1) (c.loop-index.place + 1) text) (sym added.text_is)
    (made_more (map data_of xs) c.args.values.now c.loop-index.index c.loop-index.place c.loop-index.text c.loop-index.invariant (data_of k) at
    v there (sym c.is_fence.ensures ∙ c.if-is_fence.false) added.lines added.some)
