use Rattle.std.proofs.Common.{◌<◌, ◌≤◌, length, ◌∙◌, arith}
use Rattle.haar_lines.proofs.RowLemmas.{put_there, put_after}
use Rattle.haar_lines.proofs.lines.put_row.Goals as goal

pub returns-in_ok-append : goal.returns-in_ok-append
returns-in_ok-append c =
    let below : c.args.at < length c.args.rows.now.items = omega (arith, c.if-at-len.true, c.len.ensures) in
    put_there c.args.rows.now.items c.args.at c.index_mut.result.now c.args.other c.append.new.self below c.index_mut.ensures.value c.in_ok-append.ensures.items

pub returns-in_ok-push : goal.returns-in_ok-push
returns-in_ok-push c =
    let past : length c.args.rows.now.items ≤ c.args.at = omega (arith, c.if-at-len.false, c.len.ensures) in
    c.in_ok-push.ensures.items ∙ put_after c.args.rows.now.items c.args.at c.args.other past
