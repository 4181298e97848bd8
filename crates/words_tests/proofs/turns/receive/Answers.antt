use Rattle.std.proofs.Common.{◌≡◌, false, refl, sym, ap, ◌∙◌}
use Rattle.std.specs.Prelude.{None}
use Rattle.event_lists.specs.declared.lane.LaneName.{LaneName}
use Rattle.event_lists.specs.Events.{main_of, part}
use Rattle.event_lists.specs.Fences.{has_receipt}
use Rattle.event_lists.specs.OwnEvents.{has_receipt_on_lane}
use Rattle.event_lists.proofs.FenceLemmas.{receipt_on}
use Rattle.words_tests.proofs.TurnLemmas.{received_in, receipt_known, deeds_same}
use Rattle.words_tests.proofs.ReceiptTurnLemmas.{may_receive}
use Rattle.words_tests.proofs.turns.receive.Goals as goal

pub mark_receipt-requires-clause-receipt : goal.mark_receipt-requires-clause-receipt
mark_receipt-requires-clause-receipt g c =
    let a = c.args in
    let w = a.words.now in
    let v = a.lane.now in
    let i = c.requires.inside in
    let m = i.reading.main in
    let main0 : v.name ≡ main_of 0 = m.name ∙ ap main_of c.requires.rank in
    let none : has_receipt a.fence v.seen ≡ false = receipt_on w.ranks w.workers v.seen m.legal a.fence ∙ ap (has_receipt_on_lane a.fence) (ap (λ (l : LaneName). part l v.seen) (sym main0) ∙ m.own) ∙ c.requires.open in (
      main0,
      (m.name, m.hand, i.reading.inside),
      none,
      may_receive w.ranks a.fence c.requires.first.0 a.pass a.rows.now.zero a.rows.now.one a.rows.now.two c.in-Some.kept v.seen c.requires.ranks c.requires.first.1 c.in-Some.ensures.rows c.requires.first.2 c.requires.again (c.is_quiet.ensures c.if-is_quiet.true),
    )

pub returns-then-is_quiet-clause-inside : goal.returns-then-is_quiet-clause-inside
returns-then-is_quiet-clause-inside g c =
    let a = c.args in
    received_in a.words.now (g.A.Facts.may_do a.words.now.app) None _ a.fence _ a.lane.now c.mark_receipt.new.lane c.mark_receipt.ensures refl c.requires.inside

pub returns-then-is_quiet-clause-receipt : goal.returns-then-is_quiet-clause-receipt
returns-then-is_quiet-clause-receipt g c = λ _.
    let a = c.args in
    receipt_known a.words.now (g.A.Facts.may_do a.words.now.app) None _ a.lane.now c.mark_receipt.new.lane c.mark_receipt.ensures

pub returns-then-is_quiet-clause-done : goal.returns-then-is_quiet-clause-done
returns-then-is_quiet-clause-done g c =
    let a = c.args in deeds_same a.words.now (g.A.Facts.may_do a.words.now.app) None a.lane.now c.mark_receipt.new.lane _ c.mark_receipt.ensures c.requires.inside.reading.main.hand refl
