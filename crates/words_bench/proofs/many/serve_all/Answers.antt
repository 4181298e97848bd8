use Rattle.std.proofs.Common.{◌≡◌, ◌∷◌, length, All, sym, ap, subst, ◌∙◌, arith}
use Rattle.std.specs.Vec.Iter.{into_iter_items}
use Rattle.std.proofs.lemmas.List.Elements.{All-rest}
use Rattle.event_lists.specs.declared.lane.LaneName.{LaneName}
use Rattle.words_tests.specs.Turns.{BringsUnit}
use Rattle.words_bench.specs.Many.{unit}
use Rattle.words_bench.proofs.many.serve_all.Goals as goal

pub loop-carrier-preserved : goal.loop-carrier-preserved
loop-carrier-preserved g c =
    let at = c.loop-carrier in
    let was = at.invariant in
    let x = c.in-Some.carrier in
    let rest = into_iter_items c.next.new.self in
    let steps : into_iter_items at.carrier-iterator ≡ x ∷ rest = c.in-Some.ensures.steps.0 in
    let short = ap length steps in
    let gone = c.in-Some.ensures.steps.1 in
    let P = BringsUnit c.args.words.now at.lane.name.rank unit in
    let brings = All-rest P x rest (into_iter_items at.carrier-iterator) steps was.brings in
    record {
      inside = c.serve_unit.ensures.inside;
      name = c.serve_unit.ensures.name ∙ was.name;
      room = (let a = was.room in let b = c.serve_unit.ensures.room in omega (arith, a, b, short));
      brings = subst (λ (l : LaneName). All (BringsUnit c.args.words.now l.rank unit) rest) (sym c.serve_unit.ensures.name) brings;
      len = (let a = was.len in omega (arith, a, short, gone));
    }
