use Rattle.std.proofs.Common.{◌≡◌, ℕ, suc, ◌+◌, ◌∷◌, [], ◌++◌, length, ap, subst, ◌∙◌, arith}
use Rattle.std.proofs.lemmas.List.{length_push}
use Rattle.std.proofs.lemmas.List.Elements.{All-push, All-same}
use Rattle.event_laws.specs.Follows.{deeds}
use Rattle.words_tests.specs.Turns.{IsOutside, BringsUnit}
use Rattle.words_bench.specs.Many.{unit}
use Rattle.words_bench.proofs.many.send_all.Goals as goal

pub loop-done-preserved : goal.loop-done-preserved
loop-done-preserved g c =
    let a = c.args in
    let was = c.loop-done.invariant in
    let s = c.start_unit-carrier.ensures in
    let P = BringsUnit a.words.now a.to unit in
    let items = c.push_reserved.ensures.items in
    let before : ℕ = deeds a.lane.now.mine in
    let sum : suc (c.loop-done.done + before) ≡ c.loop-done.done + 1 + before = omega arith in
    record {
      outside = subst (λ (n : ℕ). IsOutside a.words.now n c.start_unit-carrier.new.lane) was.outside.main.entries s.outside;
      did = s.done ∙ ap suc was.did ∙ sum;
      name = s.name ∙ was.name;
      room = (let x = s.room in let y = was.room in omega (arith, x, y));
      len = (let k = c.push_reserved.ensures.len in let j = was.len in omega (arith, k, j));
      capacity = (let k = c.push_reserved.ensures.capacity in let j = was.capacity in omega (arith, k, j));
      brings = (
        ap length items ∙ length_push c.loop-done.carriers.items c.start_unit-carrier.result ∙ ap (λ (n : ℕ). n + 1) was.brings.0,
        All-same P c.push_reserved.new.self.items _ items (All-push P c.loop-done.carriers.items c.start_unit-carrier.result was.brings.1 s.carrier),
      );
    }
