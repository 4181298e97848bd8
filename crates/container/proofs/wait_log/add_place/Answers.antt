use Rattle.std.proofs.Common.{◌≡◌, ◌∙◌, cond, None, Some, ap, sym, rules}
use Rattle.std.specs.HashMap as hash
use Rattle.container.specs.declared.wait_log.Places.{Places}
use Rattle.container.specs.Names.{same_name}
use Rattle.container.proofs.ChangeLemmas.{on_err}
use Rattle.container.proofs.WaitLemmas.{first_added, passed, written_back}
use Rattle.container.proofs.wait_log.add_place.Goals as goal

pub returns-in-Some-clause-err : goal.returns-in-Some-clause-err
returns-in-Some-clause-err c = on_err c.add_later.result
    (λ same. written_back c.args.places.now (c.get_mut.follows.lender c.add_later.new.known) c.args.name c.in-Some.known.now c.add_later.new.known (sym c.in-Some.ensures.value)
    ((c.get_mut.follows.holds c.add_later.new.known).3 (search rules)).0 same) c.add_later.ensures.err

pub returns-clause-ok : goal.returns-clause-ok
returns-clause-ok c =
    let first : Places = record { first = c.args.place; later = c.new.result } in
    let kept : c.get_mut.follows.lender-at-none ≡ c.args.places.now = search rules in
    let none : hash.get same_name c.args.places.now c.args.name ≡ None = search rules in
    let change = (passed c.insert.result (sym c.is_err.ensures.value ∙ c.if-is_err.false) c.insert.ensures.updates).0 in
    first_added c.args.places.now c.insert.new.self c.args.name first c.args.place (search rules) none
    (λ q. change q ∙ ap (λ m. cond (same_name c.args.name q) (Some first) (hash.get same_name m q)) kept)
