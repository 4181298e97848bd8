use Rattle.std.proofs.Common.{◌≡◌, ◌↔◌, ℕ, sym, subst, true, ◌∙◌}
use Rattle.std.specs.Prelude.{Option, Some}
use Rattle.event_lists.specs.declared.kind.Kind.{Kind}
use Rattle.event_lists.specs.declared.kind.Kind.TheVariants.{Handlings as handlings, Submissions as submissions, Runs as runs}
use Rattle.event_lists.specs.declared.kind.Reading.{Reading}
use Rattle.event_lists.specs.Fences.{reading, InOrder}
use Rattle.event_rules.proofs.PassLemmas.{last_is, two_are}
use Rattle.event_rules.proofs.fences.is_in_order.Goals as goal

pub returns-in-Runs : goal.returns-in-Runs
returns-in-Runs g c rs e =
    let finds = subst (λ (o : Option Reading). (v : ℕ) → (c.found_in.result ≡ Some v) ↔ (o ≡ Some (reading handlings v c.args.fence c.args.pass))) e.first c.found_in.ensures in
    let is = last_is rs c.found_in.result handlings c.args.fence c.args.pass finds in
    let found = c.is_some.ensures in
    subst (λ (k : Kind). (c.is_some.result ≡ true) ↔ InOrder (g.P.Past.ranks_of c.args.past.now) (g.P.Past.log_of c.args.past.now) rs k c.args.fence c.args.pass) (sym c.in-Runs.is) ((λ t. is.0 (sym found ∙ t)), (λ a. found ∙ is.1 a))

pub returns-in-Submissions : goal.returns-in-Submissions
returns-in-Submissions g c rs e =
    let finds = subst (λ (o : Option Reading). (v : ℕ) → (c.found_in-in-Submissions.result ≡ Some v) ↔ (o ≡ Some (reading runs v c.args.fence c.args.pass))) e.first c.found_in-in-Submissions.ensures in
    let is = last_is rs c.found_in-in-Submissions.result runs c.args.fence c.args.pass finds in
    let found = c.is_some-in-Submissions.ensures in
    subst (λ (k : Kind). (c.is_some-in-Submissions.result ≡ true) ↔ InOrder (g.P.Past.ranks_of c.args.past.now) (g.P.Past.log_of c.args.past.now) rs k c.args.fence c.args.pass) (sym c.in-Submissions.is) ((λ t. is.0 (sym found ∙ t)), (λ a. found ∙ is.1 a))

pub returns-in-Sends : goal.returns-in-Sends
returns-in-Sends g c rs e =
    let first = subst (λ (o : Option Reading). (v : ℕ) → (c.found_in-in-Sends.result ≡ Some v) ↔ (o ≡ Some (reading submissions v c.args.fence c.args.pass))) e.first c.found_in-in-Sends.ensures in
    let second = subst (λ (o : Option Reading). (v : ℕ) → (c.found_in-in-Sends-2.result ≡ Some v) ↔ (o ≡ Some (reading runs v c.args.fence c.args.pass))) e.second c.found_in-in-Sends-2.ensures in
    let is = two_are rs c.found_in-in-Sends.result c.found_in-in-Sends-2.result c.args.fence c.args.pass first second in
    subst (λ (k : Kind). (c.are_one.result ≡ true) ↔ InOrder (g.P.Past.ranks_of c.args.past.now) (g.P.Past.log_of c.args.past.now) rs k c.args.fence c.args.pass) (sym c.in-Sends.is) ((λ t. is.0 (c.are_one.ensures.0 t)), (λ a. c.are_one.ensures.1 (is.1 a)))
