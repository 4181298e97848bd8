use Rattle.std.proofs.Common.{◌≡◌, ◌∙◌, ap, Some, ℕ, arith}
use Rattle.app_core.specs.Homes.{rank_within}
use Rattle.haar_steps.proofs.HomeLemmas.{kept_by_key, kept_by_none}
use Rattle.haar_steps.proofs.homes.future_home.Goals as goal

pub returns-in-Some : goal.returns-in-Some
returns-in-Some c =
    let some = c.in-Some.ensures.some in
    c.rank_within.ensures ∙ ap (λ (r : ℕ). rank_within c.args.ranks (Some r)) c.owner.ensures.owner
    ∙ kept_by_key c.args.map c.args.future.now c.args.ranks c.in-Some.parent (omega (arith, c.if-future-gt0.false)) some.0 some.1

pub returns-in-None : goal.returns-in-None
returns-in-None c = kept_by_none c.args.map c.args.future.now c.args.ranks (omega (arith, c.if-future-gt0.false)) c.in-None.ensures.none
