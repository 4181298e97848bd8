use Rattle.std.proofs.Common.{◌≡◌, ◌∷◌, ◌∙◌, ap}
use Rattle.std.proofs.lemmas.Result.{IfOk-weaker}
use Rattle.container.specs.LookUps.{callbacks_of}
use Rattle.container.specs.WaitLog.{callbacks_at, placed, places_of}
use Rattle.container.proofs.WaitLemmas.{callbacks_at-places}
use Rattle.container.proofs.wait_list.WaitList.callbacks_of.Goals as goal

pub returns-in-Some : goal.returns-in-Some
returns-in-Some c =
    let log = c.self.inside.log.items in
    let known = c.in-Some.places.now in
    let places : known.first ∷ known.later.items ≡ places_of c.args.name log = ap placed c.in-Some.ensures.value ∙ c.self.invariant c.args.name in
    IfOk-weaker c.collect.result _ (λ cs. cs ≡ callbacks_of c.args.name c.args.self.now)
    (λ cs is. is ∙ ap (λ s. callbacks_at s (known.first ∷ c.deref-in-Some.result.now)) c.deref.ensures.value ∙ ap (λ ps. callbacks_at log (known.first ∷ ps)) c.deref-in-Some.ensures.value
    ∙ ap (callbacks_at log) places ∙ callbacks_at-places c.args.name log ∙ ap (callbacks_of c.args.name) c.self.view_is) c.collect.ensures

pub returns-in-None : goal.returns-in-None
returns-in-None c =
    let log = c.self.inside.log.items in
    c.new.ensures ∙ ap (callbacks_at log) (ap placed c.in-None.ensures.value ∙ c.self.invariant c.args.name) ∙ callbacks_at-places c.args.name log ∙ ap (callbacks_of c.args.name) c.self.view_is
