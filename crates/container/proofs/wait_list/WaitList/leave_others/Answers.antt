use Rattle.std.proofs.Common.{◌≡◌, ◌∷◌, ◌∙◌, None, ap, sym, rules}
use Rattle.std.specs.HashMap.{hash_map_len}
use Rattle.container.specs.LookUps.{others}
use Rattle.container.specs.WaitLog.{emptied, left_in, placed, places_of}
use Rattle.container.proofs.WaitLemmas.{emptied-places, left_in-without, none_for_others, others_without_places, placed_less, without}
use Rattle.container.proofs.wait_list.WaitList.leave_others.Goals as goal

pub returns-in_default : goal.returns-in_default
returns-in_default c =
    let log = c.self.inside.log.items in
    let none : c.remove.result ≡ None = search rules in
    sym (others_without_places c.args.name log (sym (c.self.invariant c.args.name) ∙ ap placed (sym c.remove.ensures.value ∙ none))) ∙ ap (others c.args.name) c.self.view_is

pub returns-then-is_empty : goal.returns-then-is_empty
returns-then-is_empty c =
    let log = c.self.inside.log.items in
    let empty : hash_map_len c.remove.new.self ≡ 0 = search rules in
    ap left_in c.clear.ensures.items ∙ none_for_others log c.self.inside.places c.remove.new.self c.args.name c.self.invariant c.remove.ensures.updates.0 empty ∙ ap (others c.args.name) c.self.view_is

pub invariant_of-self-else-is_empty : goal.invariant_of-self-else-is_empty
invariant_of-self-else-is_empty c =
    let log = c.self.inside.log.items in
    let known = c.in-Some.places in
    let places : known.first ∷ known.later.items ≡ places_of c.args.name log = ap placed c.in-Some.ensures.value ∙ c.self.invariant c.args.name in
    let left : c.empty.new.log.items ≡ without c.args.name log =
    c.empty.ensures ∙ ap (λ ps. emptied log (known.first ∷ ps)) c.deref.ensures.value ∙ ap (emptied log) places ∙ emptied-places c.args.name log in
    λ q. placed_less log c.self.inside.places c.remove.new.self c.args.name c.self.invariant c.remove.ensures.updates.0 q ∙ sym (ap (places_of q) left)

pub returns : goal.returns
returns c =
    let log = c.self.inside.log.items in
    let known = c.in-Some.places in
    let places : known.first ∷ known.later.items ≡ places_of c.args.name log = ap placed c.in-Some.ensures.value ∙ c.self.invariant c.args.name in
    let left : c.empty.new.log.items ≡ without c.args.name log =
    c.empty.ensures ∙ ap (λ ps. emptied log (known.first ∷ ps)) c.deref.ensures.value ∙ ap (emptied log) places ∙ emptied-places c.args.name log in
    ap left_in left ∙ left_in-without c.args.name log ∙ ap (others c.args.name) c.self.view_is
