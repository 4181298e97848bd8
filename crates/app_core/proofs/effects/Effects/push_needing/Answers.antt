use Rattle.std.proofs.Common.{rules, arith, ◌≡◌, [], ◌∷◌, ◌++◌, length, length-append, refl}
use Rattle.std.proofs.lemmas.List.{map-append}
use Rattle.app_core.specs.declared.effect_with.Span.{Span}
use Rattle.app_core.specs.declared.effect_with.EffectWith.TheVariants.{SpawnNeeding}
use Rattle.app_core.proofs.StoredEffectLemmas.{effects_grown, all_grown, all_with_last, labels_last}
use Rattle.app_core.proofs.effects.Effects.push_needing.Goals as goal

pub invariant_of-self-then-is_err-2 : goal.invariant_of-self-then-is_err-2
invariant_of-self-then-is_err-2 g c =
    let stay : c.append.new.items.items ≡ c.self.inside.items.items = search rules in
    let grown : c.add_labels.new.all.items ≡ c.self.inside.labels.items ++ c.args.labels.now = search rules in
    rw (stay, grown) (all_grown c.self.inside.labels.items c.args.labels.now c.self.inside.items.items c.self.invariant)

pub returns-then-is_err-2-clause-err : goal.returns-then-is_err-2-clause-err
returns-then-is_err-2-clause-err g c =
    let stay : c.append.new.items.items ≡ c.self.inside.items.items = search rules in
    let grown : c.add_labels.new.all.items ≡ c.self.inside.labels.items ++ c.args.labels.now = search rules in
    rw (stay, grown, effects_grown c.self.inside.labels.items c.args.labels.now c.self.inside.items.items c.self.invariant) c.self.view_is

pub invariant_of-self-2 : goal.invariant_of-self-2
invariant_of-self-2 g c =
    let grown : c.add_labels.new.all.items ≡ c.self.inside.labels.items ++ c.args.labels.now = search rules in
    let span : Span = record { from = c.len.result; count = length c.args.labels.now } in
    let pushed : c.append.new.items.items ≡ c.self.inside.items.items ++ SpawnNeeding c.args.unit span ∷ [] = search rules in
    let before = all_grown c.self.inside.labels.items c.args.labels.now c.self.inside.items.items c.self.invariant in
    let last = labels_last c.self.inside.labels.items c.args.labels.now span (search rules) refl in
    rw (pushed, grown) (all_with_last (c.self.inside.labels.items ++ c.args.labels.now) c.self.inside.items.items (SpawnNeeding c.args.unit span) before
    (omega (arith, length-append c.self.inside.labels.items c.args.labels.now, c.len.ensures.value), c.requires.within, rw last c.requires.distinct))

pub returns-clause-ok : goal.returns-clause-ok
returns-clause-ok g c =
    let grown : c.add_labels.new.all.items ≡ c.self.inside.labels.items ++ c.args.labels.now = search rules in
    let span : Span = record { from = c.len.result; count = length c.args.labels.now } in
    let pushed : c.append.new.items.items ≡ c.self.inside.items.items ++ SpawnNeeding c.args.unit span ∷ [] = search rules in
    let last = labels_last c.self.inside.labels.items c.args.labels.now span (search rules) refl in
    rw (pushed, grown, map-append, effects_grown c.self.inside.labels.items c.args.labels.now c.self.inside.items.items c.self.invariant, c.self.view_is, last) refl
