use Rattle.std.proofs.Common.{◌≡◌, List, sym, subst}
use Rattle.std.specs.Prelude.{Some, slice_get}
use Rattle.event_lists.specs.declared.event.Event.{Event}
use Rattle.event_laws.specs.Follows.{Wait, program_at, deeds}
use Rattle.words_bench.proofs.ManyLemmas.{waits_first}
use Rattle.words_bench.proofs.many.enter_with.Goals as goal

pub enter-requires-clause-next : goal.enter-requires-clause-next
enter-requires-clause-next g c =
    let a = c.args in
    let ds = a.words.now.program in
    subst (λ (es : List Event). slice_get (program_at a.lane.name.rank ds) (deeds es) ≡ Some Wait) (sym c.requires.new.new)
    (waits_first a.count a.lane.name.rank ds c.requires.rank c.requires.program)
