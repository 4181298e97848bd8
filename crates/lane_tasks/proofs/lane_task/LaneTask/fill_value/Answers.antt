use Rattle.std.proofs.Common.{◌≡◌, Some, true, rules}
use Rattle.std.proofs.lemmas.Option.{slice_get_within}
use Rattle.task_tables.proofs.PlaceLemmas.{many_places}
use Rattle.lane_tasks.specs.Tolds.{IsToldOf}
use Rattle.lane_tasks.proofs.ToldLemmas.{empty_too, told_more}
use Rattle.lane_tasks.proofs.lane_task.LaneTask.fill_value.Goals as goal

pub keep_told-requires-clause-within : goal.keep_told-requires-clause-within
keep_told-requires-clause-within g c =
    let is = c.self.invariant.0 in
    let true_is : c.fill_value.result ≡ true = search rules in
    let fits = c.fill_value.ensures.fits true_is in
    let by = c.self.inside.tokens.value.by in
    rw (c.deref_mut.ensures.value, many_places (IsToldOf g.J.WordsNaming.words by) c.self.inside.task.needs c.self.inside.tokens.value.tolds is.told)
    (slice_get_within c.self.inside.task.needs c.args.index c.args.future.label fits.named)

pub keep_told-requires-clause-empty : goal.keep_told-requires-clause-empty
keep_told-requires-clause-empty g c =
    let true_is : c.fill_value.result ≡ true = search rules in
    let fits = c.fill_value.ensures.fits true_is in
    rw c.deref_mut.ensures.value (empty_too c.self.inside.task.values c.self.inside.tokens.value.tolds c.args.index c.self.invariant.0.alike fits.empty)

pub invariant_of-self-2 : goal.invariant_of-self-2
invariant_of-self-2 g c =
    let is = c.self.invariant in
    let true_is : c.fill_value.result ≡ true = search rules in
    let filled = c.fill_value.ensures.filled true_is in
    let fits = c.fill_value.ensures.fits true_is in
    let by : c.self.inside.tokens.value.by ≡ Some c.args.future.by = search rules in
    let kept = rw c.deref_mut.ensures.value at c.keep_told.ensures in
    rw c.deref_mut.ensures.value (
      told_more g.J.WordsNaming.words c.self.inside.task c.fill_value.new.self c.self.inside.tokens.value.by c.self.inside.tokens.value.carrier c.self.inside.tokens.value.tolds c.keep_told.new.tolds c.args.index c.args.future c.args.value c.args.told
          is.0 filled kept (record { by = by; empty = fits }) c.requires.table c.requires.given,
      rw filled is.1,
      is.2,
    )
