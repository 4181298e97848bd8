use Rattle.std.proofs.Common.{refl, ap, arith}
use Rattle.small_app.specs.Guess.{guess_entry}
use Rattle.small_app.proofs.SmallRunLemmas.{early_may, late_may}
use Rattle.app_core.specs.declared.Label.{Label}
use Rattle.small_app.proofs.examples.two_units_may_put_one_entry.Goals as goal

pub returns-clause-early : goal.returns-clause-early
returns-clause-early c = early_may 0

pub returns-clause-late : goal.returns-clause-late
returns-clause-late c = late_may

pub returns-clause-apart : goal.returns-clause-apart
returns-clause-apart c = λ e. let parts = ap (λ (l : Label). l.part) e in absurd (omega (arith, parts))

pub returns-clause-no_single_label : goal.returns-clause-no_single_label
returns-clause-no_single_label c = λ h. let parts = ap (λ (l : Label). l.part) (h _ _ _ _ 0 0 guess_entry (early_may 0) late_may refl refl) in absurd (omega (arith, parts))

pub returns-clause-spawns : goal.returns-clause-spawns
returns-clause-spawns c = early_may 1
