use Rattle.std.proofs.Common.{◌≡◌, ℕ, sym, subst, ◌∙◌}
use Rattle.std.specs.Prelude.{Some}
use Rattle.event_laws.specs.Follows.{program_from}
use Rattle.event_laws.specs.Held.{fences_before, IsBefore}
use Rattle.event_laws.proofs.ProgramLemmas.{stages}
use Rattle.event_laws.proofs.LateWriteLemmas.{touches, none_later}
use Rattle.event_laws.proofs.receipts.nothing_dropped_is_written.Goals as goal

pub returns : goal.returns
returns g c = λ app workers task_effects log x run entry event fence received dropped.
    let kinds = g.A.Facts.kinds_of app in
    let may = g.A.Facts.may_do app in
    let staged = stages kinds (g.A.Facts.starts_of app) may (λ command i o u. g.met.A.ListLaws.starts_are_of_the_command app command i o u) (λ p os i o u. g.met.A.ListLaws.spawns_stay_in_their_command app p os i o u) in
    let by = g.met.A.ListLaws.dropped_is_written app fence entry.version dropped in
    none_later (g.A.Facts.ranks_of app) workers (program_from 1 kinds (g.A.Facts.starts_of app)) may task_effects log x run entry (λ u. fences_before u.command kinds) staged event fence received
    (λ p os i o does at is.
    let writer = g.met.A.ListLaws.writes_are_of_the_command app p os entry does (touches os i o entry at is) in
    let both : Some by.0 ≡ Some p.command = sym by.1 ∙ writer in
    let same : by.0 ≡ p.command = cc in
    subst (λ (k : ℕ). IsBefore kinds k fence) same by.2)
