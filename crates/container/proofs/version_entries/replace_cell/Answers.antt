use Rattle.std.proofs.Common.{◌∙◌, sym, refl, ap, Some}
use Rattle.std.specs.Prelude.{nat_eq}
use Rattle.std.specs.HashMap as hash
use Rattle.container.specs.VersionEntries.{IsFirstAt}
use Rattle.container.proofs.VersionLemmas.{find_here, find_missing}
use Rattle.container.proofs.ChangeLemmas.{set_updates, set_stays, on_some, if_none}
use Rattle.container.proofs.version_entries.replace_cell.Goals as goal

pub returns-in_err-i-clause-old : goal.returns-in_err-i-clause-old
returns-in_err-i-clause-old g c =
    let all = rw c.deref.ensures.value at c.in_err-i.ensures.missing in
    c.from_residual.ensures ∙ sym (find_missing c.args.versions.now.items c.args.name.version c.args.name all refl)

pub returns-clause-old : goal.returns-clause-old
returns-clause-old g c =
    let place : IsFirstAt c.args.name.version c.args.versions.now.items c.in_ok-i.i = rw c.deref.ensures.value at c.in_ok-i.ensures.found in
    c.replace_at.ensures.old ∙ sym (find_here c.args.versions.now.items c.in_ok-i.i c.args.name.version c.args.name c.index_mut.result.now place refl
    ∙ ap (λ e. hash.get nat_eq e.cells c.args.name.place) (sym c.index_mut.ensures.value))

pub returns-clause-some : goal.returns-clause-some
returns-clause-some g c =
    let place : IsFirstAt c.args.name.version c.args.versions.now.items c.in_ok-i.i = rw c.deref.ensures.value at c.in_ok-i.ensures.found in
    on_some c.replace_at.result (λ u. set_updates c.args.versions.now.items c.in_ok-i.i c.args.name c.index_mut.result.now _ (Some c.args.cell) place c.index_mut.ensures.value
    (ap (λ e. e.version) c.index_mut.ensures.value ∙ place.here c.index_mut.result.now) u) c.replace_at.ensures.some

pub returns-clause-none : goal.returns-clause-none
returns-clause-none g c =
    let place : IsFirstAt c.args.name.version c.args.versions.now.items c.in_ok-i.i = rw c.deref.ensures.value at c.in_ok-i.ensures.found in
    if_none c.replace_at.result (λ u. set_stays c.args.versions.now.items c.in_ok-i.i c.args.name.version c.index_mut.result.now _ place c.index_mut.ensures.value
    (ap (λ e. e.version) c.index_mut.ensures.value ∙ place.here c.index_mut.result.now) u) c.replace_at.ensures.none
