use Rattle.std.proofs.Common.{◌∙◌, sym, refl, ap, None}
use Rattle.std.specs.Prelude.{nat_eq}
use Rattle.std.specs.HashMap as hash
use Rattle.container.specs.VersionEntries.{IsFirstAt}
use Rattle.container.proofs.VersionLemmas.{find_here, find_missing}
use Rattle.container.proofs.ChangeLemmas.{set_updates, none_updates}
use Rattle.container.proofs.version_entries.take_cell.Goals as goal

pub returns-in_err-i-clause-old : goal.returns-in_err-i-clause-old
returns-in_err-i-clause-old g c =
    let all = rw c.deref.ensures.value at c.in_err-i.ensures.missing in
    c.from_residual.ensures ∙ sym (find_missing c.args.versions.now.items c.args.name.version c.args.name all refl)

pub returns-in_err-i-clause-rest : goal.returns-in_err-i-clause-rest
returns-in_err-i-clause-rest g c =
    let all = rw c.deref.ensures.value at c.in_err-i.ensures.missing in
    none_updates c.args.versions.now.items c.args.name (find_missing c.args.versions.now.items c.args.name.version c.args.name all refl)

pub returns-clause-old : goal.returns-clause-old
returns-clause-old g c =
    let place : IsFirstAt c.args.name.version c.args.versions.now.items c.in_ok-i.i = rw c.deref.ensures.value at c.in_ok-i.ensures.found in
    c.remove.ensures.value ∙ sym (find_here c.args.versions.now.items c.in_ok-i.i c.args.name.version c.args.name c.index_mut.result.now place refl
    ∙ ap (λ e. hash.get nat_eq e.cells c.args.name.place) (sym c.index_mut.ensures.value))

pub returns-clause-rest : goal.returns-clause-rest
returns-clause-rest g c =
    let place : IsFirstAt c.args.name.version c.args.versions.now.items c.in_ok-i.i = rw c.deref.ensures.value at c.in_ok-i.ensures.found in
    set_updates c.args.versions.now.items c.in_ok-i.i c.args.name c.index_mut.result.now _ None place c.index_mut.ensures.value
    (ap (λ e. e.version) c.index_mut.ensures.value ∙ place.here c.index_mut.result.now) c.remove.ensures.updates
