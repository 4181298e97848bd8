use Rattle.std.proofs.Common.{◌≡◌, ◌∙◌, sym, refl, ap, rules, Some, None}
use Rattle.std.specs.Prelude.{nat_eq}
use Rattle.std.specs.HashMap as hash
use Rattle.container.specs.VersionEntries.{IsFirstAt, find_in}
use Rattle.container.proofs.VersionLemmas.{find_here, find_missing}
use Rattle.container.proofs.ChangeLemmas.{set_updates, set_stays, on_ok, on_err}
use Rattle.container.proofs.version_entries.add_cell.Goals as goal

pub returns-in-Some-clause-ok : goal.returns-in-Some-clause-ok
returns-in-Some-clause-ok g c =
    let place : IsFirstAt c.args.name.version c.args.versions.now.items c.in-Some.i = rw c.deref.ensures.value at c.in-Some.ensures.found in
    on_ok c.add_at.result (λ u. set_updates c.args.versions.now.items c.in-Some.i c.args.name c.index_mut.result.now _ (Some c.args.cell) place c.index_mut.ensures.value
    (ap (λ e. e.version) c.index_mut.ensures.value ∙ place.here c.index_mut.result.now) u) c.add_at.ensures.ok

pub returns-in-Some-clause-present : goal.returns-in-Some-clause-present
returns-in-Some-clause-present g c =
    let place : IsFirstAt c.args.name.version c.args.versions.now.items c.in-Some.i = rw c.deref.ensures.value at c.in-Some.ensures.found in
    let found : find_in c.args.versions.now.items c.args.name ≡ hash.get nat_eq c.index_mut.result.now.cells c.args.name.place =
    find_here c.args.versions.now.items c.in-Some.i c.args.name.version c.args.name c.index_mut.result.now place refl
    ∙ ap (λ e. hash.get nat_eq e.cells c.args.name.place) (sym c.index_mut.ensures.value) in
    rw found c.add_at.ensures.present

pub returns-in-Some-clause-same : goal.returns-in-Some-clause-same
returns-in-Some-clause-same g c =
    let place : IsFirstAt c.args.name.version c.args.versions.now.items c.in-Some.i = rw c.deref.ensures.value at c.in-Some.ensures.found in
    on_err c.add_at.result (λ u. set_stays c.args.versions.now.items c.in-Some.i c.args.name.version c.index_mut.result.now _ place c.index_mut.ensures.value
    (ap (λ e. e.version) c.index_mut.ensures.value ∙ place.here c.index_mut.result.now) u) c.add_at.ensures.same

pub returns-in-None-clause-present : goal.returns-in-None-clause-present
returns-in-None-clause-present g c =
    let all = rw c.deref.ensures.value at c.in-None.ensures.missing in
    let none : find_in c.args.versions.now.items c.args.name ≡ None = find_missing c.args.versions.now.items c.args.name.version c.args.name all refl in
    ((λ is. absurd (search rules)), (λ some. absurd (search rules)))
