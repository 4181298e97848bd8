use Rattle.std.proofs.Common.{◌∙◌, sym, refl}
use Rattle.container.proofs.VersionLemmas.{find_here, find_missing}
use Rattle.container.proofs.version_entries.find_cell.Goals as goal

pub returns-in_err-i : goal.returns-in_err-i
returns-in_err-i g c = c.from_residual.ensures ∙ sym (find_missing c.args.versions.now c.args.name.version c.args.name c.in_err-i.ensures.missing refl)

pub returns : goal.returns
returns g c =
    let here = find_here c.args.versions.now c.in_ok-i.i c.args.name.version c.args.name c.index-versions-i.result c.in_ok-i.ensures.found refl in
    c.copied.ensures ∙ c.get.ensures.value ∙ (rw here (rw (← c.index-versions-i.is) refl))
