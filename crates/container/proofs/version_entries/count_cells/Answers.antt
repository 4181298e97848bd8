use Rattle.std.proofs.Common.{◌∙◌, sym, refl, []}
use Rattle.std.specs.List.{IsDistinct}
use Rattle.container.proofs.VersionLemmas.{find_here, find_missing}
use Rattle.container.proofs.version_entries.count_cells.Goals as goal

pub returns-in-Some : goal.returns-in-Some
returns-in-Some g c =
    let is = c.index-versions-i.is in
    let unique = rw (← is) at c.len.ensures.unique in
    let len = rw (← is) at c.len.ensures.len in (
      c.index-versions-i.result.cells.entries,
      unique,
      sym len,
      λ place. find_here c.args.versions.now c.in-Some.i c.args.version (record { version = c.args.version; place = place }) c.index-versions-i.result c.in-Some.ensures.found refl
          ∙ rw (← is) refl,
    )

pub returns-in-None : goal.returns-in-None
unfolding IsDistinct
returns-in-None g c = ([], tt, refl, λ place. find_missing c.args.versions.now c.args.version (record { version = c.args.version; place = place }) c.in-None.ensures.missing refl)
