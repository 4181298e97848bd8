use Rattle.std.proofs.Common.{◌≡◌, ◌∷◌, ℕ, refl, rules, Some, None, cond}
use Rattle.std.specs.Prelude.{nat_eq}
use Rattle.std.specs.HashMap as hash
use Rattle.container.specs.declared.version_entries.VersionEntries.{VersionEntries}
use Rattle.container.proofs.ChangeLemmas.{cons_updates}
use Rattle.container.proofs.version_entries.add_version.Goals as goal

pub returns-clause-ok : goal.returns-clause-ok
returns-clause-ok g c =
    let new : VersionEntries g.row.C.Denot = record { version = c.args.name.version; cells = c.insert.new.self } in
    let added : c.insert-2.new.self.items ≡ new ∷ c.args.versions.now.items = search rules in
    let only : (place : ℕ) → hash.get nat_eq c.insert.new.self place ≡ cond (nat_eq c.args.name.place place) (Some c.args.cell) None = λ place. search rules in
    rw added (cons_updates c.args.versions.now.items c.args.name new (Some c.args.cell) c.requires refl only)
