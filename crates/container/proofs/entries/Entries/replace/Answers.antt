use Rattle.std.proofs.Common.{◌≡◌, Option, Some, None}
use Rattle.std.specs.Prelude.{OnSome, IfNone, is_some, if◌then◌else◌}
use Rattle.container.proofs.MapLemmas.{view_get, view_insert, view_same}
use Rattle.container.proofs.ChangeLemmas.{on_some, if_none}
use Rattle.container.proofs.entries.Entries.replace.Goals as goal

pick : {T M : Type 0} (o : Option T) (new there else_ : M) → OnSome o (new ≡ there) → IfNone o (new ≡ else_) → new ≡ (if is_some o then there else else_)
pick (Some x) new there else_ s n = s
pick None new there else_ s n = n

pub returns-clause-old : goal.returns-clause-old
returns-clause-old g c = rw (← c.self.view_is, view_get) c.replace_cell.ensures.old

pub returns-clause-new : goal.returns-clause-new
returns-clause-new g c =
    rw (← c.self.view_is, view_get, ← c.replace_cell.ensures.old) (pick c.replace_cell.result _ _ _
    (on_some c.replace_cell.result (λ u. view_insert c.self.inside.versions.items _ c.args.name c.args.cell u) c.replace_cell.ensures.some)
    (if_none c.replace_cell.result (λ u. view_same c.self.inside.versions.items _ u) c.replace_cell.ensures.none))
