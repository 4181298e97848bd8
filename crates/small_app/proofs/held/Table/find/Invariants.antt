use Rattle.std.proofs.Common.{◌≡◌, ℕ, ◌<◌, get_or}
use Rattle.app_core.specs.declared.Label.{Label}
use Rattle.small_app.proofs.held.Table.find.Given as goal

-- none of the values so far is of the future
abbrev pub invariant-loop-held : goal.invariant-loop-held
invariant-loop-held g l = (k : ℕ) (d : Label × g.row.A-Value.Denot) → k < l.held-index → (get_or l.self k d).0 ≡ l.future → ⊥
