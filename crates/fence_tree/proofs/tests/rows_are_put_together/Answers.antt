use Rattle.std.proofs.Common.{◌≡◌, ℕ, zero, suc, ◌<◌, List, ap, ◌∙◌, arith}
use Rattle.std.specs.Prelude.{Option, Some}
use Rattle.event_lists.specs.declared.receipt.Row.{Row}
use Rattle.fence_tree.specs.Rows.{row_at, row_or}
use Rattle.fence_tree.proofs.tests.rows_are_put_together.Goals as goal

pub all-requires-clause-known : goal.all-requires-clause-known
all-requires-clause-known g c = known
  where
    known : (q : ℕ) → q < 2 → (x : Row) × (row_at c.add.new.self q ≡ Some x)
    known zero lt = (
      _,
      c.add.ensures 0
          ∙ ap (λ (o : Option Row). row_or o (row_at c.set.new.self 0)) (c.set-2.ensures.others 0 (λ e. omega (arith, e)) ∙ ap (λ (all : List (Option Row)). row_at all 0) c.none-others.ensures)
          ∙ c.set.ensures.own,
    )
    known (suc zero) lt = (_, c.add.ensures 1 ∙ ap (λ (o : Option Row). row_or o (row_at c.set.new.self 1)) c.set-2.ensures.own)
    known (suc (suc q)) lt = absurd (omega (arith, lt))
