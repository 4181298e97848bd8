use Rattle.std.proofs.Common.{map, ap, ◌∙◌}
use Rattle.haar_lines.specs.Rows.{row_bytes, rows_put}
use Rattle.haar_lines.proofs.RowLemmas.{rows_put_bytes}
use Rattle.haar_lines.proofs.lines.Lines.with_beside.Goals as goal

pub returns : goal.returns
returns c =
    ap (map row_bytes) c.in_ok-put_beside.ensures
    ∙ rows_put_bytes c.self.inside.rows.items 0 c.others.inside.rows.items
    ∙ (λ i. rows_put (c.self.view_is i) 0 (c.others.view_is i))
