use Rattle.std.proofs.Common.{◌≡◌, take, map, sym, ap, ◌∙◌, arith}
use Rattle.std.specs.List.{flat_map}
use Rattle.std.proofs.lemmas.Grind.{common_steps}
use Rattle.haar_lines.specs.Rows.{row_bytes}
use Rattle.haar_lines.proofs.RowLemmas.{flat_rows}
use Rattle.haar_lines.proofs.lines.Lines.text.Goals as goal

pub returns : goal.returns
returns c =
    let items = c.deref-row-items.result.now in
    let all : take c.loop-row.row-index items ≡ items = grind (arith, common_steps) in
    c.loop-row.invariant
    ∙ ap (flat_map row_bytes) all
    ∙ sym (flat_rows items)
    ∙ ap (flat_map (λ row. row)) (ap (map row_bytes) c.deref-row-items.ensures.value ∙ c.self.view_is)
