use Rattle.std.proofs.Common.{◌≡◌, ◌-◌, ◌+◌, length, take, drop, arith, rules, List, [], ℕ, length-drop, refl, inr, sym, append-nil, ◌∙◌}
use Rattle.std.proofs.lemmas.List.{drop_all, take_all}
use Rattle.std.proofs.lemmas.Grind.{common_steps}
use Rattle.job_words.proofs.LineLemmas.{line_at, last_line, cut_at}
use Rattle.job_words.proofs.lines.next_line.Goals as goal

-- a slice from a place on is what is left there
from_there : (text : List ℕ) (at : ℕ) → take (length text - at) (drop at text) ≡ drop at text
from_there text at = take_all (length text - at) (drop at text) (omega (arith, length-drop at text))

pub returns-in_default-clause-first : goal.returns-in_default-clause-first
returns-in_default-clause-first c =
    let text = c.args.text.now in
    rw (from_there text (length text), drop_all (length text) text (omega arith)) (last_line text (search rules) (grind (arith, common_steps)))

pub returns-clause-first : goal.returns-clause-first
returns-clause-first c =
    let text = c.args.text.now in
    rw (from_there text (c.in-Some.at + 1), c.strip_return-line.ensures) (line_at text c.in-Some.at (search rules))

-- the last line has no end, and nothing is left
pub returns-in_default-clause-cut : goal.returns-in_default-clause-cut
returns-in_default-clause-cut c =
    let text = c.args.text.now in
    let none : take (length text - length text) (drop (length text) text) ≡ [] = from_there text (length text) ∙ drop_all (length text) text (omega arith) in
    record { end = []; ends = inr (inr (refl, none)); bytes = rw (none, append-nil text) (sym (append-nil text)) }

pub returns-clause-cut : goal.returns-clause-cut
returns-clause-cut c =
    let text = c.args.text.now in
    rw (from_there text (c.in-Some.at + 1), c.strip_return-line.ensures) (cut_at text c.in-Some.at (search rules))
