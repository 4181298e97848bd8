use Rattle.std.proofs.Common.{◌≡◌, ℕ, List, [], ◌∷◌, ◌++◌, subst, append_assoc, append-nil}
use Rattle.std.specs.Prelude.{codes, decimal, OnOk}
use Rattle.job_words.specs.Lines.{line_of}
use Rattle.job_lang.proofs.canonical.add_header_words.Goals as goal

pieces : (old a b c d : List ℕ) → ((old ++ line_of (a ∷ b ∷ [])) ++ 32 ∷ c) ++ 32 ∷ d ≡ old ++ line_of (a ∷ b ∷ c ∷ d ∷ [])
pieces old a b c d = simp (append_assoc, append-nil)

pub returns : goal.returns
returns c =
    let told = rw (c.in_ok-add_word.ensures, c.in_ok-add_named.ensures, c.from.ensures) at c.add_size.ensures in
    subst (λ (t : List ℕ). OnOk c.add_size.result (c.add_size.new.text ≡ t)) (pieces c.args.text.now (codes "job") (codes "1") (codes "depth") (decimal c.args.depth)) told
