use Rattle.std.proofs.Common.{◌≡◌, ◌-◌, true, length, if◌then◌else◌, sym, ◌∙◌, ap}
use Rattle.std.specs.Prelude.{Some, None}
use Rattle.job_words.specs.Names.{is_name, unpadded}
use Rattle.job_words.proofs.NameLemmas.{name_padded}
use Rattle.job_words.proofs.names.Name.of_word.Goals as goal

pub invariant_of-result : goal.invariant_of-result
invariant_of-result c =
    let word = c.args.word.now in
    let named : is_name word ≡ true = sym c.is_name.ensures ∙ c.if-is_name.true in
    record { is_name = ap (λ bytes. is_name (unpadded bytes)) c.padded.ensures ∙ ap is_name (name_padded word (16 - length word) named) ∙ named }

pub returns-then-is_name : goal.returns-then-is_name
returns-then-is_name c =
    let word = c.args.word.now in
    let named : is_name word ≡ true = sym c.is_name.ensures ∙ c.if-is_name.true in
    ap (λ bytes. Some (unpadded bytes)) c.padded.ensures ∙ ap Some (name_padded word (16 - length word) named) ∙ sym (ap (λ b. if b then Some word else None) named)
