use Rattle.std.proofs.Common.{◌≡◌, ◌∙◌, ap, map, string_bytes, subst, sym, false, true, inl, inr}
use denote.Enum.Bare.{sameb}
use Rattle.clap.specs.contracts.error.kind.ErrorKind.{the_type}
use Rattle.std.proofs.lemmas.Bool.{and_parts, true≢false}
use Rattle.clap.specs.Faults.{is_free_app, is_simple_and_free}
use Rattle.clap.specs.Kinds.{IsAmong}
use Rattle.clap.specs.Simple.{App, built, is_simple, matches_of}
use Rattle.clap.specs.Words.{app_of, fault_of, kind_of}
use Rattle.clap.specs.declared.error.kind.ErrorKind.{ErrorKind}
use Rattle.clap.specs.declared.error.kind.ErrorKind.TheVariants.{OutOfMemory}
use Rattle.command_line.proofs.MatchLemmas.{end_not_read, refused_not_read, taken_has}
use Rattle.command_line.proofs.RuleLemmas.{is_simple_command}
use Rattle.command_line.proofs.parsing.matches_of.Goals as goal

pub returns-then-has_end_of_options : goal.returns-then-has_end_of_options
returns-then-has_end_of_options c name form is proper = end_not_read form c.args.words.now (sym c.if-has_end_of_options.true ∙ c.has_end_of_options.ensures)

pub returns-in-Ok : goal.returns-in-Ok
returns-in-Ok c name form is proper =
    let texts = map string_bytes c.args.words.now in
    let free : is_simple_and_free (app_of c.args.command) ≡ true = ap is_simple_and_free is ∙ is_simple_command name form in
    let simple : is_simple (app_of c.args.command) ≡ true = (and_parts _ (is_free_app (built (app_of c.args.command))) free).0 in
    taken_has name form proper c.args.words.now (sym c.if-has_end_of_options.false ∙ c.has_end_of_options.ensures) c.in-Ok.matches
    (sym (ap (λ (a : App). fault_of a texts) is) ∙ c.in-Ok.ensures.kinds free) ((c.in-Ok.ensures.matches simple).0 ∙ ap (λ (a : App). matches_of a texts) is)

pub returns : goal.returns
returns c name form is proper =
    let texts = map string_bytes c.args.words.now in
    let free : is_simple_and_free (app_of c.args.command) ≡ true = ap is_simple_and_free is ∙ is_simple_command name form in
    elim (c.in-Err.ensures.kinds free) [
      | inl memory ↦
          let other : false ≡ true = sym c.if-eq.false ∙ c.eq.ensures ∙ ap (λ (k : ErrorKind). sameb the_type k OutOfMemory) (c.kind.ensures ∙ memory) in
          absurd (true≢false (sym other))
      | inr among ↦ refused_not_read name form proper c.args.words.now (sym c.if-has_end_of_options.false ∙ c.has_end_of_options.ensures) (kind_of c.in-Err.error)
          (subst (λ (a : App). IsAmong (kind_of c.in-Err.error) (fault_of a texts)) is among)
    ]
