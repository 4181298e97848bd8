use Rattle.std.proofs.Common.{◌≡◌, map, refl, sym, ◌∙◌, ap}
use Rattle.std.specs.Prelude.{Option, Some, None, is_some}
use Rattle.std.specs.Option.{option_map}
use Rattle.job_data.specs.Data.{data_of, form_of}
use Rattle.job_data.proofs.WriterLemmas.{is_written_form}
use Rattle.job_data.proofs.history.History.is_written.Goals as goal

mapped : {A B : Type 0} (f : A → B) (o : Option A) → is_some o ≡ is_some (option_map f o)
mapped f None = refl
mapped f (Some x) = refl

pub returns : goal.returns
returns c =
    c.is_some.ensures ∙ mapped form_of c.form_behind.result ∙ ap is_some c.form_behind.ensures ∙ sym (is_written_form (map data_of c.args.before.now) c.args.name.now)
