-- What the code's values of a line's words stand for.
use Rattle.job_words.specs.NameBytes.{bytes_of}
use Rattle.job_data.specs.Data.{data_of}
use Rattle.job_lang.specs.Grammar.{Form}
use Rattle.job_lang.specs.Grammar.Form.{ProjectForm, RefineForm, CommandForm}
use Rattle.job_lang.specs.declared.form.Form.{Form as FormCode}
use Rattle.job_lang.specs.declared.form.Form.TheVariants.{Project, Refine, Command}

-- a form with any numbers
abbrev pub form_data : FormCode → Form
form_data (Project name function level tolerance) = ProjectForm (bytes_of name) function level tolerance
form_data (Refine name level) = RefineForm (bytes_of name) level
form_data (Command command) = CommandForm (data_of command)
