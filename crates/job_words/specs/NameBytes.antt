-- The bytes of a name.
use Rattle.std.specs.Prelude.{ℕ, List}
use Rattle.job_words.specs.Names.{unpadded}
use Rattle.job_words.specs.declared.names.Name.{Name}

abbrev pub bytes_of : Name → List ℕ
bytes_of name = unpadded name.padded
