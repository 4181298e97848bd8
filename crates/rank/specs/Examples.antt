-- A label for the examples.
use Rattle.app_core.specs.declared.Label.{Label}

abbrev pub third : Label
third = record { command = 1; part = 0; place = 3 }
