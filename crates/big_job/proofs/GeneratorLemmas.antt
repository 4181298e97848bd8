-- Generated jobs pass the checks of jobs.
use Rattle.std.proofs.Common.{◌≡◌, ℕ, suc, ◌+◌, ◌<◌, ◌^◌, ◌%◌, true, [], refl, pos, arith}
use Rattle.std.specs.Prelude.{nat_le, nat_lt}
use Rattle.std.proofs.lemmas.Bool.{le-leb}
use Rattle.tree_model.specs.Functions.{Function, fits}
use Rattle.tree_model.specs.Functions.Function.{Hash, Ramp, Box}
use Rattle.job_data.specs.Checks.{IsJob, are_accepted}
use Rattle.big_job.specs.Generator.{big_job, commands_of}

-- with any functions that may be named at depth 12
accepted : (f g h : Function) → fits 12 f ≡ true → fits 12 g ≡ true → fits 12 h ≡ true → are_accepted 12 [] (commands_of f g h) ≡ true
accepted f g h f_fits g_fits h_fits = rw (f_fits, g_fits, h_fits) refl

hash_fits : (number : ℕ) → number < 2 ^ 32 → fits 12 (Hash number 1000) ≡ true
hash_fits number below =
    let seed : nat_lt number (2 ^ 32) ≡ true = le-leb (suc number) (2 ^ 32) below in
    rw seed refl

ramp_fits : (start : ℕ) → start < 1000 → fits 12 (Ramp (pos start) (pos 1)) ≡ true
ramp_fits start below =
    let first : nat_le start 16777216 ≡ true = le-leb start 16777216 (omega arith) in
    let last : nat_le (start + 4095) 16777216 ≡ true = le-leb (start + 4095) 16777216 (omega arith) in
    rw (first, last) refl

box_fits : (start : ℕ) → start < 4096 → fits 12 (Box start 4096 (pos 7)) ≡ true
box_fits start below =
    let first : nat_le start 4096 ≡ true = le-leb start 4096 (omega arith) in
    rw first refl

pub big_job_is_job : (number : ℕ) → number < 2 ^ 32 → IsJob (big_job number)
big_job_is_job number below = record {
  depth = refl;
  commands = accepted (Hash number 1000) (Ramp (pos (number % 1000)) (pos 1)) (Box (number % 4096) 4096 (pos 7))
      (hash_fits number below) (ramp_fits (number % 1000) (omega arith)) (box_fits (number % 4096) (omega arith));
}
