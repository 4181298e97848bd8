-- What holds of the generated jobs.
use Rattle.std.specs.Prelude.{◌≡◌, ℕ, ◌<◌, ◌^◌, Ok, [], length}
use Rattle.job_data.specs.Checks.{IsJob, trees_behind}
use Rattle.job_lang.specs.Canonical.{canonical_text}
use Rattle.job_lang.specs.Reading.{reading_of}
use Rattle.big_job.specs.Generator.{big_job}

-- each number's job passes the checks
abbrev pub BigJobsAreJobs : Type 0
BigJobsAreJobs = (number : ℕ) → number < 2 ^ 32 → IsJob (big_job number)

-- the canonical text of each number's job reads as the job
abbrev pub BigJobsReadBack : Type 0
BigJobsReadBack = (number : ℕ) → number < 2 ^ 32 → reading_of (canonical_text (big_job number)) ≡ Ok (big_job number)

-- each has 18 commands, which write 5 trees
abbrev pub BigJobsHave18Commands : Type 0
BigJobsHave18Commands = (number : ℕ) → length (big_job number).commands ≡ 18

abbrev pub BigJobsWriteFiveTrees : Type 0
BigJobsWriteFiveTrees = (number : ℕ) → trees_behind [] (big_job number).commands ≡ 5
