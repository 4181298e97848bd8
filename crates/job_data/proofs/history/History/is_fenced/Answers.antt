use Rattle.std.proofs.Common.{map, sym, ◌∙◌, ap, arith}
use Rattle.std.specs.Prelude.{nat_lt, length, ◌-◌}
use Rattle.std.proofs.lemmas.List.{length-map}
use Rattle.job_data.specs.Data.{data_of}
use Rattle.job_data.specs.Checks.{since_fence}
use Rattle.job_data.specs.Versions.{version_behind}
use Rattle.job_data.proofs.FenceLemmas.{fenced_by_number, since_within}
use Rattle.job_data.proofs.history.History.is_fenced.Goals as goal

pub overflow_sub-last_fence : goal.overflow_sub-last_fence
overflow_sub-last_fence c =
    let before = map data_of c.args.before.now in
    omega (arith, since_within before, c.requires.since_fence, length-map c.args.before.now data_of)

pub returns : goal.returns
returns c =
    let before = map data_of c.args.before.now in
    ap (λ n. nat_lt n (length c.args.before.now - c.args.self.now.since_fence)) c.writer_number.ensures.value
    ∙ ap (λ n. nat_lt (version_behind before c.args.name.now) (length c.args.before.now - n)) c.requires.since_fence
    ∙ ap (λ n. nat_lt (version_behind before c.args.name.now) (n - since_fence before)) (sym (length-map c.args.before.now data_of))
    ∙ sym (fenced_by_number before c.args.name.now)
