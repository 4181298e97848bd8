use Rattle.std.proofs.Common.{◌-◌, drop, length, map, string_bytes, take}
use Rattle.std.specs.Option.{IfSome}
use Rattle.std.proofs.lemmas.Result.{IfOk-weaker}
use Rattle.command_line.specs.Requests.{HasRanks, HasWorkers}
use Rattle.command_line.proofs.RequestLemmas.{command_has_ranks, command_has_workers}
use Rattle.command_line.proofs.request.request_of.Goals as goal

pub returns-in-len1-up-clause-ranks : goal.returns-in-len1-up-clause-ranks
returns-in-len1-up-clause-ranks c =
    IfOk-weaker c.command_request.result _ (λ request. IfSome request HasRanks)
    (λ request is. command_has_ranks c.as_str.result.now (map string_bytes (take (length c.args.words.now - 1) (drop 1 c.args.words.now))) request is) c.command_request.ensures

pub returns-in-len1-up-clause-workers : goal.returns-in-len1-up-clause-workers
returns-in-len1-up-clause-workers c =
    IfOk-weaker c.command_request.result _ (λ request. IfSome request HasWorkers)
    (λ request is. command_has_workers c.as_str.result.now (map string_bytes (take (length c.args.words.now - 1) (drop 1 c.args.words.now))) request is) c.command_request.ensures
