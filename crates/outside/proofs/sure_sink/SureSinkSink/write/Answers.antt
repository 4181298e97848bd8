use Rattle.std.proofs.Common.{◌+◌, ℕ, List, replicate, arith}
use Rattle.std.proofs.lemmas.List.{length-replicate}
use Rattle.outside.proofs.sure_sink.SureSinkSink.write.Goals as goal

-- no sink has room for every piece
pub returns-clause-always : goal.returns-clause-always
returns-clause-always c all piece =
    let longer : List ℕ = replicate (c.args.self.now.room + 1) 0 in
    absurd (omega (arith, all longer, length-replicate {A = ℕ} (c.args.self.now.room + 1) 0))
