use Rattle.std.proofs.Common.{sym, ◌∙◌, ap}
use Rattle.job_data.specs.Data.{data_of}
use Rattle.tree_model.specs.Receipts.{is_fence}
use Rattle.plain_tree.specs.declared.receipts.Receipts.{Receipts}
use Rattle.plain_tree.proofs.ReceiptLemmas.{counted_next, no_fence, one_fence}
use Rattle.plain_tree.proofs.receipts.Receipts.add.Goals as goal
use Rattle.plain_tree.proofs.receipts.Receipts.add.Goals.{then-is_fence+in_ok-add_fence, else-is_fence}

pub returns-clause-counted : goal.returns-clause-counted
returns-clause-counted c = λ depth before has is.
    let command = data_of c.args.command.now in
    let old = c.args.self.now in
    let now = c.if-is_fence.self in
    elim c.if-is_fence.branch [
      | then-is_fence+in_ok-add_fence w ↦
          counted_next depth before command old now c.args.total c.plus-self.result has is c.requires.messages c.requires.tasks
          (ap (λ (r : Receipts). r.distribution) w.self-is)
          (one_fence (is_fence command) now.fences old.fences (sym c.is_fence.ensures ∙ w.if-is_fence.true) (ap (λ (r : Receipts). r.fences) w.self-is))
          (ap (λ (r : Receipts). r.total) w.self-is)
          c.plus-self.ensures
      | else-is_fence w ↦
          counted_next depth before command old now c.args.total c.plus-self.result has is c.requires.messages c.requires.tasks
          (ap (λ (r : Receipts). r.distribution) w.self-is)
          (no_fence (is_fence command) now.fences old.fences (sym c.is_fence.ensures ∙ w.if-is_fence.false) (ap (λ (r : Receipts). r.fences) w.self-is))
          (ap (λ (r : Receipts). r.total) w.self-is)
          c.plus-self.ensures
    ]
