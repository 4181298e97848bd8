use Rattle.std.proofs.Common.{sym, ◌∙◌, Some, None, rules}
use Rattle.tree_operations.proofs.AddingLemmas.{two_known}
use Rattle.tree_operations.proofs.StoredNumberLemmas.{passed}
use Rattle.tree_operations.proofs.adding.Addends.differences_at.Goals as goal

pub returns-in-None-None : goal.returns-in-None-None
returns-in-None-None c = λ f g kept.
    two_known f g c.args.self.now.left.now c.args.self.now.right.now c.args.self.now.depth c.args.key None None kept (sym c.number_at.ensures ∙ c.in-None-None.is-0) (sym c.number_at-2.ensures ∙ c.in-None-None.is-1)

pub returns-in-Some-None : goal.returns-in-Some-None
returns-in-Some-None c = λ f g kept.
    rw (passed c.in-Some-None.left (search rules)) (two_known f g c.args.self.now.left.now c.args.self.now.right.now c.args.self.now.depth c.args.key (Some c.in-Some-None.left) None kept (sym c.number_at.ensures ∙ c.in-Some-None.is-0) (sym c.number_at-2.ensures ∙ c.in-Some-None.is-1))

pub returns-in-None-Some : goal.returns-in-None-Some
returns-in-None-Some c = λ f g kept.
    rw (passed c.in-None-Some.right (search rules)) (two_known f g c.args.self.now.left.now c.args.self.now.right.now c.args.self.now.depth c.args.key None (Some c.in-None-Some.right) kept (sym c.number_at.ensures ∙ c.in-None-Some.is-0) (sym c.number_at-2.ensures ∙ c.in-None-Some.is-1))

pub returns-in-Some-Some : goal.returns-in-Some-Some
returns-in-Some-Some c = λ f g kept.
    rw (passed c.in-Some-Some.left (search rules), passed c.in-Some-Some.right (search rules)) (two_known f g c.args.self.now.left.now c.args.self.now.right.now c.args.self.now.depth c.args.key (Some c.in-Some-Some.left) (Some c.in-Some-Some.right) kept (sym c.number_at.ensures ∙ c.in-Some-Some.is-0) (sym c.number_at-2.ensures ∙ c.in-Some-Some.is-1))
