use Rattle.plain_tree.proofs.writing.carry_out.Goals as goal

pub returns-in_ok-write_projected-in-Project-clause-kept : goal.returns-in_ok-write_projected-in-Project-clause-kept
returns-in_ok-write_projected-in-Project-clause-kept c = λ versions has. rw c.in-Project.is (c.in_ok-write_projected-in-Project.ensures.tree versions)
