use Rattle.haar_units.proofs.SmallJobLemmas.{no_put, put_last, put_of_parent, merge_of_project, half_merge, no_fence, no_parts, no_place}
use Rattle.haar_units.proofs.examples.some_lists_are_not_allowed.Goals as goal

pub returns-clause-no_put : goal.returns-clause-no_put
returns-clause-no_put c = no_put

pub returns-clause-put_last : goal.returns-clause-put_last
returns-clause-put_last c = put_last

pub returns-clause-put_of_parent : goal.returns-clause-put_of_parent
returns-clause-put_of_parent c = put_of_parent

pub returns-clause-merge_of_project : goal.returns-clause-merge_of_project
returns-clause-merge_of_project c = merge_of_project

pub returns-clause-half_merge : goal.returns-clause-half_merge
returns-clause-half_merge c = half_merge

pub returns-clause-no_fence : goal.returns-clause-no_fence
returns-clause-no_fence c = no_fence

pub returns-clause-no_parts : goal.returns-clause-no_parts
returns-clause-no_parts c = no_parts

pub returns-clause-no_place : goal.returns-clause-no_place
returns-clause-no_place c = no_place
