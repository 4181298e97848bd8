-- Lemmas that crates above use: what a history of commands keeps, as one more comes.
use Rattle.std.proofs.Common.{◌≡◌, ◌+◌, true, List, [], ◌∷◌, ◌++◌, length, arith, ◌<◌, Bool}
use Rattle.std.specs.Prelude.{◌&&◌, ◌||◌, count_by, nat_lt, not, if◌then◌else◌}
use borrow.Author.Tests.{ltb-true}
use Rattle.std.proofs.lemmas.Bool.{and_parts}
use Rattle.std.proofs.lemmas.List.Sums.{count_by-le-length, fold_push, sum_by-append}
use Rattle.tree_model.specs.Commands.{Command}
use Rattle.job_data.specs.Checks.{has_room, has_trees, has_forms, is_near_fence, has_fence, may_follow, is_print, is_fence, since_fence, max_prints, max_commands_before_fence, brings_tree, trees_behind, max_trees, max_commands}

pub follows_room : (cs : List Command) (c : Command) → may_follow cs c ≡ true → has_room cs c ≡ true
follows_room cs c follows = (and_parts (has_room cs c) (has_trees cs c && (has_forms cs c && (is_near_fence cs c && has_fence cs c))) follows).0

pub follows_prints : (cs : List Command) (c : Command) → may_follow cs c ≡ true → (not (is_print c) || nat_lt (count_by is_print cs) max_prints) ≡ true
follows_prints cs c follows =
    let rest = and_parts (nat_lt (length cs) max_commands) ((not (brings_tree cs c) || nat_lt (trees_behind [] cs) max_trees) && (not (is_print c) || nat_lt (count_by is_print cs) max_prints)) (follows_room cs c follows) in
    (and_parts (not (brings_tree cs c) || nat_lt (trees_behind [] cs) max_trees) (not (is_print c) || nat_lt (count_by is_print cs) max_prints) rest.1).1

pub follows_near : (cs : List Command) (c : Command) → may_follow cs c ≡ true → (is_fence c || nat_lt (since_fence cs) max_commands_before_fence) ≡ true
follows_near cs c follows =
    let rest = and_parts (has_room cs c) (has_trees cs c && (has_forms cs c && (is_near_fence cs c && has_fence cs c))) follows in
    let forms = and_parts (has_trees cs c) (has_forms cs c && (is_near_fence cs c && has_fence cs c)) rest.1 in
    let near = and_parts (has_forms cs c) (is_near_fence cs c && has_fence cs c) forms.1 in
    (and_parts (is_near_fence cs c) (has_fence cs c) near.1).0

pub count_by_push : (p : Command → Bool) (cs : List Command) (c : Command) → count_by p (cs ++ c ∷ []) ≡ count_by p cs + (if p c then 1 else 0)
count_by_push p cs c = omega (arith, sum_by-append (λ d. if p d then 1 else 0) cs (c ∷ []))

-- there are fewer than 512 fences before it
pub follows_few : (cs : List Command) (c : Command) → may_follow cs c ≡ true → count_by is_fence cs < 512
follows_few cs c follows =
    let room = and_parts (nat_lt (length cs) max_commands) ((not (brings_tree cs c) || nat_lt (trees_behind [] cs) max_trees) && (not (is_print c) || nat_lt (count_by is_print cs) max_prints)) (follows_room cs c follows) in
    omega (arith, ltb-true (length cs) 512 room.0, count_by-le-length is_fence cs)

pub follows_length : (cs : List Command) (c : Command) → may_follow cs c ≡ true → length cs < 512
follows_length cs c follows =
    let room = and_parts (nat_lt (length cs) max_commands) ((not (brings_tree cs c) || nat_lt (trees_behind [] cs) max_trees) && (not (is_print c) || nat_lt (count_by is_print cs) max_prints)) (follows_room cs c follows) in
    ltb-true (length cs) 512 room.0

pub since_fence_push : (cs : List Command) (c : Command) → since_fence (cs ++ c ∷ []) ≡ (if is_fence c then 0 else since_fence cs + 1)
since_fence_push cs c = fold_push (λ count command. if is_fence command then 0 else count + 1) 0 cs c
