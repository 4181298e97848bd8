-- Lemmas that crates above use: what the checks of commands say of one more command.
use Rattle.std.proofs.Common.{◌≡◌, ℕ, zero, suc, ◌+◌, ◌<◌, Bool, false, length, take, drop, get_or, List, [], ◌∷◌, ◌++◌, map, refl, sym, ◌∙◌, ap, true, append_assoc, append-nil, arith}
use Rattle.std.specs.Prelude.{◌&&◌, if◌then◌else◌}
use Rattle.std.proofs.lemmas.Bool.{and_parts}
use Rattle.std.proofs.lemmas.List.{map-append, take_more}
use Rattle.std.proofs.Math.Bool.{and_assoc, and-true}
use Rattle.tree_model.specs.Commands.{Command}
use Rattle.tree_model.specs.Jobs.{JobData}
use Rattle.job_data.specs.Checks.{IsJob}
use Rattle.job_data.specs.Checks.{brings_tree, trees_behind, is_within_limits, may_follow, is_accepted, are_accepted}

-- one more command, after all others
pub trees_behind_append : (before cs : List Command) (c : Command) → trees_behind before (cs ++ c ∷ []) ≡ trees_behind before cs + (if brings_tree (before ++ cs) c then 1 else 0)
trees_behind_append before [] c = rw append-nil (omega arith)
trees_behind_append before (d ∷ cs) c =
    let more = rw append_assoc at (trees_behind_append (before ++ d ∷ []) cs c) in
    omega (arith, more)

pub are_accepted_append : (depth : ℕ) (before cs : List Command) (c : Command) → are_accepted depth before (cs ++ c ∷ []) ≡ (are_accepted depth before cs && is_accepted depth (before ++ cs) c)
are_accepted_append depth before [] c = rw append-nil (and-true _)
are_accepted_append depth before (d ∷ cs) c =
    let more = rw append_assoc at (are_accepted_append depth (before ++ d ∷ []) cs c) in
    rw more (sym (and_assoc (is_accepted depth before d) (are_accepted depth (before ++ d ∷ []) cs) (is_accepted depth (before ++ d ∷ cs) c)))

-- a command that is accepted after those of a job makes a job with them
pub IsJob_push : (job : JobData) (c : Command) → IsJob job → is_accepted job.depth job.commands c ≡ true → IsJob (record { depth = job.depth; commands = job.commands ++ c ∷ [] })
IsJob_push job c is_job accepted = record {
  depth = is_job.depth;
  commands = rw (are_accepted_append job.depth [] job.commands c, is_job.commands) accepted;
}

and_false : (a b : Bool) → b ≡ false → (a && b) ≡ false
and_false true b is = is
and_false false b is = refl

refused : (depth : ℕ) (before xs : List Command) (c : Command) (ys : List Command) → is_accepted depth (before ++ xs) c ≡ false → are_accepted depth before (xs ++ c ∷ ys) ≡ false
refused depth before [] c ys is =
    let here = rw append-nil at is in
    rw here refl
refused depth before (d ∷ xs) c ys is = and_false (is_accepted depth before d) (are_accepted depth (before ++ d ∷ []) (xs ++ c ∷ ys)) (refused depth (before ++ d ∷ []) xs c ys (rw append_assoc is))

pub map_take_more : {A : Type 0} (f : A → Command) (cs : List A) (i : ℕ) (x : A) → i < length cs → x ≡ get_or cs i x → map f (take (i + 1) cs) ≡ map f (take i cs) ++ f x ∷ []
map_take_more f cs i x below is =
    ap (map f) (take_more cs i x below ∙ ap (λ y. take i cs ++ y ∷ []) (sym is)) ∙ map-append f (take i cs) (x ∷ [])

cut : {A : Type 0} (f : A → Command) (cs : List A) (i : ℕ) (x : A) → i < length cs → x ≡ get_or cs i x → map f cs ≡ map f (take i cs) ++ f x ∷ map f (drop (suc i) cs)
cut f [] i x below is = absurd (omega arith)
cut f (c ∷ cs) zero x below is = ap (λ y. f y ∷ map f cs) (sym is)
cut f (c ∷ cs) (suc i) x below is = ap (λ rest. f c ∷ rest) (cut f cs i x (omega arith) is)

-- the commands up to a place are accepted, and the one there isn't: so not all are
pub are_accepted_refused : {A : Type 0} (f : A → Command) (depth : ℕ) (cs : List A) (i : ℕ) (x : A) → i < length cs → x ≡ get_or cs i x → is_accepted depth (map f (take i cs)) (f x) ≡ false → are_accepted depth [] (map f cs) ≡ false
are_accepted_refused f depth cs i x below is no_more =
    ap (are_accepted depth []) (cut f cs i x below is) ∙ refused depth [] (map f (take i cs)) (f x) (map f (drop (suc i) cs)) no_more

-- and the one there is: so are those up to the next place
pub are_accepted_more : (depth : ℕ) (cs : List Command) (c : Command) → are_accepted depth [] cs ≡ true → is_accepted depth cs c ≡ true → are_accepted depth [] (cs ++ c ∷ []) ≡ true
are_accepted_more depth cs c all here = are_accepted_append depth [] cs c ∙ rw (all, here) refl

pub follows_accepted : (depth : ℕ) (cs : List Command) (c : Command) → is_accepted depth cs c ≡ true → may_follow cs c ≡ true
follows_accepted depth cs c is = (and_parts (is_within_limits depth c) (may_follow cs c) is).1

there : (depth : ℕ) (before xs : List Command) (c : Command) (ys : List Command) → are_accepted depth before (xs ++ c ∷ ys) ≡ true → is_accepted depth (before ++ xs) c ≡ true
there depth before [] c ys all = rw append-nil (and_parts (is_accepted depth before c) (are_accepted depth (before ++ c ∷ []) ys) all).0
there depth before (d ∷ xs) c ys all =
    let rest = and_parts (is_accepted depth before d) (are_accepted depth (before ++ d ∷ []) (xs ++ c ∷ ys)) all in
    rw append_assoc at (there depth (before ++ d ∷ []) xs c ys rest.1)

-- the command at a place of accepted ones is accepted after those before it
pub accepted_there : {A : Type 0} (f : A → Command) (depth : ℕ) (cs : List A) (i : ℕ) (x : A) → i < length cs → x ≡ get_or cs i x → are_accepted depth [] (map f cs) ≡ true → is_accepted depth (map f (take i cs)) (f x) ≡ true
accepted_there f depth cs i x below is all =
    there depth [] (map f (take i cs)) (f x) (map f (drop (suc i) cs)) (sym (ap (are_accepted depth []) (cut f cs i x below is)) ∙ all)

-- each command of accepted ones is accepted after those before it, and so it is within its limits
pub are_accepted_at : (depth : ℕ) (before cs : List Command) (i : ℕ) (d : Command) → are_accepted depth before cs ≡ true → i < length cs → is_accepted depth (before ++ take i cs) (get_or cs i d) ≡ true
are_accepted_at depth before [] i d all below = absurd (omega arith)
are_accepted_at depth before (c ∷ cs) zero d all below = rw append-nil (and_parts (is_accepted depth before c) (are_accepted depth (before ++ c ∷ []) cs) all).0
are_accepted_at depth before (c ∷ cs) (suc i) d all below =
    let here = and_parts (is_accepted depth before c) (are_accepted depth (before ++ c ∷ []) cs) all in
    rw append_assoc at (are_accepted_at depth (before ++ c ∷ []) cs i d here.1 (omega arith))

pub accepted_at : (depth : ℕ) (before cs : List Command) (i : ℕ) (d : Command) → are_accepted depth before cs ≡ true → i < length cs → is_within_limits depth (get_or cs i d) ≡ true
accepted_at depth before cs i d all below = (and_parts (is_within_limits depth (get_or cs i d)) (may_follow (before ++ take i cs) (get_or cs i d)) (are_accepted_at depth before cs i d all below)).0
