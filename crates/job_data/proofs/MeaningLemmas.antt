-- The checks' tables of what commands read and write, beside the model's.
use Rattle.std.proofs.Common.{◌≡◌, ℕ, Bool, true, false, List, [], ◌∷◌, ◌++◌, length, refl, sym, ◌∙◌, ◌<◌, ap, append_assoc, append-nil, arith, length-append}
use Rattle.std.specs.Prelude.{◌&&◌, nat_lt, Option, Some, None, is_some, if◌then◌else◌}
use Rattle.std.specs.List.{list_all, fold}
use Rattle.std.specs.Option.{option_map, option_map_or}
use Rattle.std.proofs.lemmas.Bool.{and_parts}
use Rattle.std.proofs.lemmas.Bool.Decides.{nat_tests}
use Rattle.std.proofs.lemmas.List.{take_at}
use Rattle.std.proofs.Math.Seq.{get_or-append_seam}
use Rattle.tree_model.specs.Commands.{Command}
use Rattle.tree_model.specs.Commands.Command.{Project, Refine, Coarsen, Compress, Reconstruct, Add, Mul, Inner, Print, Size, Fence}
use Rattle.tree_model.specs.Jobs.{JobData, command_lines}
use Rattle.tree_model.specs.Nodes.{Form}
use Rattle.tree_model.specs.Nodes.Form.{Reconstructed, Compressed}
use Rattle.tree_model.specs.OperationTexts.{printed_lines, inner_line, size_line}
use Rattle.tree_model.specs.Signatures.{writes, written_form}
use Rattle.tree_model.specs.Trees.{Tree}
use Rattle.tree_model.specs.Versions.{Version, Versions, no_versions, same_form, tree_in, read, two_trees, read_two, written, newer, after, versions_behind}
use Rattle.job_data.specs.Checks.{IsJob, form_behind, has_forms, has_room, has_trees, is_accepted, are_accepted, is_near_fence, has_fence, is_within_limits, is_written, may_follow, names_read, needed_form, suits}
use Rattle.job_data.specs.Meaning.{HasMeaning, reads_trees, tree_read, version_form, writes_lines}
use Rattle.job_data.proofs.CheckLemmas.{are_accepted_at}
use Rattle.job_data.proofs.WriterLemmas.{form_behind_push, is_written_form, written_form_writes}

one_written : (form : Form) (make : Tree → Tree) (o : Option Tree) → version_form (option_map (λ t. record { form = form; tree = make t }) o) ≡ (if is_some o && true then Some form else None)
one_written form make None = refl
one_written form make (Some t) = refl

two_written : (form : Form) (make : Tree × Tree → Tree) (left right : Option Tree) → version_form (option_map (λ p. record { form = form; tree = make p }) (two_trees left right)) ≡ (if is_some left && (is_some right && true) then Some form else None)
two_written form make None right = refl
two_written form make (Some f) None = refl
two_written form make (Some f) (Some g) = refl

same_if : {A : Type 0} (b : Bool) (x : A) → x ≡ (if b then x else x)
same_if true x = refl
same_if false x = refl

-- a version is written where the trees are read
pub versions_read : (depth : ℕ) (versions : Versions) (c : Command) → version_form (written depth versions c) ≡ (if reads_trees versions c then written_form c else None)
versions_read depth versions (Project name p) = refl
versions_read depth versions (Refine name level) = one_written Reconstructed _ (read versions Reconstructed name)
versions_read depth versions (Coarsen name) = one_written Reconstructed _ (read versions Reconstructed name)
versions_read depth versions (Compress name) = one_written Compressed (λ t. t) (read versions Reconstructed name)
versions_read depth versions (Reconstruct name) = one_written Reconstructed (λ t. t) (read versions Compressed name)
versions_read depth versions (Add name a left b right) = two_written Compressed _ (read versions Compressed left) (read versions Compressed right)
versions_read depth versions (Mul name left right) = two_written Reconstructed _ (read versions Reconstructed left) (read versions Reconstructed right)
versions_read depth versions (Inner left right) = same_if (reads_trees versions (Inner left right)) None
versions_read depth versions (Print name) = same_if (reads_trees versions (Print name)) None
versions_read depth versions (Size name) = same_if (reads_trees versions (Size name)) None
versions_read depth versions Fence = refl

abbrev some_bytes : List ℕ → Bool
some_bytes bytes = nat_lt 0 (length bytes)

first_byte : (byte : ℕ) (bytes : List ℕ) → some_bytes (byte ∷ bytes) ≡ true
first_byte byte bytes = grind (arith, nat_tests)

and_no : (b : Bool) → false ≡ (b && false)
and_no true = refl
and_no false = refl

two_told : (left right : List ℕ) (f g : Option Tree) → some_bytes (option_map_or (λ p. inner_line left p.0 right p.1) (two_trees f g) []) ≡ ((is_some f && (is_some g && true)) && true)
two_told left right None g = refl
two_told left right (Some f) None = refl
two_told left right (Some f) (Some g) = search first_byte

printed : (form : Form) (name : List ℕ) (t : Tree) → some_bytes (printed_lines form name t) ≡ true
printed Reconstructed name t = search first_byte
printed Compressed name t = search first_byte

one_told : (name : List ℕ) (o : Option Version) → some_bytes (option_map_or (λ version. printed_lines version.form name version.tree) o []) ≡ ((is_some (option_map (λ version. version.tree) o) && true) && true)
one_told name None = refl
one_told name (Some version) = printed version.form name version.tree

counted : (name : List ℕ) (o : Option Version) → some_bytes (option_map_or (λ version. size_line name version.tree) o []) ≡ ((is_some (option_map (λ version. version.tree) o) && true) && true)
counted name None = refl
counted name (Some version) = search first_byte

-- and so are lines
pub lines_read : (versions : Versions) (c : Command) → some_bytes (command_lines versions c) ≡ (reads_trees versions c && writes_lines c)
lines_read versions (Project name p) = refl
lines_read versions (Refine name level) = and_no (reads_trees versions (Refine name level))
lines_read versions (Coarsen name) = and_no (reads_trees versions (Coarsen name))
lines_read versions (Compress name) = and_no (reads_trees versions (Compress name))
lines_read versions (Reconstruct name) = and_no (reads_trees versions (Reconstruct name))
lines_read versions (Add name a left b right) = and_no (reads_trees versions (Add name a left b right))
lines_read versions (Mul name left right) = and_no (reads_trees versions (Mul name left right))
lines_read versions (Inner left right) = two_told left right (read versions Compressed left) (read versions Compressed right)
lines_read versions (Print name) = one_told name (versions name)
lines_read versions (Size name) = counted name (versions name)
lines_read versions Fence = refl

both : (left right : Option Tree) → is_some (two_trees left right) ≡ (is_some left && is_some right)
both None right = refl
both (Some f) None = refl
both (Some f) (Some g) = refl

pub two_read : (versions : Versions) (form : Form) (left right : List ℕ) → is_some (read_two versions form left right) ≡ (is_some (read versions form left) && is_some (read versions form right))
two_read versions form left right = both (read versions form left) (read versions form right)

-- what the names stand for has the forms that the checks say
abbrev HasForms : Versions → List Command → Type 0
HasForms versions before = (name : List ℕ) → version_form (versions name) ≡ form_behind before name

in_form : (form : Form) (o : Option Version) → option_map_or (same_form form) (version_form o) false ≡ true → is_some (tree_in form o) ≡ true
in_form form None suits = cc
in_form form (Some version) suits = ap (λ b. is_some (if b then Some version.tree else None)) suits

in_either : (o : Option Version) → is_some (version_form o) ≡ true → is_some (option_map (λ version. version.tree) o) ≡ true
in_either None there = cc
in_either (Some version) there = refl

one_read : (needed : Option Form) (versions : Versions) (name : List ℕ) → is_some (version_form (versions name)) ≡ true → suits needed (version_form (versions name)) ≡ true → is_some (tree_read needed versions name) ≡ true
one_read None versions name there suit = in_either (versions name) there
one_read (Some form) versions name there suit = in_form form (versions name) suit

all_read :
    (needed : Option Form) (versions : Versions) (before : List Command) (names : List (List ℕ)) →
    HasForms versions before →
    list_all (is_written before) names ≡ true →
    list_all (λ name. suits needed (form_behind before name)) names ≡ true →
    list_all (λ name. is_some (tree_read needed versions name)) names ≡ true
all_read needed versions before [] has there suit = refl
all_read needed versions before (name ∷ names) has there suit =
    let written = and_parts (is_written before name) (list_all (is_written before) names) there in
    let suited = and_parts (suits needed (form_behind before name)) (list_all (λ name. suits needed (form_behind before name)) names) suit in
    let form = has name in
    let here = one_read needed versions name (ap is_some form ∙ sym (is_written_form before name) ∙ written.0) (ap (suits needed) form ∙ suited.0) in
    rw here (all_read needed versions before names has written.1 suited.1)

-- a command that is accepted reads its trees
accepted_reads : (depth : ℕ) (versions : Versions) (before : List Command) (c : Command) → HasForms versions before → is_accepted depth before c ≡ true → reads_trees versions c ≡ true
accepted_reads depth versions before c has accepted =
    let follows = (and_parts (is_within_limits depth c) (may_follow before c) accepted).1 in
    let trees = and_parts (has_trees before c) (has_forms before c && (is_near_fence before c && has_fence before c)) (and_parts (has_room before c) (has_trees before c && (has_forms before c && (is_near_fence before c && has_fence before c))) follows).1 in
    let forms = (and_parts (has_forms before c) (is_near_fence before c && has_fence before c) trees.1).0 in
    all_read (needed_form c) versions before (names_read c) has trees.0 forms

accepted_has : (depth : ℕ) (versions : Versions) (before : List Command) (c : Command) → HasForms versions before → is_accepted depth before c ≡ true → HasMeaning depth versions c
accepted_has depth versions before c has accepted =
    let reads = accepted_reads depth versions before c has accepted in
    record {
      reads = reads;
      writes = versions_read depth versions c ∙ ap (λ b. if b then written_form c else None) reads;
      lines = lines_read versions c ∙ ap (λ b. b && writes_lines c) reads;
    }

newer_form : (o before : Option Version) (form : Option Form) → version_form o ≡ form → is_some form ≡ true → version_form (newer o before) ≡ form
newer_form None before form is there = cc
newer_form (Some version) before form is there = is

after_form : (depth : ℕ) (versions : Versions) (before : List Command) (c : Command) → HasForms versions before → is_accepted depth before c ≡ true → HasForms (after depth versions c) (before ++ c ∷ [])
after_form depth versions before c has accepted name =
    (elim (writes name c) as (λ b. writes name c ≡ b → version_form (if b then newer (written depth versions c) (versions name) else versions name) ≡ (if b then written_form c else form_behind before name)) [
      | true ↦ λ here. newer_form (written depth versions c) (versions name) (written_form c) (accepted_has depth versions before c has accepted).writes (written_form_writes name c here)
      | false ↦ λ here. has name
    ] refl)
    ∙ sym (form_behind_push before c name)

forms_from :
    (depth : ℕ) (versions : Versions) (before cs rest : List Command) →
    HasForms versions before →
    are_accepted depth before (cs ++ rest) ≡ true →
    HasForms (fold (after depth) versions cs) (before ++ cs)
forms_from depth versions before [] rest has all = rw append-nil has
forms_from depth versions before (c ∷ cs) rest has all =
    let parts = and_parts (is_accepted depth before c) (are_accepted depth (before ++ c ∷ []) (cs ++ rest)) all in
    rw append_assoc at (forms_from depth (after depth versions c) (before ++ c ∷ []) cs rest (after_form depth versions before c has parts.0) parts.1)

-- a command of a job is accepted after those before it
one_accepted : (depth : ℕ) (before behind : List Command) (c : Command) → are_accepted depth [] (before ++ c ∷ behind) ≡ true → is_accepted depth before c ≡ true
one_accepted depth before behind c all =
    let below : length before < length (before ++ c ∷ behind) = omega (arith, length-append before (c ∷ behind)) in
    let here = are_accepted_at depth [] (before ++ c ∷ behind) (length before) c all below in
    rw (take_at before (c ∷ behind) (length before) refl, get_or-append_seam before c behind c) at here

-- before each command of a job the names stand for versions in the forms of the checks
pub job_forms : (job : JobData) (before behind : List Command) (name : List ℕ) → IsJob job → job.commands ≡ before ++ behind → version_form (versions_behind job.depth before name) ≡ form_behind before name
job_forms job before behind name is_job is =
    let all = ap (are_accepted job.depth []) (sym is) ∙ is_job.commands in
    forms_from job.depth no_versions [] before behind (λ n. refl) all name

-- and so the command has a meaning
pub job_meaning : (job : JobData) (before behind : List Command) (c : Command) → IsJob job → job.commands ≡ before ++ c ∷ behind → HasMeaning job.depth (versions_behind job.depth before) c
job_meaning job before behind c is_job is =
    let all = ap (are_accepted job.depth []) (sym is) ∙ is_job.commands in
    accepted_has job.depth (versions_behind job.depth before) before c (λ name. job_forms job before (c ∷ behind) name is_job is) (one_accepted job.depth before behind c all)
