-- The last writer of each tree, as one more command comes.
use Rattle.std.proofs.Common.{◌≡◌, ℕ, zero, suc, ◌+◌, ◌<◌, Bool, true, false, List, [], ◌∷◌, ◌++◌, length, get_or, set, refl, sym, ◌∙◌, ap, subst, arith, length-append}
use Rattle.std.specs.Prelude.{All, nat_lt, ◌&&◌, ◌||◌, count_by, not, position, Option, Some, None, is_some, if◌then◌else◌}
use Rattle.std.specs.List.{fold, list_any}
use Rattle.std.specs.Option.{option_map, option_map_or}
use Rattle.std.specs.Str.{bytes_eq}
use Rattle.std.proofs.Math.Bool.{or-false}
use borrow.Author.Tests.{ltb-true}
use Rattle.std.proofs.lemmas.Bool.{and_parts}
use Rattle.std.proofs.lemmas.List.Quantifiers.{position-Some}
use Rattle.std.proofs.lemmas.List.{get_or_push, get_or_append_left}
use Rattle.std.proofs.lemmas.List.Sums.{fold_push}
use Rattle.std.proofs.lemmas.Slice.Eq.{bytes_eq-Decides}
use Rattle.tree_model.specs.Commands.{Command}
use Rattle.tree_model.specs.Signatures.{Target, signature_of, writes, written_form, written_name}
use Rattle.tree_model.specs.Commands.Command.{Fence}
use Rattle.tree_model.specs.Nodes.{Form}
use Rattle.job_data.specs.Checks.{form_after, form_behind, is_written, brings_tree, trees_behind, has_room, is_print, max_commands, max_trees, max_prints}
use Rattle.job_data.specs.Versions.{version_from, version_behind}
use Rattle.job_data.specs.Writers.{command_at, told_at, form_at, with_writer, AreLastWriters}
use Rattle.job_data.proofs.CheckLemmas.{trees_behind_append}
use Rattle.job_words.proofs.PositionLemmas.{position_None}

same_name : (a b : List ℕ) → bytes_eq a b ≡ true → a ≡ b
same_name a b is = (bytes_eq-Decides a b).0 is

-- a command writes the tree of the name that it writes
pub writes_name : (name : List ℕ) (c : Command) → writes name c ≡ option_map_or (bytes_eq name) (written_name c) false
writes_name name c = refl

by_name : (name n : List ℕ) (o : Option (List ℕ)) → option_map_or (bytes_eq n) o false ≡ true → option_map_or (bytes_eq name) o false ≡ bytes_eq name n
by_name name n None is = cc
by_name name n (Some m) is = ap (bytes_eq name) (sym (same_name n m is))

-- a command that writes one name writes the names that are equal to it
writes_as : (name n : List ℕ) (c : Command) → writes n c ≡ true → writes name c ≡ bytes_eq name n
writes_as name n c is = writes_name name c ∙ by_name name n (written_name c) (sym (writes_name n c) ∙ is)

target_form : (name : List ℕ) (target : Option Target) → option_map_or (bytes_eq name) (option_map (λ t. t.name) target) false ≡ true → is_some (option_map (λ t. t.form) target) ≡ true
target_form name None is = cc
target_form name (Some t) is = refl

pub written_form_writes : (name : List ℕ) (c : Command) → writes name c ≡ true → is_some (written_form c) ≡ true
written_form_writes name c is = target_form name (signature_of c).writes is

-- what is known of the places but the first
All_rest : (n w : ℕ) (ws : List ℕ) → All (λ p. p < n) (w ∷ ws) → All (λ p. p < n) ws
All_rest n w ws all = λ k d below. all (suc k) d (omega arith)

command_at_longer : (cs : List Command) (c : Command) (w : ℕ) → w < length cs → command_at (cs ++ c ∷ []) w ≡ command_at cs w
command_at_longer cs c w below = get_or_append_left cs (c ∷ []) Fence w below

-- one more command that is the writer at none of the places changes nothing
told_at_longer : {A : Type 0} (tell : ℕ → Command → A) (none : A) (cs : List Command) (ws : List ℕ) (name : List ℕ) (c : Command) → All (λ w. w < length cs) ws → told_at tell none (cs ++ c ∷ []) ws name ≡ told_at tell none cs ws name
told_at_longer tell none cs [] name c all = refl
told_at_longer tell none cs (w ∷ ws) name c all =
    ap (λ d. if writes name d then tell w d else told_at tell none (cs ++ c ∷ []) ws name) (command_at_longer cs c w (all zero 0 (omega arith)))
    ∙ ap (λ r. if writes name (command_at cs w) then tell w (command_at cs w) else r) (told_at_longer tell none cs ws name c (All_rest (length cs) w ws all))

within_cons : (n w : ℕ) (ws : List ℕ) → w < n → All (λ p. p < n) ws → All (λ p. p < n) (w ∷ ws)
within_cons n w ws first rest = λ k d below. elim k as (λ k. k < suc (length ws) → get_or (w ∷ ws) k d < n) [ zero ↦ λ _. first | suc j ↦ λ h. rest j d (omega arith) ] below

same_test : {A : Type 0} (a b : Bool) (x y z : A) → b ≡ a → (if a then x else z) ≡ (if a then x else (if b then y else z))
same_test true b x y z is = refl
same_test false b x y z is = rw is refl

swapped : {A : Type 0} (a b : Bool) (x y z : A) → (a ≡ true → b ≡ false) → (if b then y else (if a then x else z)) ≡ (if a then x else (if b then y else z))
swapped true b x y z apart = rw (apart refl) refl
swapped false b x y z apart = refl

with_true : (cs : List Command) (ws n : List ℕ) (w last : ℕ) → writes n (command_at cs w) ≡ true → with_writer cs (w ∷ ws) n last ≡ last ∷ ws
with_true cs ws n w last is = rw is refl

with_false : (cs : List Command) (ws n : List ℕ) (w last : ℕ) → writes n (command_at cs w) ≡ false → with_writer cs (w ∷ ws) n last ≡ w ∷ with_writer cs ws n last
with_false cs ws n w last is = rw is refl

-- what is read after one more command that writes
abbrev told_after : {A : Type 0} → (ℕ → Command → A) → A → List Command → List ℕ → List ℕ → Command → A
told_after tell none cs ws name c = if writes name c then tell (length cs) c else told_at tell none cs ws name

-- the writer of the name is at the first place
replaced : {A : Type 0} (tell : ℕ → Command → A) (none : A) (cs : List Command) (ws n : List ℕ) (c : Command) (name : List ℕ) (w : ℕ) → All (λ w. w < length cs) (w ∷ ws) → writes n c ≡ true → writes n (command_at cs w) ≡ true → told_at tell none (cs ++ c ∷ []) (with_writer cs (w ∷ ws) n (length cs)) name ≡ told_after tell none cs (w ∷ ws) name c
replaced tell none cs ws n c name w all is here =
    ap (λ places. told_at tell none (cs ++ c ∷ []) places name) (with_true cs ws n w (length cs) here)
    ∙ ap (λ d. if writes name d then tell (length cs) d else told_at tell none (cs ++ c ∷ []) ws name) (get_or_push cs c Fence (length cs) refl)
    ∙ ap (λ r. if writes name c then tell (length cs) c else r) (told_at_longer tell none cs ws name c (All_rest (length cs) w ws all))
    ∙ same_test (writes name c) (writes name (command_at cs w)) (tell (length cs) c) (tell w (command_at cs w)) (told_at tell none cs ws name) (writes_as name n (command_at cs w) here ∙ sym (writes_as name n c is))

-- the first place is that of another writer
kept : {A : Type 0} (tell : ℕ → Command → A) (none : A) (cs : List Command) (ws n : List ℕ) (c : Command) (name : List ℕ) (w : ℕ) → All (λ w. w < length cs) (w ∷ ws) → writes n c ≡ true → writes n (command_at cs w) ≡ false → told_at tell none (cs ++ c ∷ []) (with_writer cs ws n (length cs)) name ≡ told_after tell none cs ws name c → told_at tell none (cs ++ c ∷ []) (with_writer cs (w ∷ ws) n (length cs)) name ≡ told_after tell none cs (w ∷ ws) name c
kept tell none cs ws n c name w all is here rest =
    ap (λ places. told_at tell none (cs ++ c ∷ []) places name) (with_false cs ws n w (length cs) here)
    ∙ ap (λ d. if writes name d then tell w d else told_at tell none (cs ++ c ∷ []) (with_writer cs ws n (length cs)) name) (command_at_longer cs c w (all zero 0 (omega arith)))
    ∙ ap (λ r. if writes name (command_at cs w) then tell w (command_at cs w) else r) rest
    ∙ swapped (writes name c) (writes name (command_at cs w)) (tell (length cs) c) (tell w (command_at cs w)) (told_at tell none cs ws name)
    (λ yes. let equal = same_name name n (sym (writes_as name n c is) ∙ yes) in subst (λ m. writes m (command_at cs w) ≡ false) (sym equal) here)

-- a new writer of a name leaves the other names theirs
told_at_with : {A : Type 0} (tell : ℕ → Command → A) (none : A) (cs : List Command) (ws n : List ℕ) (c : Command) (name : List ℕ) → All (λ w. w < length cs) ws → writes n c ≡ true → told_at tell none (cs ++ c ∷ []) (with_writer cs ws n (length cs)) name ≡ told_after tell none cs ws name c
told_at_with tell none cs [] n c name all is =
    ap (λ d. if writes name d then tell (length cs) d else none) (get_or_push cs c Fence (length cs) refl)
told_at_with tell none cs (w ∷ ws) n c name all is =
    elim (writes n (command_at cs w)) as (λ b. writes n (command_at cs w) ≡ b → told_at tell none (cs ++ c ∷ []) (with_writer cs (w ∷ ws) n (length cs)) name ≡ told_after tell none cs (w ∷ ws) name c) [
      | true ↦ λ here. replaced tell none cs ws n c name w all is here
      | false ↦ λ here. kept tell none cs ws n c name w all is here (told_at_with tell none cs ws n c name (All_rest (length cs) w ws all) is)
    ] refl

abbrev tell_form : ℕ → Command → Option Form
tell_form place command = written_form command

abbrev tell_version : ℕ → Command → ℕ
tell_version place command = place + 1

same_sum : (a b c : ℕ) → c ≡ a + b → c ≡ a + b
same_sum a b c is = is

version_from_push : (number last : ℕ) (cs : List Command) (c : Command) (name : List ℕ) → version_from number last (cs ++ c ∷ []) name ≡ (if writes name c then number + length cs else version_from number last cs name)
version_from_push number last [] c name = ap (λ k. if writes name c then k else last) (same_sum number 0 number (omega arith))
version_from_push number last (d ∷ ds) c name =
    version_from_push (number + 1) (if writes name d then number else last) ds c name
    ∙ ap (λ k. if writes name c then k else version_from (number + 1) (if writes name d then number else last) ds name) (same_sum number (suc (length ds)) (number + 1 + length ds) (omega arith))

version_behind_push : (cs : List Command) (c : Command) (name : List ℕ) → version_behind (cs ++ c ∷ []) name ≡ (if writes name c then length cs + 1 else version_behind cs name)
version_behind_push cs c name = version_from_push 1 0 cs c name ∙ ap (λ k. if writes name c then k else version_behind cs name) (same_sum (length cs) 1 (1 + length cs) (omega arith))

-- one place more exactly where the name is new
length_with_writer : (cs : List Command) (ws n : List ℕ) (last : ℕ) → length (with_writer cs ws n last) ≡ length ws + (if is_some (form_at cs ws n) then 0 else 1)
length_with_writer cs [] n last = refl
length_with_writer cs (w ∷ ws) n last =
    elim (writes n (command_at cs w)) as (λ b. writes n (command_at cs w) ≡ b → length (with_writer cs (w ∷ ws) n last) ≡ length (w ∷ ws) + (if is_some (form_at cs (w ∷ ws) n) then 0 else 1)) [
      | true ↦ λ here. rw (here, written_form_writes n (command_at cs w) here) (omega arith)
      | false ↦ λ here. rw here (omega (arith, length_with_writer cs ws n last))
    ] refl

within_with_writer : (cs : List Command) (ws n : List ℕ) (last : ℕ) → All (λ w. w < last) ws → All (λ w. w < last + 1) (with_writer cs ws n last)
within_with_writer cs [] n last all = λ k d below. elim k as (λ k. k < 1 → get_or (last ∷ []) k d < last + 1) [ zero ↦ λ _. omega arith | suc j ↦ λ h. absurd (omega arith) ] below
within_with_writer cs (w ∷ ws) n last all =
    elim (writes n (command_at cs w)) as (λ b. writes n (command_at cs w) ≡ b → All (λ w. w < last + 1) (with_writer cs (w ∷ ws) n last)) [
      | true ↦ λ here. subst (λ places. All (λ w. w < last + 1) places) (sym (with_true cs ws n w last here)) (within_cons (last + 1) last ws (omega arith) (λ k d below. let old = all (suc k) d (omega arith) in omega arith))
      | false ↦ λ here. subst (λ places. All (λ w. w < last + 1) places) (sym (with_false cs ws n w last here)) (within_cons (last + 1) w (with_writer cs ws n last) (let old = all zero 0 (omega arith) in omega arith) (within_with_writer cs ws n last (All_rest last w ws all)))
    ] refl

or_right : (a b : Bool) → b ≡ true → (a || b) ≡ true
or_right true b is = refl
or_right false b is = is

written_or : (name : List ℕ) (form : Option Form) (cs : List Command) → (list_any (writes name) cs || is_some form) ≡ is_some (fold (form_after name) form cs)
written_or name form [] = refl
written_or name form (c ∷ cs) =
    elim (writes name c) as (λ b. writes name c ≡ b → (list_any (writes name) (c ∷ cs) || is_some form) ≡ is_some (fold (form_after name) form (c ∷ cs))) [
      | true ↦ λ here. rw here (sym (or_right (list_any (writes name) cs) (is_some (written_form c)) (written_form_writes name c here)) ∙ written_or name (written_form c) cs)
      | false ↦ λ here. rw here (written_or name form cs)
    ] refl

-- a tree is written where it has a form
pub is_written_form : (cs : List Command) (name : List ℕ) → is_written cs name ≡ is_some (form_behind cs name)
is_written_form cs name = sym (or-false (list_any (writes name) cs)) ∙ written_or name None cs

brings_name : (cs : List Command) (target : Option Target) → option_map_or (λ t. not (is_written cs t.name)) target false ≡ option_map_or (λ name. not (is_written cs name)) (option_map (λ t. t.name) target) false
brings_name cs None = refl
brings_name cs (Some t) = refl

brought : (cs : List Command) (n : List ℕ) (c : Command) → written_name c ≡ Some n → brings_tree cs c ≡ not (is_some (form_behind cs n))
brought cs n c is = brings_name cs (signature_of c).writes ∙ ap (λ o. option_map_or (λ name. not (is_written cs name)) o false) is ∙ ap not (is_written_form cs n)

writer : (n : List ℕ) (c : Command) → written_name c ≡ Some n → writes n c ≡ true
writer n c is = writes_name n c ∙ ap (λ o. option_map_or (bytes_eq n) o false) is ∙ (bytes_eq-Decides n n).1 refl

abbrev one_where : Bool → ℕ
one_where b = if b then 1 else 0

abbrev one_unless : Bool → ℕ
one_unless b = if b then 0 else 1

none_or_one : (b : Bool) → one_unless b ≡ one_where (not b)
none_or_one true = refl
none_or_one false = refl

pub form_behind_push : (cs : List Command) (c : Command) (name : List ℕ) → form_behind (cs ++ c ∷ []) name ≡ form_after name (form_behind cs name) c
form_behind_push cs c name = fold_push (form_after name) None cs c

-- the writers after a command that writes
pub AreLastWriters_with : (cs : List Command) (ws n : List ℕ) (c : Command) → AreLastWriters cs ws → written_name c ≡ Some n → AreLastWriters (cs ++ c ∷ []) (with_writer cs ws n (length cs))
AreLastWriters_with cs ws n c before is = record {
  within = subst (λ most. All (λ w. w < most) (with_writer cs ws n (length cs))) (sym (length-append cs (c ∷ []))) (within_with_writer cs ws n (length cs) before.within);
  count =
      length_with_writer cs ws n (length cs)
      ∙ ap (λ form. length ws + one_unless (is_some form)) (sym (before.forms n))
      ∙ ap (λ k. length ws + k) (none_or_one (is_some (form_behind cs n)) ∙ ap one_where (sym (brought cs n c is)))
      ∙ ap (λ k. k + one_where (brings_tree cs c)) before.count
      ∙ sym (trees_behind_append [] cs c);
  forms = λ name. form_behind_push cs c name ∙ ap (λ form. form_after name form c) (before.forms name) ∙ sym (told_at_with tell_form None cs ws n c name before.within (writer n c is));
  versions = λ name. version_behind_push cs c name ∙ ap (λ k. if writes name c then length cs + 1 else k) (before.versions name) ∙ sym (told_at_with tell_version 0 cs ws n c name before.within (writer n c is));
}

not_written : (name : List ℕ) (c : Command) → written_name c ≡ None → writes name c ≡ false
not_written name c is = writes_name name c ∙ ap (λ o. option_map_or (bytes_eq name) o false) is

-- and after one that writes nothing
pub AreLastWriters_same : (cs : List Command) (ws : List ℕ) (c : Command) → AreLastWriters cs ws → written_name c ≡ None → AreLastWriters (cs ++ c ∷ []) ws
AreLastWriters_same cs ws c before is = record {
  within = λ k d below. let old = before.within k d below in omega (arith, old, length-append cs (c ∷ []));
  count = let none = brings_name cs (signature_of c).writes ∙ ap (λ o. option_map_or (λ name. not (is_written cs name)) o false) is in omega (arith, before.count, trees_behind_append [] cs c, ap one_where none);
  forms = λ name.
      form_behind_push cs c name
      ∙ ap (λ b. if b then written_form c else form_behind cs name) (not_written name c is)
      ∙ before.forms name
      ∙ sym (told_at_longer tell_form None cs ws name c before.within);
  versions = λ name.
      version_behind_push cs c name
      ∙ ap (λ b. if b then length cs + 1 else version_behind cs name) (not_written name c is)
      ∙ before.versions name
      ∙ sym (told_at_longer tell_version 0 cs ws name c before.within);
}

-- a place at which the test passes first
with_writer_set : (cs : List Command) (ws n : List ℕ) (at last : ℕ) → at < length ws → writes n (command_at cs (get_or ws at 0)) ≡ true → ((k : ℕ) → k < at → writes n (command_at cs (get_or ws k 0)) ≡ false) → with_writer cs ws n last ≡ set ws at last
with_writer_set cs [] n at last below here first = absurd (omega arith)
with_writer_set cs (w ∷ ws) n zero last below here first = with_true cs ws n w last here
with_writer_set cs (w ∷ ws) n (suc at) last below here first =
    with_false cs ws n w last (first zero (omega arith))
    ∙ ap (λ places. w ∷ places) (with_writer_set cs ws n at last (omega arith) here (λ k h. first (suc k) (omega arith)))

with_writer_append : (cs : List Command) (ws n : List ℕ) (last : ℕ) → All (λ w. writes n (command_at cs w) ≡ false) ws → with_writer cs ws n last ≡ ws ++ last ∷ []
with_writer_append cs [] n last none = refl
with_writer_append cs (w ∷ ws) n last none =
    with_false cs ws n w last (none zero 0 (omega arith)) ∙ ap (λ places. w ∷ places) (with_writer_append cs ws n last (λ k d below. none (suc k) d (omega arith)))

pub AreLastWriters_known : (cs : List Command) (ws n : List ℕ) (c : Command) (at : ℕ) → AreLastWriters cs ws → written_name c ≡ Some n → position (λ w. writes n (command_at cs w)) ws ≡ Some at → AreLastWriters (cs ++ c ∷ []) (set ws at (length cs))
AreLastWriters_known cs ws n c at before is found =
    let there = position-Some (λ w. writes n (command_at cs w)) ws at 0 found in
    subst (AreLastWriters (cs ++ c ∷ [])) (with_writer_set cs ws n at (length cs) there.0 there.1 there.2) (AreLastWriters_with cs ws n c before is)

pub AreLastWriters_new : (cs : List Command) (ws n : List ℕ) (c : Command) → AreLastWriters cs ws → written_name c ≡ Some n → position (λ w. writes n (command_at cs w)) ws ≡ None → AreLastWriters (cs ++ c ∷ []) (ws ++ length cs ∷ [])
AreLastWriters_new cs ws n c before is found =
    subst (AreLastWriters (cs ++ c ∷ [])) (with_writer_append cs ws n (length cs) (position_None (λ w. writes n (command_at cs w)) ws found)) (AreLastWriters_with cs ws n c before is)

no_form : (cs : List Command) (ws n : List ℕ) → All (λ w. writes n (command_at cs w) ≡ false) ws → form_at cs ws n ≡ None
no_form cs [] n none = refl
no_form cs (w ∷ ws) n none = rw (none zero 0 (omega arith)) (no_form cs ws n (λ k d below. none (suc k) d (omega arith)))

unless : (a b : Bool) → a ≡ true → (not a || b) ≡ true → b ≡ true
unless true b brings holds = holds
unless false b brings holds = cc

-- a job that has room for a new tree has fewer than 16
pub room_new : (cs : List Command) (ws n : List ℕ) (c : Command) → AreLastWriters cs ws → written_name c ≡ Some n → position (λ w. writes n (command_at cs w)) ws ≡ None → has_room cs c ≡ true → length ws < 16
room_new cs ws n c before is found room =
    let none = no_form cs ws n (position_None (λ w. writes n (command_at cs w)) ws found) in
    let new : brings_tree cs c ≡ true = brought cs n c is ∙ ap (λ form. not (is_some form)) (before.forms n ∙ none) in
    let parts = and_parts (nat_lt (length cs) max_commands) ((not (brings_tree cs c) || nat_lt (trees_behind [] cs) max_trees) && (not (is_print c) || nat_lt (count_by is_print cs) max_prints)) room in
    let trees = and_parts (not (brings_tree cs c) || nat_lt (trees_behind [] cs) max_trees) (not (is_print c) || nat_lt (count_by is_print cs) max_prints) parts.1 in
    omega (arith, before.count, ltb-true (trees_behind [] cs) 16 (unless (brings_tree cs c) (nat_lt (trees_behind [] cs) max_trees) new trees.0))
