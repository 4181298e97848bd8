-- The reader goes over the lines, and returns the first that has a fault.
use Rattle.std.proofs.Common.{◌≡◌, ℕ, zero, suc, ◌+◌, ◌-◌, ◌<◌, Bool, true, false, List, [], ◌∷◌, ◌++◌, take, drop, refl, sym, ◌∙◌, ap, subst, append_assoc, append-nil, arith, inl, inr}
use Rattle.std.specs.Prelude.{◌==◌, not, Option, Some, None, is_none, Result, Ok, Err, cond, if◌then◌else◌}
use Rattle.std.specs.List.{flat_map, list_all}
use Rattle.std.specs.Option.{option_map_or}
use Rattle.std.specs.Str.Lines.{lines as lines_of}
use Rattle.std.proofs.lemmas.Bool.{eq-eqb, ne_eqb, cases_lt}
use Rattle.std.proofs.lemmas.List.{get_or-drop}
use Rattle.std.proofs.lemmas.List.Sums.{prefix_len_passes}
use Rattle.tree_model.specs.Commands.{Command}
use Rattle.tree_model.specs.Jobs.{JobData}
use Rattle.job_lang.specs.declared.fault.JobFault.{JobFault}
use Rattle.job_data.specs.declared.fault_kind.FaultKind.{FaultKind}
use Rattle.job_data.specs.declared.fault_kind.FaultKind.TheVariants.{ForeignByte, NoHeader}
use Rattle.job_words.specs.Lines.{words, is_allowed, is_passed_over}
use Rattle.job_lang.specs.FirstFaults.{line_at, header_at, header_kind, depth_told, said, lines_after, said_before, kind_at, IsFirstFault, IsFaultless}
use Rattle.job_lang.specs.Grammar.{header_of}
use Rattle.job_lang.specs.Kinds.{command_in, kind_answered, command_answered, lowest_kind}
use Rattle.job_data.specs.CheckedCommands.{checked}
use Rattle.job_lang.specs.Reading.{Header, read, command_of_line, commands_from, depth_of_line, header_behind, header_from, job_with, job_behind, reading_of}
use Rattle.job_lang.proofs.KindLemmas.{line_kind, line_said}

-- the lowest kind of a line after the header's
abbrev kind_after : ℕ → List Command → List ℕ → Option FaultKind
kind_after depth before line = if is_passed_over (words line) then None else lowest_kind depth before line

-- the kind of the line at an index of these lines, after these commands and those that the lines before it say
abbrev kind_among : ℕ → List Command → List (List ℕ) → ℕ → Option FaultKind
kind_among depth before lines i = kind_after depth (before ++ flat_map said (take i lines)) (line_at lines i)

record IsFirst (depth : ℕ) (before : List Command) (number : ℕ) (lines : List (List ℕ)) (fault : JobFault) : Type 0 where
  at : ℕ
  line : fault.line ≡ number + at
  kind : kind_among depth before lines at ≡ Some fault.kind
  none : (i : ℕ) → i < at → kind_among depth before lines i ≡ None

record AreRead (depth : ℕ) (before : List Command) (lines : List (List ℕ)) (commands : List Command) : Type 0 where
  none : (i : ℕ) → kind_among depth before lines i ≡ None
  same : commands ≡ before ++ flat_map said lines

abbrev IsOutcome : ℕ → List Command → ℕ → List (List ℕ) → Result (List Command) JobFault → Type 0
IsOutcome depth before number lines (Ok commands) = AreRead depth before lines commands
IsOutcome depth before number lines (Err fault) = IsFirst depth before number lines fault

kind_first : (depth : ℕ) (before : List Command) (line : List ℕ) (rest : List (List ℕ)) → kind_among depth before (line ∷ rest) zero ≡ kind_after depth before line
kind_first depth before line rest = ap (λ cs. kind_after depth cs line) (append-nil before)

kind_next : (depth : ℕ) (before : List Command) (line : List ℕ) (rest : List (List ℕ)) (i : ℕ) → kind_among depth before (line ∷ rest) (suc i) ≡ kind_among depth (before ++ said line) rest i
kind_next depth before line rest i = ap (λ cs. kind_after depth cs (line_at rest i)) (sym (append_assoc before (said line) (flat_map said (take i rest))))

-- a line without a fault, and what comes of those after it
later : (depth : ℕ) (before : List Command) (number : ℕ) (line : List ℕ) (rest : List (List ℕ)) (r : Result (List Command) JobFault) → kind_after depth before line ≡ None → IsOutcome depth (before ++ said line) (number + 1) rest r → IsOutcome depth before number (line ∷ rest) r
later depth before number line rest (Ok commands) none are = record {
  none = λ i. elim i as (λ i. kind_among depth before (line ∷ rest) i ≡ None) [
    | zero ↦ kind_first depth before line rest ∙ none
    | suc j ↦ kind_next depth before line rest j ∙ are.none j
  ];
  same = are.same ∙ append_assoc before (said line) (flat_map said rest);
}
later depth before number line rest (Err fault) none is = record {
  at = suc is.at;
  line = let line = is.line in omega arith;
  kind = kind_next depth before line rest is.at ∙ is.kind;
  none = λ i. elim i as (λ i. i < suc is.at → kind_among depth before (line ∷ rest) i ≡ None) [
    | zero ↦ λ _. kind_first depth before line rest ∙ none
    | suc j ↦ λ below. kind_next depth before line rest j ∙ is.none j (omega arith)
  ];
}

passed_kind : (depth : ℕ) (before : List Command) (line : List ℕ) → is_passed_over (words line) ≡ true → kind_after depth before line ≡ None
passed_kind depth before line passed = ap (λ b. if b then None else lowest_kind depth before line) passed

first_kind : (depth : ℕ) (before : List Command) (line : List ℕ) → is_passed_over (words line) ≡ false → kind_after depth before line ≡ kind_answered (command_of_line depth before line)
first_kind depth before line first = ap (λ b. if b then None else lowest_kind depth before line) first ∙ sym (line_kind depth before line first)

passed_said : (line : List ℕ) → is_passed_over (words line) ≡ true → said line ≡ []
passed_said line passed = ap (λ b. if b then [] else option_map_or (λ c. c ∷ []) (command_in (words line)) []) passed

read_said : (depth : ℕ) (before : List Command) (line : List ℕ) (c : Command) → is_passed_over (words line) ≡ false → command_of_line depth before line ≡ Ok c → said line ≡ c ∷ []
read_said depth before line c first is =
    let none = sym (line_kind depth before line first) ∙ ap kind_answered is in
    let command = sym (line_said depth before line none) ∙ ap command_answered is in
    ap (λ b. if b then [] else option_map_or (λ c. c ∷ []) (command_in (words line)) []) first ∙ ap (λ o. option_map_or (λ c. c ∷ []) o []) command

answered : ℕ → List Command → ℕ → List (List ℕ) → Result Command FaultKind → Result (List Command) JobFault
answered depth before number rest (Err kind) = Err (record { line = number; kind = kind })
answered depth before number rest (Ok command) = commands_from depth (before ++ command ∷ []) (number + 1) rest

-- what comes of a line that isn't passed over
outcome_of : (depth : ℕ) (before : List Command) (number : ℕ) (line : List ℕ) (rest : List (List ℕ)) (r : Result Command FaultKind) →
    is_passed_over (words line) ≡ false →
    command_of_line depth before line ≡ r →
    ((cs : List Command) → IsOutcome depth cs (number + 1) rest (commands_from depth cs (number + 1) rest)) →
    IsOutcome depth before number (line ∷ rest) (answered depth before number rest r)
unfolding answered
outcome_of depth before number line rest (Err kind) first is after = record {
  at = zero;
  line = omega arith;
  kind = kind_first depth before line rest ∙ first_kind depth before line first ∙ ap kind_answered is;
  none = λ i below. absurd (omega arith);
}
outcome_of depth before number line rest (Ok c) first is after =
    later depth before number line rest (commands_from depth (before ++ c ∷ []) (number + 1) rest) (first_kind depth before line first ∙ ap kind_answered is)
    (subst (λ cs. IsOutcome depth (before ++ cs) (number + 1) rest (commands_from depth (before ++ c ∷ []) (number + 1) rest)) (sym (read_said depth before line c first is)) (after (before ++ c ∷ [])))

passed_from : (depth : ℕ) (before : List Command) (number : ℕ) (line : List ℕ) (rest : List (List ℕ)) → is_passed_over (words line) ≡ true → commands_from depth before number (line ∷ rest) ≡ commands_from depth before (number + 1) rest
passed_from depth before number line rest passed = rw passed refl

read_from : (depth : ℕ) (before : List Command) (number : ℕ) (line : List ℕ) (rest : List (List ℕ)) (r : Result Command FaultKind) → is_passed_over (words line) ≡ false → command_of_line depth before line ≡ r → commands_from depth before number (line ∷ rest) ≡ answered depth before number rest r
unfolding answered
read_from depth before number line rest (Err kind) first is = rw (first, is) refl
read_from depth before number line rest (Ok c) first is = rw (first, is) refl

outcome_from : (depth : ℕ) (before : List Command) (number : ℕ) (lines : List (List ℕ)) → IsOutcome depth before number lines (commands_from depth before number lines)
outcome_from depth before number [] = record { none = λ i. refl; same = sym (append-nil before) }
outcome_from depth before number (line ∷ rest) =
    elim (is_passed_over (words line)) as (λ b. is_passed_over (words line) ≡ b → IsOutcome depth before number (line ∷ rest) (commands_from depth before number (line ∷ rest))) [
      | true ↦ λ passed.
          let empty = append-nil before ∙ refl in
          let after = subst (λ cs. IsOutcome depth cs (number + 1) rest (commands_from depth before (number + 1) rest)) (sym (ap (λ cs. before ++ cs) (passed_said line passed) ∙ empty)) (outcome_from depth before (number + 1) rest) in
          subst (IsOutcome depth before number (line ∷ rest)) (sym (passed_from depth before number line rest passed))
          (later depth before number line rest (commands_from depth before (number + 1) rest) (passed_kind depth before line passed) after)
      | false ↦ λ first.
          let r = command_of_line depth before line in
          subst (IsOutcome depth before number (line ∷ rest)) (sym (read_from depth before number line rest r first refl))
          (outcome_of depth before number line rest r first refl (λ cs. outcome_from depth cs (number + 1) rest))
    ] refl

-- the header's line is the first that isn't passed over
abbrev header_there : ℕ → List (List ℕ) → ℕ → Result Header JobFault
header_there number lines at = header_behind (number + at) (drop (at + 1) lines) (depth_of_line (line_at lines at))

header_is : (number : ℕ) (lines : List (List ℕ)) → header_from number lines ≡ header_there number lines (header_at lines)
header_is number [] = let same : number ≡ number + 0 = omega arith in ap (λ n. Err (record { line = n; kind = NoHeader })) same
header_is number (line ∷ rest) =
    elim (is_passed_over (words line)) as (λ b. is_passed_over (words line) ≡ b → header_from number (line ∷ rest) ≡ header_there number (line ∷ rest) (header_at (line ∷ rest))) [
      | true ↦ λ passed.
          let at = header_at rest in
          let more : header_at (line ∷ rest) ≡ suc at = ap (λ b. cond b (1 + header_at rest) 0) passed ∙ omega arith in
          let numbers : number + 1 + at ≡ number + suc at = omega arith in
          let behind : suc (at + 1) ≡ suc at + 1 = omega arith in
          ap (λ b. if b then header_from (number + 1) rest else header_behind number rest (depth_of_line line)) passed
          ∙ header_is (number + 1) rest
          ∙ ap (λ n. header_behind n (drop (at + 1) rest) (depth_of_line (line_at rest at))) numbers
          ∙ ap (λ n. header_behind (number + suc at) (drop n (line ∷ rest)) (depth_of_line (line_at rest at))) behind
          ∙ ap (header_there number (line ∷ rest)) (sym more)
      | false ↦ λ first.
          let here : header_at (line ∷ rest) ≡ zero = ap (λ b. cond b (1 + header_at rest) 0) first in
          let same : number ≡ number + 0 = omega arith in
          ap (λ b. if b then header_from (number + 1) rest else header_behind number rest (depth_of_line line)) first
          ∙ ap (λ n. header_behind n rest (depth_of_line line)) same
          ∙ ap (header_there number (line ∷ rest)) (sym here)
    ] refl

abbrev kind_told : Result ℕ FaultKind → Option FaultKind
kind_told (Ok depth) = None
kind_told (Err kind) = Some kind

told_kind : (allowed : Bool) (depth : Option ℕ) → (if not allowed then Some ForeignByte else if is_none depth then Some NoHeader else None) ≡ kind_told (checked ForeignByte allowed (read NoHeader depth (λ d. Ok d)))
told_kind false depth = refl
told_kind true None = refl
told_kind true (Some d) = refl

told_depth : (allowed : Bool) (depth : Option ℕ) (d : ℕ) → checked ForeignByte allowed (read NoHeader depth (λ d. Ok d)) ≡ Ok d → option_map_or (λ depth. depth) depth 0 ≡ d
told_depth false depth d is = cc
told_depth true None d is = cc
told_depth true (Some e) d is = cc

header_told : (line : List ℕ) → header_kind line ≡ kind_told (depth_of_line line)
header_told line = told_kind (list_all is_allowed line) (header_of (words line))

-- the kinds before the header's line, there and after it
kind_before : (lines : List (List ℕ)) (i : ℕ) → i < header_at lines → kind_at lines i ≡ None
kind_before lines i below =
    let other : (i == header_at lines) ≡ false = ne_eqb i (header_at lines) (λ same. omega arith) in
    let passed = prefix_len_passes (λ line. is_passed_over (words line)) lines i [] below in
    ap (λ b. if b then header_kind (line_at lines i) else if is_passed_over (words (line_at lines i)) then None else lowest_kind (depth_told lines) (said_before lines i) (line_at lines i)) other
    ∙ ap (λ b. if b then None else lowest_kind (depth_told lines) (said_before lines i) (line_at lines i)) passed

kind_there : (lines : List (List ℕ)) → kind_at lines (header_at lines) ≡ kind_told (depth_of_line (line_at lines (header_at lines)))
kind_there lines =
    let at = header_at lines in
    ap (λ b. if b then header_kind (line_at lines at) else if is_passed_over (words (line_at lines at)) then None else lowest_kind (depth_told lines) (said_before lines at) (line_at lines at)) (eq-eqb at at refl)
    ∙ header_told (line_at lines at)

kind_later : (lines : List (List ℕ)) (depth j : ℕ) → depth_told lines ≡ depth → kind_at lines (header_at lines + 1 + j) ≡ kind_among depth [] (lines_after lines) j
kind_later lines depth j is =
    let at = header_at lines in
    let i = at + 1 + j in
    let other : (i == at) ≡ false = ne_eqb i at (λ same. omega arith) in
    let some : i - (at + 1) ≡ j = omega arith in
    ap (λ b. if b then header_kind (line_at lines i) else kind_after (depth_told lines) (said_before lines i) (line_at lines i)) other
    ∙ ap (λ d. kind_after d (said_before lines i) (line_at lines i)) is
    ∙ ap (λ n. kind_after depth (flat_map said (take n (lines_after lines))) (line_at lines i)) some
    ∙ ap (kind_after depth (flat_map said (take j (lines_after lines)))) (sym (get_or-drop (at + 1) lines j []))

-- no line up to an index has a fault, where the header's has none, nor has one after it
none_before : (lines : List (List ℕ)) (depth j : ℕ) →
    depth_of_line (line_at lines (header_at lines)) ≡ Ok depth →
    depth_told lines ≡ depth →
    ((k : ℕ) → k < j → kind_among depth [] (lines_after lines) k ≡ None) →
    (i : ℕ) → i < header_at lines + 1 + j → kind_at lines i ≡ None
none_before lines depth j header is none i below =
    let at = header_at lines in
    elim (cases_lt i at) [
      | inl before ↦ kind_before lines i before
      | inr behind ↦ elim (cases_lt at i) [
        | inl more ↦
            let k = i - (at + 1) in
            let here : i ≡ at + 1 + k = omega arith in
            ap (kind_at lines) here ∙ kind_later lines depth k is ∙ none k (omega arith)
        | inr less ↦
            let here : i ≡ at = omega arith in
            ap (kind_at lines) here ∙ kind_there lines ∙ ap kind_told header
      ]
    ]

-- what is answered
abbrev IsAnswer : List (List ℕ) → Result JobData JobFault → Type 0
IsAnswer lines (Ok job) = IsFaultless lines job
IsAnswer lines (Err fault) = IsFirstFault lines fault

answer_of : (lines : List (List ℕ)) (depth : ℕ) (number : ℕ) (r : Result (List Command) JobFault) →
    depth_of_line (line_at lines (header_at lines)) ≡ Ok depth →
    number ≡ header_at lines + 2 →
    IsOutcome depth [] number (lines_after lines) r →
    IsAnswer lines (job_with depth r)
answer_of lines depth number (Ok commands) header numbers are =
    let line = line_at lines (header_at lines) in
    let is = told_depth (list_all is_allowed line) (header_of (words line)) depth header in
    record {
      none = λ i. none_before lines depth i header is (λ k _. are.none k) i (omega arith);
      depth = sym is;
      commands = are.same;
    }
answer_of lines depth number (Err fault) header numbers first =
    let line = line_at lines (header_at lines) in
    let is = told_depth (list_all is_allowed line) (header_of (words line)) depth header in
    record {
      at = header_at lines + 1 + first.at;
      line = let there = first.line in omega arith;
      kind = kind_later lines depth first.at is ∙ first.kind;
      before = none_before lines depth first.at header is first.none;
    }

answer_behind : (lines : List (List ℕ)) (r : Result ℕ FaultKind) → depth_of_line (line_at lines (header_at lines)) ≡ r → IsAnswer lines (job_behind (header_behind (1 + header_at lines) (lines_after lines) r))
answer_behind lines (Err kind) header = record {
  at = header_at lines;
  line = omega arith;
  kind = kind_there lines ∙ ap kind_told header;
  before = kind_before lines;
}
answer_behind lines (Ok depth) header =
    let number = 1 + header_at lines + 1 in
    answer_of lines depth number (commands_from depth [] number (lines_after lines)) header (omega arith) (outcome_from depth [] number (lines_after lines))

answer : (bytes : List ℕ) → IsAnswer (lines_of bytes) (reading_of bytes)
answer bytes =
    let lines = lines_of bytes in
    subst (λ r. IsAnswer lines (job_behind r)) (sym (header_is 1 lines)) (answer_behind lines (depth_of_line (line_at lines (header_at lines))) refl)

pub first_fault : (bytes : List ℕ) (fault : JobFault) → reading_of bytes ≡ Err fault → IsFirstFault (lines_of bytes) fault
first_fault bytes fault is = subst (IsAnswer (lines_of bytes)) is (answer bytes)

pub faultless_line : (bytes : List ℕ) (job : JobData) → reading_of bytes ≡ Ok job → IsFaultless (lines_of bytes) job
faultless_line bytes job is = subst (IsAnswer (lines_of bytes)) is (answer bytes)
