-- Lemmas that crates above use: the canonical text of a job reads as the job.
use Rattle.std.proofs.Common.{◌≡◌, ℕ, ◌+◌, ◌<◌, ◌≤◌, ◌^◌, ◌-◌, Bool, true, false, List, [], ◌∷◌, ◌++◌, length, take, get_or, map, refl, sym, ◌∙◌, ap, arith, append_assoc, append-nil, ℤ, pos, lit≤}
use Rattle.std.specs.Prelude.{◌&&◌, nat_le, nat_lt, codes, decimal, Some, Result, Ok}
use Rattle.std.specs.Fmt.{signed_decimal}
use Rattle.std.specs.Int.RustNames.{unsigned_abs}
use Rattle.std.specs.List.{flat_map, list_all}
use Rattle.std.specs.Str.Lines.{lines}
use Rattle.std.proofs.lemmas.Bool.{and_parts}
use Rattle.std.proofs.lemmas.Bool.Decides.{nat_tests}
use Rattle.std.proofs.Math.Nat.{pow-le-pow_right}
use Rattle.std.proofs.lemmas.List.{map-append, take_more}
use Rattle.std.proofs.lemmas.Grind.{flat_map-append}
use Rattle.tree_model.specs.Commands.{Command}
use Rattle.tree_model.specs.Commands.Command.{Project, Refine, Coarsen, Compress, Reconstruct, Add, Mul, Inner, Print, Size, Fence}
use Rattle.tree_model.specs.Functions.{Function, fits, max_depth, max_value, max_difference, is_value, value_at}
use Rattle.tree_model.specs.Functions.Function.{Const, Ramp, Step, Box, Hash}
use Rattle.tree_model.specs.Jobs.{JobData}
use Rattle.job_lang.specs.declared.function_form.FunctionForm.{FunctionForm}
use Rattle.job_lang.specs.declared.function_form.FunctionForm.TheVariants.{Const as ConstForm, Ramp as RampForm, Step as StepForm, Box as BoxForm, Hash as HashForm}
use Rattle.job_lang.specs.Canonical.{function_words, command_words, header_words, command_text, canonical_text}
use Rattle.job_data.specs.Checks.{has_names, has_numbers, is_within_limits, has_room, has_trees, has_forms, is_near_fence, has_fence, may_follow, is_accepted, are_accepted, IsJob}
use Rattle.tree_model.specs.Signatures.{is_factor}
use Rattle.job_lang.specs.Grammar.{function_at, function_of_form, header_of}
use Rattle.job_words.specs.Lines.{Words, words, is_passed_over, line_of}
use Rattle.job_words.specs.Names.{is_name}
use Rattle.job_words.specs.Numbers.{number}
use Rattle.job_data.specs.declared.fault_kind.FaultKind.{FaultKind}
use Rattle.job_data.specs.declared.fault_kind.FaultKind.TheVariants.{ForeignByte, NoHeader, BeyondLimits, UnknownTree, WrongForm, FarFromFence, SizeBeforeFence}
use Rattle.job_data.specs.CheckedCommands.{checked, checked_command}
use Rattle.job_lang.specs.Reading.{read, command_of_words, command_of_line, depth_of_line, header_from, commands_from, job_with, job_behind, reading_of}
use Rattle.job_words.proofs.WordLemmas.{IsWord, AreWords, words_line_of, line_of_printable, line_of_allowed, lines_line, decimal_word, number_decimal, number_signed, signed_word, name_word}

abbrev Small : ℤ → Type 0
Small z = unsigned_abs z < 10 ^ 18

-- the numbers of a function
pub record HasSmall (f : Function) : Type 0 where
  pub words : (rest : Words) → AreWords rest → AreWords (function_words f ++ rest)
  pub form : FunctionForm
  pub reads : (rest : Words) → function_at (function_words f ++ rest) ≡ Some (form, rest)
  pub function : function_of_form form ≡ Some f

at_most : (a b : ℕ) → nat_le a b ≡ true → a ≤ b
at_most a b is = grind (arith, nat_tests)

less : (a b : ℕ) → nat_lt a b ≡ true → a < b
less a b is = grind (arith, nat_tests)

limit : 2 ^ 32 ≤ 10 ^ 18
limit = lit≤ tt

value_small : (z : ℤ) → is_value z ≡ true → Small z
value_small z is = let most : unsigned_abs z ≤ 16777216 = at_most (unsigned_abs z) 16777216 is in omega (arith, most, limit)

a_word : (w : List ℕ) → list_all (λ b. nat_le 33 b && nat_le b 126) w ≡ true → nat_lt 0 (length w) ≡ true → IsWord w
a_word w graphic some = record { some = some; graphic = graphic }

const_reads : (w : List ℕ) (rest : Words) (z : ℤ) → number w ≡ Some z → function_at (codes "const" ∷ w ∷ rest) ≡ Some (ConstForm z, rest)
const_reads w rest z is = rw is refl

ramp_reads : (v w : List ℕ) (rest : Words) (y z : ℤ) → number v ≡ Some y → number w ≡ Some z → function_at (codes "ramp" ∷ v ∷ w ∷ rest) ≡ Some (RampForm y z, rest)
ramp_reads v w rest y z first second = rw (first, second) refl

step_reads : (u v w : List ℕ) (rest : Words) (x y z : ℤ) → number u ≡ Some x → number v ≡ Some y → number w ≡ Some z → function_at (codes "step" ∷ u ∷ v ∷ w ∷ rest) ≡ Some (StepForm x y z, rest)
step_reads u v w rest x y z first second third = rw (first, second, third) refl

box_reads : (u v w : List ℕ) (rest : Words) (x y z : ℤ) → number u ≡ Some x → number v ≡ Some y → number w ≡ Some z → function_at (codes "box" ∷ u ∷ v ∷ w ∷ rest) ≡ Some (BoxForm x y z, rest)
box_reads u v w rest x y z first second third = rw (first, second, third) refl

hash_reads : (v w : List ℕ) (rest : Words) (y z : ℤ) → number v ≡ Some y → number w ≡ Some z → function_at (codes "hash" ∷ v ∷ w ∷ rest) ≡ Some (HashForm y z, rest)
hash_reads v w rest y z first second = rw (first, second) refl

few_cells : (depth : ℕ) → nat_le depth max_depth ≡ true → 2 ^ depth ≤ 65536
few_cells depth small = pow-le-pow_right {n = 2} (lit≤ tt) {i = depth} {j = 16} (at_most depth 16 small)

-- a function that fits reads as it is written
function_reads : (depth : ℕ) (f : Function) → fits depth f ≡ true → HasSmall f
function_reads depth (Const c) fit =
    let small = value_small c (and_parts (nat_le depth max_depth) (is_value c) fit).1 in
    record {
      words = λ rest are. (a_word (codes "const") refl refl, (signed_word c small, are));
      form = ConstForm c;
      reads = λ rest. const_reads (signed_decimal c) rest c (number_signed c small);
      function = refl;
    }
function_reads depth (Ramp start slope) fit =
    let parts = and_parts (nat_le depth max_depth) (nat_le (unsigned_abs slope) max_difference && (is_value start && is_value (value_at (Ramp start slope) (2 ^ depth - 1)))) fit in
    let more = and_parts (nat_le (unsigned_abs slope) max_difference) (is_value start && is_value (value_at (Ramp start slope) (2 ^ depth - 1))) parts.1 in
    let steep : unsigned_abs slope ≤ 33554432 = at_most (unsigned_abs slope) 33554432 more.0 in
    let small = value_small start (and_parts (is_value start) (is_value (value_at (Ramp start slope) (2 ^ depth - 1))) more.1).0 in
    let flat : Small slope = omega (arith, steep, limit) in
    record {
      words = λ rest are. (a_word (codes "ramp") refl refl, (signed_word start small, (signed_word slope flat, are)));
      form = RampForm start slope;
      reads = λ rest. ramp_reads (signed_decimal start) (signed_decimal slope) rest start slope (number_signed start small) (number_signed slope flat);
      function = refl;
    }
function_reads depth (Step edge before behind) fit =
    let parts = and_parts (nat_le depth max_depth) (nat_le edge (2 ^ depth) && (is_value before && is_value behind)) fit in
    let more = and_parts (nat_le edge (2 ^ depth)) (is_value before && is_value behind) parts.1 in
    let values = and_parts (is_value before) (is_value behind) more.1 in
    let near : edge < 10 ^ 18 = omega (arith, few_cells depth parts.0, at_most edge (2 ^ depth) more.0, limit) in
    let low = value_small before values.0 in
    let high = value_small behind values.1 in
    record {
      words = λ rest are. (a_word (codes "step") refl refl, (decimal_word edge near, (signed_word before low, (signed_word behind high, are))));
      form = StepForm (pos edge) before behind;
      reads = λ rest. step_reads (decimal edge) (signed_decimal before) (signed_decimal behind) rest (pos edge) before behind (number_decimal edge near) (number_signed before low) (number_signed behind high);
      function = refl;
    }
function_reads depth (Box start end value) fit =
    let parts = and_parts (nat_le depth max_depth) (nat_le start end && (nat_le end (2 ^ depth) && is_value value)) fit in
    let more = and_parts (nat_le start end) (nat_le end (2 ^ depth) && is_value value) parts.1 in
    let last = and_parts (nat_le end (2 ^ depth)) (is_value value) more.1 in
    let near : end < 10 ^ 18 = omega (arith, few_cells depth parts.0, at_most end (2 ^ depth) last.0, limit) in
    let first : start < 10 ^ 18 = omega (arith, near, at_most start end more.0) in
    let small = value_small value last.1 in
    record {
      words = λ rest are. (a_word (codes "box") refl refl, (decimal_word start first, (decimal_word end near, (signed_word value small, are))));
      form = BoxForm (pos start) (pos end) value;
      reads = λ rest. box_reads (decimal start) (decimal end) (signed_decimal value) rest (pos start) (pos end) value (number_decimal start first) (number_decimal end near) (number_signed value small);
      function = refl;
    }
function_reads depth (Hash seed modulus) fit =
    let parts = and_parts (nat_le depth max_depth) (nat_lt seed (2 ^ 32) && (nat_le 1 modulus && nat_le modulus max_value)) fit in
    let more = and_parts (nat_lt seed (2 ^ 32)) (nat_le 1 modulus && nat_le modulus max_value) parts.1 in
    let first : seed < 10 ^ 18 = omega (arith, less seed (2 ^ 32) more.0, limit) in
    let few : modulus ≤ 16777216 = at_most modulus 16777216 (and_parts (nat_le 1 modulus) (nat_le modulus max_value) more.1).1 in
    let second : modulus < 10 ^ 18 = omega (arith, few, limit) in
    record {
      words = λ rest are. (a_word (codes "hash") refl refl, (decimal_word seed first, (decimal_word modulus second, are)));
      form = HashForm (pos seed) (pos modulus);
      reads = λ rest. hash_reads (decimal seed) (decimal modulus) rest (pos seed) (pos modulus) (number_decimal seed first) (number_decimal modulus second);
      function = refl;
    }

-- one more line
pub flat_map_more : {A : Type 0} (f : A → Command) (xs : List A) (i : ℕ) (x : A) → i < length xs → x ≡ get_or xs i x → flat_map command_text (map f (take (i + 1) xs)) ≡ flat_map command_text (map f (take i xs)) ++ command_text (f x)
flat_map_more f xs i x below is =
    ap (λ ys. flat_map command_text (map f ys)) (take_more xs i x below ∙ ap (λ y. take i xs ++ y ∷ []) (sym is))
    ∙ ap (flat_map command_text) (map-append f (take i xs) (x ∷ []))
    ∙ flat_map-append command_text (map f (take i xs)) (f x ∷ [])
    ∙ ap (λ rest. flat_map command_text (map f (take i xs)) ++ rest) (append-nil (command_text (f x)))

-- a form that reads as a command
pub record Reads (c : Command) : Type 0 where
  pub words : AreWords (command_words c)
  pub command : (depth : ℕ) (before : List Command) → command_of_words depth before (command_words c) ≡ checked_command depth before c
  pub first : is_passed_over (command_words c) ≡ false

project_reads : (depth : ℕ) (before : List Command) (name : List ℕ) (ws : Words) (l t : List ℕ) (form : FunctionForm) (f : Function) (n m : ℕ)
    → is_name name ≡ true
    → function_at ws ≡ Some (form, codes "level" ∷ l ∷ codes "tol" ∷ t ∷ [])
    → function_of_form form ≡ Some f
    → number l ≡ Some (pos n)
    → number t ≡ Some (pos m)
    → command_of_words depth before (codes "project" ∷ name ∷ ws) ≡ checked_command depth before (Project name (record { function = f; level = n; tolerance = m }))
project_reads depth before name ws l t form f n m is_name is_function function level tolerance =
    rw (is_name, is_function, level, tolerance, function) refl

refine_reads : (depth : ℕ) (before : List Command) (name l : List ℕ) (n : ℕ) → is_name name ≡ true → number l ≡ Some (pos n) → command_of_words depth before (codes "refine" ∷ name ∷ l ∷ []) ≡ checked_command depth before (Refine name n)
refine_reads depth before name l n is_name level = rw (is_name, level) refl

coarsen_reads : (depth : ℕ) (before : List Command) (name : List ℕ) → is_name name ≡ true → command_of_words depth before (codes "coarsen" ∷ name ∷ []) ≡ checked_command depth before (Coarsen name)
coarsen_reads depth before name is_name = rw is_name refl

compress_reads : (depth : ℕ) (before : List Command) (name : List ℕ) → is_name name ≡ true → command_of_words depth before (codes "compress" ∷ name ∷ []) ≡ checked_command depth before (Compress name)
compress_reads depth before name is_name = rw is_name refl

reconstruct_reads : (depth : ℕ) (before : List Command) (name : List ℕ) → is_name name ≡ true → command_of_words depth before (codes "reconstruct" ∷ name ∷ []) ≡ checked_command depth before (Reconstruct name)
reconstruct_reads depth before name is_name = rw is_name refl

add_reads : (depth : ℕ) (before : List Command) (name a left b right : List ℕ) (y z : ℤ) → is_name name ≡ true → number a ≡ Some y → is_name left ≡ true → number b ≡ Some z → is_name right ≡ true → command_of_words depth before (codes "add" ∷ name ∷ codes "=" ∷ a ∷ left ∷ codes "+" ∷ b ∷ right ∷ []) ≡ checked_command depth before (Add name y left z right)
add_reads depth before name a left b right y z is_name first is_left second is_right = rw (is_name, first, is_left, second, is_right) refl

mul_reads : (depth : ℕ) (before : List Command) (name left right : List ℕ) → is_name name ≡ true → is_name left ≡ true → is_name right ≡ true → command_of_words depth before (codes "mul" ∷ name ∷ codes "=" ∷ left ∷ codes "*" ∷ right ∷ []) ≡ checked_command depth before (Mul name left right)
mul_reads depth before name left right is_name is_left is_right = rw (is_name, is_left, is_right) refl

inner_reads : (depth : ℕ) (before : List Command) (left right : List ℕ) → is_name left ≡ true → is_name right ≡ true → command_of_words depth before (codes "inner" ∷ left ∷ right ∷ []) ≡ checked_command depth before (Inner left right)
inner_reads depth before left right is_left is_right = rw (is_left, is_right) refl

print_reads : (depth : ℕ) (before : List Command) (name : List ℕ) → is_name name ≡ true → command_of_words depth before (codes "print" ∷ name ∷ []) ≡ checked_command depth before (Print name)
print_reads depth before name is_name = rw is_name refl

size_reads : (depth : ℕ) (before : List Command) (name : List ℕ) → is_name name ≡ true → command_of_words depth before (codes "size" ∷ name ∷ []) ≡ checked_command depth before (Size name)
size_reads depth before name is_name = rw is_name refl

factor_small : (z : ℤ) → is_factor z ≡ true → Small z
factor_small z is = let most : unsigned_abs z ≤ 1048576 = at_most (unsigned_abs z) 1048576 is in omega (arith, most, limit)

level_small : (depth n : ℕ) → nat_le depth max_depth ≡ true → nat_le n depth ≡ true → n < 10 ^ 18
level_small depth n shallow is =
    let deep : depth ≤ 16 = at_most depth 16 shallow in
    omega (arith, at_most n depth is, deep, limit)

command_reads : (depth : ℕ) (c : Command) → nat_le depth max_depth ≡ true → has_names c ≡ true → has_numbers depth c ≡ true → Reads c
command_reads depth (Project name p) shallow names numbers =
    let is = (and_parts (is_name name) true names).0 in
    let parts = and_parts (fits depth p.function) (nat_le p.level depth && nat_le p.tolerance max_difference) numbers in
    let sizes = and_parts (nat_le p.level depth) (nat_le p.tolerance max_difference) parts.1 in
    let level = level_small depth p.level shallow sizes.0 in
    let most : p.tolerance ≤ 33554432 = at_most p.tolerance 33554432 sizes.1 in
    let tolerance : p.tolerance < 10 ^ 18 = omega (arith, most, limit) in
    let function = function_reads depth p.function parts.0 in
    let rest = codes "level" ∷ decimal p.level ∷ codes "tol" ∷ decimal p.tolerance ∷ [] in
    record {
      words = (a_word (codes "project") refl refl, (name_word name is, function.words rest (a_word (codes "level") refl refl, (decimal_word p.level level, (a_word (codes "tol") refl refl, (decimal_word p.tolerance tolerance, tt))))));
      command = λ depth before. project_reads depth before name (function_words p.function ++ rest) (decimal p.level) (decimal p.tolerance) function.form p.function p.level p.tolerance is (function.reads rest) function.function (number_decimal p.level level) (number_decimal p.tolerance tolerance);
      first = refl;
    }
command_reads depth (Refine name level) shallow names numbers =
    let is = (and_parts (is_name name) (is_name name && true) names).0 in
    let small = level_small depth level shallow numbers in
    record {
      words = (a_word (codes "refine") refl refl, (name_word name is, (decimal_word level small, tt)));
      command = λ depth before. refine_reads depth before name (decimal level) level is (number_decimal level small);
      first = refl;
    }
command_reads depth (Coarsen name) shallow names numbers =
    let is = (and_parts (is_name name) (is_name name && true) names).0 in
    record {
      words = (a_word (codes "coarsen") refl refl, (name_word name is, tt));
      command = λ depth before. coarsen_reads depth before name is;
      first = refl;
    }
command_reads depth (Compress name) shallow names numbers =
    let is = (and_parts (is_name name) (is_name name && true) names).0 in
    record {
      words = (a_word (codes "compress") refl refl, (name_word name is, tt));
      command = λ depth before. compress_reads depth before name is;
      first = refl;
    }
command_reads depth (Reconstruct name) shallow names numbers =
    let is = (and_parts (is_name name) (is_name name && true) names).0 in
    record {
      words = (a_word (codes "reconstruct") refl refl, (name_word name is, tt));
      command = λ depth before. reconstruct_reads depth before name is;
      first = refl;
    }
command_reads depth (Add name left_factor left right_factor right) shallow names numbers =
    let all = and_parts (is_name name) (is_name left && (is_name right && true)) names in
    let terms = and_parts (is_name left) (is_name right && true) all.1 in
    let last = (and_parts (is_name right) true terms.1).0 in
    let factors = and_parts (is_factor left_factor) (is_factor right_factor) numbers in
    let a = factor_small left_factor factors.0 in
    let b = factor_small right_factor factors.1 in
    record {
      words = (a_word (codes "add") refl refl, (name_word name all.0, (a_word (codes "=") refl refl, (signed_word left_factor a, (name_word left terms.0, (a_word (codes "+") refl refl, (signed_word right_factor b, (name_word right last, tt))))))));
      command = λ depth before. add_reads depth before name (signed_decimal left_factor) left (signed_decimal right_factor) right left_factor right_factor all.0 (number_signed left_factor a) terms.0 (number_signed right_factor b) last;
      first = refl;
    }
command_reads depth (Mul name left right) shallow names numbers =
    let all = and_parts (is_name name) (is_name left && (is_name right && true)) names in
    let terms = and_parts (is_name left) (is_name right && true) all.1 in
    let last = (and_parts (is_name right) true terms.1).0 in
    record {
      words = (a_word (codes "mul") refl refl, (name_word name all.0, (a_word (codes "=") refl refl, (name_word left terms.0, (a_word (codes "*") refl refl, (name_word right last, tt))))));
      command = λ depth before. mul_reads depth before name left right all.0 terms.0 last;
      first = refl;
    }
command_reads depth (Inner left right) shallow names numbers =
    let terms = and_parts (is_name left) (is_name right && true) names in
    let last = (and_parts (is_name right) true terms.1).0 in
    record {
      words = (a_word (codes "inner") refl refl, (name_word left terms.0, (name_word right last, tt)));
      command = λ depth before. inner_reads depth before left right terms.0 last;
      first = refl;
    }
command_reads depth (Print name) shallow names numbers =
    let is = (and_parts (is_name name) true names).0 in
    record {
      words = (a_word (codes "print") refl refl, (name_word name is, tt));
      command = λ depth before. print_reads depth before name is;
      first = refl;
    }
command_reads depth (Size name) shallow names numbers =
    let is = (and_parts (is_name name) true names).0 in
    record {
      words = (a_word (codes "size") refl refl, (name_word name is, tt));
      command = λ depth before. size_reads depth before name is;
      first = refl;
    }
command_reads depth Fence shallow names numbers = record {
  words = (a_word (codes "fence") refl refl, tt);
  command = λ depth before. refl;
  first = refl;
}

-- an accepted command has no fault
no_fault : (c : Command) (a b t f n s : Bool) → a ≡ true → (b && (t && (f && (n && s)))) ≡ true → checked BeyondLimits (a && b) (checked UnknownTree t (checked WrongForm f (checked FarFromFence n (checked SizeBeforeFence s (Ok c))))) ≡ Ok c
no_fault c true true true true true true numbers rest = refl
no_fault c true true true true true false numbers rest = cc
no_fault c true true true true false s numbers rest = cc
no_fault c true true true false n s numbers rest = cc
no_fault c true true false f n s numbers rest = cc
no_fault c true false t f n s numbers rest = cc
no_fault c false b t f n s numbers rest = cc

accepted_checked : (depth : ℕ) (before : List Command) (c : Command) → is_accepted depth before c ≡ true → checked_command depth before c ≡ Ok c
accepted_checked depth before c is =
    let parts = and_parts (is_within_limits depth c) (may_follow before c) is in
    no_fault c (has_numbers depth c) (has_room before c) (has_trees before c) (has_forms before c) (is_near_fence before c) (has_fence before c) (and_parts (has_names c) (has_numbers depth c) parts.0).1 parts.1

words_all : (ws : Words) → AreWords ws → is_passed_over ws ≡ false → words (line_of ws) ≡ ws
words_all [] are first = cc
words_all (word ∷ rest) are first = words_line_of word rest are.0 are.1

line_reads : (depth : ℕ) (before : List Command) (ws : Words) (r : Result Command FaultKind) → AreWords ws → is_passed_over ws ≡ false → command_of_words depth before ws ≡ r → command_of_line depth before (line_of ws) ≡ r
line_reads depth before ws r are first is =
    ap (λ b. checked ForeignByte b (command_of_words depth before (words (line_of ws)))) (line_of_allowed ws are) ∙ ap (command_of_words depth before) (words_all ws are first) ∙ is

command_step : (depth : ℕ) (before : List Command) (number : ℕ) (line : List ℕ) (rest : List (List ℕ)) (c : Command) → is_passed_over (words line) ≡ false → command_of_line depth before line ≡ Ok c → commands_from depth before number (line ∷ rest) ≡ commands_from depth (before ++ c ∷ []) (number + 1) rest
command_step depth before number line rest c first is = rw (first, is) refl

lines_text : (ws : Words) (rest : List ℕ) → AreWords ws → lines ((line_of ws ++ codes "\n") ++ rest) ≡ line_of ws ∷ lines rest
lines_text ws rest are = ap lines (append_assoc (line_of ws) (codes "\n") rest) ∙ lines_line (line_of ws) rest (line_of_printable ws are)

commands_read : (depth : ℕ) (before cs : List Command) (number : ℕ) → nat_le depth max_depth ≡ true → are_accepted depth before cs ≡ true → commands_from depth before number (lines (flat_map command_text cs)) ≡ Ok (before ++ cs)
commands_read depth before [] number shallow all = ap Ok (sym (append-nil before))
commands_read depth before (c ∷ cs) number shallow all =
    let here = and_parts (is_accepted depth before c) (are_accepted depth (before ++ c ∷ []) cs) all in
    let within = and_parts (has_names c) (has_numbers depth c) (and_parts (is_within_limits depth c) (may_follow before c) here.0).0 in
    let reads = command_reads depth c shallow within.0 within.1 in
    ap (commands_from depth before number) (lines_text (command_words c) (flat_map command_text cs) reads.words)
    ∙ command_step depth before number (line_of (command_words c)) (lines (flat_map command_text cs)) c
    (ap is_passed_over (words_all (command_words c) reads.words reads.first) ∙ reads.first)
    (line_reads depth before (command_words c) (Ok c) reads.words reads.first (reads.command depth before ∙ accepted_checked depth before c here.0))
    ∙ commands_read depth (before ++ c ∷ []) cs (number + 1) shallow here.1
    ∙ ap Ok (append_assoc before (c ∷ []) cs)

header_step : (number : ℕ) (line : List ℕ) (rest : List (List ℕ)) (depth : ℕ) → is_passed_over (words line) ≡ false → depth_of_line line ≡ Ok depth → header_from number (line ∷ rest) ≡ Ok (record { depth = depth; number = number + 1; rest = rest })
header_step number line rest depth first is = rw (first, is) refl

depth_reads : (ws : Words) (depth : ℕ) → AreWords ws → is_passed_over ws ≡ false → header_of ws ≡ Some depth → depth_of_line (line_of ws) ≡ Ok depth
depth_reads ws depth are first is =
    ap (λ b. checked ForeignByte b (read NoHeader (header_of (words (line_of ws))) (λ d. Ok d))) (line_of_allowed ws are)
    ∙ ap (λ us. read NoHeader (header_of us) (λ d. Ok d)) (words_all ws are first)
    ∙ ap (λ o. read NoHeader o (λ d. Ok d)) is

text_reads : (ws : Words) (depth : ℕ) (cs : List Command) → AreWords ws → is_passed_over ws ≡ false → header_of ws ≡ Some depth → nat_le depth max_depth ≡ true → are_accepted depth [] cs ≡ true → reading_of ((line_of ws ++ codes "\n") ++ flat_map command_text cs) ≡ Ok (record { depth = depth; commands = cs })
text_reads ws depth cs are first is shallow all =
    ap (λ ls. job_behind (header_from 1 ls)) (lines_text ws (flat_map command_text cs) are)
    ∙ ap job_behind (header_step 1 (line_of ws) (lines (flat_map command_text cs)) depth (ap is_passed_over (words_all ws are first) ∙ first) (depth_reads ws depth are first is))
    ∙ ap (job_with depth) (commands_read depth [] cs 2 shallow all)

header_reads : (w : List ℕ) (depth : ℕ) → number w ≡ Some (pos depth) → nat_le depth max_depth ≡ true → header_of (codes "job" ∷ codes "1" ∷ codes "depth" ∷ w ∷ []) ≡ Some depth
header_reads w depth is shallow = rw (is, shallow) refl

-- the canonical text of a job reads as the job
pub reads_back : (job : JobData) → IsJob job → reading_of (canonical_text job) ≡ Ok job
reads_back job is =
    let deep : job.depth ≤ 16 = at_most job.depth 16 is.depth in
    let small : job.depth < 10 ^ 18 = omega (arith, deep, limit) in
    text_reads (header_words job.depth) job.depth job.commands
    (a_word (codes "job") refl refl, (a_word (codes "1") refl refl, (a_word (codes "depth") refl refl, (decimal_word job.depth small, tt))))
    refl
    (header_reads (decimal job.depth) job.depth (number_decimal job.depth small) is.depth)
    is.depth
    is.commands
