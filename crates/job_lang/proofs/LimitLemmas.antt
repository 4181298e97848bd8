-- A number that hasn't the size that a command keeps is out of its limits.
use Rattle.std.proofs.Common.{◌≡◌, ℕ, ◌<◌, ◌≤◌, ◌^◌, Bool, true, false, List, refl, sym, ◌∙◌, ap, arith, ℤ, pos, negsuc, lit≤}
use Rattle.std.specs.Prelude.{◌&&◌, nat_le, nat_lt, Option, Some, None, Result, Ok, if◌then◌else◌}
use Rattle.std.specs.Option.{option_map}
use Rattle.std.proofs.lemmas.Bool.{and_parts, false_from_ne_true}
use Rattle.std.proofs.lemmas.Bool.Decides.{nat_tests}
use Rattle.std.proofs.Math.Nat.{pow-le-pow_right}
use Rattle.tree_model.specs.Commands.{Command}
use Rattle.tree_model.specs.Commands.Command.{Project as ProjectCommand, Refine as RefineCommand}
use Rattle.tree_model.specs.Functions.{Function, fits, max_depth, max_value, max_difference, is_value}
use Rattle.tree_model.specs.Functions.Function.{Step as StepFunction, Box as BoxFunction, Hash as HashFunction}
use Rattle.job_data.specs.declared.fault_kind.FaultKind.{FaultKind}
use Rattle.job_data.specs.declared.fault_kind.FaultKind.TheVariants.{BeyondLimits, UnknownTree, WrongForm, FarFromFence, SizeBeforeFence}
use Rattle.job_lang.specs.declared.function_form.FunctionForm.{FunctionForm}
use Rattle.job_lang.specs.declared.function_form.FunctionForm.TheVariants.{Const, Ramp, Step, Box, Hash}
use Rattle.job_data.specs.Checks.{has_numbers, has_room, has_trees, has_forms, is_near_fence, has_fence}
use Rattle.job_lang.specs.Grammar.{◌>>=◌, Form, size_of, command_of_form, function_of_form}
use Rattle.job_lang.specs.Grammar.Form.{ProjectForm, RefineForm, CommandForm}
use Rattle.job_lang.specs.Limits.{size_up_to, max_8_bits, max_32_bits, small_function, small_command}
use Rattle.job_data.specs.CheckedCommands.{checked, checked_command}
use Rattle.job_lang.specs.Reading.{read}

-- a number that is only refused later where it is above a limit may be refused at once
sized : {A : Type 0} (limit : ℕ) (z : ℤ) (next : ℕ → Option A) → ((n : ℕ) → nat_le n limit ≡ false → next n ≡ None) → (size_up_to limit z >>= next) ≡ (size_of z >>= next)
sized limit (negsuc n) next none = refl
sized limit (pos n) next none =
    elim (nat_le n limit) as (λ b. nat_le n limit ≡ b → ((if b then Some n else None) >>= next) ≡ next n) [
      | true ↦ λ small. refl
      | false ↦ λ large. sym (none n large)
    ] refl

mapped : {A B C : Type 0} (f : A → B) (o : Option A) (next : B → Option C) → (option_map f o >>= next) ≡ (o >>= λ x. next (f x))
mapped f None next = refl
mapped f (Some x) next = refl

bound : {A B C : Type 0} (o : Option A) (f : A → Option B) (next : B → Option C) → ((o >>= f) >>= next) ≡ (o >>= λ x. f x >>= next)
bound None f next = refl
bound (Some x) f next = refl

then_none : {A B : Type 0} (o : Option A) (next : A → Option B) → ((x : A) → next x ≡ None) → (o >>= next) ≡ None
then_none None next none = refl
then_none (Some x) next none = none x

same_then : {A B : Type 0} (o : Option A) (f g : A → Option B) → ((x : A) → f x ≡ g x) → (o >>= f) ≡ (o >>= g)
same_then None f g same = refl
same_then (Some x) f g same = same x

abbrev fitting_function : ℕ → FunctionForm → Option Function
fitting_function depth form = do
  f ← function_of_form form
  if fits depth f then Some f else None

abbrev fitting : ℕ → Function → Option Function
fitting depth f = if fits depth f then Some f else None

unfit : (depth : ℕ) (f : Function) → fits depth f ≡ false → fitting depth f ≡ None
unfit depth f is = rw is refl

few_cells : (depth : ℕ) → nat_le depth max_depth ≡ true → 2 ^ depth ≤ 65536
few_cells depth small =
    let below : depth ≤ 16 = grind (arith, nat_tests) in
    pow-le-pow_right {n = 2} (lit≤ tt) {i = depth} {j = 16} below

above : (n : ℕ) → nat_le n max_32_bits ≡ false → 65536 < n
above n large = grind (arith, nat_tests)

step_unfit : (depth n : ℕ) (before behind : ℤ) → nat_le n max_32_bits ≡ false → fits depth (StepFunction n before behind) ≡ false
step_unfit depth n before behind large =
    false_from_ne_true (fits depth (StepFunction n before behind)) (λ fit.
    let parts = and_parts (nat_le depth max_depth) (nat_le n (2 ^ depth) && (is_value before && is_value behind)) fit in
    let edge = (and_parts (nat_le n (2 ^ depth)) (is_value before && is_value behind) parts.1).0 in
    let within : n ≤ 2 ^ depth = grind (arith, nat_tests) in
    omega (arith, within, few_cells depth parts.0, above n large))

box_end_unfit : (depth m n : ℕ) (value : ℤ) → nat_le n max_32_bits ≡ false → fits depth (BoxFunction m n value) ≡ false
box_end_unfit depth m n value large =
    false_from_ne_true (fits depth (BoxFunction m n value)) (λ fit.
    let parts = and_parts (nat_le depth max_depth) (nat_le m n && (nat_le n (2 ^ depth) && is_value value)) fit in
    let ends = and_parts (nat_le m n) (nat_le n (2 ^ depth) && is_value value) parts.1 in
    let end = (and_parts (nat_le n (2 ^ depth)) (is_value value) ends.1).0 in
    let within : n ≤ 2 ^ depth = grind (arith, nat_tests) in
    omega (arith, within, few_cells depth parts.0, above n large))

box_start_unfit : (depth m n : ℕ) (value : ℤ) → nat_le m max_32_bits ≡ false → fits depth (BoxFunction m n value) ≡ false
box_start_unfit depth m n value large =
    false_from_ne_true (fits depth (BoxFunction m n value)) (λ fit.
    let parts = and_parts (nat_le depth max_depth) (nat_le m n && (nat_le n (2 ^ depth) && is_value value)) fit in
    let ends = and_parts (nat_le m n) (nat_le n (2 ^ depth) && is_value value) parts.1 in
    let start = ends.0 in
    let end = (and_parts (nat_le n (2 ^ depth)) (is_value value) ends.1).0 in
    let order : m ≤ n = grind (arith, nat_tests) in
    let within : n ≤ 2 ^ depth = grind (arith, nat_tests) in
    omega (arith, order, within, few_cells depth parts.0, above m large))

seed_unfit : (depth s m : ℕ) → nat_le s max_32_bits ≡ false → fits depth (HashFunction s m) ≡ false
seed_unfit depth s m large =
    false_from_ne_true (fits depth (HashFunction s m)) (λ fit.
    let parts = and_parts (nat_le depth max_depth) (nat_lt s (2 ^ 32) && (nat_le 1 m && nat_le m max_value)) fit in
    let seed : nat_lt s 4294967296 ≡ true = (and_parts (nat_lt s (2 ^ 32)) (nat_le 1 m && nat_le m max_value) parts.1).0 in
    grind (arith, nat_tests))

modulus_unfit : (depth s m : ℕ) → nat_le m max_32_bits ≡ false → fits depth (HashFunction s m) ≡ false
modulus_unfit depth s m large =
    false_from_ne_true (fits depth (HashFunction s m)) (λ fit.
    let parts = and_parts (nat_le depth max_depth) (nat_lt s (2 ^ 32) && (nat_le 1 m && nat_le m max_value)) fit in
    let modulus : nat_le m 16777216 ≡ true = (and_parts (nat_le 1 m) (nat_le m max_value) (and_parts (nat_lt s (2 ^ 32)) (nat_le 1 m && nat_le m max_value) parts.1).1).1 in
    grind (arith, nat_tests))

-- a function that fits has numbers of 32 bits
fitting_small : (depth : ℕ) (form : FunctionForm) → fitting_function depth form ≡ (small_function form >>= fitting depth)
fitting_small depth (Const c) = refl
fitting_small depth (Ramp a b) = refl
fitting_small depth (Step edge before behind) =
    mapped (λ x. StepFunction x before behind) (size_of edge) (fitting depth)
    ∙ sym (sized max_32_bits edge (λ x. fitting depth (StepFunction x before behind)) (λ n large. unfit depth (StepFunction n before behind) (step_unfit depth n before behind large)))
    ∙ sym (mapped (λ x. StepFunction x before behind) (size_up_to max_32_bits edge) (fitting depth))
fitting_small depth (Box start end value) =
    bound (size_of start) (λ x. size_of end >>= λ y. Some (BoxFunction x y value)) (fitting depth)
    ∙ same_then (size_of start) (λ x. (size_of end >>= λ y. Some (BoxFunction x y value)) >>= fitting depth) (λ x. size_up_to max_32_bits end >>= λ y. fitting depth (BoxFunction x y value))
    (λ x. bound (size_of end) (λ y. Some (BoxFunction x y value)) (fitting depth) ∙ sym (sized max_32_bits end (λ y. fitting depth (BoxFunction x y value)) (λ n large. unfit depth (BoxFunction x n value) (box_end_unfit depth x n value large))))
    ∙ sym (sized max_32_bits start (λ x. size_up_to max_32_bits end >>= λ y. fitting depth (BoxFunction x y value)) (λ n large. then_none (size_up_to max_32_bits end) (λ y. fitting depth (BoxFunction n y value)) (λ y. unfit depth (BoxFunction n y value) (box_start_unfit depth n y value large))))
    ∙ sym (
    bound (size_up_to max_32_bits start) (λ x. size_up_to max_32_bits end >>= λ y. Some (BoxFunction x y value)) (fitting depth)
    ∙ same_then (size_up_to max_32_bits start) (λ x. (size_up_to max_32_bits end >>= λ y. Some (BoxFunction x y value)) >>= fitting depth) (λ x. size_up_to max_32_bits end >>= λ y. fitting depth (BoxFunction x y value)) (λ x. bound (size_up_to max_32_bits end) (λ y. Some (BoxFunction x y value)) (fitting depth))
    )
fitting_small depth (Hash seed modulus) =
    bound (size_of seed) (λ s. size_of modulus >>= λ m. Some (HashFunction s m)) (fitting depth)
    ∙ same_then (size_of seed) (λ s. (size_of modulus >>= λ m. Some (HashFunction s m)) >>= fitting depth) (λ s. size_up_to max_32_bits modulus >>= λ m. fitting depth (HashFunction s m))
    (λ s. bound (size_of modulus) (λ m. Some (HashFunction s m)) (fitting depth) ∙ sym (sized max_32_bits modulus (λ m. fitting depth (HashFunction s m)) (λ n large. unfit depth (HashFunction s n) (modulus_unfit depth s n large))))
    ∙ sym (sized max_32_bits seed (λ s. size_up_to max_32_bits modulus >>= λ m. fitting depth (HashFunction s m)) (λ n large. then_none (size_up_to max_32_bits modulus) (λ m. fitting depth (HashFunction n m)) (λ m. unfit depth (HashFunction n m) (seed_unfit depth n m large))))
    ∙ sym (
    bound (size_up_to max_32_bits seed) (λ s. size_up_to max_32_bits modulus >>= λ m. Some (HashFunction s m)) (fitting depth)
    ∙ same_then (size_up_to max_32_bits seed) (λ s. (size_up_to max_32_bits modulus >>= λ m. Some (HashFunction s m)) >>= fitting depth) (λ s. size_up_to max_32_bits modulus >>= λ m. fitting depth (HashFunction s m)) (λ s. bound (size_up_to max_32_bits modulus) (λ m. Some (HashFunction s m)) (fitting depth))
    )

abbrev projected : List ℕ → Function → ℕ → ℕ → Command
projected name f n t = ProjectCommand name (record { function = f; level = n; tolerance = t })

abbrev some_if : {A : Type 0} → Bool → A → Option A
some_if b x = if b then Some x else None

-- a command whose numbers are within their limits
abbrev keep : ℕ → Command → Option Command
keep depth c = some_if (has_numbers depth c) c

level_large : (depth n : ℕ) → nat_le depth max_depth ≡ true → nat_le n max_8_bits ≡ false → nat_le n depth ≡ false
level_large depth n shallow large =
    false_from_ne_true (nat_le n depth) (λ is.
    let deep : nat_le depth 16 ≡ true = shallow in
    let above : nat_le n 255 ≡ false = large in
    grind (arith, nat_tests))

tolerance_large : (t : ℕ) → nat_le t max_32_bits ≡ false → nat_le t max_difference ≡ false
tolerance_large t large =
    false_from_ne_true (nat_le t max_difference) (λ is.
    let within : nat_le t 33554432 ≡ true = is in
    grind (arith, nat_tests))

middle_off : (a b c : Bool) (x : Command) → b ≡ false → some_if (a && (b && c)) x ≡ None
middle_off true b c x is = ap (λ b. some_if (b && c) x) is
middle_off false b c x is = refl

last_off : (a b c : Bool) (x : Command) → c ≡ false → some_if (a && (b && c)) x ≡ None
last_off true true c x is = ap (λ c. some_if c x) is
last_off true false c x is = refl
last_off false b c x is = refl

abbrev nothing : ℕ → Option Command
nothing n = None

empty : (depth : ℕ) (o : Option ℕ) → None ≡ ((o >>= nothing) >>= keep depth)
empty depth None = refl
empty depth (Some n) = refl

both : (depth : ℕ) (make : ℕ → ℕ → Command) (n t : ℕ) (a b : Bool) → (a ≡ false → keep depth (make n t) ≡ None) → (b ≡ false → keep depth (make n t) ≡ None) → keep depth (make n t) ≡ ((some_if a n >>= λ n. some_if b t >>= λ t. Some (make n t)) >>= keep depth)
both depth make n t true true first second = refl
both depth make n t true false first second = second refl
both depth make n t false b first second = first refl

-- the level and the tolerance of a projection
sizes : (depth : ℕ) → nat_le depth max_depth ≡ true → (name : List ℕ) (f : Function) (level tolerance : ℤ) → ((size_of level >>= λ n. size_of tolerance >>= λ t. Some (projected name f n t)) >>= keep depth) ≡ ((size_up_to max_8_bits level >>= λ n. size_up_to max_32_bits tolerance >>= λ t. Some (projected name f n t)) >>= keep depth)
sizes depth shallow name f (negsuc n) tolerance = refl
sizes depth shallow name f (pos n) (negsuc t) = empty depth (some_if (nat_le n max_8_bits) n)
sizes depth shallow name f (pos n) (pos t) =
    both depth (projected name f) n t (nat_le n max_8_bits) (nat_le t max_32_bits)
    (λ large. middle_off (fits depth f) (nat_le n depth) (nat_le t max_difference) (projected name f n t) (level_large depth n shallow large))
    (λ large. last_off (fits depth f) (nat_le n depth) (nat_le t max_difference) (projected name f n t) (tolerance_large t large))

-- a function that doesn't fit makes no command within its limits
unfit_command : (depth : ℕ) (name : List ℕ) (level tolerance : ℤ) (f : Function) → fits depth f ≡ false → ((size_of level >>= λ n. size_of tolerance >>= λ t. Some (projected name f n t)) >>= keep depth) ≡ None
unfit_command depth name (negsuc n) tolerance f fit = refl
unfit_command depth name (pos n) (negsuc t) f fit = refl
unfit_command depth name (pos n) (pos t) f fit = ap (λ b. some_if (b && (nat_le n depth && nat_le t max_difference)) (projected name f n t)) fit

through : (depth : ℕ) (o : Option Function) (next : Function → Option Command) → ((f : Function) → fits depth f ≡ false → next f ≡ None) → (o >>= next) ≡ ((o >>= fitting depth) >>= next)
through depth None next none = refl
through depth (Some f) next none =
    elim (fits depth f) as (λ b. fits depth f ≡ b → next f ≡ ((if b then Some f else None) >>= next)) [
      | true ↦ λ fit. refl
      | false ↦ λ fit. none f fit
    ] refl

-- of a form, the command whose numbers have the sizes that the code keeps is the same within its limits
small_limited : (depth : ℕ) → nat_le depth max_depth ≡ true → (form : Form) → (command_of_form form >>= keep depth) ≡ (small_command form >>= keep depth)
small_limited depth shallow (ProjectForm name function level tolerance) =
    let rest : Function → Option Command = (λ f. size_of level >>= λ n. size_of tolerance >>= λ t. Some (projected name f n t)) in
    let small : Function → Option Command = (λ f. size_up_to max_8_bits level >>= λ n. size_up_to max_32_bits tolerance >>= λ t. Some (projected name f n t)) in
    bound (function_of_form function) rest (keep depth)
    ∙ through depth (function_of_form function) (λ f. rest f >>= keep depth) (unfit_command depth name level tolerance)
    ∙ ap (λ o. o >>= λ f. rest f >>= keep depth) (fitting_small depth function)
    ∙ sym (through depth (small_function function) (λ f. rest f >>= keep depth) (unfit_command depth name level tolerance))
    ∙ same_then (small_function function) (λ f. rest f >>= keep depth) (λ f. small f >>= keep depth) (λ f. sizes depth shallow name f level tolerance)
    ∙ sym (bound (small_function function) small (keep depth))
small_limited depth shallow (RefineForm name level) =
    mapped (RefineCommand name) (size_of level) (keep depth)
    ∙ sym (sized max_8_bits level (λ n. keep depth (RefineCommand name n)) (λ n large. ap (λ b. some_if b (RefineCommand name n)) (level_large depth n shallow large)))
    ∙ sym (mapped (RefineCommand name) (size_up_to max_8_bits level) (keep depth))
small_limited depth shallow (CommandForm command) = refl

by_limits : (a b : Bool) (rest : Result Command FaultKind) (c : Command) (next : Command → Result Command FaultKind) → next c ≡ checked BeyondLimits (a && b) rest → next c ≡ read BeyondLimits (some_if a c) next
by_limits true b rest c next is = refl
by_limits false b rest c next is = is

kept : (depth : ℕ) (before : List Command) (o : Option Command) → read BeyondLimits o (checked_command depth before) ≡ read BeyondLimits (o >>= keep depth) (checked_command depth before)
kept depth before None = refl
kept depth before (Some c) =
    let rest = checked UnknownTree (has_trees before c) (checked WrongForm (has_forms before c) (checked FarFromFence (is_near_fence before c) (checked SizeBeforeFence (has_fence before c) (Ok c)))) in
    by_limits (has_numbers depth c) (has_room before c) rest c (checked_command depth before) refl

-- the reading of a form, by the command whose numbers have these sizes
pub form_read : (depth : ℕ) (before : List Command) (form : Form) → nat_le depth max_depth ≡ true → read BeyondLimits (command_of_form form) (checked_command depth before) ≡ read BeyondLimits (small_command form) (checked_command depth before)
form_read depth before form shallow =
    kept depth before (command_of_form form)
    ∙ ap (λ o. read BeyondLimits o (checked_command depth before)) (small_limited depth shallow form)
    ∙ sym (kept depth before (small_command form))
