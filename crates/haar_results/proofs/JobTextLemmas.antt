-- Right results, one after another, make the text of the job.
use Rattle.std.proofs.Common.{◌≡◌, ◌⊎◌, inl, inr, ℕ, zero, suc, ◌+◌, ◌-◌, ◌<◌, ◌≤◌, Bool, true, false, List, [], ◌∷◌, ◌++◌, length, take, drop, refl, sym, ap, ◌∙◌, subst, arith, append_assoc, append-nil}
use Rattle.std.specs.Prelude.{◌==◌, nat_lt, if◌then◌else◌, slice_get, Option, Some, None}
use Rattle.std.specs.Option.{option_map_or}
use Rattle.std.proofs.lemmas.Bool.{eq-eqb}
use Rattle.std.proofs.lemmas.List.Sums.{fold-append}
use Rattle.tree_model.specs.Commands.{Command}
use Rattle.tree_model.specs.Jobs.{command_lines, lines_from, overflow_from, first_overflow, job_text, text_with}
use Rattle.tree_model.specs.OperationTexts.{overflow_line}
use Rattle.tree_model.specs.Versions.{Versions, no_versions, written, after, versions_behind, command_overflows}
use Rattle.job_data.specs.Checks.{is_fence}
use Rattle.haar_units.proofs.EffectLemmas.{some_is, none_is}
use Rattle.haar_base.specs.declared.value.Value.{Value}
use Rattle.haar_base.specs.declared.value.Value.TheVariants.{Bad}
use Rattle.haar_meaning.specs.PlannedJobs.{PlannedJob, IsPlannedJob, job_of, Standing, standing_to, standing}
use Rattle.haar_meaning.specs.PlannedJobs.Standing.{Before, At, After}
use Rattle.haar_right.proofs.KnownLemmas.{none_earlier, from_first}
use Rattle.haar_units.proofs.ReadLemmas.{take_more}
use Rattle.haar_results.specs.Results.{Work, Made, value_lines, work_from, work_of, made_of_one, made_of, whole_text}
use Rattle.haar_results.specs.RightResults.{IsRightResult, AreRightResults, lines_to, IsJobText, RightResultsMakeTheText}
use Rattle.haar_results.proofs.ResultLemmas.{right_lines, right_bad}

-- what the rest of the commands make is their lines up to the first that overflows

abbrev lines_until : ℕ → Versions → ℕ → List Command → Option ℕ → List ℕ
lines_until depth versions number cs None = lines_from depth versions cs
lines_until depth versions number cs (Some first) = lines_from depth versions (take (first - number) cs)

record Follows (depth : ℕ) (versions : Versions) (number : ℕ) (cs : List Command) (made : Made) : Type 0 where
  pub overflow : made.overflow ≡ overflow_from depth versions number cs
  pub text : made.text ≡ lines_until depth versions number cs (overflow_from depth versions number cs)

-- the first that overflows is one of the rest
not_earlier : (depth : ℕ) (versions : Versions) (number first : ℕ) (cs : List Command) → overflow_from depth versions number cs ≡ Some first → number ≤ first
not_earlier depth versions number first [] e = none_is first e
not_earlier depth versions number first (c ∷ cs) e = go (command_overflows depth versions c) e (not_earlier depth (after depth versions c) (number + 1) first cs)
  where
    go : (b : Bool) → (if b then Some number else overflow_from depth (after depth versions c) (number + 1) cs) ≡ Some first → (overflow_from depth (after depth versions c) (number + 1) cs ≡ Some first → number + 1 ≤ first) → number ≤ first
    go true e rest = let same = some_is number first e in omega (arith, same)
    go false e rest = let low = rest e in omega (arith, low)

one_more : (depth : ℕ) (versions : Versions) (number : ℕ) (c : Command) (cs : List Command) (lines : List ℕ) (made : Made) → command_overflows depth versions c ≡ false → lines ≡ command_lines versions c
    → Follows depth (after depth versions c) (number + 1) cs made → Follows depth versions number (c ∷ cs) (record { text = lines ++ made.text; overflow = made.overflow })
one_more depth versions number c cs lines made fine is follows =
    let same : overflow_from depth (after depth versions c) (number + 1) cs ≡ overflow_from depth versions number (c ∷ cs) =
    ap (λ (b : Bool). if b then Some number else overflow_from depth (after depth versions c) (number + 1) cs) (sym fine) in
    record {
      overflow = follows.overflow ∙ same;
      text =
          (λ i. is i ++ follows.text i)
          ∙ go (overflow_from depth (after depth versions c) (number + 1) cs) refl
          ∙ ap (lines_until depth versions number (c ∷ cs)) same;
    }
  where
    go : (o : Option ℕ) → overflow_from depth (after depth versions c) (number + 1) cs ≡ o
        → command_lines versions c ++ lines_until depth (after depth versions c) (number + 1) cs (overflow_from depth (after depth versions c) (number + 1) cs) ≡ lines_until depth versions number (c ∷ cs) (overflow_from depth (after depth versions c) (number + 1) cs)
    go None e = ap (λ (o : Option ℕ). command_lines versions c ++ lines_until depth (after depth versions c) (number + 1) cs o) e ∙ ap (lines_until depth versions number (c ∷ cs)) (sym e)
    go (Some first) e =
        let low = not_earlier depth (after depth versions c) (number + 1) first cs e in
        let steps : suc (first - (number + 1)) ≡ first - number = omega (arith, low) in
        ap (λ (o : Option ℕ). command_lines versions c ++ lines_until depth (after depth versions c) (number + 1) cs o) e
        ∙ ap (λ (k : ℕ). lines_from depth versions (take k (c ∷ cs))) steps
        ∙ ap (lines_until depth versions number (c ∷ cs)) (sym e)

none_more : (depth : ℕ) (versions : Versions) (number : ℕ) (c : Command) (cs : List Command) → command_overflows depth versions c ≡ true → Follows depth versions number (c ∷ cs) (record { text = []; overflow = Some number })
none_more depth versions number c cs over =
    let is : Some number ≡ overflow_from depth versions number (c ∷ cs) = ap (λ (b : Bool). if b then Some number else overflow_from depth (after depth versions c) (number + 1) cs) (sym over) in
    let none : 0 ≡ number - number = omega arith in
    record {
      overflow = is;
      text = ap (λ (k : ℕ). lines_from depth versions (take k (c ∷ cs))) none ∙ ap (lines_until depth versions number (c ∷ cs)) is;
    }

-- a fence has no lines, and doesn't overflow

fence_lines : (versions : Versions) (c : Command) → is_fence c ≡ true → command_lines versions c ≡ []
fence_lines versions Command.Fence e = refl
fence_lines versions _ e = absurd (cc)

fence_is_fine : (depth : ℕ) (versions : Versions) (c : Command) → is_fence c ≡ true → command_overflows depth versions c ≡ false
fence_is_fine depth versions Command.Fence e = refl
fence_is_fine depth versions _ e = absurd (cc)

-- the rest of a list

record Rest (commands : List Command) (n : ℕ) (c : Command) (cs : List Command) : Type 0 where
  pub at : slice_get commands n ≡ Some c
  pub more : drop (suc n) commands ≡ cs

rest_at : (commands : List Command) (n : ℕ) (c : Command) (cs : List Command) → drop n commands ≡ c ∷ cs → Rest commands n c cs
rest_at [] zero c cs e = absurd (cc)
rest_at [] (suc n) c cs e = absurd (cc)
rest_at (x ∷ commands) zero c cs e = record { at = (let same : x ≡ c = cc in ap Some same); more = cc }
rest_at (x ∷ commands) (suc n) c cs e = let rest = rest_at commands n c cs e in record { at = rest.at; more = rest.more }

-- the values of the rest are right
record Rightly (job : PlannedJob) (works : List Work) (values : List Value) : Type 0 where
  pub number : length values ≡ length works
  pub each : (index : ℕ) (work : Work) (v : Value) → slice_get works index ≡ Some work → slice_get values index ≡ Some v → IsRightResult job work.number v

rightly_more : (job : PlannedJob) (work : Work) (works : List Work) (v : Value) (values : List Value) → Rightly job (work ∷ works) (v ∷ values) → Rightly job works values
rightly_more job work works v values right = record {
  number = let same = right.number in omega (arith, same);
  each = λ index. right.each (suc index);
}

module _ (job : PlannedJob) (planned : IsPlannedJob job) where
  abbrev stand : ℕ → Versions
  stand n = versions_behind job.depth (take n job.commands)

  abbrev first : Option ℕ
  first = first_overflow (job_of job)

  abbrev Made_from : ℕ → ℕ → List Command → List Value → Type 0
  Made_from n number cs values = Follows job.depth (stand n) number cs (made_of (work_from number cs) values)

  stand_more : (n : ℕ) (c : Command) → slice_get job.commands n ≡ Some c → after job.depth (stand n) c ≡ stand (suc n)
  stand_more n c at = sym (fold-append (after job.depth) no_versions (take n job.commands) (c ∷ [])) ∙ ap (versions_behind job.depth) (sym (take_more job.commands n c at))

  is_first : (n number : ℕ) → number ≡ suc n → first ≡ Some number → standing job (suc n) ≡ At
  is_first n number same e =
      ap (standing_to (suc n)) (e ∙ ap Some same) ∙ from_first (suc n) (suc n) (omega arith) ∙ ap (λ (b : Bool). if b then At else After) (eq-eqb (suc n) (suc n) refl)

  is_before : (n number : ℕ) (c : Command) (cs : List Command) → number ≡ suc n → first ≡ overflow_from job.depth (after job.depth (stand n) c) (number + 1) cs → standing job (suc n) ≡ Before
  is_before n number c cs same e = ap (standing_to (suc n)) e ∙ none_earlier job.depth (after job.depth (stand n) c) (number + 1) (suc n) cs (omega (arith, same))

  abbrev Rec : ℕ → ℕ → List Command → Type 0
  Rec n number cs = (values : List Value) → drop n job.commands ≡ cs → number ≡ suc n → first ≡ overflow_from job.depth (stand n) number cs → Rightly job (work_from number cs) values → Made_from n number cs values

  -- the rest after a command that doesn't overflow
  after_one : (n number : ℕ) (c : Command) (cs : List Command) (values : List Value) → Rest job.commands n c cs → number ≡ suc n
      → first ≡ overflow_from job.depth (after job.depth (stand n) c) (number + 1) cs → Rec (suc n) (number + 1) cs → Rightly job (work_from (number + 1) cs) values
      → Follows job.depth (after job.depth (stand n) c) (number + 1) cs (made_of (work_from (number + 1) cs) values)
  after_one n number c cs values rest same e rec right =
      let versions = stand_more n c rest.at in
      subst (λ (versions : Versions). Follows job.depth versions (number + 1) cs (made_of (work_from (number + 1) cs) values)) (sym versions)
      (rec values rest.more (omega (arith, same)) (e ∙ ap (λ (versions : Versions). overflow_from job.depth versions (number + 1) cs) versions) right)

  work_at : (n number : ℕ) (c : Command) (cs : List Command) (values : List Value) → Rest job.commands n c cs → number ≡ suc n → is_fence c ≡ false
      → first ≡ overflow_from job.depth (stand n) number (c ∷ cs) → Rec (suc n) (number + 1) cs → Rightly job (record { number = number; command = c } ∷ work_from (number + 1) cs) values
      → Follows job.depth (stand n) number (c ∷ cs) (made_of (record { number = number; command = c } ∷ work_from (number + 1) cs) values)
  work_at n number c cs [] rest same works e rec right = absurd (let none = right.number in omega (arith, none))
  work_at n number c cs (v ∷ values) rest same works e rec right = go (command_overflows job.depth (stand n) c) refl
    where
      own : IsRightResult job (suc n) v
      own = subst (λ (m : ℕ). IsRightResult job m v) same (right.each 0 (record { number = number; command = c }) v refl refl)

      more : Made
      more = made_of (work_from (number + 1) cs) values

      go : (b : Bool) → command_overflows job.depth (stand n) c ≡ b → Follows job.depth (stand n) number (c ∷ cs) (made_of_one number (value_lines c v) more)
      go true over =
          let is = right_bad job planned n c rest.at v (is_first n number same (e ∙ ap (λ (b : Bool). if b then Some number else overflow_from job.depth (after job.depth (stand n) c) (number + 1) cs) over)) own in
          subst (λ (u : Value). Follows job.depth (stand n) number (c ∷ cs) (made_of_one number (value_lines c u) more)) (sym is) (none_more job.depth (stand n) number c cs over)
      go false fine =
          let later = e ∙ ap (λ (b : Bool). if b then Some number else overflow_from job.depth (after job.depth (stand n) c) (number + 1) cs) fine in
          let is = right_lines job planned n c rest.at v works (is_before n number c cs same later) own in
          let follows = after_one n number c cs values rest same later rec (rightly_more job (record { number = number; command = c }) (work_from (number + 1) cs) v values right) in
          subst (λ (o : Option (List ℕ)). Follows job.depth (stand n) number (c ∷ cs) (made_of_one number o more)) (sym is)
          (one_more job.depth (stand n) number c cs (command_lines (stand n) c) more fine refl follows)

  made_from : (n number : ℕ) (cs : List Command) → Rec n number cs
  made_from n number [] values rest same e right = record { overflow = refl; text = refl }
  made_from n number (c ∷ cs) values rest same e right = go (is_fence c) refl right (made_from (suc n) (number + 1) cs)
    where
      here : Rest job.commands n c cs
      here = rest_at job.commands n c cs rest

      go : (b : Bool) → is_fence c ≡ b → Rightly job (if b then work_from (number + 1) cs else record { number = number; command = c } ∷ work_from (number + 1) cs) values → Rec (suc n) (number + 1) cs
          → Follows job.depth (stand n) number (c ∷ cs) (made_of (if is_fence c then work_from (number + 1) cs else record { number = number; command = c } ∷ work_from (number + 1) cs) values)
      go true fence right rec =
          let fine = fence_is_fine job.depth (stand n) c fence in
          let later = e ∙ ap (λ (b : Bool). if b then Some number else overflow_from job.depth (after job.depth (stand n) c) (number + 1) cs) fine in
          let follows = after_one n number c cs values here same later rec right in
          subst (λ (b : Bool). Follows job.depth (stand n) number (c ∷ cs) (made_of (if b then work_from (number + 1) cs else record { number = number; command = c } ∷ work_from (number + 1) cs) values)) (sym fence)
          (one_more job.depth (stand n) number c cs [] (made_of (work_from (number + 1) cs) values) fine (sym (fence_lines (stand n) c fence)) follows)
      go false works right rec =
          subst (λ (b : Bool). Follows job.depth (stand n) number (c ∷ cs) (made_of (if b then work_from (number + 1) cs else record { number = number; command = c } ∷ work_from (number + 1) cs) values)) (sym works)
          (work_at n number c cs values here same works e rec right)

  job_follows : (values : List Value) → AreRightResults job values → Follows job.depth no_versions 1 job.commands (made_of (work_of job.commands) values)
  job_follows values right = made_from 0 1 job.commands values refl refl refl (record { number = right.number; each = right.each })

  until_first : (o : Option ℕ) → lines_until job.depth no_versions 1 job.commands o ≡ lines_to (job_of job) o
  until_first None = refl
  until_first (Some number) = refl

  whole : (o : Option ℕ) → lines_to (job_of job) o ++ option_map_or overflow_line o [] ≡ text_with (job_of job) o
  whole None = append-nil (lines_from job.depth no_versions job.commands)
  whole (Some number) = refl

pub right_results_text : RightResultsMakeTheText
right_results_text job values planned right =
    let follows = job_follows job planned values right in
    let lines = follows.text ∙ until_first job planned (first_overflow (job_of job)) in
    record {
      overflow = follows.overflow;
      text = (λ i. lines i ++ option_map_or overflow_line (follows.overflow i) []) ∙ whole job planned (first_overflow (job_of job));
      lines = lines;
    }
