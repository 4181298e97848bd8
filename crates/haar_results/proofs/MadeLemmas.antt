-- What results make, one more at a time.
use Rattle.std.proofs.Common.{◌≡◌, ℕ, suc, ◌+◌, ◌<◌, ◌≤◌, Bool, true, false, List, [], ◌∷◌, ◌++◌, length, get_or, drop, map, refl, sym, ap, ◌∙◌, subst, arith, append_assoc, append-nil, drop-cons}
use Rattle.std.specs.Prelude.{if◌then◌else◌, Option, Some, None}
use Rattle.std.proofs.Math.ListN.{drop_of_length-le}
use Rattle.std.proofs.lemmas.List.{get_or-map, length-map}
use Rattle.tree_model.specs.Commands.{Command}
use Rattle.job_data.specs.Checks.{is_fence}
use Rattle.haar_base.specs.declared.value.Value.{Value}
use Rattle.haar_results.specs.Results.{Work, Made, value_lines, work_from, work_of, made_of_one, made_of}
use Rattle.haar_results.specs.Texts.{IsAddedTo}

-- what is made after a text
abbrev pub joined : List ℕ → Made → Made
joined text made = record { text = text ++ made.text; overflow = made.overflow }

-- what the rest makes
abbrev pub rest_of : List Command → List Value → ℕ → ℕ → Made
rest_of commands values index place = made_of (work_from (index + 1) (drop index commands)) (drop place values)

-- the text made so far, and what the rest makes, is what all make
pub record IsMade (commands : List Command) (values : List Value) (index place : ℕ) (text : List ℕ) : Type 0 where
  pub all : made_of (work_of commands) values ≡ joined text (rest_of commands values index place)

work_next : (number : ℕ) (c : Command) (cs : List Command) (values : List Value) → is_fence c ≡ true → made_of (work_from number (c ∷ cs)) values ≡ made_of (work_from (number + 1) cs) values
work_next number c cs values fence = ap (λ (b : Bool). made_of (if b then work_from (number + 1) cs else record { number = number; command = c } ∷ work_from (number + 1) cs) values) fence

work_here : (number : ℕ) (c : Command) (cs : List Command) (values : List Value) → is_fence c ≡ false → made_of (work_from number (c ∷ cs)) values ≡ made_of (record { number = number; command = c } ∷ work_from (number + 1) cs) values
work_here number c cs values works = ap (λ (b : Bool). made_of (if b then work_from (number + 1) cs else record { number = number; command = c } ∷ work_from (number + 1) cs) values) works

pub at_place : {A : Type 0} (xs : List A) (i : ℕ) (x : A) → i < length xs → get_or xs i x ≡ x → drop i xs ≡ x ∷ drop (i + 1) xs
at_place xs i x below is = drop-cons xs i x below ∙ (let same : suc i ≡ i + 1 = omega arith in λ j. is j ∷ drop (same j) xs)

pub code_at : {A : Type 0} (f : A → Command) (xs : List A) (i : ℕ) (x : A) → i < length xs → x ≡ get_or xs i x → drop i (map f xs) ≡ f x ∷ drop (i + 1) (map f xs)
code_at f xs i x below is = at_place (map f xs) i (f x) (rw (length-map xs f) below) (get_or-map f xs i x (f x) below ∙ ap f (sym is))

-- what was added

pub record IsAdded (before : List ℕ) (o : Option (List ℕ)) (text : List ℕ) : Type 0 where
  pub lines : List ℕ
  pub some : o ≡ Some lines
  pub text_is : text ≡ before ++ lines

pub added_lines : (before : List ℕ) (o : Option (List ℕ)) (added : Bool) (text : List ℕ) → IsAddedTo before o added text → added ≡ true → IsAdded before o text
added_lines before None added text is all = absurd (let first = is.0 in cc)
added_lines before (Some lines) added text is all = record { lines = lines; some = refl; text_is = is.1 }

pub added_none : (before : List ℕ) (o : Option (List ℕ)) (added : Bool) (text : List ℕ) → IsAddedTo before o added text → added ≡ false → (o ≡ None) × (text ≡ before)
added_none before None added text is none = (refl, is.1)
added_none before (Some lines) added text is none = absurd (let first = is.0 in cc)

module _ (commands : List Command) (values : List Value) (index place : ℕ) (text : List ℕ) (made : IsMade commands values index place text) where
  -- after all commands
  pub made_end : length commands ≤ index → made_of (work_of commands) values ≡ record { text = text; overflow = None }
  made_end past =
      made.all
      ∙ ap (λ (cs : List Command). joined text (made_of (work_from (index + 1) cs) (drop place values))) (drop_of_length-le commands past)
      ∙ ap (λ (bytes : List ℕ). record { text = bytes; overflow = None }) (append-nil text)

  module _ (c : Command) (at : drop index commands ≡ c ∷ drop (index + 1) commands) where
    pub made_fence : is_fence c ≡ true → IsMade commands values (index + 1) place text
    made_fence fence = record {
      all = made.all ∙ ap (joined text) (ap (λ (cs : List Command). made_of (work_from (index + 1) cs) (drop place values)) at ∙ work_next (index + 1) c (drop (index + 1) commands) (drop place values) fence);
    }

    here : is_fence c ≡ false → (rest : List Value) → drop place values ≡ rest → made_of (work_of commands) values ≡ joined text (made_of (record { number = index + 1; command = c } ∷ work_from (index + 1 + 1) (drop (index + 1) commands)) rest)
    here works rest is =
        made.all
        ∙ ap (joined text) (ap (λ (cs : List Command). made_of (work_from (index + 1) cs) (drop place values)) at ∙ work_here (index + 1) c (drop (index + 1) commands) (drop place values) works)
        ∙ ap (λ (vs : List Value). joined text (made_of (record { number = index + 1; command = c } ∷ work_from (index + 1 + 1) (drop (index + 1) commands)) vs)) is

    pub made_none : is_fence c ≡ false → drop place values ≡ [] → made_of (work_of commands) values ≡ record { text = text; overflow = None }
    made_none works none = here works [] none ∙ ap (λ (bytes : List ℕ). record { text = bytes; overflow = None }) (append-nil text)

    module _ (v : Value) (there : drop place values ≡ v ∷ drop (place + 1) values) (works : is_fence c ≡ false) where
      abbrev more : Made
      more = made_of (work_from (index + 1 + 1) (drop (index + 1) commands)) (drop (place + 1) values)

      pub made_over : value_lines c v ≡ None → made_of (work_of commands) values ≡ record { text = text; overflow = Some (index + 1) }
      made_over over =
          here works (v ∷ drop (place + 1) values) there
          ∙ ap (λ (o : Option (List ℕ)). joined text (made_of_one (index + 1) o more)) over
          ∙ ap (λ (bytes : List ℕ). record { text = bytes; overflow = Some (index + 1) }) (append-nil text)

      pub made_more : (lines : List ℕ) → value_lines c v ≡ Some lines → IsMade commands values (index + 1) (place + 1) (text ++ lines)
      made_more lines some = record {
        all =
            here works (v ∷ drop (place + 1) values) there
            ∙ ap (λ (o : Option (List ℕ)). joined text (made_of_one (index + 1) o more)) some
            ∙ ap (λ (bytes : List ℕ). record { text = bytes; overflow = more.overflow }) (sym (append_assoc text lines more.text));
      }
