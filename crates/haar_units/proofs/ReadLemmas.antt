-- What a name stands for before a command is what its last writer wrote. Crates above use the lemmas on commands.
use Rattle.std.proofs.Common.{◌≡◌, ◌⊎◌, ℕ, zero, suc, ◌<◌, ◌≤◌, Bool, true, false, List, [], ◌∷◌, ◌++◌, refl, sym, ap, ◌∙◌, subst, ⊎_elim, arith}
use Rattle.std.specs.Prelude.{if◌then◌else◌, take, slice_get, Option, Some, None}
use Rattle.std.specs.Option.{option_and_then}
use Rattle.std.proofs.lemmas.Bool.{cases_lt}
use Rattle.std.proofs.lemmas.List.Sums.{fold-append}
use Rattle.tree_model.specs.Commands.{Command}
use Rattle.tree_model.specs.Signatures.{writes as writes_name}
use Rattle.tree_model.specs.Versions.{Version, Versions, no_versions, written, newer, after, versions_behind}
use Rattle.haar_units.specs.ModelJobs.{versions_before, ReadsAreVersions}
use Rattle.haar_units.proofs.EffectLemmas.{some_is, none_is}

-- one more command, or none
pub take_more : (cs : List Command) (n : ℕ) (c : Command) → slice_get cs n ≡ Some c → take (suc n) cs ≡ take n cs ++ c ∷ []
take_more [] n c e = absurd (cc)
take_more (x ∷ cs) zero c e = ap (λ (y : Command). y ∷ []) (some_is x c e)
take_more (x ∷ cs) (suc n) c e = ap (λ (ys : List Command). x ∷ ys) (take_more cs n c e)

pub take_all : (cs : List Command) (n : ℕ) → slice_get cs n ≡ None → take (suc n) cs ≡ take n cs
take_all [] zero e = refl
take_all [] (suc n) e = refl
take_all (x ∷ cs) zero e = absurd (cc)
take_all (x ∷ cs) (suc n) e = ap (λ (ys : List Command). x ∷ ys) (take_all cs n e)

module _ (depth : ℕ) (commands : List Command) (name : List ℕ) where
  -- what the name stands for after the first so many commands
  abbrev named : ℕ → Option Version
  named n = versions_behind depth (take n commands) name

  next : (n : ℕ) (c : Command) → slice_get commands n ≡ Some c → named (suc n) ≡ after depth (versions_behind depth (take n commands)) c name
  next n c at = ap (λ (cs : List Command). versions_behind depth cs name) (take_more commands n c at) ∙ ap (λ (v : Versions). v name) (fold-append (after depth) no_versions (take n commands) (c ∷ []))

  keeps : (n : ℕ) (version : Version) → ((c : Command) → slice_get commands n ≡ Some c → writes_name name c ≡ false) → named n ≡ Some version → named (suc n) ≡ Some version
  keeps n version not e = go (slice_get commands n) refl
    where
      go : (o : Option Command) → slice_get commands n ≡ o → named (suc n) ≡ Some version
      go None at = ap (λ (cs : List Command). versions_behind depth cs name) (take_all commands n at) ∙ e
      go (Some c) at = next n c at ∙ ap (λ (b : Bool). if b then newer (written depth (versions_behind depth (take n commands)) c) (named n) else named n) (not c at) ∙ e

  writes_here : (n : ℕ) (c : Command) (version : Version) → slice_get commands n ≡ Some c → writes_name name c ≡ true → written depth (versions_behind depth (take n commands)) c ≡ Some version → named (suc n) ≡ Some version
  writes_here n c version at does e = next n c at
      ∙ ap (λ (b : Bool). if b then newer (written depth (versions_behind depth (take n commands)) c) (named n) else named n) does
      ∙ ap (λ (o : Option Version). newer o (named n)) e

  -- from a number of commands on, as long as no command writes the name
  stays : (from n : ℕ) (version : Version) → from ≤ n → ((k : ℕ) (c : Command) → from ≤ k → k < n → slice_get commands k ≡ Some c → writes_name name c ≡ false) → named from ≡ Some version → named n ≡ Some version
  stays from zero version le not e = let same : from ≡ 0 = omega (arith, le) in subst (λ (m : ℕ). named m ≡ Some version) same e
  stays from (suc n) version le not e = go (λ le not. stays from n version le not e) (cases_lt n from)
    where
      go : (from ≤ n → ((k : ℕ) (c : Command) → from ≤ k → k < n → slice_get commands k ≡ Some c → writes_name name c ≡ false) → named n ≡ Some version) → (n < from) ⊎ (from ≤ n) → named (suc n) ≡ Some version
      go rec = ⊎_elim
          (λ lt. let same : from ≡ suc n = omega (arith, le, lt) in subst (λ (m : ℕ). named m ≡ Some version) same e)
          (λ few. keeps n version (λ c at. not n c few (omega arith) at) (rec few (λ k c some below at. not k c some (omega (arith, below)) at)))

pub reads_versions : ReadsAreVersions
reads_versions depth commands number name zero version last at = none_is last.writer last.at
reads_versions depth commands zero name (suc before) version last at = absurd (let lt = last.earlier in omega (arith, lt))
reads_versions depth commands (suc behind) name (suc before) version last at =
    stays depth commands name (suc before) behind version (let lt = last.earlier in omega (arith, lt)) (λ k c some below here. last.last (suc k) c (omega (arith, some)) (omega (arith, below)) here)
    (writes_here depth commands name before last.writer version last.at last.writes_it (sym (ap (option_and_then (written depth (versions_before depth commands (suc before)))) last.at) ∙ at))
