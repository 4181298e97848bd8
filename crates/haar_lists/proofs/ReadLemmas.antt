-- Lemmas that crates above use: what units read is held at their homes, and what they count is written before an earlier fence.
use Rattle.std.proofs.Common.{◌≡◌, ◌⊎◌, inl, inr, ⊎_elim, ℕ, zero, suc, ◌<◌, ◌^◌, Bool, true, false, List, [], ◌∷◌, ◌++◌, length, get_or, Option, Some, None, refl, sym, ap, ◌∙◌, subst, arith, nat_lt, ℤ}
use Rattle.std.specs.Prelude.{◌&&◌, if◌then◌else◌, slice_get, take, drop, Contains, is_some}
use Rattle.std.specs.Option.{option_map}
use Rattle.std.proofs.lemmas.Bool.{and_parts, cond-true, lt-ltb}
use Rattle.app_core.specs.declared.Label.{Label}
use Rattle.app_core.specs.declared.CellName.{CellName}
use Rattle.app_core.specs.declared.CommandKind.{CommandKind}
use Rattle.event_laws.specs.Held.{ComesAfter, fences_before}
use Rattle.tree_key.specs.Keys.{Key, place_of}
use Rattle.tree_model.specs.Commands.{Command}
use Rattle.tree_model.specs.Nodes.{Form}
use Rattle.tree_model.specs.Shapes.{is_key_of}
use Rattle.tree_model.specs.Trees.{Tree, box_sum}
use Rattle.tree_model.specs.Versions.{Version, tree_in, versions_behind}
use Rattle.owner_map.specs.declared.OwnerMap.{OwnerMap}
use Rattle.owner_map.specs.Owners.{owner}
use Rattle.job_data.specs.Checks.{has_room, has_trees, has_forms, is_near_fence, is_fenced, is_accepted}
use Rattle.job_data.specs.Versions.{version_behind}
use Rattle.job_data.proofs.CheckLemmas.{are_accepted_at, follows_accepted}
use Rattle.job_data.proofs.MeaningLemmas.{job_meaning}
use Rattle.haar_units.specs.Jobs.{kinds}
use Rattle.haar_units.specs.Places.{key_at}
use Rattle.haar_units.specs.Distributions.{by_map, place_owner}
use Rattle.haar_units.proofs.EffectLemmas.{some_is, none_is}
use Rattle.haar_units.proofs.JobTraversalLemmas.{holds_trees, version_of as version_written}
use Rattle.haar_units.proofs.PlaceLemmas.{keys_have_places}
use Rattle.haar_base.specs.declared.operation.Operation.{Operation}
use Rattle.haar_base.specs.declared.operation.Operation.TheVariants.{Project, Refine, Coarsen, Compress, Reconstruct, Add, Mul, Inner, Print, Size, Fence}
use Rattle.haar_base.specs.declared.unit.Side.{Side}
use Rattle.haar_base.specs.declared.unit.Side.TheVariants.{Nothing, Entry, Below}
use Rattle.haar_base.specs.declared.unit.Unit.{Unit}
use Rattle.haar_base.specs.declared.unit.Unit.TheVariants as unit
use Rattle.haar_base.specs.Operations.{operation_at, first_source, second_source}
use Rattle.haar_base.specs.Units.{label_of, reads_of, counts_of, counted_by, side_reads, source_of}
use Rattle.haar_meaning.specs.PlannedJobs.{PlannedJob, IsPlannedJob, HasPlan, IsPlan, job_of, standing, version_of}
use Rattle.haar_meaning.specs.PlannedJobs.Standing.{Before}
use Rattle.haar_meaning.specs.Sides.{form_read, known_sum, side_of, IsRightSide}
use Rattle.haar_meaning.specs.JobUnits.{IsUnit}
use Rattle.haar_right.proofs.KnownLemmas.{if_before, if_some}
use Rattle.haar_right.proofs.PlanLemmas.{version_with, version_in, name_stands, split_at, length_at, refine_plan, coarsen_plan, compress_plan, reconstruct_plan, add_plan, mul_plan, inner_plan, print_plan}
use Rattle.haar_right.proofs.DecisionLemmas.{fits_of}
use Rattle.haar_steps.specs.Starts.{kinds_of}
use Rattle.haar_steps.proofs.HomeLemmas.{least_place}
use Rattle.haar_lists.specs.Lists.{MayRead, MayCount, distribution, model_job, IsSound, writer, held}
use Rattle.haar_lists.proofs.FenceLemmas.{kinds_in, fences_next, fenced_is_before}
use Rattle.haar_lists.proofs.ListLawLemmas.{kinds_are, written_there}

-- the owner of a key's place
place_is : (owners : OwnerMap) (ranks : ℕ) (k : Key) → k.at < 2 ^ k.level → owner owners k ranks ≡ place_owner (by_map owners ranks) (place_of k)
place_is owners ranks k within =
    sym (cond-true (nat_lt 0 (place_of k)) (owner owners (key_at (place_of k)) ranks) 0 (lt-ltb 0 (place_of k) (least_place k)) ∙ ap (λ (j : Key). owner owners j ranks) (keys_have_places k within))

module _ (job : PlannedJob) (planned : IsPlannedJob job) where
  -- a tree that a command reads is there, in the form that it reads

  abbrev IsThere : Form → ℕ → Type 0
  IsThere form source = (source ≡ 0) ⊎ ((t : Tree) × (tree_in form (version_of job source) ≡ Some t))

  first_there : (command : ℕ) (o : Operation) → operation_at job.operations command ≡ Some o → IsThere (form_read o) (first_source o)
  first_there command (Project function level tolerance) at = inl refl
  first_there command (Refine level source) at = inr (_, (refine_plan job planned command level source (planned.plans command (Refine level source) at)).read)
  first_there command (Coarsen source) at = inr (_, (coarsen_plan job planned command source (planned.plans command (Coarsen source) at)).read)
  first_there command (Compress source) at = inr (_, (compress_plan job planned command source (planned.plans command (Compress source) at)).read)
  first_there command (Reconstruct source) at = inr (_, (reconstruct_plan job planned command source (planned.plans command (Reconstruct source) at)).read)
  first_there command (Add a left b right) at = inr (_, (add_plan job planned command a left b right (planned.plans command (Add a left b right) at)).read_first)
  first_there command (Mul left right) at = inr (_, (mul_plan job planned command left right (planned.plans command (Mul left right) at)).read_first)
  first_there command (Inner left right) at = inr (_, (inner_plan job planned command left right (planned.plans command (Inner left right) at)).read_first)
  first_there command (Print source form name) at = inr (_, (print_plan job planned command source form name (planned.plans command (Print source form name) at)).read)
  first_there command (Size source) at = inl refl
  first_there command Fence at = inl refl

  second_there : (command : ℕ) (o : Operation) → operation_at job.operations command ≡ Some o → IsThere (form_read o) (second_source o)
  second_there command (Project function level tolerance) at = inl refl
  second_there command (Refine level source) at = inl refl
  second_there command (Coarsen source) at = inl refl
  second_there command (Compress source) at = inl refl
  second_there command (Reconstruct source) at = inl refl
  second_there command (Add a left b right) at = inr (_, (add_plan job planned command a left b right (planned.plans command (Add a left b right) at)).read_second)
  second_there command (Mul left right) at = inr (_, (mul_plan job planned command left right (planned.plans command (Mul left right) at)).read_second)
  second_there command (Inner left right) at = inr (_, (inner_plan job planned command left right (planned.plans command (Inner left right) at)).read_second)
  second_there command (Print source form name) at = inl refl
  second_there command (Size source) at = inl refl
  second_there command Fence at = inl refl

  -- an entry that is read on a side

  inside : (o : Operation) (t : Tree) (k : Key) (known : ℤ) (b : Bool) → t.shape k ≡ b → Entry known ≡ side_of o t k → t.shape k ≡ true
  inside o t k known true at is = at
  inside o t k known false at is = absurd (let no : Entry known ≡ Below (box_sum t k) = is ∙ ap (λ (b : Bool). if b then Entry (known_sum o t k) else Below (box_sum t k)) at in cc)

  module _ (key : Key) (is_key : is_key_of job.depth key ≡ true) (o : Operation) (command : ℕ) where
    entry_held : (source : ℕ) (known : ℤ) → IsThere (form_read o) source → IsRightSide job o source key (Entry known) → writer job source ≡ Some command → IsSound job command
        → Contains (held job (place_owner (distribution job) (place_of key)) source) (place_of key)
    entry_held zero known there right writes sound = absurd (cc)
    entry_held (suc n) known there right writes sound = ⊎_elim (λ none. absurd (cc)) (λ found. go found.0 found.1) there
      where
        go : (t : Tree) → tree_in (form_read o) (version_of job (suc n)) ≡ Some t → Contains (held job (place_owner (distribution job) (place_of key)) (suc n)) (place_of key)
        go t read =
            let v = written_there job planned (suc n) command writes in
            let before : standing job (suc n) ≡ Before = ap (standing job) v.same ∙ sound in
            let is : Entry known ≡ side_of o t key = if_some (λ (t : Tree). Entry known ≡ side_of o t key) (tree_in (form_read o) (version_of job (suc n))) t read (if_before (standing job (suc n)) before right) in
            let tree = holds_trees (distribution job) job.depth job.commands (suc n) (version_with (form_read o) t) (place_owner (distribution job) (place_of key)) (version_in (form_read o) (version_of job (suc n)) t read) in
            (tree.keys key is_key).1 (inside o t key known (t.shape key) refl is, place_is job.owners job.ranks key (fits_of job.depth key is_key))

    side_held : (source : ℕ) (side : Side) (n : CellName) → IsThere (form_read o) source → IsRightSide job o source key side → Contains (side_reads side source key) n → writer job n.version ≡ Some command → IsSound job command
        → Contains (held job (place_owner (distribution job) n.place) n.version) n.place
    side_held source Nothing n there right (k, lt, e) writes sound = absurd (omega (arith, lt))
    side_held source (Below sum) n there right (k, lt, e) writes sound = absurd (omega (arith, lt))
    side_held source (Entry known) n there right (suc k, lt, e) writes sound = absurd (omega (arith, lt))
    side_held source (Entry known) n there right (zero, lt, e) writes sound =
        subst (λ (m : CellName). Contains (held job (place_owner (distribution job) m.place) m.version) m.place) e
        (entry_held source known there right (subst (λ (m : CellName). writer job m.version ≡ Some command) (sym e) writes) sound)

    sides_held : (one other : ℕ) (first second : Side) (n : CellName) → IsThere (form_read o) one → IsThere (form_read o) other → IsRightSide job o one key first → IsRightSide job o other key second
        → Contains (side_reads first one key ++ side_reads second other key) n → writer job n.version ≡ Some command → IsSound job command
        → Contains (held job (place_owner (distribution job) n.place) n.version) n.place
    sides_held one other Nothing second n there too right also reads writes sound = side_held other second n too also reads writes sound
    sides_held one other (Below sum) second n there too right also reads writes sound = side_held other second n too also reads writes sound
    sides_held one other (Entry known) second n there too right also (zero, lt, e) writes sound = side_held one (Entry known) n there right (zero, omega arith, e) writes sound
    sides_held one other (Entry known) second n there too right also (suc k, lt, e) writes sound = side_held other second n too also (k, omega (arith, lt), e) writes sound

  pub reads_held : (label : Label) (n : CellName) (command : ℕ) → MayRead job label n → writer job n.version ≡ Some command → IsSound job command
      → Contains (held job (place_owner (distribution job) n.place) n.version) n.place
  reads_held label n command (u, is, same, reads) writes sound = by_unit u is reads
    where
      by_unit : (u : Unit) → IsUnit job u → Contains (reads_of job.operations u) n → Contains (held job (place_owner (distribution job) n.place) n.version) n.place
      by_unit (unit.Down u) (o, is) reads =
          sides_held u.key is.key o command (first_source o) (second_source o) u.first u.second n (first_there u.command o is.command.at) (second_there u.command o is.command.at) is.first is.second
          (subst (λ (o : Option Operation). Contains (side_reads u.first (source_of first_source o) u.key ++ side_reads u.second (source_of second_source o) u.key) n) is.command.at reads) writes sound
      by_unit (unit.Up u) is (k, lt, e) = absurd (omega (arith, lt))
      by_unit (unit.Clear command key) is (k, lt, e) = absurd (omega (arith, lt))
      by_unit (unit.Count command rank) is (k, lt, e) = absurd (omega (arith, lt))
      by_unit (unit.Total command ranks) is (k, lt, e) = absurd (omega (arith, lt))

  -- what is counted

  at_place : (cs : List Command) (n : ℕ) (c : Command) → slice_get cs n ≡ Some c → (get_or cs n c ≡ c) × (n < length cs)
  at_place [] n c e = none_is c e
  at_place (x ∷ cs) zero c e = (some_is x c e, omega arith)
  at_place (x ∷ cs) (suc n) c e = let rest = at_place cs n c e in (rest.0, let low = rest.1 in omega (arith, low))

  -- the trees of a size come after a fence
  sized : (n : ℕ) (name : List ℕ) → slice_get job.commands n ≡ Some (Command.Size name) → is_fenced (take n job.commands) name ≡ true
  sized n name at =
      let there = at_place job.commands n (Command.Size name) at in
      let accepted = subst (λ (c : Command). is_accepted job.depth (take n job.commands) c ≡ true) there.0 (are_accepted_at job.depth [] job.commands n (Command.Size name) planned.checked.commands there.1) in
      let follows = follows_accepted job.depth (take n job.commands) (Command.Size name) accepted in
      let a = and_parts (has_room (take n job.commands) (Command.Size name)) _ follows in
      let b = and_parts (has_trees (take n job.commands) (Command.Size name)) _ a.1 in
      let c = and_parts (has_forms (take n job.commands) (Command.Size name)) _ b.1 in
      let d = and_parts (is_near_fence (take n job.commands) (Command.Size name)) _ c.1 in
      (and_parts (is_fenced (take n job.commands) name) true d.1).0

  -- and its version is there
  size_there : (n : ℕ) (name : List ℕ) (source : ℕ) → slice_get job.commands n ≡ Some (Command.Size name) → version_behind (take n job.commands) name ≡ source → (v : Version) × (version_of job source ≡ Some v)
  size_there n name source at behind =
      let meaning = job_meaning (job_of job) (take n job.commands) (drop (suc n) job.commands) (Command.Size name) planned.checked (split_at job.commands n (Command.Size name) at) in
      go (versions_behind job.depth (take n job.commands) name) (name_stands job planned.checked name n ∙ ap (version_of job) behind) meaning.reads
    where
      go : (o : Option Version) → o ≡ version_of job source → (is_some (option_map (λ (v : Version). v.tree) o) && true) ≡ true → (v : Version) × (version_of job source ≡ Some v)
      go None same is = absurd (cc)
      go (Some v) same is = (v, sym same)

  counts_after : (n : ℕ) (name : List ℕ) (source : ℕ) → slice_get job.commands n ≡ Some (Command.Size name) → version_behind (take n job.commands) name ≡ source → ComesAfter (kinds (model_job job)) (writer job source) (suc n)
  counts_after n name source at behind =
      let v = size_there n name source at behind in
      let before = fenced_is_before job.commands n name (length_at job.commands n (Command.Size name) at) (sized n name at) in
      let stays : fences_before (suc n) (kinds_in job.commands) ≡ fences_before n (kinds_in job.commands) = fences_next job.commands n (Command.Size name) at in
      record {
        by = source;
        fence = fences_before (suc n) (kinds_in job.commands);
        writes = (version_written (distribution job) job.depth job.commands source v.0 v.1).writer;
        before = subst (λ (m : ℕ). fences_before m (kinds_in job.commands) < fences_before (suc n) (kinds_in job.commands)) behind (subst (λ (m : ℕ). fences_before (version_behind (take n job.commands) name) (kinds_in job.commands) < m) (sym stays) before);
        after = omega arith;
      }

  size_after : (command source : ℕ) → HasPlan job.commands command (Size source) → ComesAfter (kinds (model_job job)) (writer job source) command
  size_after zero source plan = none_is plan.command plan.at
  size_after (suc n) source plan = go plan.command plan.at plan.plan
    where
      go : (c : Command) → slice_get job.commands n ≡ Some c → IsPlan (take n job.commands) c (Size source) → ComesAfter (kinds (model_job job)) (writer job source) (suc n)
      go (Command.Size name) at behind = counts_after n name source at behind
      go _ at plan = absurd plan

  pub counts_come_after : (label : Label) (version : ℕ) → MayCount job label version → ComesAfter (kinds_of job.operations) (writer job version) label.command
  counts_come_after label version (u, is, same, counts) =
      subst (λ (l : Label). ComesAfter (kinds_of job.operations) (writer job version) l.command) same
      (subst (λ (ks : List CommandKind). ComesAfter ks (writer job version) (label_of u).command) (sym (kinds_are job planned)) (by_unit u is counts))
    where
      by_unit : (u : Unit) → IsUnit job u → counts_of job.operations u ≡ Some version → ComesAfter (kinds (model_job job)) (writer job version) (label_of u).command
      by_unit (unit.Count command rank) (source, is) counts =
          let one : source ≡ version = some_is source version (sym (ap counted_by is.at) ∙ counts) in
          subst (λ (v : ℕ). ComesAfter (kinds (model_job job)) (writer job v) command) one (size_after command source (planned.plans command (Size source) is.at))
      by_unit (unit.Down u) is counts = none_is version counts
      by_unit (unit.Up u) is counts = none_is version counts
      by_unit (unit.Clear command key) is counts = none_is version counts
      by_unit (unit.Total command ranks) is counts = none_is version counts
