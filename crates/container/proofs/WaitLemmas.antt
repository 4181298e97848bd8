-- The log of look-ups that wait: what a change does to the list that contracts see, and to the places of each name.
use Rattle.std.proofs.Common.{◌≡◌, ℕ, suc, Bool, true, false, cond, not, List, [], ◌∷◌, ◌++◌, Option, Some, None, length, map, refl, sym, ◌∙◌, ap, append_assoc}
use Rattle.std.specs.Prelude.{◌&&◌, Result, Ok, Err, OnOk, is_err, slice_set}
use Rattle.std.specs.List.{filter, slice_index_or}
use Rattle.std.specs.Map.{lookup}
use Rattle.std.specs.HashMap as hash
use Rattle.std.specs.HashMap.{HashMap, hash_map_len}
use Rattle.std.proofs.lemmas.List.{nil_from_length}
use Rattle.app_core.specs.declared.CellName.{CellName}
use Rattle.future_cell.specs.declared.Callback.{Callback}
use Rattle.container.specs.declared.look_ups.LookUp.{LookUp}
use Rattle.container.specs.Names.{same_name}
use Rattle.container.specs.LookUps.{callbacks_of, others}
use Rattle.container.specs.declared.wait_log.Places.{Places}
use Rattle.container.specs.WaitLog.{left_in, places_of, listed, placed, ArePlaced, AddsPlace, HasTheSamePlaces, callback_in, callbacks_at, emptied}
use Rattle.container.proofs.LookUpLemmas.{same_names, others_are_all}
use Rattle.container.proofs.VersionLemmas.{is_same}

-- a name is equal to itself
pub same_self : (a : CellName) → same_name a a ≡ true
same_self a = ap (λ b. b && (same_name (record { version = 0; place = a.place }) (record { version = 0; place = a.place }))) (is_same a.version a.version refl) ∙ is_same a.place a.place refl

apart_from : (a name q : CellName) → same_name a name ≡ false → same_name name q ≡ true → same_name a q ≡ false
apart_from a name q apart same = ap (λ n. same_name a n) (sym (same_names name q same)) ∙ apart

map_push : (ps qs : List ℕ) → map suc (ps ++ qs) ≡ map suc ps ++ map suc qs
map_push [] qs = refl
map_push (p ∷ ps) qs = ap (λ l. suc p ∷ l) (map_push ps qs)

-- a look-up more
pub left_in-push : (slots : List (Option LookUp)) (l : LookUp) → left_in (slots ++ Some l ∷ []) ≡ left_in slots ++ l ∷ []
left_in-push [] l = refl
left_in-push (None ∷ slots) l = left_in-push slots l
left_in-push (Some m ∷ slots) l = ap (λ ls. m ∷ ls) (left_in-push slots l)

pub left_in-more : (slots : List (Option LookUp)) (x : Option LookUp) → left_in (slots ++ x ∷ []) ≡ left_in slots ++ left_in (x ∷ [])
left_in-more slots (Some l) = left_in-push slots l
left_in-more slots None = go slots
  where
    go : (slots : List (Option LookUp)) → left_in (slots ++ None ∷ []) ≡ left_in slots ++ []
    go [] = refl
    go (None ∷ slots) = go slots
    go (Some m ∷ slots) = ap (λ ls. m ∷ ls) (go slots)

pushed : (b c : Bool) (ps qs : List ℕ) (n : ℕ) → qs ≡ cond c (ps ++ n ∷ []) ps
    → cond b (0 ∷ map suc qs) (map suc qs) ≡ cond c (cond b (0 ∷ map suc ps) (map suc ps) ++ suc n ∷ []) (cond b (0 ∷ map suc ps) (map suc ps))
pushed true true ps qs n e = ap (λ l. 0 ∷ map suc l) e ∙ ap (λ l. 0 ∷ l) (map_push ps (n ∷ []))
pushed true false ps qs n e = ap (λ l. 0 ∷ map suc l) e
pushed false true ps qs n e = ap (map suc) e ∙ map_push ps (n ∷ [])
pushed false false ps qs n e = ap (map suc) e

pub places_of-push : (q : CellName) (slots : List (Option LookUp)) (l : LookUp) → places_of q (slots ++ Some l ∷ []) ≡ cond (same_name l.name q) (places_of q slots ++ length slots ∷ []) (places_of q slots)
places_of-push q [] l = refl
places_of-push q (None ∷ slots) l = pushed false (same_name l.name q) _ _ _ (places_of-push q slots l)
places_of-push q (Some m ∷ slots) l = pushed (same_name m.name q) (same_name l.name q) _ _ _ (places_of-push q slots l)

-- the callbacks at the places of a name
callbacks_at-shift : (x : Option LookUp) (slots : List (Option LookUp)) (ps : List ℕ) → callbacks_at (x ∷ slots) (map suc ps) ≡ callbacks_at slots ps
callbacks_at-shift x slots [] = refl
callbacks_at-shift x slots (p ∷ ps) = ap (λ cs. callback_in (slice_index_or slots p None) ++ cs) (callbacks_at-shift x slots ps)

pub callbacks_at-places : (name : CellName) (slots : List (Option LookUp)) → callbacks_at slots (places_of name slots) ≡ callbacks_of name (left_in slots)
callbacks_at-places name [] = refl
callbacks_at-places name (None ∷ slots) = callbacks_at-shift None slots (places_of name slots) ∙ callbacks_at-places name slots
callbacks_at-places name (Some l ∷ slots) = go (same_name l.name name) (callbacks_at-shift (Some l) slots (places_of name slots) ∙ callbacks_at-places name slots)
  where
    go : (b : Bool) → callbacks_at (Some l ∷ slots) (map suc (places_of name slots)) ≡ callbacks_of name (left_in slots)
        → callbacks_at (Some l ∷ slots) (cond b (0 ∷ map suc (places_of name slots)) (map suc (places_of name slots)))
        ≡ map (λ l. l.callback) (cond b (l ∷ filter (λ l. same_name l.name name) (left_in slots)) (filter (λ l. same_name l.name name) (left_in slots)))
    go true rest = ap (λ cs. l.callback ∷ cs) rest
    go false rest = rest

pub callbacks_at-push : (slots : List (Option LookUp)) (ps : List ℕ) (p : ℕ) → callbacks_at slots (ps ++ p ∷ []) ≡ callbacks_at slots ps ++ callback_in (slice_index_or slots p None)
callbacks_at-push slots [] p = one (callback_in (slice_index_or slots p None))
  where
    one : (cs : List Callback) → cs ++ [] ≡ cs
    one [] = refl
    one (c ∷ cs) = ap (λ cs. c ∷ cs) (one cs)
callbacks_at-push slots (q ∷ ps) p = ap (λ cs. callback_in (slice_index_or slots q None) ++ cs) (callbacks_at-push slots ps p) ∙ sym (append_assoc (callback_in (slice_index_or slots q None)) (callbacks_at slots ps) (callback_in (slice_index_or slots p None)))

-- the log without the look-ups of a name
abbrev pub without : CellName → List (Option LookUp) → List (Option LookUp)
without name [] = []
without name (None ∷ slots) = None ∷ without name slots
without name (Some l ∷ slots) = cond (same_name l.name name) None (Some l) ∷ without name slots

emptied-shift : (x : Option LookUp) (slots : List (Option LookUp)) (ps : List ℕ) → emptied (x ∷ slots) (map suc ps) ≡ x ∷ emptied slots ps
emptied-shift x slots [] = refl
emptied-shift x slots (p ∷ ps) = emptied-shift x (slice_set slots p None) ps

pub emptied-places : (name : CellName) (slots : List (Option LookUp)) → emptied slots (places_of name slots) ≡ without name slots
emptied-places name [] = refl
emptied-places name (None ∷ slots) = emptied-shift None slots (places_of name slots) ∙ ap (λ s. None ∷ s) (emptied-places name slots)
emptied-places name (Some l ∷ slots) = go (same_name l.name name) (emptied-places name slots)
  where
    go : (b : Bool) → emptied slots (places_of name slots) ≡ without name slots
        → emptied (Some l ∷ slots) (cond b (0 ∷ map suc (places_of name slots)) (map suc (places_of name slots))) ≡ cond b None (Some l) ∷ without name slots
    go true rest = emptied-shift None slots (places_of name slots) ∙ ap (λ s. None ∷ s) rest
    go false rest = emptied-shift (Some l) slots (places_of name slots) ∙ ap (λ s. Some l ∷ s) rest

pub emptied-push : (slots : List (Option LookUp)) (ps : List ℕ) (p : ℕ) → emptied slots (ps ++ p ∷ []) ≡ slice_set (emptied slots ps) p None
emptied-push slots [] p = refl
emptied-push slots (q ∷ ps) p = emptied-push (slice_set slots q None) ps p

pub left_in-without : (name : CellName) (slots : List (Option LookUp)) → left_in (without name slots) ≡ others name (left_in slots)
left_in-without name [] = refl
left_in-without name (None ∷ slots) = left_in-without name slots
left_in-without name (Some l ∷ slots) = go (same_name l.name name) (left_in-without name slots)
  where
    go : (b : Bool) → left_in (without name slots) ≡ others name (left_in slots)
        → left_in (cond b None (Some l) ∷ without name slots) ≡ cond (not b) (l ∷ others name (left_in slots)) (others name (left_in slots))
    go true rest = rest
    go false rest = ap (λ ls. l ∷ ls) rest

after_taken : (c d : Bool) (ps qs : List ℕ) → d ≡ c → qs ≡ cond c [] ps → map suc qs ≡ cond c [] (cond d (0 ∷ map suc ps) (map suc ps))
after_taken true d ps qs same e = ap (map suc) e
after_taken false d ps qs same e = ap (map suc) e ∙ sym (ap (λ d. cond d (0 ∷ map suc ps) (map suc ps)) same)

after_left : (c d : Bool) (ps qs : List ℕ) → (c ≡ true → d ≡ false) → qs ≡ cond c [] ps → cond d (0 ∷ map suc qs) (map suc qs) ≡ cond c [] (cond d (0 ∷ map suc ps) (map suc ps))
after_left true d ps qs apart e = ap (λ x. cond d (0 ∷ map suc x) (map suc x)) e ∙ ap (λ d. cond {A = List ℕ} d (0 ∷ []) []) (apart refl)
after_left false d ps qs apart e = ap (λ x. cond d (0 ∷ map suc x) (map suc x)) e

no_places : (c : Bool) → [] ≡ cond {A = List ℕ} c [] []
no_places true = refl
no_places false = refl

pub places_of-without : (name q : CellName) (slots : List (Option LookUp)) → places_of q (without name slots) ≡ cond (same_name name q) [] (places_of q slots)
places_of-without name q [] = no_places (same_name name q)
places_of-without name q (None ∷ slots) = after_left (same_name name q) false _ _ (λ _. refl) (places_of-without name q slots)
places_of-without name q (Some l ∷ slots) = go (same_name l.name name) refl (places_of-without name q slots)
  where
    go : (b : Bool) → same_name l.name name ≡ b → places_of q (without name slots) ≡ cond (same_name name q) [] (places_of q slots)
        → places_of q (cond b None (Some l) ∷ without name slots) ≡ cond (same_name name q) [] (cond (same_name l.name q) (0 ∷ map suc (places_of q slots)) (map suc (places_of q slots)))
    go true same rest = after_taken (same_name name q) (same_name l.name q) _ _ (ap (λ n. same_name n q) (same_names l.name name same)) rest
    go false apart rest = after_left (same_name name q) (same_name l.name q) _ _ (λ same. apart_from l.name name q apart same) rest

-- nothing waits for a name without places
pub others_without_places : (name : CellName) (slots : List (Option LookUp)) → places_of name slots ≡ [] → others name (left_in slots) ≡ left_in slots
others_without_places name slots none = others_are_all name (left_in slots) (sym (callbacks_at-places name slots) ∙ ap (callbacks_at slots) none)

-- where no name has a place, nothing waits
unshifted : (ps : List ℕ) → map suc ps ≡ [] → ps ≡ []
unshifted [] e = refl
unshifted (p ∷ ps) e = absurd (cc)

taken : (b : Bool) (ps : List ℕ) → b ≡ true → cond b (0 ∷ ps) ps ≡ [] → ⊥
taken true ps same e = cc
taken false ps same e = cc

pub none_left : (slots : List (Option LookUp)) → ((q : CellName) → places_of q slots ≡ []) → left_in slots ≡ []
none_left [] none = refl
none_left (None ∷ slots) none = none_left slots (λ q. unshifted (places_of q slots) (none q))
none_left (Some l ∷ slots) none = absurd (taken (same_name l.name l.name) (map suc (places_of l.name slots)) (same_self l.name) (none l.name))

-- ---- the map of places

-- what holds where a call succeeded
pub passed : {T E P : Type 0} (r : Result T E) → is_err r ≡ false → OnOk r P → P
passed (Ok x) e p = p
passed (Err x) e p = absurd (cc)

placed_without : (b : Bool) (o : Option Places) → placed (cond b None o) ≡ cond b [] (placed o)
placed_without true o = refl
placed_without false o = refl

module _ {S : Type 0} where
  -- the places of a name, written back as they were
  pub written_back : (old new : HashMap CellName Places S) (name : CellName) (known after : Places) → hash.get same_name old name ≡ Some known
      → ((q : CellName) → hash.get same_name new q ≡ cond (same_name name q) (Some after) (hash.get same_name old q)) → listed after ≡ listed known → HasTheSamePlaces old new
  written_back old new name known after there change same = λ q. go q (same_name name q) refl
    where
      go : (q : CellName) (b : Bool) → same_name name q ≡ b → placed (hash.get same_name new q) ≡ placed (hash.get same_name old q)
      go q true is =
          ap placed (change q ∙ ap (λ b. cond b (Some after) (hash.get same_name old q)) is)
          ∙ same ∙ sym (ap placed (ap (λ n. hash.get same_name old n) (sym (same_names name q is)) ∙ there))
      go q false is = ap placed (change q ∙ ap (λ b. cond b (Some after) (hash.get same_name old q)) is)

  -- the first place of a name
  pub first_added : (old new : HashMap CellName Places S) (name : CellName) (first : Places) (place : ℕ) → listed first ≡ place ∷ [] → hash.get same_name old name ≡ None
      → ((q : CellName) → hash.get same_name new q ≡ cond (same_name name q) (Some first) (hash.get same_name old q)) → AddsPlace old new name place
  first_added old new name first place only none change = λ q. go q (same_name name q) refl
    where
      go : (q : CellName) (b : Bool) → same_name name q ≡ b
          → placed (hash.get same_name new q) ≡ cond (same_name name q) (placed (hash.get same_name old q) ++ place ∷ []) (placed (hash.get same_name old q))
      go q true is =
          ap placed (change q ∙ ap (λ b. cond b (Some first) (hash.get same_name old q)) is) ∙ only
          ∙ sym (ap (λ b. cond b (placed (hash.get same_name old q) ++ place ∷ []) (placed (hash.get same_name old q))) is
          ∙ ap (λ o. placed o ++ place ∷ []) (ap (λ n. hash.get same_name old n) (sym (same_names name q is)) ∙ none))
      go q false is =
          ap placed (change q ∙ ap (λ b. cond b (Some first) (hash.get same_name old q)) is)
          ∙ sym (ap (λ b. cond b (placed (hash.get same_name old q) ++ place ∷ []) (placed (hash.get same_name old q))) is)

  -- a look-up more
  pub placed_more : (slots more : List (Option LookUp)) (old new : HashMap CellName Places S) (l : LookUp) (place : ℕ) → place ≡ length slots → more ≡ slots ++ Some l ∷ []
      → ArePlaced slots old → AddsPlace old new l.name place → ArePlaced more new
  placed_more slots more old new l place is grown are adds = λ q.
      adds q ∙ ap (λ ps. cond (same_name l.name q) (ps ++ place ∷ []) ps) (are q)
      ∙ ap (λ p. cond (same_name l.name q) (places_of q slots ++ p ∷ []) (places_of q slots)) is
      ∙ sym (ap (places_of q) grown ∙ places_of-push q slots l)

  -- the look-ups of a name less
  pub placed_less : (slots : List (Option LookUp)) (old new : HashMap CellName Places S) (name : CellName) → ArePlaced slots old
      → ((q : CellName) → hash.get same_name new q ≡ cond (same_name name q) None (hash.get same_name old q)) → ArePlaced (without name slots) new
  placed_less slots old new name are change = λ q.
      ap placed (change q) ∙ placed_without (same_name name q) (hash.get same_name old q) ∙ ap (λ ps. cond (same_name name q) [] ps) (are q)
      ∙ sym (places_of-without name q slots)

  -- where no name has places any more, only the look-ups of one name were left
  pub none_for_others : (slots : List (Option LookUp)) (old new : HashMap CellName Places S) (name : CellName) → ArePlaced slots old
      → ((q : CellName) → hash.get same_name new q ≡ cond (same_name name q) None (hash.get same_name old q)) → hash_map_len new ≡ 0 → [] ≡ others name (left_in slots)
  none_for_others slots old new name are change empty =
      sym (sym (left_in-without name slots)
      ∙ none_left (without name slots) (λ q. sym (placed_less slots old new name are change q) ∙ ap (λ es. placed (lookup (same_name q) es)) (nil_from_length new.entries empty)))
