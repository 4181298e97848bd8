-- What is known of a run whose lanes were all folded, and of lanes that are made.
use Rattle.std.proofs.Common.{◌≡◌, ◌⊎◌, ℕ, zero, suc, ◌+◌, ◌*◌, ◌<◌, ◌≤◌, Bool, true, false, List, [], ◌∷◌, ◌++◌, map, reverse, length, refl, sym, ap, subst, ◌∙◌, inl, inr, arith, length-append, append-nil}
use Rattle.std.specs.Prelude.{All, Contains, if◌then◌else◌}
use Rattle.std.proofs.lemmas.List.{reverse-reverse, length-map, map-append}
use Rattle.std.proofs.lemmas.List.Elements.{All-nil, All-cons, All-contains, Contains-append_left, Contains-append_right, Contains-append_cases}
use Rattle.app_core.specs.Commands.{IsRankCount}
use Rattle.app_core.specs.declared.label.Label.{Label}
use Rattle.app_core.specs.declared.outline.Outline.{Outline}
use Rattle.event_lists.specs.declared.lane.LaneName.{LaneName}
use Rattle.event_lists.specs.declared.event.Event.{Event}
use Rattle.event_lists.specs.declared.mark.Mark.{Mark}
use Rattle.event_lists.specs.Events.{part}
use Rattle.event_lists.specs.Legal.{IsLane}
use Rattle.event_books.specs.Books.{PartData, BookData, IsBook, HasRows, HasParts, IsLawful, BookFollows, events_of, lanes_from, lanes_of_ranks, lanes_in_order, part_with, parts_in, book_of}
use Rattle.event_books.proofs.WrittenPartLemmas.{parts_are_of_a_book}
use Rattle.world_rule.specs.declared.view.OwnPart.{OwnPart}
use Rattle.world_rule.specs.Views.{own_part}
use Rattle.world_rule.proofs.ContainsLemmas.{contains_none, contains_first, contains_later, contains_cases}
use Rattle.world_words.specs.Lanes.{WordsView, LaneView, RootView, Lawful}
use Rattle.world_words.specs.Closing.{name_of, all_of, own_parts, kept_part, kept_parts, IsFree, AreAllLanes, new_lane, new_ranks}

pub all_left : {X : Type 0} (P : X → Type 0) (xs ys : List X) → All P (xs ++ ys) → All P xs
all_left P [] ys h = All-nil P
all_left P (x ∷ xs) ys h = All-cons P x xs (h 0 x (omega arith)) (all_left P xs ys (λ i d lt. h (suc i) d (omega arith)))

pub all_right : {X : Type 0} (P : X → Type 0) (xs ys : List X) → All P (xs ++ ys) → All P ys
all_right P [] ys h = h
all_right P (x ∷ xs) ys h = all_right P xs ys (λ i d lt. h (suc i) d (omega arith))

pub own_append : (us vs : List LaneView) → own_parts (us ++ vs) ≡ own_parts us ++ own_parts vs
own_append [] vs = refl
own_append (u ∷ us) vs = ap (λ ps. own_part u.name u.mine ∷ ps) (own_append us vs)

append_assoc : {X : Type 0} (xs ys zs : List X) → xs ++ (ys ++ zs) ≡ (xs ++ ys) ++ zs
append_assoc [] ys zs = refl
append_assoc (x ∷ xs) ys zs = ap (λ l. x ∷ l) (append_assoc xs ys zs)

pub kept_append : (us vs : List LaneView) → kept_parts (us ++ vs) ≡ kept_parts us ++ kept_parts vs
kept_append [] vs = refl
kept_append (u ∷ us) vs = ap (λ ps. kept_part u ++ ps) (kept_append us vs) ∙ append_assoc (kept_part u) (kept_parts us) (kept_parts vs)

-- what is folded so far with what is left, where one chunk more is folded, and where none is left
pub parts_on : (P Q : List OwnPart) (chunk rest items : List LaneView) (all : List OwnPart) → items ≡ chunk ++ rest → P ++ own_parts items ≡ all → Q ≡ P ++ own_parts chunk → Q ++ own_parts rest ≡ all
parts_on P Q chunk rest items all steps was now =
    ap (λ z. z ++ own_parts rest) now ∙ sym (append_assoc P (own_parts chunk) (own_parts rest)) ∙ ap (λ z. P ++ z) (sym (own_append chunk rest)) ∙ ap (λ z. P ++ own_parts z) (sym steps) ∙ was

pub kept_on : (P Q : List PartData) (chunk rest items : List LaneView) (all : List PartData) → items ≡ chunk ++ rest → P ++ kept_parts items ≡ all → Q ≡ P ++ kept_parts chunk → Q ++ kept_parts rest ≡ all
kept_on P Q chunk rest items all steps was now =
    ap (λ z. z ++ kept_parts rest) now ∙ sym (append_assoc P (kept_parts chunk) (kept_parts rest)) ∙ ap (λ z. P ++ z) (sym (kept_append chunk rest)) ∙ ap (λ z. P ++ kept_parts z) (sym steps) ∙ was

pub parts_end : (Q : List OwnPart) (items : List LaneView) (all : List OwnPart) → items ≡ [] → Q ++ own_parts items ≡ all → Q ≡ all
parts_end Q items all none was = sym (append-nil Q) ∙ ap (λ z. Q ++ own_parts z) (sym none) ∙ was

pub kept_end : (Q : List PartData) (items : List LaneView) (all : List PartData) → items ≡ [] → Q ++ kept_parts items ≡ all → Q ≡ all
kept_end Q items all none was = sym (append-nil Q) ∙ ap (λ z. Q ++ kept_parts z) (sym none) ∙ was

pub nothing_left : {X : Type 0} (l : List X) → length l ≡ 0 → l ≡ []
nothing_left [] h = refl
nothing_left (x ∷ xs) h = absurd (omega arith)

own_has : (vs : List LaneView) (v : LaneView) → Contains vs v → Contains (own_parts vs) (own_part v.name v.mine)
own_has [] v h = contains_none v h
own_has (u ∷ us) v h = step (own_has us v) (contains_cases u us v h)
  where
    step : (Contains us v → Contains (own_parts us) (own_part v.name v.mine)) → (u ≡ v) ⊎ Contains us v → Contains (own_parts (u ∷ us)) (own_part v.name v.mine)
    step rest (inl is) = subst (λ (w : LaneView). Contains (own_parts (u ∷ us)) (own_part w.name w.mine)) is (contains_first (own_part u.name u.mine) (own_parts us))
    step rest (inr later) = contains_later (own_part u.name u.mine) (own_parts us) (own_part v.name v.mine) (rest later)

-- lanes whose traces have their part of a list
kept_all : (log : List Mark) (vs : List LaneView) → ((v : LaneView) → Contains vs v → (part v.name log ≡ v.mine) × (v.kept ≡ true)) → kept_parts vs ≡ parts_in log (map name_of vs)
kept_all log [] h = refl
kept_all log (v ∷ vs) h =
    let here = h v (contains_first v vs) in
    let one : kept_part v ≡ part_with v.name (part v.name log) = ap (λ (b : Bool). if b then part_with v.name v.mine else []) here.1 ∙ ap (part_with v.name) (sym here.0) in
    let rest = kept_all log vs (λ w has. h w (contains_later v vs w has)) in
    λ i. one i ++ rest i

kept_none : (vs : List LaneView) → ((v : LaneView) → Contains vs v → v.kept ≡ false) → kept_parts vs ≡ []
kept_none [] h = refl
kept_none (v ∷ vs) h =
    let one : kept_part v ≡ [] = ap (λ (b : Bool). if b then part_with v.name v.mine else []) (h v (contains_first v vs)) in
    let rest = kept_none vs (λ w has. h w (contains_later v vs w has)) in
    λ i. one i ++ rest i

-- how many lanes there are
row_length : (b : Bool) (r k n : ℕ) → length (lanes_from b r k n) ≡ n
row_length b r k zero = refl
row_length b r k (suc n) = ap suc (row_length b r (suc k) n)

few_hands : (each r n : ℕ) → each ≤ 5 → length (lanes_of_ranks false each r n) ≤ 5 * n
few_hands each r zero few = omega arith
few_hands each r (suc n) few =
    let a = length-append (lanes_from false r 0 each) (lanes_of_ranks false each (suc r) n) in
    let b = row_length false r 0 each in
    let rest = few_hands each (suc r) n few in omega (arith, a, b, rest, few)

few_bins : (r n : ℕ) → length (lanes_of_ranks true 16 r n) ≡ 16 * n
few_bins r zero = refl
few_bins r (suc n) =
    let a = length-append (lanes_from true r 0 16) (lanes_of_ranks true 16 (suc r) n) in
    let b = row_length true r 0 16 in
    let rest = few_bins (suc r) n in omega (arith, a, b, rest)

few_lanes : (ranks workers : ℕ) → workers ≤ 4 → length (lanes_in_order ranks workers) ≤ 21 * ranks
few_lanes ranks workers few =
    let a = length-append (lanes_of_ranks false (suc workers) 0 ranks) (lanes_of_ranks true 16 0 ranks) in
    let b = few_hands (suc workers) 0 ranks (omega (arith, few)) in
    let c = few_bins 0 ranks in omega (arith, a, b, c)

-- a book without parts
empty_book : (ranks workers : ℕ) → IsRankCount ranks → workers ≤ 4 → IsBook (record { ranks = ranks; workers = workers; parts = [] })
empty_book ranks workers range few = record {
  ranks = range;
  workers = few;
  named = All-nil (λ (p : PartData). IsLane ranks workers p.lane);
  ordered = λ i j d lt within. absurd (omega (arith, within));
  written = All-nil (λ (p : PartData). 1 ≤ length p.events);
  rows = All-nil (λ (p : PartData). All (HasRows ranks) p.events);
}

module _ {A : Type 0} (words : WordsView A) (may : Label → List Outline → Type 0) (hands bins : List (List LaneView)) where
  -- all lanes
  abbrev pub lanes_together : List LaneView
  lanes_together = all_of hands ++ all_of bins

  pub room_for_all : AreAllLanes words hands bins → words.workers ≤ 4 → length (all_of hands) + length (all_of bins) ≤ 21 * words.ranks
  room_for_all are few =
      let a = length-append (all_of hands) (all_of bins) in
      let b : length (map name_of lanes_together) ≡ length lanes_together = length-map lanes_together name_of in
      let c = ap length are.names in
      let d = few_lanes words.ranks words.workers few in omega (arith, a, b, c, d)

  -- what is known where all lanes were folded
  pub record Closed (log : List Mark) : Type 0 where
    pub lawful : IsLawful (book_of words.ranks words.workers log)
    pub follows : BookFollows words.program may (book_of words.ranks words.workers log)
    pub parts : (v : LaneView) → Contains lanes_together v → events_of v.name (book_of words.ranks words.workers log).parts ≡ reverse v.mine
    pub kept : words.trace ≡ true → kept_parts lanes_together ≡ (book_of words.ranks words.workers log).parts
    pub none : words.trace ≡ false → kept_parts lanes_together ≡ []
    pub is_book : IsBook (record { ranks = words.ranks; workers = words.workers; parts = kept_parts lanes_together })

  pub closed : (before : List OwnPart) (log : List Mark) → AreAllLanes words hands bins → IsRankCount words.ranks → words.workers ≤ 4
      → Lawful words may ((before ++ own_parts (all_of hands)) ++ own_parts (all_of bins)) log → Closed log
  closed before log are range few law = record {
    lawful = (log, law.run.1.legal, known.1);
    follows = (log, law.run.0, law.run.1, known.1);
    parts = λ v has. sym (reverse-reverse _) ∙ ap reverse (sym (known.1 v.name)) ∙ ap reverse (mine v has);
    kept = kept_is;
    none = none_is;
    is_book = book words.trace refl;
  }
    where
      known : IsBook (book_of words.ranks words.workers log) × HasParts log (book_of words.ranks words.workers log)
      known = parts_are_of_a_book words.ranks words.workers log range few law.run.1.legal

      mine : (v : LaneView) → Contains lanes_together v → part v.name log ≡ v.mine
      mine v has = law.own (own_part v.name v.mine) (side (Contains-append_cases (all_of hands) (all_of bins) v has))
        where
          side : Contains (all_of hands) v ⊎ Contains (all_of bins) v → Contains ((before ++ own_parts (all_of hands)) ++ own_parts (all_of bins)) (own_part v.name v.mine)
          side (inl h) = Contains-append_left (before ++ own_parts (all_of hands)) (own_parts (all_of bins)) (own_part v.name v.mine) (Contains-append_right before (own_parts (all_of hands)) (own_part v.name v.mine) (own_has (all_of hands) v h))
          side (inr h) = Contains-append_right (before ++ own_parts (all_of hands)) (own_parts (all_of bins)) (own_part v.name v.mine) (own_has (all_of bins) v h)

      free : (v : LaneView) → Contains lanes_together v → IsFree words v
      free v has = All-contains (IsFree words) lanes_together v are.free has

      kept_is : words.trace ≡ true → kept_parts lanes_together ≡ (book_of words.ranks words.workers log).parts
      kept_is on = kept_all log lanes_together (λ v has. (mine v has, (free v has).kept ∙ on)) ∙ ap (parts_in log) are.names

      none_is : words.trace ≡ false → kept_parts lanes_together ≡ []
      none_is off = kept_none lanes_together (λ v has. (free v has).kept ∙ off)

      book : (b : Bool) → words.trace ≡ b → IsBook (record { ranks = words.ranks; workers = words.workers; parts = kept_parts lanes_together })
      book true on = subst (λ (ps : List PartData). IsBook (record { ranks = words.ranks; workers = words.workers; parts = ps })) (sym (kept_is on)) known.0
      book false off = subst (λ (ps : List PartData). IsBook (record { ranks = words.ranks; workers = words.workers; parts = ps })) (sym (none_is off)) (empty_book words.ranks words.workers range few)

-- one lane more in a row, and one row more of ranks
pub row_more : (b : Bool) (r k n : ℕ) → lanes_from b r k (suc n) ≡ lanes_from b r k n ++ record { rank = r; bin = b; number = k + n } ∷ []
row_more b r k zero = ap (λ (m : ℕ). record { rank = r; bin = b; number = m } ∷ []) (omega arith)
row_more b r k (suc n) =
    let next : suc k + n ≡ k + suc n = omega arith in
    ap (λ (ls : List LaneName). record { rank = r; bin = b; number = k } ∷ ls) (row_more b r (suc k) n ∙ ap (λ (m : ℕ). lanes_from b r (suc k) n ++ record { rank = r; bin = b; number = m } ∷ []) next)

-- what one lane kept
pub kept_some : (v : LaneView) (es : List Event) → v.kept ≡ true → es ≡ v.mine → (es ≡ [] → ⊥) → kept_parts (v ∷ []) ≡ record { lane = v.name; events = reverse es } ∷ []
kept_some v [] on same some = absurd (some refl)
kept_some v (e ∷ es) on same some = ap (λ (b : Bool). (if b then part_with v.name v.mine else []) ++ []) on ∙ ap (λ (xs : List Event). part_with v.name xs ++ []) (sym same)

pub kept_empty : (v : LaneView) (es : List Event) → es ≡ v.mine → es ≡ [] → kept_parts (v ∷ []) ≡ []
kept_empty v es same none = step v.kept ∙ refl
  where
    empty : part_with v.name v.mine ≡ []
    empty = ap (part_with v.name) (sym same ∙ none)

    step : (b : Bool) → (if b then part_with v.name v.mine else []) ++ [] ≡ []
    step true = ap (λ (ps : List PartData). ps ++ []) empty
    step false = refl

pub kept_off : (v : LaneView) → v.kept ≡ false → kept_parts (v ∷ []) ≡ []
kept_off v off = ap (λ (b : Bool). (if b then part_with v.name v.mine else []) ++ []) off

-- a row with one lane more, and rows with one more
pub row_grown : {A : Type 0} (words : WordsView A) (b : Bool) (r n m : ℕ) (made : LaneView) (items now : List LaneView) → m ≡ suc n → items ≡ map (new_lane words) (lanes_from b r 0 n)
    → made ≡ new_lane words (record { rank = r; bin = b; number = n }) → now ≡ items ++ made ∷ [] → now ≡ map (new_lane words) (lanes_from b r 0 m)
row_grown words b r n m made items now next were is grown =
    let last : LaneName = record { rank = r; bin = b; number = 0 + n } in
    let there : n ≡ 0 + n = omega arith in
    let one : made ≡ new_lane words last = is ∙ ap (λ (z : ℕ). new_lane words (record { rank = r; bin = b; number = z })) there in
    grown ∙ (λ i. were i ++ one i ∷ []) ∙ sym (map-append (new_lane words) (lanes_from b r 0 n) (last ∷ []))
    ∙ ap (λ (ls : List LaneName). map (new_lane words) ls) (sym (row_more b r 0 n)) ∙ ap (λ (z : ℕ). map (new_lane words) (lanes_from b r 0 z)) (sym next)

ranks_more : {A : Type 0} (words : WordsView A) (b : Bool) (each r n : ℕ) → new_ranks words b each r (suc n) ≡ new_ranks words b each r n ++ map (new_lane words) (lanes_from b (r + n) 0 each) ∷ []
ranks_more words b each r zero = ap (λ (z : ℕ). map (new_lane words) (lanes_from b z 0 each) ∷ []) (omega arith)
ranks_more words b each r (suc n) =
    let next : suc r + n ≡ r + suc n = omega arith in
    ap (λ (rows : List (List LaneView)). map (new_lane words) (lanes_from b r 0 each) ∷ rows)
    (ranks_more words b each (suc r) n ∙ ap (λ (z : ℕ). new_ranks words b each (suc r) n ++ map (new_lane words) (lanes_from b z 0 each) ∷ []) next)

pub ranks_grown : {A : Type 0} (words : WordsView A) (b : Bool) (each n m : ℕ) (row : List LaneView) (items now : List (List LaneView)) → m ≡ suc n → items ≡ new_ranks words b each 0 n
    → row ≡ map (new_lane words) (lanes_from b n 0 each) → now ≡ items ++ row ∷ [] → now ≡ new_ranks words b each 0 m
ranks_grown words b each n m row items now next were is grown =
    let there : n ≡ 0 + n = omega arith in
    let one : row ≡ map (new_lane words) (lanes_from b (0 + n) 0 each) = is ∙ ap (λ (z : ℕ). map (new_lane words) (lanes_from b z 0 each)) there in
    grown ∙ (λ i. were i ++ one i ∷ []) ∙ sym (ranks_more words b each 0 n) ∙ ap (λ (z : ℕ). new_ranks words b each 0 z) (sym next)

-- a root that differs from the first in its lanes alone, after one more change of them
pub root_kept : (first now next : RootView) (ps : List OwnPart) → now ≡ record first { parts = now.parts } → next ≡ record now { parts = ps } → next ≡ record first { parts = next.parts }
root_kept first now next ps was is =
    is ∙ (λ i. record (was i) { parts = ps }) ∙ (λ i. record first { parts = (sym (ap (λ (r : RootView). r.parts) is)) i })

-- new lanes are all lanes
names_new : {A : Type 0} (words : WordsView A) (ls : List LaneName) → map name_of (map (new_lane words) ls) ≡ ls
names_new words [] = refl
names_new words (l ∷ ls) = ap (λ (z : List LaneName). l ∷ z) (names_new words ls)

free_new : {A : Type 0} (words : WordsView A) (ls : List LaneName) → All (IsFree words) (map (new_lane words) ls)
free_new words [] = All-nil (IsFree words)
free_new words (l ∷ ls) = All-cons (IsFree words) (new_lane words l) (map (new_lane words) ls) (record { table = refl; owes = refl; progress = refl; kept = refl }) (free_new words ls)

together : {A : Type 0} (words : WordsView A) (b : Bool) (each r n : ℕ) → all_of (new_ranks words b each r n) ≡ map (new_lane words) (lanes_of_ranks b each r n)
together words b each r zero = refl
together words b each r (suc n) =
    ap (λ (z : List LaneView). map (new_lane words) (lanes_from b r 0 each) ++ z) (together words b each (suc r) n) ∙ sym (map-append (new_lane words) (lanes_from b r 0 each) (lanes_of_ranks b each (suc r) n))

pub new_are_all : {A : Type 0} (words : WordsView A) (hands bins : List (List LaneView)) → hands ≡ new_ranks words false (suc words.workers) 0 words.ranks → bins ≡ new_ranks words true 16 0 words.ranks → AreAllLanes words hands bins
new_are_all words hands bins h b = record {
  names = ap (λ (z : List LaneView). map name_of z) same ∙ names_new words (lanes_in_order words.ranks words.workers);
  free = subst (All (IsFree words)) (sym same) (free_new words (lanes_in_order words.ranks words.workers));
}
  where
    same : all_of hands ++ all_of bins ≡ map (new_lane words) (lanes_in_order words.ranks words.workers)
    same =
        (λ i. all_of (h i) ++ all_of (b i)) ∙ (λ i. together words false (suc words.workers) 0 words.ranks i ++ together words true 16 0 words.ranks i)
        ∙ sym (map-append (new_lane words) (lanes_of_ranks false (suc words.workers) 0 words.ranks) (lanes_of_ranks true 16 0 words.ranks))
