-- What the seats of the table have and know, and how their views are split and joined.
use Rattle.std.specs.Prelude.{ℕ, suc, Bool, true, false, ◌||◌, if◌then◌else◌, List, [], ◌∷◌, ◌++◌, slice_get, Option, Some, None}
use Rattle.app_core.specs.declared.label.CellName.{CellName}
use Rattle.app_core.specs.declared.outline.Outline.{Outline}
use Rattle.app_core.specs.declared.outline.Outline.TheVariants as of
use Rattle.event_lists.specs.declared.lane.LaneName.{LaneName}
use Rattle.event_lists.specs.declared.event.Event.{Event}
use Rattle.event_lists.specs.declared.event.Event.TheVariants.{Sent, Handled, Submitted, Ran, Gave, Put, Erased, ReadHandled, ReadRan, ReadSubmitted, ReadSent}
use Rattle.event_lists.specs.declared.mark.Item.{Item}
use Rattle.event_lists.specs.declared.mark.Item.TheVariants.{Task}
use Rattle.event_lists.specs.declared.kind.Kind.{Kind}
use Rattle.event_lists.specs.declared.kind.Kind.TheVariants.{Submissions as submissions, Runs as runs}
use Rattle.event_lists.specs.declared.mark.EffectName.{EffectName}
use Rattle.event_lists.specs.declared.mark.Mark.{Mark}
use Rattle.event_lists.specs.Events.{same_lane, main_of}
use Rattle.event_laws.specs.Follows.{effect_name}
use Rattle.world_rule.specs.declared.view.Pending.TheVariants.{Drawn}
use Rattle.world_rule.specs.declared.view.Load.TheVariants.{OfEffect}
use Rattle.world_rule.specs.declared.view.Owed.{Owed}
use Rattle.world_rule.specs.declared.view.OwnPart.{OwnPart}
use Rattle.world_rule.specs.declared.view.Progress.{Progress}
use Rattle.world_rule.specs.declared.view.CountLooks.{CountLooks}
use Rattle.world_rule.specs.declared.view.View.{View}
use Rattle.world_rule.specs.Owing.{owed, made_by}

abbrev pub mark : LaneName → Event → Option EffectName → Mark
mark l e f = record { lane = l; event = e; effect = f }

-- the event with this number, where it is counted or a reading
abbrev pub numbered : ℕ → Event → Event
numbered n (Sent m to p) = Sent n to p
numbered n (Handled m r k) = Handled n r k
numbered n (Submitted m t) = Submitted n t
numbered n (Ran m r k) = Ran n r k
numbered n (ReadHandled v f p) = ReadHandled n f p
numbered n (ReadRan v f p) = ReadRan n f p
numbered n (ReadSubmitted v f p) = ReadSubmitted n f p
numbered n (ReadSent v f p) = ReadSent n f p
numbered n e = e

abbrev pub own_part : LaneName → List Event → OwnPart
own_part l es = record { lane = l; events = es }

abbrev pub empty_part : LaneName → OwnPart
empty_part l = own_part l []

-- the events of a seat that has one lane
abbrev pub own_events : List OwnPart → List Event
own_events [] = []
own_events (p ∷ ps) = p.events

abbrev pub without : LaneName → List OwnPart → List OwnPart
without l [] = []
without l (x ∷ xs) = if same_lane x.lane l then without l xs else x ∷ without l xs

-- the lane of no seat, in a member that no call picked
abbrev pub no_lane : LaneName
no_lane = main_of 0

abbrev pub no_looks : CountLooks
no_looks = record { rank = 0; times = 0; found = 0 }

-- nothing: what is left of a seat that was joined to another
abbrev pub spent : View
spent = record {
  parts = [];
  seen = [];
  told = [];
  owes = None;
  progress = None;
  set_stop = false;
  stop_looks = 0;
  saw_stop = false;
  ran_looks = no_looks;
  submitted_looks = no_looks;
}

-- a seat that tells what another knows
abbrev pub told_by : View → View
told_by v = record spent { seen = v.seen }

-- a seat that owes nothing, and one that carries what it owed
abbrev pub unburdened : View → View
unburdened v = record v { owes = None }

abbrev pub packed_by : View → View
packed_by v = record spent { seen = v.seen; owes = v.owes }

-- a seat without one of its lanes, and one that has this lane alone
abbrev pub gives_away : LaneName → View → View
gives_away l v = record v { parts = without l v.parts }

abbrev pub lane_of : LaneName → View → View
lane_of l v = record spent { parts = empty_part l ∷ []; seen = v.seen }

abbrev pub first_of : {A : Type 0} → Option A → Option A → Option A
first_of (Some o) p = Some o
first_of None p = p

-- a seat that took in another. It learns what the other knew at its next step
abbrev pub joined : View → View → View
joined v w = record {
  parts = v.parts ++ w.parts;
  seen = v.seen;
  told = w.seen;
  owes = first_of v.owes w.owes;
  progress = first_of v.progress w.progress;
  set_stop = v.set_stop || w.set_stop;
  stop_looks = v.stop_looks;
  saw_stop = v.saw_stop || w.saw_stop;
  ran_looks = v.ran_looks;
  submitted_looks = v.submitted_looks;
}

abbrev pub progress : ℕ → ℕ → List Outline → ℕ → Progress
progress r n os i = record { rank = r; number = n; outlines = os; at = i }

-- the task in hand is begun, with these effects
abbrev pub begun : Option Item → List Outline → Progress
begun (Some (Task r n)) os = progress r n os 0
begun _ os = progress 0 0 os 0

-- one more effect was carried out or drawn
abbrev pub further : Progress → Progress
further b = record b { at = suc b.at }

abbrev pub next : Option Progress → Option Progress
next None = None
next (Some b) = Some (further b)

-- the effect that comes next, and its outline
abbrev pub next_effect : Progress → EffectName
next_effect b = effect_name b.rank b.number b.at

abbrev pub next_outline : Option Progress → Option Outline
next_outline None = None
next_outline (Some b) = slice_get b.outlines b.at

-- how far the task in hand is after an event
abbrev pub progress_after : Event → Option Progress → Option Progress
progress_after (Sent n to p) d = next d
progress_after (Submitted n t) d = next d
progress_after (Gave f) d = next d
progress_after (Ran n r t) d = None
progress_after _ d = d

-- the task and the outline of a member that no call picked
abbrev pub no_task : Progress
no_task = progress 0 0 [] 0

abbrev pub no_outline : Outline
no_outline = of.Put (record { version = 0; place = 0 })

-- a seat that sees this list
abbrev pub seeing : List Mark → View → View
seeing log v = record v { seen = log; told = [] }

-- a seat with one lane, after an event
abbrev pub after_event : LaneName → Event → View → View
after_event l e v = record v { parts = own_part l (e ∷ own_events v.parts) ∷ []; owes = made_by l e; progress = progress_after e v.progress }

-- a seat that began its task
abbrev pub after_begin : Progress → View → View
after_begin b v = record v { progress = Some b }

-- the next effect of a task, which has this outline, for a bin of the task's rank
abbrev pub drawn_from : Progress → Outline → Owed
drawn_from b o = owed (Drawn (next_effect b)) b.rank (OfEffect o)

-- a seat that drew it
abbrev pub after_draw : Progress → Outline → View → View
after_draw b o v = record v { owes = Some (drawn_from b o); progress = Some (further b) }

-- a seat that set the stop word; that looked at it; and that found n in the count of a kind at a rank
abbrev pub after_stop : View → View
after_stop v = record v { set_stop = true }

abbrev pub after_stop_look : Bool → View → View
after_stop_look b v = record v { stop_looks = suc v.stop_looks; saw_stop = b }

abbrev pub one_more_look : ℕ → ℕ → CountLooks → CountLooks
one_more_look r n l = record { rank = r; times = suc l.times; found = n }

abbrev pub after_look : Kind → ℕ → ℕ → View → View
after_look runs r n v = record v { ran_looks = one_more_look r n v.ran_looks }
after_look submissions r n v = record v { submitted_looks = one_more_look r n v.submitted_looks }
after_look _ r n v = v

-- the event and the outline of a put, or of an erase
abbrev pub stored_event : Bool → CellName → Event
stored_event true m = Put m
stored_event false m = Erased m

abbrev pub stored_outline : Bool → CellName → Outline
stored_outline true m = of.Put m
stored_outline false m = of.Erase m
