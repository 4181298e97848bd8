-- What noting an event does to the table of futures.
use Rattle.std.proofs.Common.{◌≡◌, Bool, true, false, refl, ap, ◌∙◌}
use Rattle.std.specs.Prelude.{if◌then◌else◌}
use Rattle.event_lists.specs.declared.future.Future.{Future}
use Rattle.event_lists.specs.Futures.{same_future}
use Rattle.event_rules.specs.declared.values.Found.{Found}
use Rattle.event_tables.specs.declared.table.Table.{Table}
use Rattle.event_tables.specs.Tables.{value_at}
use Rattle.event_tables.specs.Futures.{with_more}
use Rattle.event_lists.proofs.FutureLemmas.{same_future_true}
use Rattle.event_tables.proofs.NameLemmas.{same_future_sym}

-- the value of one key, changed
pub added : (old new : Table Future Found) (key : Future) (due needed given : Bool) (v : Found) → v ≡ with_more (value_at same_future old key) due needed given
    → ((f : Future) → value_at same_future new f ≡ (if same_future key f then v else value_at same_future old f))
    → (f : Future) → value_at same_future new f ≡ (if same_future f key then with_more (value_at same_future old f) due needed given else value_at same_future old f)
added old new key due needed given v is set f = set f ∙ go (same_future key f) refl ∙ ap (λ (b : Bool). if b then with_more (value_at same_future old f) due needed given else value_at same_future old f) (same_future_sym key f)
  where
    go : (b : Bool) → same_future key f ≡ b → (if b then v else value_at same_future old f) ≡ (if b then with_more (value_at same_future old f) due needed given else value_at same_future old f)
    go true e = is ∙ ap (λ (k : Future). with_more (value_at same_future old k) due needed given) (same_future_true key f e)
    go false e = refl
