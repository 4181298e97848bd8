use Rattle.std.proofs.Common.{◌∷◌, [], map}
use Rattle.std.proofs.lemmas.List.{map-append}
use Rattle.job_data.specs.Data.{data_of}
use Rattle.job_data.proofs.CheckLemmas.{IsJob_push, follows_accepted}
use Rattle.job_lang.proofs.accepted.Accepted.push.Goals as goal

pub add-requires-clause-follows : goal.add-requires-clause-follows
add-requires-clause-follows c =
    let accepted = rw (← c.self.view_is) at c.requires in
    rw c.deref.ensures.value (follows_accepted c.self.inside.depth (map data_of c.self.inside.commands.items) (data_of c.args.command) accepted)

pub invariant_of-self-2 : goal.invariant_of-self-2
invariant_of-self-2 c =
    let accepted = rw (← c.self.view_is) at c.requires in
    rw (c.in_ok-push.ensures.items, map-append data_of c.self.inside.commands.items (c.args.command ∷ []))
    (record {
      is_job = IsJob_push _ (data_of c.args.command) c.self.invariant.is_job accepted;
      recalls = rw c.deref.ensures.value at c.add.ensures;
    })
