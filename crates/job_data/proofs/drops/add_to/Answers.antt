use Rattle.std.proofs.Common.{◌++◌, ◌∷◌, [], List, set, sym, ◌∙◌, ap, ℕ}
use Rattle.std.specs.Prelude.{Vec}
use Rattle.std.specs.declared.alloc.Global.{Global}
use Rattle.std.proofs.lemmas.List.{map-set, get_or-map}
use Rattle.job_data.specs.Uses.{items_in}
use Rattle.job_data.proofs.drops.add_to.Goals as goal

pub returns : goal.returns
returns c =
    let lists = c.args.lists.now.items in
    let items : Vec ℕ Global → List ℕ = λ v. v.items in
    let there = ap items c.index_mut.ensures.value ∙ sym (get_or-map items lists c.args.at c.index_mut.result.now [] c.requires) in
    map-set items lists c.args.at c.push.new.self
    ∙ ap (λ list. set (items_in lists) c.args.at list) (c.in_ok-push.ensures.items ∙ ap (λ list. list ++ c.args.number ∷ []) there)
