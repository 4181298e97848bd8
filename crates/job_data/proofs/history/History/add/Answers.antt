use Rattle.std.proofs.Common.{◌≡◌, map, sym, ap, arith}
use Rattle.tree_model.specs.Signatures.{Signature}
use Rattle.job_data.specs.Checks.{is_fence, is_print}
use Rattle.job_data.specs.Data.{data_of}
use Rattle.job_data.proofs.HistoryLemmas.{follows_prints, follows_near, follows_few, follows_room, count_by_push, since_fence_push}
use Rattle.job_data.proofs.history.History.add.Goals as goal

pub add_writer-requires-clause-room : goal.add_writer-requires-clause-room
add_writer-requires-clause-room c = follows_room (map data_of c.args.before.now) (data_of c.args.command.now) c.requires.follows

pub prints_with-self-requires : goal.prints_with-self-requires
prints_with-self-requires c =
    let prints : c.signature-signature.result.prints ≡ is_print (data_of c.args.command.now) = ap (λ (s : Signature). s.prints) c.signature-signature.ensures in
    rw (prints, c.add_writer.ensures.prints, c.requires.recalls.prints) (follows_prints (map data_of c.args.before.now) (data_of c.args.command.now) c.requires.follows)

pub since_fence_with-self-requires : goal.since_fence_with-self-requires
since_fence_with-self-requires c =
    let fences : c.signature-signature.result.fences ≡ is_fence (data_of c.args.command.now) = ap (λ (s : Signature). s.fences) c.signature-signature.ensures in
    rw (fences, c.add_writer.ensures.since_fence, c.requires.recalls.since_fence) (follows_near (map data_of c.args.before.now) (data_of c.args.command.now) c.requires.follows)

pub fences_with-self-requires : goal.fences_with-self-requires
fences_with-self-requires c =
    let few = follows_few (map data_of c.args.before.now) (data_of c.args.command.now) c.requires.follows in
    omega (arith, few, c.add_writer.ensures.fences, c.requires.recalls.fences)

pub returns : goal.returns
returns c =
    let prints : c.signature-signature.result.prints ≡ is_print (data_of c.args.command.now) = ap (λ (s : Signature). s.prints) c.signature-signature.ensures in
    let fences : c.signature-signature.result.fences ≡ is_fence (data_of c.args.command.now) = ap (λ (s : Signature). s.fences) c.signature-signature.ensures in
    record {
      within = c.add_writer.ensures.within;
      writers = c.add_writer.ensures.writers;
      prints = rw (c.prints_with-self.ensures, prints, c.add_writer.ensures.prints, c.requires.recalls.prints) (sym (count_by_push is_print (map data_of c.args.before.now) (data_of c.args.command.now)));
      since_fence = rw (c.since_fence_with-self.ensures, fences, c.add_writer.ensures.since_fence, c.requires.recalls.since_fence) (sym (since_fence_push (map data_of c.args.before.now) (data_of c.args.command.now)));
      fences = rw (c.fences_with-self.ensures, fences, c.add_writer.ensures.fences, c.requires.recalls.fences) (sym (count_by_push is_fence (map data_of c.args.before.now) (data_of c.args.command.now)));
    }
