use Rattle.std.proofs.Common.{◌≡◌, ◌+◌, ◌≤◌, ◌<◌, length, take, drop, arith, length-drop, length-append, ℕ}
use Rattle.std.proofs.lemmas.Grind.{common_steps}
use Rattle.std.proofs.lemmas.List.{drop_all}
use Rattle.outside.proofs.KnownByteLemmas.{piece_taken}
use Rattle.outside.proofs.sure_source.SureSourceSource.read.Goals as goal

pub returns-clause-bytes : goal.returns-clause-bytes
returns-clause-bytes c =
    let s = c.self.inside in
    let n = c.min-count.result in
    let front = c.copy_from_slice.new.self in
    let is : front ≡ take n (drop s.at s.bytes.items) = grind (arith, common_steps) in
    let long : length front ≡ n = grind (arith, common_steps) in (
      rw (← c.self.view_is) (piece_taken _ _ _ _ _ is long),
      λ none room.
          let some : 0 < length c.args.buf.now = grind (arith, length-append {A = ℕ}, length-drop {A = ℕ}, long, none, room) in
          let all : length s.bytes.items ≤ s.at + n = grind (arith, common_steps, length-drop {A = ℕ}) in
          drop_all _ _ all,
    )
