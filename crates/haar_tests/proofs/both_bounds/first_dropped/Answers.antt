use Rattle.std.proofs.Common.{◌≡◌, ℕ, true, List, [], ◌∷◌, Option, Some, None, ap, arith}
use Rattle.std.specs.Prelude.{IfSome, Contains, is_some, slice_get}
use Rattle.haar_tests.proofs.both_bounds.first_dropped.Goals as goal

-- what holds of each number of a list holds of the first
of_first : (P : ℕ → Type 0) (xs : List ℕ) (o : Option ℕ) → o ≡ slice_get xs 0 → ((x : ℕ) → Contains xs x → P x) → IfSome o P
of_first P xs None e each = tt
of_first P [] (Some x) e each = absurd (cc)
of_first P (y ∷ ys) (Some x) e each = each x (0, omega arith, let same : y ≡ x = cc in same)

pub returns : goal.returns
returns g c =
    let laws = g.met.A.ListLaws g.world.𝓛 g.world.𝓜 g.world.𝓡 ((λ s x. x), (λ x. x), (λ x. x), λ x. x) in
    of_first (λ version. is_some (g.A.ListLaws.writer_of c.args.app.now version) ≡ true) (g.A.Facts.dropped_of c.args.app.now c.args.fence) c.dropped.result c.dropped.ensures
    (λ version drops. ap is_some (laws.dropped_is_written c.args.app.now c.args.fence version drops).1)
