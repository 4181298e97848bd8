use Rattle.std.proofs.Common.{◌∙◌, ◌≡◌, ◌-◌, ℕ, List, length, take, drop, arith, length-drop}
use Rattle.std.proofs.Math.Seq.{take-add}
use Rattle.std.proofs.lemmas.List.{drop-drop, take_all}
use Rattle.outside.proofs.KnownByteLemmas.{appends_more}
use Rattle.outside.proofs.writing.write_all.Goals as goal

-- a slice from a place on is what is left there
from_there : (xs : List ℕ) (at : ℕ) → take (length xs - at) (drop at xs) ≡ drop at xs
from_there xs at = take_all (length xs - at) (drop at xs) (omega (arith, length-drop at xs))

pub loop-at-preserved : goal.loop-at-preserved
loop-at-preserved g c =
    let xs = c.args.bytes.now in
    let at = c.loop-at.at in
    let n = c.in-Ok.count in
    let bytes = rw (from_there xs at) at c.in-Ok.ensures.bytes in
    let rest = rw (from_there xs at) at c.in-Ok.ensures.rest in
    record {
      taken = rw (take-add at n xs) (appends_more _ _ _ _ _ c.loop-at.invariant.taken bytes);
      within = omega (arith, c.in-Ok.ensures.bound, length-drop at xs);
      made = c.in-Ok.ensures.made ∙ c.loop-at.invariant.made;
      fits = rw (← drop-drop n at xs) rest;
      later = omega (arith, c.in-Ok.ensures.cause.later);
      always = λ all piece. c.in-Ok.ensures.always (c.loop-at.invariant.always all) piece;
    }
