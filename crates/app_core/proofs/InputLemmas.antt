-- Things that are right for names are as many as these.
use Rattle.std.proofs.Common.{◌≡◌, suc, List, [], ◌∷◌, length, refl, ap}
use Rattle.app_core.specs.Inputs.{AreRight}

pub length_right : {N T : Type 0} (right : N → T → Type 0) (ns : List N) (xs : List T) → AreRight right ns xs → length xs ≡ length ns
length_right right [] [] are = refl
length_right right [] (x ∷ xs) are = absurd are
length_right right (n ∷ ns) [] are = absurd are
length_right right (n ∷ ns) (x ∷ xs) are = ap suc (length_right right ns xs are.1)
