-- Where a mark stands, or doesn't.
use Rattle.std.proofs.Common.{◌≡◌, false, List, [], ◌∷◌, Option, None, Some, refl, is_some}
use Rattle.grammar.specs.Reader.{Wrong, heads, opens, taken, run_one}

not_taken : {S K : Type 0} (o : Option K) (ts q : List S) → is_some o ≡ false → taken o ts q ≡ Wrong ts
not_taken None ts q e = refl
not_taken (Some k) ts q e = cc

pub not_one : {S K : Type 0} (f : S → Option K) (ts : List S) → opens (heads f) ts ≡ false → run_one f ts ≡ Wrong ts
not_one f [] e = refl
not_one f (t ∷ q) e = not_taken (f t) (t ∷ q) q e
