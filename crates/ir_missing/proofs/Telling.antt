-- What an answer tells of a part, from what answers tell of its parts.
use Rattle.std.proofs.Common.{◌≡◌, ℕ, ◌+◌, ◌<◌, ◌≤◌, Bool, true, false, List, [], ◌∷◌, ◌++◌, ◌&&◌, length, map, Option, Some, refl, sym, ◌∙◌, ap, subst, get_or, drop}
use Rattle.std.specs.List.{list_all, flat_map}
use Rattle.std.proofs.Math.ListN.{drop_of_length-le}
use Rattle.std.proofs.lemmas.List.Folds.{list_all-append}
use Rattle.std.proofs.lemmas.Option.{slice_get-get_or}
use Rattle.ir_tree.specs.Shape.{FunctionShape}
use Rattle.ir_tree.specs.ShapeOf.{module_shape}
use Rattle.ir_tree.specs.declared.module.Module.{Module}
use Rattle.ir_tree.proofs.Grows.{and_left, and_right}
use Rattle.ir_layout.proofs.Slices.{drop_at}
use Rattle.ir_rules.specs.Uses.{Use}
use Rattle.ir_rules.specs.Things.{is_there}
use Rattle.ir_names.specs.Tables.{ModuleTable, FunctionTable}
use Rattle.ir_missing.specs.Tells.{Outside, Inside, Tells}

-- a part without names
pub tells_none : {Fit : Module → Option FunctionShape → Type 0} {known : ℕ → Bool} → Tells Fit known (λ names. []) true
tells_none = record { tells = λ m f fit k. refl }

-- a part that is known where another one is, and uses the same
pub tells_same : {Fit : Module → Option FunctionShape → Type 0} {k l : ℕ → Bool} {us vs : List (List ℕ) → List Use} {answer : Bool}
    → Tells Fit k us answer → ((n : ℕ) → l n ≡ true → k n ≡ true) → ((names : List (List ℕ)) → us names ≡ vs names) → Tells Fit l vs answer
tells_same {us} {vs} t known same = record {
  tells = λ m f fit h. t.tells m f fit (known (length m.names) h) ∙ ap (list_all (is_there (module_shape m) f)) (same m.names);
}

first_holds : (a : Bool) (b c : Bool) → a ≡ true → b ≡ c → b ≡ (a && c)
first_holds true b c is same = same
first_holds false b c is same = cc

first_fails : (a b c : Bool) → a ≡ false → a ≡ b → a ≡ (b && c)
first_fails true b c is same = cc
first_fails false true c is same = cc
first_fails false false c is same = refl

-- two parts, of which the first one's names are there
pub tells_then : {Fit : Module → Option FunctionShape → Type 0} {k l : ℕ → Bool} {us vs : List (List ℕ) → List Use} {a b : Bool}
    → Tells Fit k us a → a ≡ true → Tells Fit l vs b → Tells Fit (λ n. k n && l n) (λ names. us names ++ vs names) b
tells_then {us} {vs} t is u = record {
  tells = λ m f fit h.
      first_holds _ _ _ (sym (t.tells m f fit (and_left _ _ h)) ∙ is) (u.tells m f fit (and_right _ _ h))
      ∙ sym (list_all-append (is_there (module_shape m) f) (us m.names) (vs m.names));
}

-- two parts, of which the first one uses a name that isn't there
pub tells_else : {Fit : Module → Option FunctionShape → Type 0} {k : ℕ → Bool} {us : List (List ℕ) → List Use} {a : Bool}
    (l : ℕ → Bool) (vs : List (List ℕ) → List Use) → Tells Fit k us a → a ≡ false → Tells Fit (λ n. k n && l n) (λ names. us names ++ vs names) a
tells_else {us} l vs t is = record {
  tells = λ m f fit h.
      first_fails _ _ _ is (t.tells m f fit (and_left _ _ h))
      ∙ sym (list_all-append (is_there (module_shape m) f) (us m.names) (vs m.names));
}

-- what is known, grouped to the right
pub grouped : (a b c : Bool) → (a && b && c) ≡ true → (a && (b && c)) ≡ true
grouped true b c h = h
grouped false b c h = cc

-- a value that is what an answer is
pub tells_value : {Fit : Module → Option FunctionShape → Type 0} {k : ℕ → Bool} {us : List (List ℕ) → List Use} {a value : Bool} → value ≡ a → Tells Fit k us a → Tells Fit k us value
tells_value {Fit} {k} {us} is t = subst (λ (b : Bool). Tells Fit k us b) (sym is) t

-- what is told outside of functions is told in them
pub tells_in : {t : ModuleTable} {u : FunctionTable} {k : ℕ → Bool} {us : List (List ℕ) → List Use} {answer : Bool}
    → Tells (Outside t) k us answer → Tells (Inside t u) k us answer
tells_in t = record { tells = λ m f fit h. t.tells m f fit.0 h }

with_true : (b : Bool) → b ≡ (b && true)
with_true true = refl
with_true false = refl

-- one name
pub tells_one : {Fit : Module → Option FunctionShape → Type 0} {known : ℕ → Bool} {named : List (List ℕ) → Use} {answer : Bool}
    → ((m : Module) (f : Option FunctionShape) → Fit m f → known (length m.names) ≡ true → answer ≡ is_there (module_shape m) f (named m.names))
    → Tells Fit known (λ names. named names ∷ []) answer
tells_one {named} are = record { tells = λ m f fit h. are m f fit h ∙ with_true (is_there (module_shape m) f (named m.names)) }

-- that the names which all elements of a list use are there
abbrev pub AllTell : {X Y : Type 0} → (Module → Option FunctionShape → Type 0) → (ℕ → X → Bool) → (List (List ℕ) → X → Y) → (Y → List Use) → List X → Bool → Type 0
AllTell Fit k shape u xs answer = Tells Fit (λ n. list_all (k n) xs) (λ names. flat_map u (map (shape names) xs)) answer

module _ {X Y : Type 0} (Fit : Module → Option FunctionShape → Type 0) (k : ℕ → X → Bool) (shape : List (List ℕ) → X → Y) (u : Y → List Use) where
  -- the rest of a list tells of the whole, where the names of what comes before are there
  abbrev pub RestTells : List X → ℕ → Type 0
  RestTells xs i = (answer : Bool) → AllTell Fit k shape u (drop i xs) answer → AllTell Fit k shape u xs answer

  rest_at : (xs : List X) (i : ℕ) (x : X) → i < length xs → x ≡ get_or xs i x → x ∷ drop (i + 1) xs ≡ drop i xs
  rest_at xs i x within item = sym (drop_at xs i x (slice_get-get_or xs i x within ∙ ap (λ (z : X). Some z) (sym item)))

  pub rest_next : (xs : List X) (i : ℕ) (x : X) (a : Bool) → i < length xs → x ≡ get_or xs i x → Tells Fit (λ n. k n x) (λ names. u (shape names x)) a → a ≡ true
      → RestTells xs i → RestTells xs (i + 1)
  rest_next xs i x a within item one is rest answer later =
      rest answer (subst (λ (z : List X). AllTell Fit k shape u z answer) (rest_at xs i x within item) (tells_then one is later))

  pub rest_stops : (xs : List X) (i : ℕ) (x : X) (a : Bool) → i < length xs → x ≡ get_or xs i x → Tells Fit (λ n. k n x) (λ names. u (shape names x)) a → a ≡ false
      → RestTells xs i → AllTell Fit k shape u xs false
  rest_stops xs i x a within item one is rest =
      rest false
      (subst (λ (z : List X). AllTell Fit k shape u z false) (rest_at xs i x within item)
      (subst (λ (b : Bool). AllTell Fit k shape u (x ∷ drop (i + 1) xs) b) is
      (tells_else (λ n. list_all (k n) (drop (i + 1) xs)) (λ names. flat_map u (map (shape names) (drop (i + 1) xs))) one is)))

  pub rest_ends : (xs : List X) (i : ℕ) → length xs ≤ i → RestTells xs i → AllTell Fit k shape u xs true
  rest_ends xs i past rest = rest true (subst (λ (z : List X). AllTell Fit k shape u z true) (sym (drop_of_length-le xs past)) tells_none)
