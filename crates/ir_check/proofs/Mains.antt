-- Looking for the function where a program begins.
use Rattle.std.proofs.Common.{◌≡◌, ℕ, ◌+◌, ◌<◌, ◌≤◌, ◌==◌, inl, inr, Bool, true, false, List, [], ◌∷◌, length, map, get_or, Option, Some, refl, sym, ◌∙◌, ap, subst, arith, slice_get, codes}
use Rattle.std.specs.Prelude.{◌↔◌, IsTrue, option_map}
use Rattle.std.proofs.lemmas.Bool.{cases_lt, ne_eqb}
use Rattle.std.proofs.lemmas.List.{length-map}
use Rattle.std.proofs.lemmas.Option.{slice_get-map, slice_get-get_or, slice_get_within, same_Some}
use Rattle.ir_tree.specs.Shape.{integer, FunctionShape}
use Rattle.ir_tree.specs.ShapeOf.{function_shape}
use Rattle.ir_tree.specs.declared.module.Function.{Function}
use Rattle.ir_tree.specs.ShapeOf.{module_shape}
use Rattle.ir_tree.specs.Known.{module_known}
use Rattle.ir_tree.specs.declared.parsed.Parsed.{Parsed}
use Rattle.ir_names.specs.Scopes.{AreScopesOf}
use Rattle.ir_rules.specs.NameRules.{HasNames}
use Rattle.ir_rules.specs.TypeRules.{HasTypes}
use Rattle.ir_forms.specs.Modules.{HasForm}
use Rattle.ir_proper.specs.FlowRules.{HasFlow}
use Rattle.ir_proper.specs.Limits.{IsWithin}
use Rattle.ir_proper.specs.Proper.{IsMain, HasMain, IsProper}
use Rattle.ir_check.specs.Answers.{IsRefused, IsChecked}
use Rattle.ir_check.specs.declared.checked.Checked.{Checked}
use Rattle.ir_check.specs.declared.error.CheckError.TheVariants.{NoMain}
use Rattle.ir_check.specs.Mains.{SomeIsMain}

-- ---- tests together
pub two_then : (P Q : Type 0) (a b v : Bool) → a ≡ true → v ≡ b → IsTrue a ↔ P → IsTrue b ↔ Q → IsTrue v ↔ (P × Q)
two_then P Q a b v first is p q = (
  λ yes. let second : b ≡ true = cc in (p.0 first, q.0 second),
  λ both. let second : b ≡ true = q.1 both.1 in cc,
)

pub two_else : (P Q : Type 0) (a v : Bool) → a ≡ false → v ≡ a → IsTrue a ↔ P → IsTrue v ↔ (P × Q)
two_else P Q a v fails is p = (λ yes. cc, λ both. let first : a ≡ true = p.1 both.0 in cc)

pub none_tells : {X S : Type 0} (f : X → S) (xs : List X) (n : ℕ) (test : Bool) → n ≡ length xs → test ≡ (n == 0) → IsTrue test ↔ (map f xs ≡ [])
none_tells f [] n test long is = (λ yes. refl, λ none. is ∙ ap (λ k. k == 0) long)
none_tells f (x ∷ xs) n test long is =
    let some : (n == 0) ≡ false = ne_eqb n 0 (λ e. omega arith) in
    (λ yes. cc, λ none. cc)

pub main_then : (f : FunctionShape) (a b v : Bool) → a ≡ true → v ≡ b → IsTrue a ↔ (f.name ≡ codes "main")
    → IsTrue b ↔ ((f.ret ≡ integer 32) × (f.params ≡ [])) → IsTrue v ↔ IsMain f
main_then f a b v first is p q = (
  λ yes. let second : b ≡ true = cc in record { called_main = p.0 first; no_params = (q.0 second).1; gives_status = (q.0 second).0 },
  λ main. let second : b ≡ true = q.1 (main.gives_status, main.no_params) in cc,
)

pub main_else : (f : FunctionShape) (a v : Bool) → a ≡ false → v ≡ a → IsTrue a ↔ (f.name ≡ codes "main") → IsTrue v ↔ IsMain f
main_else f a v fails is p = (λ yes. cc, λ main. let first : a ≡ true = p.1 main.called_main in cc)

pub not_both : (b : Bool) → b ≡ true → b ≡ false → ⊥
not_both true passes fails = cc
not_both false passes fails = cc

-- ---- the loop
-- none of the first functions is it
abbrev pub NoneBefore : List (List ℕ) → List Function → ℕ → Type 0
NoneBefore names fs i = (k : ℕ) (f : FunctionShape) → k < i → slice_get (map (function_shape names) fs) k ≡ Some f → IsMain f → ⊥

shape_at : (names : List (List ℕ)) (fs : List Function) (i : ℕ) (x : Function) → i < length fs → x ≡ get_or fs i x
    → slice_get (map (function_shape names) fs) i ≡ Some (function_shape names x)
shape_at names fs i x within is =
    slice_get-map (function_shape names) fs i
    ∙ ap (λ (o : Option Function). option_map (function_shape names) o) (slice_get-get_or fs i x within ∙ ap (λ (y : Function). Some y) (sym is))

pub none_next : (names : List (List ℕ)) (fs : List Function) (i : ℕ) (x : Function) → i < length fs → x ≡ get_or fs i x
    → (IsMain (function_shape names x) → ⊥) → NoneBefore names fs i → NoneBefore names fs (i + 1)
none_next names fs i x within is isnt before = λ k f low there main.
    elim (cases_lt k i) [
      | inl less ↦ before k f less there main
      | inr least ↦
          let same : i ≡ k = omega arith in
          let here = shape_at names fs i x within is in
          let e : function_shape names x ≡ f =
          same_Some (function_shape names x) f (sym here ∙ ap (λ (n : ℕ). slice_get (map (function_shape names) fs) n) same ∙ there) in
          isnt (subst IsMain (sym e) main)
    ]

pub one_found : (names : List (List ℕ)) (fs : List Function) (i : ℕ) (x : Function) → i < length fs → x ≡ get_or fs i x
    → IsMain (function_shape names x) → SomeIsMain (map (function_shape names) fs)
one_found names fs i x within is main = (i, function_shape names x, shape_at names fs i x within is, main)

pub none_at_all : (names : List (List ℕ)) (fs : List Function) (i : ℕ) → length fs ≤ i → NoneBefore names fs i
    → SomeIsMain (map (function_shape names) fs) → ⊥
none_at_all names fs i long before (k, f, there, main) =
    let within : k < length (map (function_shape names) fs) = slice_get_within _ k f there in
    let many : length (map (function_shape names) fs) ≡ length fs = length-map fs (function_shape names) in
    before k f (omega arith) there main

-- ---- what is known once all was looked at
pub proper_with_main : (p : Parsed) (b : Bool) → b ≡ true → IsTrue b ↔ HasMain (module_shape p.«module») → HasNames (module_shape p.«module»)
    → HasTypes (module_shape p.«module») → HasFlow (module_shape p.«module») → IsProper (module_shape p.«module»)
proper_with_main p b passes tells names types flow = record { names = names; types = types; flow = flow; main = tells.0 passes }

pub refused_without_main : (p : Parsed) (b : Bool) → b ≡ false → IsTrue b ↔ HasMain (module_shape p.«module») → HasNames (module_shape p.«module»)
    → HasTypes (module_shape p.«module») → HasFlow (module_shape p.«module») → IsRefused p NoMain
refused_without_main p b fails tells names types flow = (names, types, flow, λ main. not_both b (tells.1 main) fails)

pub all_known : (c : Checked) → module_known c.parsed.«module» ≡ true → HasForm (module_shape c.parsed.«module»)
    → IsProper (module_shape c.parsed.«module») → IsWithin (module_shape c.parsed.«module») → AreScopesOf c.parsed.«module» c.scopes → IsChecked c
all_known c known form proper within tables =
    record { known = known; form = form; proper = proper; within = within; tables = tables }
